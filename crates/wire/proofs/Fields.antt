-- Runs of stores one after the other, and those of actions and points. Assumes nothing.
use mathlib.Core.Path.{◌≡◌, ap, ◌∙◌}
use mathlib.Core.List.{List, ◌++◌, append_assoc}
use Prim.Native.Nat.{ℕ, ◌+◌}
use lib.Ieee.{binary64, to_bits}
use lib.ListN.{length, length-append}
use lib.Seq.{sets}
use mir.Syntax.{w32}
use mir.Val.{of_z}
use Rattle.remy.specs.declared.action.Action.{Action}
use Rattle.remy.specs.declared.point.Point.{Point}
use Rattle.wire.specs.Bytes.{bytes_of}
use Rattle.wire.specs.Fields.{action_bytes, point_bytes}
use Rattle.wire.proofs.Bytes.{bytes_count}
use Rattle.wire.proofs.Stores.{wrote}

-- ---- three, four and five runs of stores, one after the other
module _ (l : List ℕ) (at : ℕ) (x y z : List ℕ) (n m : ℕ) {l1 l2 l3 : List ℕ} where
  pub three : l1 ≡ sets l at x → l2 ≡ sets l1 (at + n) y → l3 ≡ sets l2 (at + m) z → length x ≡ n → length (x ++ y) ≡ m
      → l3 ≡ sets l at (x ++ (y ++ z))
  three p q r e f = wrote l l2 at m (x ++ y) z r (wrote l l1 at n x y q p e) f ∙ ap (sets l at) (append_assoc x y z)

  module _ (w : List ℕ) (o : ℕ) {l4 : List ℕ} where
    pub four : l1 ≡ sets l at x → l2 ≡ sets l1 (at + n) y → l3 ≡ sets l2 (at + m) z → l4 ≡ sets l3 (at + o) w → length x ≡ n → length (x ++ y) ≡ m
        → length (x ++ (y ++ z)) ≡ o → l4 ≡ sets l at (x ++ (y ++ (z ++ w)))
    four p q r s e f g = wrote l l3 at o (x ++ (y ++ z)) w s (three p q r e f) g ∙ simp append_assoc

    module _ (v : List ℕ) (k : ℕ) {l5 : List ℕ} where
      pub five : l1 ≡ sets l at x → l2 ≡ sets l1 (at + n) y → l3 ≡ sets l2 (at + m) z → l4 ≡ sets l3 (at + o) w → l5 ≡ sets l4 (at + k) v
          → length x ≡ n → length (x ++ y) ≡ m → length (x ++ (y ++ z)) ≡ o → length (x ++ (y ++ (z ++ w))) ≡ k
          → l5 ≡ sets l at (x ++ (y ++ (z ++ (w ++ v))))
      five p q r s t e f g h = wrote l l4 at k (x ++ (y ++ (z ++ w))) v t (four p q r s e f g) h ∙ simp append_assoc

-- ---- an action and a point, written
pub action_written : (l : List ℕ) (at : ℕ) (a : Action) (m i d : ℕ) {l1 l2 l3 : List ℕ} → m ≡ to_bits binary64 a.window_multiplier
    → i ≡ of_z w32 a.window_increment → d ≡ to_bits binary64 a.intersend_delay.0
    → l1 ≡ sets l at (bytes_of 8 m) → l2 ≡ sets l1 (at + 8) (bytes_of 4 i) → l3 ≡ sets l2 (at + 12) (bytes_of 8 d) → l3 ≡ sets l at (action_bytes a)
action_written l at a m i d em ei ed p q r =
    three l at (bytes_of 8 m) (bytes_of 4 i) (bytes_of 8 d) 8 12 p q r (bytes_count 8 m) (simp (length-append, bytes_count))
    ∙ rw (em, ei, ed)

pub point_written : (l : List ℕ) (at : ℕ) (p : Point) (a s r : ℕ) {l1 l2 l3 : List ℕ} → a ≡ to_bits binary64 p.ack_ewma.0
    → s ≡ to_bits binary64 p.send_ewma.0 → r ≡ to_bits binary64 p.rtt_ratio
    → l1 ≡ sets l at (bytes_of 8 a) → l2 ≡ sets l1 (at + 8) (bytes_of 8 s) → l3 ≡ sets l2 (at + 16) (bytes_of 8 r) → l3 ≡ sets l at (point_bytes p)
point_written l at p a s r ea es er q u w =
    three l at (bytes_of 8 a) (bytes_of 8 s) (bytes_of 8 r) 8 16 q u w (bytes_count 8 a) (simp (length-append, bytes_count))
    ∙ rw (ea, es, er)
