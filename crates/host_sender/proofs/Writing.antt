-- What the writers store, field by field, is a sender's bytes; and how long those are. Assumes nothing.
use mathlib.Core.Path.{◌≡◌, refl, sym, ap, ◌∙◌}
use mathlib.Core.List.{List, [], ◌∷◌, ◌++◌, append_assoc}
use Prim.Native.Nat.{ℕ, suc, ◌+◌}
use native.Mathlib.Omega.{arith}
use lib.Ieee.{Float, binary64, to_bits}
use lib.ListN.{length, set, length-append}
use lib.Seq.{sets}
use Rattle.std.specs.Prelude.{Option, Some, None}
use Rattle.std.specs.Option.{option_map}
use Rattle.quantities.specs.declared.Time.{Time}
use Rattle.quantities.specs.declared.TimeSpan.{TimeSpan}
use Rattle.wire.specs.Bytes.{bytes_of}
use Rattle.wire.specs.Fields.{float_bytes, action_bytes}
use Rattle.wire.proofs.Bytes.{bytes_count}
use Rattle.wire.proofs.Stores.{wrote}
use Rattle.wire.proofs.Fields.{three, five}
use Rattle.sender.specs.declared.Rtt.{Rtt}
use Rattle.sender.specs.declared.Repeat.{Repeat}
use Rattle.sender.specs.declared.RepeatMode.{RepeatMode}
use Rattle.sender.specs.declared.RepeatMode.TheVariants.{Off, Always, Between}
use Rattle.sender.specs.declared.Sender.{Sender}
use Rattle.host_sender.specs.Layout.{seconds_bytes, moment_bytes, average_bytes, trips_bytes, pending_bytes, mode_bytes, sender_bytes}
use Rattle.host_sender.specs.Parts.{memory_bytes, pace_bytes}

-- ---- how long the fields are
pub seconds_count : (x : Option Float) → length (seconds_bytes x) ≡ 9
unfolding seconds_bytes
seconds_count None = refl
seconds_count (Some x) = ap suc (bytes_count 8 _)

pub trips_count : (r : Option Rtt) → length (trips_bytes r) ≡ 17
unfolding trips_bytes
trips_count None = refl
trips_count (Some r) = simp (length-append, bytes_count)

pub pending_count : (p : Option Repeat) → length (pending_bytes p) ≡ 25
unfolding pending_bytes
pending_count None = refl
pending_count (Some r) = simp (length-append, bytes_count)

pub mode_count : (m : RepeatMode) → length (mode_bytes m) ≡ 9
unfolding mode_bytes
mode_count Off = refl
mode_count (Always n) = simp (length-append, bytes_count)
mode_count (Between lo hi) = simp (length-append, bytes_count)

pub memory_count : (s : Sender) → length (memory_bytes s) ≡ 53
memory_count s = simp (length-append, seconds_count, trips_count)

pub pace_count : (s : Sender) → length (pace_bytes s) ≡ 55
pace_count s = simp (length-append, pending_count, mode_count, seconds_count, bytes_count)

pub sender_parts : (s : Sender) → memory_bytes s ++ pace_bytes s ≡ sender_bytes s
unfolding sender_bytes
sender_parts s = simp append_assoc

-- a sender has 108 bytes
pub sender_count : (s : Sender) → length (sender_bytes s) ≡ 108
sender_count s =
    ap length (sym (sender_parts s)) ∙ length-append (memory_bytes s) (pace_bytes s) ∙ omega (arith, memory_count s, pace_count s)

-- ---- a flag and what it says is there
module _ (l : List ℕ) (at : ℕ) {r : List ℕ} where
  pub seconds_none : {m : Option Float} → m ≡ None → r ≡ sets l at (bytes_of 9 0) → r ≡ sets l at (seconds_bytes m)
  unfolding seconds_bytes bytes_of
  seconds_none e q = rw e q

  pub seconds_there : {m : Option Float} (x : Float) {n : ℕ} → m ≡ Some x → n ≡ to_bits binary64 x → r ≡ sets (set l at 1) (at + 1) (bytes_of 8 n)
      → r ≡ sets l at (seconds_bytes m)
  unfolding seconds_bytes
  seconds_there x {n} e f q = rw e (wrote l (set l at 1) at 1 (1 ∷ []) (bytes_of 8 n) q refl refl ∙ rw f)

  pub trips_none : {m : Option Rtt} → m ≡ None → r ≡ sets l at (bytes_of 17 0) → r ≡ sets l at (trips_bytes m)
  unfolding trips_bytes bytes_of
  trips_none e q = rw e q

  pub trips_there : {m : Option Rtt} (t : Rtt) {n : ℕ} {o : List ℕ} → m ≡ Some t → n ≡ to_bits binary64 t.current.0
      → o ≡ sets l at (seconds_bytes (Some t.shortest.0)) → r ≡ sets o (at + 9) (bytes_of 8 n) → r ≡ sets l at (trips_bytes m)
  unfolding trips_bytes seconds_bytes
  trips_there t {n} {o} e f p q =
      rw e (wrote l o at 9 (1 ∷ float_bytes t.shortest.0) (bytes_of 8 n) q p (ap suc (bytes_count 8 _))
      ∙ ap (λ (k : ℕ). sets l at (1 ∷ (float_bytes t.shortest.0 ++ bytes_of 8 k))) f)

  pub pending_none : {m : Option Repeat} → m ≡ None → r ≡ sets l at (bytes_of 25 0) → r ≡ sets l at (pending_bytes m)
  unfolding pending_bytes bytes_of
  pending_none e q = rw e q

  pub pending_there : {m : Option Repeat} (t : Repeat) {n : ℕ} {o : List ℕ} → m ≡ Some t → o ≡ sets (set l at 1) (at + 1) (bytes_of 4 n)
      → r ≡ sets o (at + 5) (action_bytes t.action) → n ≡ t.left → r ≡ sets l at (pending_bytes m)
  unfolding pending_bytes
  pending_there t {n} e p q f =
      rw e (three l at (1 ∷ []) (bytes_of 4 n) (action_bytes t.action) 1 5 {l1 = set l at 1} refl p q refl (ap suc (bytes_count 4 n))
      ∙ ap (λ (k : ℕ). sets l at (1 ∷ (bytes_of 4 k ++ action_bytes t.action))) f)

  -- ---- the repeat mode
  pub numbers_written : (code lo hi : ℕ) {m : List ℕ} → m ≡ sets (set l at code) (at + 1) (bytes_of 4 lo) → r ≡ sets m (at + 5) (bytes_of 4 hi)
      → r ≡ sets l at (code ∷ (bytes_of 4 lo ++ bytes_of 4 hi))
  numbers_written code lo hi p q =
      three l at (code ∷ []) (bytes_of 4 lo) (bytes_of 4 hi) 1 5 {l1 = set l at code} refl p q refl (ap suc (bytes_count 4 lo))

-- ---- the sender, from its fields
module _ (l : List ℕ) (s : Sender) {l1 l2 l3 l4 l5 : List ℕ} where
  pub memory_written : l1 ≡ sets l 0 (moment_bytes s.last_ack) → l2 ≡ sets l1 9 (moment_bytes s.last_ack_send)
      → l3 ≡ sets l2 18 (average_bytes s.ack_ewma) → l4 ≡ sets l3 27 (average_bytes s.send_ewma) → l5 ≡ sets l4 36 (trips_bytes s.rtt)
      → l5 ≡ sets l 0 (memory_bytes s)
  memory_written p q r u v =
      five l 0 (moment_bytes s.last_ack) (moment_bytes s.last_ack_send) (average_bytes s.ack_ewma) 9 18
      (average_bytes s.send_ewma) 27 (trips_bytes s.rtt) 36 p q r u v
      (seconds_count _) (simp (length-append, seconds_count)) (simp (length-append, seconds_count)) (simp (length-append, seconds_count))

  pub pace_written : {d : ℕ} → d ≡ to_bits binary64 s.intersend_delay.0 → l1 ≡ sets l 53 (pending_bytes s.next_change)
      → l2 ≡ sets l1 78 (mode_bytes s.repeat_actions) → l3 ≡ sets l2 87 (moment_bytes s.last_send)
      → l4 ≡ sets l3 96 (bytes_of 4 s.window) → l5 ≡ sets l4 100 (bytes_of 8 d) → l5 ≡ sets l 53 (pace_bytes s)
  pace_written {d} e p q r u v =
      five l 53 (pending_bytes s.next_change) (mode_bytes s.repeat_actions) (moment_bytes s.last_send) 25 34
      (bytes_of 4 s.window) 43 (bytes_of 8 d) 47 p q r u v
      (pending_count _) (simp (length-append, pending_count, mode_count)) (simp (length-append, pending_count, mode_count, seconds_count)) (simp (length-append, pending_count, mode_count, seconds_count, bytes_count))
      ∙ rw e

pub sender_written : (l : List ℕ) (s : Sender) {l1 l2 : List ℕ} → l1 ≡ sets l 0 (memory_bytes s) → l2 ≡ sets l1 53 (pace_bytes s)
    → l2 ≡ sets l 0 (sender_bytes s)
sender_written l s {l1} p q = wrote l l1 0 53 (memory_bytes s) (pace_bytes s) q p (memory_count s) ∙ ap (sets l 0) (sender_parts s)
