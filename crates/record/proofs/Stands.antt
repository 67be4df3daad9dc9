-- What stands in a list of bytes at a place, and what is read there. Assumes nothing.
use mathlib.Core.Path.{◌≡◌, refl, sym, ap, subst, ◌∙◌}
use mathlib.Core.Bool.{Bool, true, false, cond}
use mathlib.Core.List.{List, [], ◌∷◌, ◌++◌, append_assoc, append-nil}
use mathlib.Core.Logic.{⊎_elim}
use Prim.Native.Nat.{ℕ, zero, suc, ◌+◌, ◌*◌, ◌^◌, ◌<◌, ◌≤◌}
use native.Mathlib.Nat.{eq-or-lt_of_le}
use native.Mathlib.Omega.{arith}
use lib.Dec.{T, eqb}
use lib.Ieee.{Float, binary64, fits, to_bits, of_bits}
use lib.ListN.{length, get_or, drop}
use lib.Seq.{drop-drop, drop_at, get_or-drop}
use mir.Syntax.{w32}
use mir.Val.{of_z, to_z}
use mir.ValLaws.{to_z-of_z, of_z_fits}
use Rattle.floats.proofs.Bits.{bits_back, bits_below}
use Rattle.remy.specs.declared.action.Action.{Action}
use Rattle.remy.specs.declared.point.Point.{Point}
use Rattle.rule_tree.specs.declared.Node.{Node}
use Rattle.rule_tree.specs.Lists.{count_below}
use Rattle.rule_tree.specs.Nodes.{node_at_of}
use Rattle.rule_tree.proofs.Plain.{ActionFits, PointFits}
use Rattle.trainer.specs.declared.settings.Settings.{Settings}
use Rattle.record.specs.declared.inner.layout.Layout.{Layout}
use Rattle.wire.specs.Bytes.{bytes_of, number_at, flag_byte, shorts_bytes}
use Rattle.wire.specs.Fields.{float_bytes, action_bytes, point_bytes}
use Rattle.record.specs.Write.{settings_bytes, node_bytes, payload_bytes}
use Rattle.wire.specs.Fields.{float_at, action_at, flag_at, point_at}
use Rattle.record.specs.Read.{settings_at, ends_at}
use Rattle.record.specs.Parts.{node_fields}
use Rattle.wire.proofs.Bytes.{bytes_count, number_stands}
use Rattle.record.proofs.Reading.{settings_read}
use Rattle.record.proofs.Writing.{action_count, payload_suc}
use Rattle.record.proofs.Size.{carried, payload_count}

-- the list xs stands in the bytes at a place
pub record Stands (bytes : List ℕ) (at : ℕ) (xs : List ℕ) : Type 0 where
  pub rest : List ℕ
  pub is : drop at bytes ≡ xs ++ rest

pub stands_all : (xs : List ℕ) → Stands xs 0 xs
stands_all xs = record { rest = []; is = sym (append-nil xs) }

module _ (bytes : List ℕ) where
  pub moved : (at to : ℕ) (xs : List ℕ) → at ≡ to → Stands bytes at xs → Stands bytes to xs
  moved at to xs e h = subst (λ (k : ℕ). Stands bytes k xs) e h

  pub first : (at : ℕ) (x y : List ℕ) → Stands bytes at (x ++ y) → Stands bytes at x
  first at x y h = record { rest = y ++ h.rest; is = h.is ∙ append_assoc x y h.rest }

  pub next : (at n : ℕ) (x y : List ℕ) → length x ≡ n → Stands bytes at (x ++ y) → Stands bytes (at + n) y
  next at n x y e h =
      record {
        rest = h.rest;
        is =
            sym (drop-drop n at bytes) ∙ ap (drop n) (h.is ∙ append_assoc x y h.rest) ∙ drop_at x (y ++ h.rest) n e;
      }

  -- past the first m bytes of what stands at a place, to its k-th
  pub onward : (at m n k : ℕ) (x y : List ℕ) → length x ≡ n → m + n ≡ k → Stands bytes (at + m) (x ++ y) → Stands bytes (at + k) y
  onward at m n k x y e f h = moved (at + m + n) (at + k) y (omega arith) (next (at + m) n x y e h)

  -- ---- reading
  pub number_back : (at n x : ℕ) → x < 256 ^ n → Stands bytes at (bytes_of n x) → number_at bytes at n ≡ x
  number_back at n x l h = number_stands bytes at n x h.rest l h.is

  pub byte_back : (at b : ℕ) (y : List ℕ) → Stands bytes at (b ∷ y) → get_or bytes at 0 ≡ b
  byte_back at b y h =
      ap (λ (k : ℕ). get_or bytes k 0) (let e : at ≡ at + 0 = omega arith in e) ∙ sym (get_or-drop at bytes 0 0)
      ∙ ap (λ (r : List ℕ). get_or r 0 0) h.is

  pub flag_back : (at : ℕ) (b : Bool) (y : List ℕ) → Stands bytes at (flag_byte b ∷ y) → flag_at bytes at ≡ b
  flag_back at b y h = ap (λ (k : ℕ). eqb k 1) (byte_back at (flag_byte b) y h) ∙ same b
    where
      same : (b : Bool) → eqb (flag_byte b) 1 ≡ b
      same true = refl
      same false = refl

  pub float_back : (at : ℕ) (x : Float) → T (fits binary64 x) → Stands bytes at (float_bytes x) → float_at bytes at ≡ x
  float_back at x f h = ap (of_bits binary64) (number_back at 8 (to_bits binary64 x) (bits_below x f) h) ∙ bits_back x f

  pub action_back : (at : ℕ) (a : Action) → ActionFits a → Stands bytes at (action_bytes a) → action_at bytes at ≡ a
  action_back at a f h =
      let m = float_bytes a.window_multiplier in
      let i = bytes_of 4 (of_z w32 a.window_increment) in
      let d = float_bytes a.intersend_delay.0 in
      let h8 = next at 8 m (i ++ d) (bytes_count 8 _) h in
      let h12 = onward at 8 4 12 i d (bytes_count 4 _) refl h8 in
      let p = float_back at a.window_multiplier f.multiplier (first at m (i ++ d) h) in
      let q =
      ap (to_z w32) (number_back (at + 8) 4 (of_z w32 a.window_increment) (of_z_fits w32 a.window_increment f.increment).fits (first (at + 8) i d h8))
      ∙ to_z-of_z w32 a.window_increment f.increment in
      let r = float_back (at + 12) a.intersend_delay.0 f.delay h12 in
      λ j. record { window_multiplier = p j; window_increment = q j; intersend_delay = record { 0 = r j } }

  pub point_back : (at : ℕ) (p : Point) → PointFits p → Stands bytes at (point_bytes p) → point_at bytes at ≡ p
  point_back at p f h =
      let a = float_bytes p.ack_ewma.0 in
      let s = float_bytes p.send_ewma.0 in
      let r = float_bytes p.rtt_ratio in
      let h8 = next at 8 a (s ++ r) (bytes_count 8 _) h in
      let h16 = onward at 8 8 16 s r (bytes_count 8 _) refl h8 in
      let x = float_back at p.ack_ewma.0 f.acks (first at a (s ++ r) h) in
      let y = float_back (at + 8) p.send_ewma.0 f.sends (first (at + 8) s r h8) in
      let z = float_back (at + 16) p.rtt_ratio f.ratios h16 in
      λ j. record { ack_ewma = record { 0 = x j }; send_ewma = record { 0 = y j }; rtt_ratio = z j }

  -- ---- a list of numbers, and the nodes' part
  pub list_stands : (at k : ℕ) (xs : List ℕ) → k < length xs → Stands bytes at (shorts_bytes xs) → Stands bytes (at + 2 * k) (bytes_of 2 (get_or xs k 0))
  unfolding shorts_bytes
  list_stands at k [] l h = absurd (omega arith)
  list_stands at zero (x ∷ xs) l h = moved at (at + 2 * 0) (bytes_of 2 x) (omega arith) (first at (bytes_of 2 x) (shorts_bytes xs) h)
  list_stands at (suc k) (x ∷ xs) l h =
      moved (at + 2 + 2 * k) (at + 2 * suc k) (bytes_of 2 (get_or xs k 0)) (omega arith)
      (list_stands (at + 2) k xs (omega arith) (next at 2 (bytes_of 2 x) (shorts_bytes xs) (bytes_count 2 x) h))

  pub node_stands : (lay : Layout) (at : ℕ) (nodes : List Node) (i n : ℕ) → i < n → carried lay nodes i ≡ true → Stands bytes at (payload_bytes lay nodes n)
      → Stands bytes (at + 21 * count_below i (carried lay nodes)) (node_bytes (node_at_of nodes i))
  node_stands lay at nodes i zero l e h = absurd (omega arith)
  node_stands lay at nodes i (suc n) l e h =
      let g = subst (Stands bytes at) (payload_suc lay nodes n) h in
      ⊎_elim
      (λ (p : i ≡ n).
      subst (λ (b : Bool). Stands bytes (at + 21 * count_below i (carried lay nodes)) (cond b (node_bytes (node_at_of nodes i)) [])) e
      (subst (λ (k : ℕ). Stands bytes (at + 21 * count_below k (carried lay nodes)) (node_fields lay (node_at_of nodes k))) (sym p)
      (next at (21 * count_below n (carried lay nodes)) (payload_bytes lay nodes n) (node_fields lay (node_at_of nodes n)) (payload_count lay nodes n) g)))
      (λ (q : i < n). node_stands lay at nodes i n q e (first at (payload_bytes lay nodes n) (node_fields lay (node_at_of nodes n)) g))
      (eq-or-lt_of_le (let q : i ≤ n = omega arith in q))

-- ---- the settings
pub record SettingsFits (s : Settings) : Type 0 where
  pub splits : s.rule_splits < 2 ^ 32
  pub rounds : s.optimization_rounds_per_split < 2 ^ 32
  pub multiplier : s.action_change_multiplier < 2 ^ 32
  pub min : ActionFits s.min_action
  pub max : ActionFits s.max_action
  pub initial : ActionFits s.initial_action_change
  pub most : ActionFits s.max_action_change
  pub default : ActionFits s.default_action
  pub ends : PointFits s.ends

pub settings_back : (lay : Layout) (bytes : List ℕ) (at : ℕ) (s : Settings) → SettingsFits s → Stands bytes at (settings_bytes s)
    → s.ends ≡ ends_at lay bytes (at + 113) → s ≡ settings_at lay bytes at
settings_back lay bytes at s f h e =
    let a = bytes_of 4 s.rule_splits in
    let b = bytes_of 4 s.optimization_rounds_per_split in
    let d = bytes_of 4 s.action_change_multiplier in
    let w = flag_byte s.drill_down ∷ [] in
    let p = action_bytes s.min_action in
    let q = action_bytes s.max_action in
    let r = action_bytes s.initial_action_change in
    let u = action_bytes s.max_action_change in
    let v = action_bytes s.default_action in
    let h4 = next bytes at 4 a (b ++ (d ++ (w ++ (p ++ (q ++ (r ++ (u ++ v))))))) (bytes_count 4 _) h in
    let h8 = onward bytes at 4 4 8 b (d ++ (w ++ (p ++ (q ++ (r ++ (u ++ v)))))) (bytes_count 4 _) refl h4 in
    let h12 = onward bytes at 8 4 12 d (w ++ (p ++ (q ++ (r ++ (u ++ v))))) (bytes_count 4 _) refl h8 in
    let h13 = onward bytes at 12 1 13 w (p ++ (q ++ (r ++ (u ++ v)))) refl refl h12 in
    let h33 = onward bytes at 13 20 33 p (q ++ (r ++ (u ++ v))) (action_count s.min_action) refl h13 in
    let h53 = onward bytes at 33 20 53 q (r ++ (u ++ v)) (action_count s.max_action) refl h33 in
    let h73 = onward bytes at 53 20 73 r (u ++ v) (action_count s.initial_action_change) refl h53 in
    let h93 = onward bytes at 73 20 93 u v (action_count s.max_action_change) refl h73 in
    settings_read lay bytes at
    (sym (number_back bytes at 4 _ f.splits (first bytes at a (b ++ (d ++ (w ++ (p ++ (q ++ (r ++ (u ++ v))))))) h)))
    (sym (number_back bytes (at + 4) 4 _ f.rounds (first bytes (at + 4) b (d ++ (w ++ (p ++ (q ++ (r ++ (u ++ v)))))) h4)))
    (sym (number_back bytes (at + 8) 4 _ f.multiplier (first bytes (at + 8) d (w ++ (p ++ (q ++ (r ++ (u ++ v))))) h8)))
    (sym (flag_back bytes (at + 12) s.drill_down (p ++ (q ++ (r ++ (u ++ v)))) h12))
    (sym (action_back bytes (at + 13) _ f.min (first bytes (at + 13) p (q ++ (r ++ (u ++ v))) h13)))
    (sym (action_back bytes (at + 33) _ f.max (first bytes (at + 33) q (r ++ (u ++ v)) h33)))
    (sym (action_back bytes (at + 53) _ f.initial (first bytes (at + 53) r (u ++ v) h53)))
    (sym (action_back bytes (at + 73) _ f.most (first bytes (at + 73) u v h73)))
    (sym (action_back bytes (at + 93) _ f.default h93)) e
