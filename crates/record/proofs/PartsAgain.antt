-- What is read at a place is written again as the bytes that stand there: flags, numbers, floats, actions, points, the settings, a list.
-- Assumes nothing.
use mathlib.Core.Path.{◌≡◌, refl, sym, ap, subst, ◌∙◌}
use mathlib.Core.Bool.{true}
use mathlib.Core.List.{List, [], ◌∷◌, ◌++◌, append_assoc}
use Prim.Native.Nat.{ℕ, zero, suc, ◌+◌, ◌*◌, ◌^◌, ◌<◌, ◌≤◌}
use native.Mathlib.Omega.{arith}
use borrow.Author.Tests.{leb-true}
use lib.Dec.{eqb}
use lib.Ieee.Scale.{finite}
use lib.ListN.{length, get_or, take, drop, length-drop, take-append-drop}
use lib.Seq.{take_at, take_all, drop-cons, drop-drop, drop_at}
use mir.Syntax.{w32}
use mir.Val.{of_z, to_z}
use mir.ValLaws.{of_z-to_z}
use Rattle.remy.specs.Action.{valid_of}
use Rattle.remy.specs.Cube.{ack, send, ratio, least_end}
use Rattle.remy.proofs.Ends.{ends_from_one}
use Rattle.rule_tree.specs.Grown.{ends_hold}
use Rattle.rule_tree.proofs.Plain.{and_l, and_r, ends_admitted_lem}
use Rattle.trainer.specs.declared.settings.Settings.{Settings}
use Rattle.trainer.specs.Settings.{actions_hold, settings_hold}
use Rattle.trainer.proofs.Holds.{parts}
use Rattle.record.specs.declared.inner.layout.Layout.{Layout}
use Rattle.wire.specs.Bytes.{bytes_of, number_at, flag_byte, shorts_bytes}
use Rattle.wire.specs.Fields.{float_bytes, action_bytes, point_bytes}
use Rattle.record.specs.Write.{settings_bytes}
use Rattle.wire.specs.Fields.{float_at, action_at, flag_at, point_at}
use Rattle.record.specs.Read.{settings_at, split_at_place}
use Rattle.record.specs.Accepted.{flag_accepted}
use Rattle.wire.proofs.Bytes.{bytes_count}
use Rattle.record.proofs.Writing.{action_count}
use Rattle.record.proofs.Stands.{Stands, moved}
use Rattle.record.proofs.NumbersAgain.{Bytes, drop_bytes, bytes_again, number_below, Plain, plain_not_nan, not_nan_finite, not_nan_least}

-- the five actions of settings that hold
pub record ActionsValid (s : Settings) : Type 0 where
  pub min : valid_of s.min_action ≡ true
  pub max : valid_of s.max_action ≡ true
  pub initial : valid_of s.initial_action_change ≡ true
  pub most : valid_of s.max_action_change ≡ true
  pub default : valid_of s.default_action ≡ true

pub actions_valid : (s : Settings) → settings_hold s ≡ true → ActionsValid s
unfolding actions_hold
actions_valid s h =
    let v = (parts s h).1 in
    let v1 = and_r (valid_of s.min_action) _ v in
    let v2 = and_r (valid_of s.max_action) _ v1 in
    let v3 = and_r (valid_of s.initial_action_change) _ v2 in
    record {
      min = and_l (valid_of s.min_action) _ v;
      max = and_l (valid_of s.max_action) _ v1;
      initial = and_l (valid_of s.initial_action_change) _ v2;
      most = and_l (valid_of s.max_action_change) _ v3;
      default = and_r (valid_of s.max_action_change) _ v3;
    }

module _ (bytes : List ℕ) where
  -- one thing after another
  pub joined : (at n : ℕ) (x y : List ℕ) → length x ≡ n → Stands bytes at x → Stands bytes (at + n) y → Stands bytes at (x ++ y)
  joined at n x y e h g =
      record {
        rest = g.rest;
        is =
            h.is
            ∙ ap (λ (r : List ℕ). x ++ r) (sym (drop_at x h.rest n e) ∙ ap (drop n) (sym h.is) ∙ drop-drop n at bytes ∙ g.is)
            ∙ sym (append_assoc x y g.rest);
      }

  -- from the m-th byte on of what stands at a place, on to its k-th
  pub then : (at m n k : ℕ) (x y : List ℕ) → length x ≡ n → m + n ≡ k → Stands bytes (at + m) x → Stands bytes (at + k) y → Stands bytes (at + m) (x ++ y)
  then at m n k x y e f h g = joined (at + m) n x y e h (moved bytes (at + k) (at + m + n) y (omega arith) g)

  -- what fills all of the list is the list
  pub fills : (xs : List ℕ) → length xs ≡ length bytes → Stands bytes 0 xs → xs ≡ bytes
  fills xs e h =
      sym (take_at xs h.rest (length bytes) e) ∙ ap (take (length bytes)) (sym h.is) ∙ take_all (length bytes) bytes (omega arith)

  pub nothing_stands : (at : ℕ) → Stands bytes at []
  nothing_stands at = record { rest = drop at bytes; is = refl }

  pub byte_stands : (at : ℕ) → at < length bytes → Stands bytes at (get_or bytes at 0 ∷ [])
  byte_stands at l = record { rest = drop (suc at) bytes; is = drop-cons bytes at 0 l }

  pub flag_stands : (at : ℕ) → at < length bytes → flag_accepted bytes at ≡ true → Stands bytes at (flag_byte (flag_at bytes at) ∷ [])
  flag_stands at l h =
      subst (λ (b : ℕ). Stands bytes at (b ∷ [])) (sym (same (get_or bytes at 0) (leb-true (get_or bytes at 0) 1 h))) (byte_stands at l)
    where
      same : (b : ℕ) → b ≤ 1 → flag_byte (eqb b 1) ≡ b
      same zero k = refl
      same (suc zero) k = refl
      same (suc (suc b)) k = absurd (omega arith)

  module _ (all : Bytes bytes) where
    pub number_stands_again : (at n : ℕ) → at + n ≤ length bytes → Stands bytes at (bytes_of n (number_at bytes at n))
    number_stands_again at n l =
        record {
          rest = drop n (drop at bytes);
          is =
              sym (take-append-drop n (drop at bytes))
              ∙ ap (λ (r : List ℕ). r ++ drop n (drop at bytes))
              (sym (bytes_again n (drop at bytes) (drop_bytes at bytes all) (omega (arith, length-drop at bytes))));
        }

    pub float_stands : (at : ℕ) → at + 8 ≤ length bytes → Plain (number_at bytes at 8) → Stands bytes at (float_bytes (float_at bytes at))
    float_stands at l p =
        subst (λ (b : ℕ). Stands bytes at (bytes_of 8 b)) (sym p) (number_stands_again at 8 l)

    pub float_below : (at : ℕ) → number_at bytes at 8 < 2 ^ 64
    float_below at = number_below bytes at 8 all

    increment_stands : (at : ℕ) → at + 4 ≤ length bytes → Stands bytes at (bytes_of 4 (of_z w32 (to_z w32 (number_at bytes at 4))))
    increment_stands at l =
        subst (λ (b : ℕ). Stands bytes at (bytes_of 4 b))
        (sym (of_z-to_z w32 (number_at bytes at 4) (record { fits = number_below bytes at 4 all }))) (number_stands_again at 4 l)

    pub action_stands : (at : ℕ) → at + 20 ≤ length bytes → valid_of (action_at bytes at) ≡ true → Stands bytes at (action_bytes (action_at bytes at))
    unfolding valid_of
    action_stands at l v =
        let a = action_at bytes at in
        let m = float_bytes a.window_multiplier in
        let i = bytes_of 4 (of_z w32 a.window_increment) in
        let d = float_bytes a.intersend_delay.0 in
        let r = and_r (finite (float_at bytes at)) _ v in
        joined at 8 m (i ++ d) (bytes_count 8 _)
        (float_stands at (omega arith) (plain_not_nan _ (float_below at) (not_nan_finite _ (and_l (finite (float_at bytes at)) _ v))))
        (joined (at + 8) 4 i d (bytes_count 4 _) (increment_stands (at + 8) (omega arith))
        (moved bytes (at + 12) (at + 8 + 4) d (omega arith)
        (float_stands (at + 12) (omega arith) (plain_not_nan _ (float_below (at + 12)) (not_nan_finite _ (and_l (finite (float_at bytes (at + 12))) _ r))))))

    pub point_stands : (at : ℕ) → at + 24 ≤ length bytes → ends_hold (point_at bytes at) ≡ true → Stands bytes at (point_bytes (point_at bytes at))
    point_stands at l h =
        let p = point_at bytes at in
        let a = float_bytes (ack p) in
        let d = float_bytes (send p) in
        let e = float_bytes (ratio p) in
        let r = ends_from_one p (ends_admitted_lem p h) in
        joined at 8 a (d ++ e) (bytes_count 8 _)
        (float_stands at (omega arith) (plain_not_nan _ (float_below at) (not_nan_least least_end _ r.0)))
        (then at 8 8 16 d e (bytes_count 8 _) refl
        (float_stands (at + 8) (omega arith) (plain_not_nan _ (float_below (at + 8)) (not_nan_least least_end _ r.1.0)))
        (float_stands (at + 16) (omega arith) (plain_not_nan _ (float_below (at + 16)) (not_nan_least least_end _ r.1.1))))

    -- ---- the settings
    pub settings_stand : (lay : Layout) (at : ℕ) → at + 113 ≤ length bytes → settings_hold (settings_at lay bytes at) ≡ true → flag_accepted bytes (at + 12) ≡ true
        → Stands bytes at (settings_bytes (settings_at lay bytes at))
    settings_stand lay at l h f =
        let s = settings_at lay bytes at in
        let v = actions_valid s h in
        let m = action_bytes s.min_action in
        let n = action_bytes s.max_action in
        let i = action_bytes s.initial_action_change in
        let j = action_bytes s.max_action_change in
        let d = action_bytes s.default_action in
        let w = flag_byte s.drill_down ∷ [] in
        let h93 = action_stands (at + 93) (omega arith) v.default in
        let h73 = then at 73 20 93 j d (action_count s.max_action_change) refl (action_stands (at + 73) (omega arith) v.most) h93 in
        let h53 = then at 53 20 73 i (j ++ d) (action_count s.initial_action_change) refl (action_stands (at + 53) (omega arith) v.initial) h73 in
        let h33 = then at 33 20 53 n (i ++ (j ++ d)) (action_count s.max_action) refl (action_stands (at + 33) (omega arith) v.max) h53 in
        let h13 = then at 13 20 33 m (n ++ (i ++ (j ++ d))) (action_count s.min_action) refl (action_stands (at + 13) (omega arith) v.min) h33 in
        let h12 = then at 12 1 13 w (m ++ (n ++ (i ++ (j ++ d)))) refl refl (flag_stands (at + 12) (omega arith) f) h13 in
        let h8 = then at 8 4 12 (bytes_of 4 s.action_change_multiplier) (w ++ (m ++ (n ++ (i ++ (j ++ d))))) (bytes_count 4 _) refl (number_stands_again (at + 8) 4 (omega arith)) h12 in
        let h4 = then at 4 4 8 (bytes_of 4 s.optimization_rounds_per_split) (bytes_of 4 s.action_change_multiplier ++ (w ++ (m ++ (n ++ (i ++ (j ++ d)))))) (bytes_count 4 _) refl (number_stands_again (at + 4) 4 (omega arith)) h8 in
        joined at 4 (bytes_of 4 s.rule_splits) (bytes_of 4 s.optimization_rounds_per_split ++ (bytes_of 4 s.action_change_multiplier ++ (w ++ (m ++ (n ++ (i ++ (j ++ d))))))) (bytes_count 4 _)
        (number_stands_again at 4 (omega arith)) h4

    -- ---- a list of numbers
    pub list_again : (at : ℕ) (xs : List ℕ) → at + 2 * length xs ≤ length bytes → ((k : ℕ) → k < length xs → get_or xs k 0 ≡ split_at_place bytes at k)
        → Stands bytes at (shorts_bytes xs)
    unfolding shorts_bytes
    list_again at [] l h = nothing_stands at
    list_again at (x ∷ xs) l h =
        let e : x ≡ number_at bytes at 2 = h 0 (omega arith) ∙ ap (λ (k : ℕ). number_at bytes k 2) (let z : at + 2 * 0 ≡ at = omega arith in z) in
        joined at 2 (bytes_of 2 x) (shorts_bytes xs) (bytes_count 2 x)
        (subst (λ (n : ℕ). Stands bytes at (bytes_of 2 n)) (sym e) (number_stands_again at 2 (omega arith)))
        (list_again (at + 2) xs (omega arith)
        (λ k b. h (suc k) (omega arith) ∙ ap (λ (j : ℕ). number_at bytes j 2) (let z : at + 2 * suc k ≡ at + 2 + 2 * k = omega arith in z)))
