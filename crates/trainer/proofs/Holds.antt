-- What settings that hold have. Assumes nothing.
use mathlib.Core.Path.{◌≡◌, sym, subst}
use mathlib.Core.Bool.{Bool, true, ◌&&◌}
use Prim.Native.Nat.{◌≤◌}
use native.Mathlib.Omega.{arith}
use borrow.Author.Tests.{leb-true}
use lib.Dec.{T, leb}
use lib.IntN.{ℤ, pos, negsuc}
use lib.Signed.{le_z, lt_z, mag}
use lib.Ieee.{lt}
use lib.Ieee.Scale.{finite}
use Rattle.remy.specs.declared.action.Action.{Action}
use Rattle.remy.specs.Action.{valid_of, increment_holds}
use Rattle.remy.specs.Cube as cube
use Rattle.rule_tree.specs.Grown.{ends_hold}
pub use Rattle.rule_tree.proofs.Lists.{and_left, and_right}
use Rattle.trainer.specs.declared.settings.Settings.{Settings}
use Rattle.trainer.specs.Settings.{numbers_hold, actions_hold, changes_hold, axes_hold, settings_hold}
use Rattle.trainer.specs.Axes.{WholeScale, Upto}

-- ---- what settings that hold have
four : (a b c d : Bool) → (a && (b && (c && d))) ≡ true → (a ≡ true) × (b ≡ true) × (c ≡ true) × (d ≡ true)
four a b c d h =
    let t = and_right a (b && (c && d)) h in
    let u = and_right b (c && d) t in
    (and_left a (b && (c && d)) h, and_left b (c && d) t, and_left c d u, and_right c d u)

five : (a b c d e : Bool) → (a && (b && (c && (d && e)))) ≡ true → (a ≡ true) × (b ≡ true) × (c ≡ true) × (d ≡ true) × (e ≡ true)
five a b c d e h =
    let t = and_right a (b && (c && (d && e))) h in
    let u = and_right b (c && (d && e)) t in
    let v = and_right c (d && e) u in
    (and_left a (b && (c && (d && e))) h, and_left b (c && (d && e)) t, and_left c (d && e) u, and_left d e v, and_right d e v)

module _ (s : Settings) where
  -- numbers, actions, changes, axes, ends
  pub parts : settings_hold s ≡ true → (numbers_hold s ≡ true) × (actions_hold s ≡ true) × (changes_hold s ≡ true) × (axes_hold s ≡ true) × (ends_hold s.ends ≡ true)
  unfolding settings_hold
  parts h = five (numbers_hold s) (actions_hold s) (changes_hold s) (axes_hold s) (ends_hold s.ends) h

  ends_valid : actions_hold s ≡ true → (valid_of s.min_action ≡ true) × (valid_of s.max_action ≡ true)
  unfolding actions_hold
  ends_valid h =
      let q =
      four (valid_of s.min_action) (valid_of s.max_action) (valid_of s.initial_action_change)
      (valid_of s.max_action_change && valid_of s.default_action) h in
      (q.0, q.1)

  pub min_valid : settings_hold s ≡ true → valid_of s.min_action ≡ true
  min_valid h = (ends_valid (parts h).1).0

  pub max_valid : settings_hold s ≡ true → valid_of s.max_action ≡ true
  max_valid h = (ends_valid (parts h).1).1

  numbers_factor : numbers_hold s ≡ true → leb s.action_change_multiplier 16 ≡ true
  unfolding numbers_hold
  numbers_factor h = (four (leb s.rule_splits 64) (leb s.optimization_rounds_per_split 1000) (leb 2 s.action_change_multiplier) (leb s.action_change_multiplier 16) h).3

  pub factor_small : numbers_hold s ≡ true → s.action_change_multiplier ≤ 16
  factor_small h = leb-true s.action_change_multiplier 16 (numbers_factor h)

  changes_parts : changes_hold s ≡ true
      → (lt_z (pos 0) s.initial_action_change.window_increment ≡ true)
      × ((le_z s.initial_action_change.window_increment (pos 65536) && le_z s.max_action_change.window_increment (pos 65536)) ≡ true)
  unfolding changes_hold
  changes_parts h =
      let q =
      four (lt cube.zero s.initial_action_change.window_multiplier) (lt_z (pos 0) s.initial_action_change.window_increment)
      (lt cube.zero s.initial_action_change.intersend_delay.0)
      (le_z s.initial_action_change.window_increment (pos 65536) && le_z s.max_action_change.window_increment (pos 65536)) h in
      (q.1, q.3)

  -- the whole axis fits 32 bits
  pub whole_scale : numbers_hold s ≡ true → changes_hold s ≡ true → WholeScale (pos s.action_change_multiplier) s.max_action_change.window_increment
  whole_scale n c =
      let z = s.initial_action_change.window_increment in
      let y = s.max_action_change.window_increment in
      let q = changes_parts c in
      record {
        few = factor_small n;
        most = and_right (le_z z (pos 65536)) (le_z y (pos 65536)) q.1;
      }

  pub whole_start : changes_hold s ≡ true → Upto 1048576 s.initial_action_change.window_increment
  whole_start c =
      let z = s.initial_action_change.window_increment in
      let y = s.max_action_change.window_increment in
      let q = changes_parts c in
      upto z q.0 (and_left (le_z z (pos 65536)) (le_z y (pos 65536)) q.1)
    where
      upto : (z : ℤ) → lt_z (pos 0) z ≡ true → le_z z (pos 65536) ≡ true → Upto 1048576 z
      upto (pos n) h k = omega (arith, leb-true n 65536 k)
      upto (negsuc n) h k = absurd (subst T (sym h) tt)

-- a valid action's increment
pub increment_small : (a : Action) → valid_of a ≡ true → mag a.window_increment ≤ 1000000
unfolding valid_of
increment_small a h =
    let z = a.window_increment in
    let q = and_right (finite a.window_multiplier) (finite a.intersend_delay.0 && increment_holds z) h in
    let r = and_right (finite a.intersend_delay.0) (increment_holds z) q in
    small z (and_left (le_z (negsuc 999999) z) (le_z z (pos 1000000)) r) (and_right (le_z (negsuc 999999) z) (le_z z (pos 1000000)) r)
  where
    small : (z : ℤ) → le_z (negsuc 999999) z ≡ true → le_z z (pos 1000000) ≡ true → mag z ≤ 1000000
    small (pos n) h k = leb-true n 1000000 k
    small (negsuc n) h k = omega (arith, leb-true n 999999 h)
