-- What the work behind the candidates keeps of an axis: the sums of an action's part and each change, kept where within min..max.
use Rattle.std.specs.Prelude.{◌≡◌, Bool, true, ◌&&◌, List, map, ℕ, ◌≤◌, ℤ, pos, negsuc, neg_ℤ, ◌+ℤ◌, Float}
use Rattle.std.specs.Int.Signed.{le_z}
use Rattle.std.specs.Float.{binary64}
use Rattle.std.specs.Float.Ieee.{add, neg, le, of_int}
use Rattle.remy.specs.declared.action.Action.{Action}
use Rattle.trainer.specs.declared.settings.Settings.{Settings}
use Rattle.trainer.specs.declared.inner.axis.Axis.{Axis}
use Rattle.trainer.specs.Settings.{multiplier_axis, increment_axis, delay_axis}
use Rattle.trainer.specs.Candidates.{filter, changes}

-- both ends included
abbrev pub within : {A : Type 0} → (A → A → Bool) → A → A → A → Bool
within at_most low high v = at_most low v && at_most v high

-- the sums of a part and the changes of an axis that are kept
abbrev pub kept_sums : {A : Type 0} → (A → A → Bool) → (A → A → A) → (A → A) → A → A → A → List A → List A
kept_sums at_most sum minus part low high xs = filter (within at_most low high) (map (sum part) (changes minus xs))

abbrev pub kept_floats : Float → Float → Float → List Float → List Float
kept_floats part low high xs = kept_sums le (add binary64) neg part low high xs

abbrev pub kept_wholes : ℤ → ℤ → ℤ → List ℤ → List ℤ
kept_wholes part low high xs = kept_sums le_z ◌+ℤ◌ neg_ℤ part low high xs

-- 0 to b
abbrev pub Upto : ℕ → ℤ → Type 0
Upto b (pos n) = n ≤ b
Upto b (negsuc n) = ⊥

-- the factor and the most of an axis of whole numbers whose products fit 32 bits
pub record WholeScale (factor max : ℤ) : Type 0 where
  pub few : Upto 16 factor
  pub most : le_z max (pos 65536) ≡ true

-- the axes as the code holds them
abbrev pub multipliers : Settings → Axis Float
multipliers s =
    record {
      first = s.initial_action_change.window_multiplier;
      factor = of_int binary64 (pos s.action_change_multiplier);
      max = s.max_action_change.window_multiplier;
    }

abbrev pub increments : Settings → Axis ℤ
increments s =
    record {
      first = s.initial_action_change.window_increment;
      factor = pos s.action_change_multiplier;
      max = s.max_action_change.window_increment;
    }

abbrev pub delays : Settings → Axis Float
delays s =
    record {
      first = s.initial_action_change.intersend_delay.0;
      factor = of_int binary64 (pos s.action_change_multiplier);
      max = s.max_action_change.intersend_delay.0;
    }

-- the three axes of a change to an action, as they are kept
abbrev pub multiplier_sums : Settings → Action → List Float
multiplier_sums s a =
    kept_floats a.window_multiplier s.min_action.window_multiplier s.max_action.window_multiplier (multiplier_axis 8 s)

abbrev pub increment_sums : Settings → Action → List ℤ
increment_sums s a =
    kept_wholes a.window_increment s.min_action.window_increment s.max_action.window_increment (increment_axis 8 s)

abbrev pub delay_sums : Settings → Action → List Float
delay_sums s a =
    kept_floats a.intersend_delay.0 s.min_action.intersend_delay.0 s.max_action.intersend_delay.0 (delay_axis 8 s)
