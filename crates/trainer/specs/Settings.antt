-- 01, "trainers/remy.rs": settings, and which a trainer takes (refusal 2).
use Rattle.std.specs.Prelude.{Bool, ◌&&◌, cond, List, [], ◌∷◌, ℕ, zero, suc, length, leb, ℤ, pos, ◌*ℤ◌, Float}
use Rattle.std.specs.Int.Signed.{le_z, lt_z}
use Rattle.std.specs.Float.{binary64}
use Rattle.std.specs.Float.Ieee.{mul, le, lt, of_int}
use Rattle.remy.specs.Action.{valid_of}
use Rattle.remy.specs.Cube as cube
use Rattle.rule_tree.specs.Grown.{ends_hold}
use Rattle.trainer.specs.declared.settings.Settings.{Settings}

-- "An axis lists initial, then times multiplier each, while <= max change": its first n values from x on
unfoldable pub axis : {A : Type 0} → (A → A → Bool) → (A → A) → ℕ → A → A → List A
axis at_most times zero x max = []
axis at_most times (suc n) x max = cond (at_most x max) (x ∷ axis at_most times n (times x) max) []

abbrev pub float_axis : ℕ → Float → Float → Float → List Float
float_axis n times x max = axis le (mul binary64 times) n x max

abbrev pub whole_axis : ℕ → ℤ → ℤ → ℤ → List ℤ
whole_axis n times x max = axis le_z (◌*ℤ◌ times) n x max

-- the three axes, up to n values each
abbrev pub multiplier_axis : ℕ → Settings → List Float
multiplier_axis n s =
    float_axis n (of_int binary64 (pos s.action_change_multiplier)) s.initial_action_change.window_multiplier s.max_action_change.window_multiplier

abbrev pub increment_axis : ℕ → Settings → List ℤ
increment_axis n s =
    whole_axis n (pos s.action_change_multiplier) s.initial_action_change.window_increment s.max_action_change.window_increment

abbrev pub delay_axis : ℕ → Settings → List Float
delay_axis n s =
    float_axis n (of_int binary64 (pos s.action_change_multiplier)) s.initial_action_change.intersend_delay.0 s.max_action_change.intersend_delay.0

-- "rule_splits 0..=64, rounds 0..=1000, multiplier 2..=16"
unfoldable pub numbers_hold : Settings → Bool
numbers_hold s = leb s.rule_splits 64 && (leb s.optimization_rounds_per_split 1000 && (leb 2 s.action_change_multiplier && leb s.action_change_multiplier 16))

-- "valid actions min, max, initial change, max change, default"
unfoldable pub actions_hold : Settings → Bool
actions_hold s =
    valid_of s.min_action
    && (valid_of s.max_action && (valid_of s.initial_action_change && (valid_of s.max_action_change && valid_of s.default_action)))

-- "Initial change has all parts above 0; both change increments are at most 65,536"
unfoldable pub changes_hold : Settings → Bool
changes_hold s =
    lt cube.zero s.initial_action_change.window_multiplier
    && (lt_z (pos 0) s.initial_action_change.window_increment
    && (lt cube.zero s.initial_action_change.intersend_delay.0
    && (le_z s.initial_action_change.window_increment (pos 65536) && le_z s.max_action_change.window_increment (pos 65536))))

-- "more than 8 values is refused, none is allowed": of nine values the ninth is not there
unfoldable pub axes_hold : Settings → Bool
unfolding axis
axes_hold s =
    leb (length (multiplier_axis 9 s)) 8 && (leb (length (increment_axis 9 s)) 8 && leb (length (delay_axis 9 s)) 8)

-- 02, wish 8: "the three upper ends be settings, each from 1 to 1,000,000"; "Outside that, refuse as settings"
unfoldable pub settings_hold : Settings → Bool
unfolding numbers_hold actions_hold changes_hold axes_hold
settings_hold s = numbers_hold s && (actions_hold s && (changes_hold s && (axes_hold s && ends_hold s.ends)))
