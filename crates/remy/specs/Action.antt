-- 01, "action.rs": which actions are valid, and the window rule.
use Rattle.std.specs.Prelude.{Bool, true, ◌&&◌, ◌||◌, cond, ℕ, ◌*◌, ◌/◌, ◌-◌, ◌^◌, min, ltb, ℤ, pos, negsuc, ◌+ℤ◌, Float}
use Rattle.std.specs.Int.Signed.{le_z}
use Rattle.std.specs.Float.{nan, inf, fin, binary64}
use Rattle.std.specs.Float.Ieee.{up, down, mul, of_int, to_signed}
use Rattle.std.specs.Float.Ieee.Scale.{finite}
use Rattle.remy.specs.declared.action.Action.{Action}
use Rattle.remy.specs.declared.action.Applied.{Applied}

abbrev pub action_of : Float → ℤ → Float → Action
action_of m i d = record { window_multiplier = m; window_increment = i; intersend_delay = record { 0 = d } }

-- "the increment is in -1,000,000..=1,000,000"
abbrev pub increment_holds : ℤ → Bool
increment_holds z = le_z (negsuc 999999) z && le_z z (pos 1000000)

-- "An action is valid if both floats are finite and the increment is in"
unfoldable pub valid_of : Action → Bool
valid_of a =
    finite a.window_multiplier && (finite a.intersend_delay.0 && increment_holds a.window_increment)

-- "product window × multiplier"
abbrev pub product_of : Action → ℕ → Float
product_of a w = mul binary64 (of_int binary64 (pos w)) a.window_multiplier

-- "cut toward zero, held to the i32 range, NaN gives 0; plus increment as a whole number"
abbrev pub sum_of : Action → ℕ → ℤ
sum_of a w = to_signed 31 (product_of a w) +ℤ a.window_increment

-- "clamped to 0..=1,000,000"
unfoldable pub clamp : ℤ → ℕ
clamp (pos n) = min n 1000000
clamp (negsuc n) = 0

unfoldable pub window_of : Action → ℕ → ℕ
unfolding clamp
window_of a w = clamp (sum_of a w)

-- the product, once cut to whole, lies outside the i32 range, or is NaN
unfoldable pub cut_outside : Float → Bool
cut_outside nan = true
cut_outside (inf s) = true
cut_outside (fin s m e) = cond s (ltb (2 ^ 31) (m * up e / down e)) (ltb (2 ^ 31 - 1) (m * up e / down e))

-- the sum lies outside 0..=1,000,000
unfoldable pub outside : ℤ → Bool
outside (pos n) = ltb 1000000 n
outside (negsuc n) = true

-- a sum held to the range, and whether it or what went before was clipped
unfoldable pub held_of : ℤ → Bool → Applied
unfolding clamp outside
held_of z cut = record { window = clamp z; clipped = outside z || cut }

unfoldable pub rule_of : Action → ℕ → Applied
unfolding window_of cut_outside outside
rule_of a w = record { window = window_of a w; clipped = outside (sum_of a w) || cut_outside (product_of a w) }
