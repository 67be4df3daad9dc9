-- Document 01's candidates, in its own words: the product of three axes.
use Rattle.std.specs.Prelude.{Bool, ◌&&◌, cond, ℕ, zero, suc, ℤ, pos, neg_ℤ, ◌+ℤ◌, ◌*ℤ◌, Float}
use mathlib.Core.List.{List, [], ◌∷◌, map, flat_map}
use Rattle.std.specs.Int.Signed.{le_z}
use Rattle.std.specs.Float.{binary64}
use Rattle.std.specs.Float.Ieee.{add, mul, neg, le, of_int}
use Rattle.remy.specs.declared.action.Action.{Action}
use Rattle.remy.specs.Action.{action_of}
use Rattle.remy.specs.Cube as cube
use Rattle.trainer.specs.declared.settings.Settings.{Settings}

-- x, then times the multiplier each: n values
unfoldable pub growing : {A : Type 0} → ℕ → (A → A) → A → List A
growing zero times x = []
growing (suc n) times x = x ∷ growing n times (times x)

-- the values before the first that fails the test
unfoldable pub while : {A : Type 0} → (A → Bool) → List A → List A
while test [] = []
while test (x ∷ xs) = cond (test x) (x ∷ while test xs) []

-- "An axis lists initial, then times multiplier each, while <= max change": of its first n values; "more than 8 values is refused"
abbrev pub float_axis : ℕ → (Action → Float) → Settings → List Float
float_axis n part s =
    while (λ (v : Float). le v (part s.max_action_change))
    (growing n (mul binary64 (of_int binary64 (pos s.action_change_multiplier))) (part s.initial_action_change))

abbrev pub whole_axis : ℕ → (Action → ℤ) → Settings → List ℤ
whole_axis n part s =
    while (λ (v : ℤ). le_z v (part s.max_action_change)) (growing n (◌*ℤ◌ (pos s.action_change_multiplier)) (part s.initial_action_change))

-- "each axis gives v, -v in turn"
abbrev pub in_turn : {A : Type 0} → (A → A) → List A → List A
in_turn {A} minus vs = flat_map (λ (v : A). v ∷ (minus v ∷ [])) vs

-- those that pass the test
unfoldable pub those : {A : Type 0} → (A → Bool) → List A → List A
those keep [] = []
those keep (x ∷ xs) = cond (keep x) (x ∷ those keep xs) (those keep xs)

-- the sums of an action's part and each change of its axis; "sums outside min..max dropped"
abbrev pub float_sums : (Action → Float) → Settings → Action → List Float
float_sums part s a =
    those (λ (x : Float). le (part s.min_action) x && le x (part s.max_action))
    (map (add binary64 (part a)) (in_turn neg (float_axis 8 part s)))

abbrev pub whole_sums : (Action → ℤ) → Settings → Action → List ℤ
whole_sums part s a =
    those (λ (x : ℤ). le_z (part s.min_action) x && le_z x (part s.max_action))
    (map (◌+ℤ◌ (part a)) (in_turn neg_ℤ (whole_axis 8 part s)))

-- the parts of an action
abbrev pub multiplier_of : Action → Float
multiplier_of a = a.window_multiplier

abbrev pub increment_of : Action → ℤ
increment_of a = a.window_increment

abbrev pub delay_of : Action → Float
delay_of a = a.intersend_delay.0

-- "multiplier outermost, then increment, then delay"
unfoldable pub improvements : Settings → Action → List Action
unfolding growing while those
improvements s a =
    flat_map (λ (m : Float). flat_map (λ (i : ℤ). map (λ (d : Float). action_of m i d) (float_sums delay_of s a))
    (whole_sums increment_of s a)) (float_sums multiplier_of s a)

-- what reading past the end of the list gives
abbrev pub no_candidate : Action
no_candidate = action_of cube.zero (pos 0) cube.zero
