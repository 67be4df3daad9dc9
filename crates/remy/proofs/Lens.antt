-- Worked examples of 01 on the definitions: where points lie in the usual root cube, and what windows the rule gives. Assumes nothing.
use mathlib.Core.Path.{◌≡◌, refl, ap}
use mathlib.Core.Bool.{Bool, true, false, ◌&&◌}
use Prim.Native.Nat.{ℕ}
use lib.IntN.{pos, negsuc}
use lib.Ieee.{Format, Float, binary64, nan, inf, fin, le, lt, add, div, mul, of_int, to_signed}
use Rattle.floats.specs.Interval.{within}
use Rattle.floats.proofs.Order.{le_nan_r}
use Rattle.remy.specs.declared.cube.Cube.{Cube}
use Rattle.remy.specs.Cube.{point_of, zero, ack, send, ratio, usual_ends, root_of, contains_of, place_of_point}
use Rattle.remy.specs.Action.{action_of, window_of}

-- 300 s, 500 and 1000
abbrev three_hundred : Float
three_hundred = fin false 75 (pos 2)

abbrev five_hundred : Float
five_hundred = fin false 125 (pos 2)

abbrev thousand : Float
thousand = fin false 125 (pos 3)

-- (300, 0, 0) lies toward child 4, which is node 5
pub place_ack : place_of_point (root_of usual_ends) (point_of three_hundred zero zero) ≡ 4
unfolding place_of_point le add div
place_ack = refl

-- (0, 0, 500) lies toward child 1, which is node 2
pub place_ratio : place_of_point (root_of usual_ends) (point_of zero zero five_hundred) ≡ 1
unfolding place_of_point le add div
place_ratio = refl

-- the upper end is left out
pub upper_end_out : contains_of (root_of usual_ends) (point_of zero zero thousand) ≡ false
unfolding contains_of le lt
upper_end_out = refl

-- NaN is in no cube
outside_nan : (lo hi : Float) → within lo hi nan ≡ false
outside_nan lo hi = ap (λ (b : Bool). b && lt nan hi) (le_nan_r lo)

and_none : (b : Bool) → (b && false) ≡ false
and_none true = refl
and_none false = refl

pub nan_ack : (c : Cube) (s r : Float) → contains_of c (point_of nan s r) ≡ false
unfolding contains_of
nan_ack c s r = rw (outside_nan (ack c.min) (ack c.max))

pub nan_send : (c : Cube) (a r : Float) → contains_of c (point_of a nan r) ≡ false
unfolding contains_of
nan_send c a r = rw (outside_nan (send c.min) (send c.max), and_none)

pub nan_ratio : (c : Cube) (a s : Float) → contains_of c (point_of a s nan) ≡ false
unfolding contains_of
nan_ratio c a s = rw (outside_nan (ratio c.min) (ratio c.max), and_none, and_none)

-- the window rule: 10 times 0.5 plus 1; 3 times 0.5, cut to 1, minus 5, held to 0; the largest window, held to 1,000,000
pub window_six : (d : Float) → window_of (action_of (fin false 1 (negsuc 0)) (pos 1) d) 10 ≡ 6
unfolding window_of to_signed mul of_int
window_six d = refl

pub window_none : (d : Float) → window_of (action_of (fin false 1 (negsuc 0)) (negsuc 4) d) 3 ≡ 0
unfolding window_of to_signed mul of_int
window_none d = refl

pub window_most : (d : Float) → window_of (action_of (fin false 1 (pos 0)) (pos 0) d) 4294967295 ≡ 1000000
unfolding window_of to_signed mul of_int
window_most d = refl

-- a NaN multiplier counts as a product of 0
mul_nan : (f : Format) (x : Float) → mul f x nan ≡ nan
unfolding mul
mul_nan f nan = refl
mul_nan f (inf s) = refl
mul_nan f (fin s m e) = refl

pub window_nan : (d : Float) (w : ℕ) → window_of (action_of nan (pos 7) d) w ≡ 7
unfolding window_of to_signed
window_nan d w = rw (mul_nan binary64 (of_int binary64 (pos w)))

-- the sum is no i32 sum; a product below the range; a product of 0 and an infinity; a product cut toward zero
pub window_past_i32 : (d : Float) → window_of (action_of (fin false 1 (pos 0)) (pos 2147483647) d) 4294967295 ≡ 1000000
unfolding window_of to_signed mul of_int
window_past_i32 d = refl

pub window_below_i32 : (d : Float) → window_of (action_of (inf true) (pos 2147483647) d) 1 ≡ 0
unfolding window_of to_signed mul of_int
window_below_i32 d = refl

pub window_zero_inf : (d : Float) → window_of (action_of (inf false) (pos 7) d) 0 ≡ 7
unfolding window_of to_signed mul of_int
window_zero_inf d = refl

pub window_cut_up : (d : Float) → window_of (action_of (fin true 7 (negsuc 2)) (pos 0) d) 1 ≡ 0
unfolding window_of to_signed mul of_int
window_cut_up d = refl
