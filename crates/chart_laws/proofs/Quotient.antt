-- The quotient of two values above 0 is 0 or more where it is no NaN, and 1 or more where the divisor is the lesser one.
-- Assumes nothing.
use mathlib.Core.Path.{◌≡◌, refl, sym, subst}
use Prim.Native.Nat.{ℕ, zero, suc, ◌+◌, ◌*◌, ◌≤◌, ◌<◌}
use native.Mathlib.Nat.{mul-pos}
use native.Mathlib.Omega.{arith}
use mathlib.Core.Bool.{Bool, true, false, not, cond}
use borrow.Author.Tests.{ne_eqb}
use lib.IntN.{ℤ, pos}
use lib.Dec.{T, eqb, ltb→lt}
use lib.Ieee.{Float, nan, inf, fin, Format, binary64, up, down, round, div, le, lt, is_nan}
use lib.Ieee.Fits.{up_pos, down_pos}
use lib.Ieee.Order.{round_mono}
use Rattle.floats.proofs.Order.{no_more, lt_nn_l}
use Rattle.floats.proofs.Nonneg.{plus, round_plus, le→cross}
use Rattle.floats.proofs.Zero.{0f, plus_min}

abbrev pub 1f : Float
1f = fin false 1 (pos 0)

-- ---- a value above 0 has the sign +
pub above_plus : (x : Float) → T (lt 0f x) → T (plus x)
unfolding lt
above_plus nan h = h
above_plus (inf true) h = h
above_plus (inf false) h = tt
above_plus (fin true m e) h = h
above_plus (fin false m e) h = tt

above_num : (m : ℕ) (e : ℤ) → T (lt 0f (fin false m e)) → 0 < m
unfolding lt
above_num zero e h = absurd (none (up e) (down e) (ltb→lt (0 * down e) (0 * up e * 1) h))
  where
    none : (a b : ℕ) → 0 * b < 0 * a * 1 → ⊥
    none a b h = omega arith
above_num (suc m) e h = omega arith

-- ---- 0 or more, if it is no NaN
pub quotient_plus : (f : Format) (x y : Float) → T (plus x) → T (plus y) → T (not (is_nan (div f x y))) → T (plus (div f x y))
unfolding div is_nan
quotient_plus f nan y p q n = absurd p
quotient_plus f (inf true) y p q n = absurd p
quotient_plus f (inf false) nan p q n = absurd q
quotient_plus f (inf false) (inf t) p q n = absurd n
quotient_plus f (inf false) (fin true m e) p q n = absurd q
quotient_plus f (inf false) (fin false m e) p q n = tt
quotient_plus f (fin true m e) y p q n = absurd p
quotient_plus f (fin false m e) nan p q n = absurd q
quotient_plus f (fin false m e) (inf true) p q n = absurd q
quotient_plus f (fin false m e) (inf false) p q n = tt
quotient_plus f (fin false m e) (fin true k d) p q n = absurd q
quotient_plus f (fin false m e) (fin false k d) p q n = go (eqb k 0) (eqb m 0) n
  where
    go : (a b : Bool) → T (not (is_nan (cond a (cond b nan (inf false)) (round f false (m * up e * down d) (k * up d * down e)))))
        → T (plus (cond a (cond b nan (inf false)) (round f false (m * up e * down d) (k * up d * down e))))
    go true true n = absurd n
    go true false n = tt
    go false b n = round_plus f (m * up e * down d) (k * up d * down e)

-- as a test of it gives it
pub quotient_min : (x y end : Float) → T (lt 0f x) → T (lt 0f y) → T (lt (div binary64 x y) end) → T (le 0f (div binary64 x y))
quotient_min x y end p q h =
    plus_min (div binary64 x y) (quotient_plus binary64 x y (above_plus x p) (above_plus y q) (lt_nn_l (div binary64 x y) end h))

-- ---- of finite values: one rounding, so no NaN
pub quotient_is : (f : Format) (m : ℕ) (e : ℤ) (k : ℕ) (d : ℤ) → 0 < k
    → div f (fin false m e) (fin false k d) ≡ round f false (m * up e * down d) (k * up d * down e)
unfolding div
quotient_is f m e k d h = rw (ne_eqb k 0 (λ z. absurd (omega (arith, z))))

-- ---- 1 or more
one_rounded : round binary64 false 1 1 ≡ 1f
unfolding round
one_rounded = refl

one-le : (m : ℕ) (e : ℤ) (k : ℕ) (d : ℤ) → 0 < k → T (le (fin false k d) (fin false m e))
    → T (le 1f (div binary64 (fin false m e) (fin false k d)))
one-le m e k d p h =
    subst (λ (z : Float). T (le 1f z)) (sym (quotient_is binary64 m e k d p))
    (subst (λ (z : Float). T (le z (round binary64 false (m * up e * down d) (k * up d * down e)))) one_rounded
    (round_mono binary64 1 1 (m * up e * down d) (k * up d * down e) (one) (mul-pos (mul-pos p (up_pos d)) (down_pos e))
    (go (m * up e * down d) (k * up d * down e) (le→cross (fin false k d) (fin false m e) tt tt h))))
  where
    one : 0 < 1
    one = omega arith

    go : (a b : ℕ) → b ≤ a → 1 * b ≤ a * 1
    go a b h = omega arith

pub quotient_one : (x y end : Float) → T (lt 0f y) → T (le y x) → T (lt (div binary64 x y) end) → T (le 1f (div binary64 x y))
unfolding div le lt
quotient_one nan y end p h t = absurd t
quotient_one (inf true) nan end p h t = absurd t
quotient_one (inf true) (inf true) end p h t = absurd p
quotient_one (inf true) (inf false) end p h t = absurd h
quotient_one (inf true) (fin s m e) end p h t = absurd h
quotient_one (inf false) nan end p h t = absurd p
quotient_one (inf false) (inf s) end p h t = absurd t
quotient_one (inf false) (fin true m e) end p h t = absurd p
quotient_one (inf false) (fin false m e) end p h t = tt
quotient_one (fin s m e) nan end p h t = absurd p
quotient_one (fin s m e) (inf true) end p h t = absurd p
quotient_one (fin s m e) (inf false) end p h t = absurd h
quotient_one (fin s m e) (fin true k d) end p h t = absurd p
quotient_one (fin true m e) (fin false k d) end p h t = absurd (none (k * up d * down e) (m * up e * down d) (below p) (no_more (k * up d * down e) (m * up e * down d) h))
  where
    below : T (lt 0f (fin false k d)) → 0 < k * up d * down e
    below q = mul-pos (mul-pos (above_num k d q) (up_pos d)) (down_pos e)

    none : (a b : ℕ) → 0 < a → a + b ≤ 0 → ⊥
    none a b p h = omega arith
quotient_one (fin false m e) (fin false k d) end p h t = one-le m e k d (above_num k d p) h
