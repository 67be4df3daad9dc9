-- The finite values whose sign is +, zero included, each as a fraction `num` / `den`: sum, product and half are one rounding,
-- and grow with each operand. The library has this of values above zero alone. Assumes nothing.
use Rattle.std.proofs.Common.{◌≡◌, ℕ, suc, ◌+◌, ◌*◌, ◌^◌, ◌<◌, ◌≤◌, Bool, true, false, cond, not, ◌&&◌, ◌||◌, T, eqb, ltb, pos, sym, refl, subst, le_trans, le_of_eq, le_of_lt, mul-le-mul_right, mul-le-mul, mul-pos, arith, eqb→eq, ltb→lt}
use native.Mathlib.Nat.{mul-mul-mul_comm}
use lib.Ieee.{Float, nan, inf, fin, Format, prec, emax, low, up, down, round, units, odd, add, mul, div, le, is_nan}
use lib.Ieee.Fits.{round_is}
use lib.Ieee.Exact.{HasValue, odd_sign}
use lib.Ieee.Order.{le_of_values, round_mono}
use lib.Ieee.Positive.{num, den, den_pos}
-- of any fraction that x equals
pub use lib.Ieee.Positive.{value→cross as cross}

-- finite, and its sign is +
abbrev pub nonneg : Float → Bool
nonneg nan = false
nonneg (inf s) = false
nonneg (fin s m e) = not s

pub nonneg_nn : (x : Float) → T (nonneg x) → T (not (is_nan x))
unfolding is_nan
nonneg_nn nan p = p
nonneg_nn (inf s) p = tt
nonneg_nn (fin s m e) p = tt

pub own : (x : Float) → T (nonneg x) → HasValue x false (num x) (den x)
own nan p = absurd p
own (inf s) p = absurd p
own (fin true m e) p = absurd p
own (fin false m e) p = (refl, refl)

pub value_nonneg : (x : Float) (a c : ℕ) → HasValue x false a c → T (nonneg x)
value_nonneg nan a c h = absurd h
value_nonneg (inf s) a c h = absurd h
value_nonneg (fin true m e) a c h = subst (λ (b : Bool). T b) h.0 tt
value_nonneg (fin false m e) a c h = tt

-- ---- the order, as one of fractions
lt-or-eq : (a b : ℕ) → T (ltb a b || (eqb a b && true)) → a ≤ b
lt-or-eq a b t = go (ltb a b) (eqb a b) (ltb→lt a b) (eqb→eq a b) t
  where
    go : (x y : Bool) → (T x → a < b) → (T y → a ≡ b) → T (x || (y && true)) → a ≤ b
    go true y p q t = le_of_lt (p tt)
    go false true p q t = le_of_eq (q tt)
    go false false p q t = absurd t

pub le→cross : (x y : Float) → T (nonneg x) → T (nonneg y) → T (le x y) → num x * den y ≤ num y * den x
unfolding le
le→cross nan y p q h = absurd p
le→cross (inf s) y p q h = absurd p
le→cross (fin true m e) y p q h = absurd p
le→cross (fin false m e) nan p q h = absurd q
le→cross (fin false m e) (inf t) p q h = absurd q
le→cross (fin false m e) (fin true n d) p q h = absurd q
le→cross (fin false m e) (fin false n d) p q h = lt-or-eq (m * up e * down d) (n * up d * down e) h

pub cross→le : (x y : Float) → T (nonneg x) → T (nonneg y) → num x * den y ≤ num y * den x → T (le x y)
cross→le x y p q h = le_of_values x y (num x) (den x) (num y) (den y) (den_pos x) (den_pos y) (own x p) (own y q) h

-- ---- what `round` makes is not negative, and where it is at most a finite value it is finite
abbrev pub plus : Float → Bool
plus nan = false
plus (inf s) = not s
plus (fin s m e) = not s

value_plus : (x : Float) (a c : ℕ) → HasValue x false a c → T (plus x)
value_plus nan a c h = absurd h
value_plus (inf s) a c h = absurd h
value_plus (fin true m e) a c h = subst (λ (b : Bool). T b) h.0 tt
value_plus (fin false m e) a c h = tt

units_plus : (f : Format) (q k : ℕ) → T (plus (units f false q k))
unfolding units
units_plus f q k = go (ltb (q * 2 ^ k) (2 ^ (low f + suc (emax f))))
  where
    go : (b : Bool) → T (plus (cond b (odd (suc (prec f)) false q k (low f)) (inf false)))
    go true =
        value_plus (odd (suc (prec f)) false q k (low f)) (q * 2 ^ k) (2 ^ low f)
        (odd_sign (suc (prec f)) false q k (low f))
    go false = tt

pub round_plus : (f : Format) (a c : ℕ) → T (plus (round f false a c))
round_plus f a c = subst (λ (x : Float). T (plus x)) (sym (round_is f false a c)) (units_plus f _ _)

pub below_finite : (z hi : Float) → T (plus z) → T (nonneg hi) → T (le z hi) → T (nonneg z)
unfolding le
below_finite nan hi a p h = absurd a
below_finite (inf true) hi a p h = absurd a
below_finite (inf false) nan a p h = absurd p
below_finite (inf false) (inf t) a p h = absurd p
below_finite (inf false) (fin t n d) a p h = absurd h
below_finite (fin s m e) hi a p h = a

-- ---- the operations as one rounding
pub add_is : (f : Format) (x y : Float) → T (nonneg x) → T (nonneg y)
    → add f x y ≡ round f false (num x * den y + num y * den x) (den x * den y)
unfolding add
add_is f nan y p q = absurd p
add_is f (inf s) y p q = absurd p
add_is f (fin true m e) y p q = absurd p
add_is f (fin false m e) nan p q = absurd q
add_is f (fin false m e) (inf t) p q = absurd q
add_is f (fin false m e) (fin true n d) p q = absurd q
add_is f (fin false m e) (fin false n d) p q = refl

pub mul_is : (f : Format) (x y : Float) → T (nonneg x) → T (nonneg y)
    → mul f x y ≡ round f false (num x * num y) (den x * den y)
unfolding mul
mul_is f nan y p q = absurd p
mul_is f (inf s) y p q = absurd p
mul_is f (fin true m e) y p q = absurd p
mul_is f (fin false m e) nan p q = absurd q
mul_is f (fin false m e) (inf t) p q = absurd q
mul_is f (fin false m e) (fin true n d) p q = absurd q
mul_is f (fin false m e) (fin false n d) p q = refl

pub half_is : (f : Format) (x : Float) → T (nonneg x)
    → div f x (fin false 1 (pos 1)) ≡ round f false (num x * 1) (2 * den x)
unfolding div
half_is f nan p = absurd p
half_is f (inf s) p = absurd p
half_is f (fin true m e) p = absurd p
half_is f (fin false m e) p = refl

pub add_plus : (f : Format) (x y : Float) → T (nonneg x) → T (nonneg y) → T (plus (add f x y))
add_plus f x y p q = subst (λ (z : Float). T (plus z)) (sym (add_is f x y p q)) (round_plus f _ _)

pub mul_plus : (f : Format) (x y : Float) → T (nonneg x) → T (nonneg y) → T (plus (mul f x y))
mul_plus f x y p q = subst (λ (z : Float). T (plus z)) (sym (mul_is f x y p q)) (round_plus f _ _)

pub half_plus : (f : Format) (x : Float) → T (nonneg x) → T (plus (div f x (fin false 1 (pos 1))))
half_plus f x p = subst (λ (z : Float). T (plus z)) (sym (half_is f x p)) (round_plus f _ _)

-- ---- they grow with each operand
pub add_mono : (f : Format) (x x' y y' : Float) → T (nonneg x) → T (nonneg x') → T (nonneg y) → T (nonneg y') → T (le x x')
    → T (le y y') → T (le (add f x y) (add f x' y'))
add_mono f x x' y y' p p' q q' h k =
    subst (λ (z : Float). T (le z (add f x' y'))) (sym (add_is f x y p q))
    (subst (λ (z : Float). T (le (round f false (num x * den y + num y * den x) (den x * den y)) z))
    (sym (add_is f x' y' p' q'))
    (round_mono f _ _ _ _ (mul-pos (den_pos x) (den_pos y)) (mul-pos (den_pos x') (den_pos y'))
    (sums (num x) (den x) (num x') (den x') (num y) (den y) (num y') (den y') (le→cross x x' p p' h)
    (le→cross y y' q q' k))))
  where
    sums : (X a X' a' Y b Y' b' : ℕ) → X * a' ≤ X' * a → Y * b' ≤ Y' * b
        → (X * b + Y * a) * (a' * b') ≤ (X' * b' + Y' * a') * (a * b)
    sums X a X' a' Y b Y' b' h k = omega (arith, mul-le-mul_right (b * b') h, mul-le-mul_right (a * a') k)

pub mul_mono : (f : Format) (x x' y y' : Float) → T (nonneg x) → T (nonneg x') → T (nonneg y) → T (nonneg y') → T (le x x')
    → T (le y y') → T (le (mul f x y) (mul f x' y'))
mul_mono f x x' y y' p p' q q' h k =
    subst (λ (z : Float). T (le z (mul f x' y'))) (sym (mul_is f x y p q))
    (subst (λ (z : Float). T (le (round f false (num x * num y) (den x * den y)) z)) (sym (mul_is f x' y' p' q'))
    (round_mono f _ _ _ _ (mul-pos (den_pos x) (den_pos y)) (mul-pos (den_pos x') (den_pos y'))
    (le_trans (le_of_eq (mul-mul-mul_comm (num x) (num y) (den x') (den y')))
    (le_trans (mul-le-mul (le→cross x x' p p' h) (le→cross y y' q q' k))
    (le_of_eq (mul-mul-mul_comm (num x') (den x) (num y') (den y)))))))

pub half_mono : (f : Format) (x x' : Float) → T (nonneg x) → T (nonneg x') → T (le x x')
    → T (le (div f x (fin false 1 (pos 1))) (div f x' (fin false 1 (pos 1))))
half_mono f x x' p p' h =
    subst (λ (z : Float). T (le z (div f x' (fin false 1 (pos 1))))) (sym (half_is f x p))
    (subst (λ (z : Float). T (le (round f false (num x * 1) (2 * den x)) z)) (sym (half_is f x' p'))
    (round_mono f _ _ _ _ (twice (den x) (den_pos x)) (twice (den x') (den_pos x'))
    (halves (num x) (den x) (num x') (den x') (le→cross x x' p p' h))))
  where
    twice : (a : ℕ) → 0 < a → 0 < 2 * a
    twice a h = omega arith

    halves : (X a X' a' : ℕ) → X * a' ≤ X' * a → X * 1 * (2 * a') ≤ X' * 1 * (2 * a)
    halves X a X' a' h = omega arith
