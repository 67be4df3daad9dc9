-- Of the order of floats what the library lacks: `lt x y` is the negation of `le y x` but for NaN, and nothing compares true with
-- NaN. What the library has stands under the names that the promises give it. Assumes nothing.
use Rattle.std.proofs.Common.{◌≡◌, ℕ, ◌+◌, ◌<◌, ◌≤◌, Bool, true, false, not, ◌||◌, T, eqb, ◌⊎◌, refl, sym, subst, inl, inr, arith, eq-or-lt_of_le, eqb→eq, ltb→lt, lt→ltb}
use Rattle.std.proofs.lemmas.Float.{le_trans, lt_of_lt_of_le, lt_of_le_of_lt, lt_irrefl, lt_of_not-le, le_of_not-lt}
use mathlib.Core.Bool.{beq}
use lib.Dec.{not_T}
use lib.Ieee.{Float, nan, inf, fin, below, level, lt, le, is_nan}
use lib.Ieee.Fits.{and_l, and_r, and_i, eq→eqb}
pub use Rattle.std.proofs.lemmas.Float.{le_refl as le_self, le_of_lt as lt→le, le_left as le_nn_l, le_right as le_nn_r}

-- ---- Bool
pub or_l : (a b : Bool) → T a → T (a || b)
or_l true b t = tt
or_l false b t = absurd t

pub or_r : (a b : Bool) → T b → T (a || b)
or_r true b t = tt
or_r false b t = t

pub or_split : (a b : Bool) → T (a || b) → T a ⊎ T b
or_split true b t = inl tt
or_split false b t = inr t

pub same_test : (a b : Bool) → (T a → T b) → (T b → T a) → a ≡ b
same_test true true p q = refl
same_test true false p q = absurd (p tt)
same_test false true p q = absurd (q tt)
same_test false false p q = refl

-- ---- a value of the sign + that is at most one of the sign -, each over a common denominator: both are zeros
pub no_more : (a b : ℕ) → T (below false a true b || level false a true b) → a + b ≤ 0
no_more a b h =
    omega (arith, eqb→eq a b (and_l (eqb a b) (beq false true || eqb a 0) h), eqb→eq a 0 (and_r (eqb a b) (beq false true || eqb a 0) h))

-- ---- nothing compares true with a NaN (`nn`: not a NaN)
pub le_nan_l : (y : Float) → le nan y ≡ false
unfolding le
le_nan_l y = refl

pub le_nan_r : (x : Float) → le x nan ≡ false
unfolding le
le_nan_r nan = refl
le_nan_r (inf s) = refl
le_nan_r (fin s m e) = refl

pub lt_nn_l : (x y : Float) → T (lt x y) → T (not (is_nan x))
lt_nn_l x y h = le_nn_l x y (lt→le x y h)

pub lt_nn_r : (x y : Float) → T (lt x y) → T (not (is_nan y))
lt_nn_r x y h = le_nn_r x y (lt→le x y h)

-- ---- transitivity
pub le_le_trans : (x y z : Float) → T (le x y) → T (le y z) → T (le x z)
le_le_trans x y z h k = le_trans x y z h k

pub lt_le_trans : (x y z : Float) → T (lt x y) → T (le y z) → T (lt x z)
lt_le_trans x y z h k = lt_of_lt_of_le x y z h k

pub le_lt_trans : (x y z : Float) → T (le x y) → T (lt y z) → T (lt x z)
le_lt_trans x y z h k = lt_of_le_of_lt x y z h k

-- ---- exactly one of lt x y and le y x
pub lt→¬le : (x y : Float) → T (lt x y) → T (le y x) → ⊥
lt→¬le x y h k = lt_irrefl x (lt_of_lt_of_le x y x h k)

pub lt_is : (x y : Float) → T (not (is_nan x)) → T (not (is_nan y)) → lt x y ≡ not (le y x)
lt_is x y p q = same_test (lt x y) (not (le y x)) (λ h. not_T (le y x) (lt→¬le x y h)) (λ n. lt_of_not-le y x q p n)

pub le_is : (x y : Float) → T (not (is_nan x)) → T (not (is_nan y)) → le x y ≡ not (lt y x)
le_is x y p q = same_test (le x y) (not (lt y x)) (λ h. not_T (lt y x) (λ l. lt→¬le y x l h)) (λ n. le_of_not-lt y x q p n)

pub le-or-lt : (x y : Float) → T (not (is_nan x)) → T (not (is_nan y)) → T (lt x y) ⊎ T (le y x)
le-or-lt x y p q = go (le y x) (lt_is x y p q)
  where
    go : (b : Bool) → lt x y ≡ not b → T (lt x y) ⊎ T b
    go true e = inr tt
    go false e = inl (subst T (sym e) tt)

-- ---- the library's tests of two signed whole numbers, in numbers
abbrev pub Le : Bool → ℕ → Bool → ℕ → Type 0
Le false a false b = a ≤ b
Le false a true b = a + b ≤ 0
Le true a false b = 0 ≤ a + b
Le true a true b = b ≤ a

abbrev Lt : Bool → ℕ → Bool → ℕ → Type 0
Lt false a false b = a < b
Lt false a true b = a + b < 0
Lt true a false b = 0 < a + b
Lt true a true b = b < a

below→Lt : (s : Bool) (a : ℕ) (t : Bool) (b : ℕ) → T (below s a t b) → Lt s a t b
below→Lt false a false b h = ltb→lt a b h
below→Lt false a true b h = absurd h
below→Lt true a false b h = ltb→lt 0 (a + b) h
below→Lt true a true b h = ltb→lt b a h

Lt→below : (s : Bool) (a : ℕ) (t : Bool) (b : ℕ) → Lt s a t b → T (below s a t b)
Lt→below false a false b h = lt→ltb a b h
Lt→below false a true b h = omega arith
Lt→below true a false b h = lt→ltb 0 (a + b) h
Lt→below true a true b h = lt→ltb b a h

level→Le : (s : Bool) (a : ℕ) (t : Bool) (b : ℕ) → T (level s a t b) → Le s a t b
level→Le s a t b h =
    go s t (eqb→eq a b (and_l (eqb a b) (beq s t || eqb a 0) h)) (and_r (eqb a b) (beq s t || eqb a 0) h)
  where
    go : (s t : Bool) → a ≡ b → T (beq s t || eqb a 0) → Le s a t b
    go false false e z = omega arith
    go false true e z = omega (arith, eqb→eq a 0 z)
    go true false e z = omega arith
    go true true e z = omega arith

Lt→Le : (s : Bool) (a : ℕ) (t : Bool) (b : ℕ) → Lt s a t b → Le s a t b
Lt→Le false a false b h = omega arith
Lt→Le false a true b h = omega arith
Lt→Le true a false b h = omega arith
Lt→Le true a true b h = omega arith

abbrev pub leq : Bool → ℕ → Bool → ℕ → Bool
leq s a t b = below s a t b || level s a t b

pub leq→Le : (s : Bool) (a : ℕ) (t : Bool) (b : ℕ) → T (leq s a t b) → Le s a t b
leq→Le s a t b h =
    elim (or_split (below s a t b) (level s a t b) h) [
      | inl u ↦ Lt→Le s a t b
          (below→Lt s a t b u)
      | inr u ↦ level→Le s a t b u
    ]

Le-cases : (s : Bool) (a : ℕ) (t : Bool) (b : ℕ) → Le s a t b → Lt s a t b ⊎ T (level s a t b)
Le-cases false a false b h = elim (eq-or-lt_of_le h) [ inl e ↦ inr (and_i (eqb a b) true (eq→eqb e) tt) | inr l ↦ inl l ]
Le-cases false a true b h =
    let e : a ≡ b = omega arith in let z : a ≡ 0 = omega arith in inr (and_i (eqb a b) (eqb a 0) (eq→eqb e) (eq→eqb z))
Le-cases true a false b h =
    elim (eq-or-lt_of_le h) [
      | inl e ↦ let e' : a ≡ b = omega arith in let z : a ≡ 0 = omega arith in inr
          (and_i (eqb a b) (eqb a 0) (eq→eqb e') (eq→eqb z))
      | inr l ↦ inl l
    ]
Le-cases true a true b h =
    elim (eq-or-lt_of_le h) [ inl e ↦ inr (and_i (eqb a b) true (eq→eqb (sym e)) tt) | inr l ↦ inl l ]

pub Le→leq : (s : Bool) (a : ℕ) (t : Bool) (b : ℕ) → Le s a t b → T (leq s a t b)
Le→leq s a t b h =
    elim (Le-cases s a t b h) [
      | inl l ↦ or_l (below s a t b) (level s a t b) (Lt→below s a t b l)
      | inr u ↦ or_r
          (below s a t b) (level s a t b) u
    ]
