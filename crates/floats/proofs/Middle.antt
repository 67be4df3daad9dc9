-- The middle of two finite values whose sign is + lies between them, where the double of the larger is in range.
-- The library has no law of middles. Assumes nothing.
use Rattle.std.proofs.Common.{◌≡◌, ℕ, zero, suc, ◌+◌, ◌-◌, ◌*◌, ◌%◌, ◌^◌, ◌<◌, ◌≤◌, false, ◌&&◌, T, eqb, ltb, leb, ℤ, pos, negsuc, sym, ap, ◌∙◌, subst, le_of_eq, lt_of_lt_of_le, le_of_suc-le-suc, lt_irrefl, lt_of_mul-lt-mul_right, mul-lt-mul_of_pos_right, mul-pos, one-mul, lt_of_not-le, zero-mul, mul-one, arith, ltb→lt, leb→le, pow_pos, pow-add}
use native.Mathlib.Nat.{eq_of_mul-eq-mul_right}
use lib.Pow.{pow-lt}
use lib.Ieee.{Float, nan, inf, fin, Format, prec, emax, low, up, down, round, add, div, le, fits}
use lib.Ieee.Fits.{down_pos, and_l, and_r, div-fits}
use lib.Ieee.Digits.{back}
use lib.Ieee.Exact.{HasValue, round_exact}
use lib.Ieee.Order.{le_of_values}
use lib.Ieee.Positive.{num, den, den_pos}
use Rattle.floats.proofs.Order.{le_le_trans, le_self}
use Rattle.floats.proofs.Nonneg.{nonneg, nonneg_nn, own, cross, value_nonneg, le→cross, below_finite, add_is}
use Rattle.floats.proofs.Nonneg.{half_is, add_plus, half_plus, add_mono, half_mono}

-- ---- a value that fits is q * 2 ^ j smallest values, with q of at most prec digits
pub record Spot (f : Format) (x : Float) : Type 0 where
  pub q : ℕ
  pub j : ℕ
  pub small : q < 2 ^ prec f
  pub is : num x * 2 ^ low f ≡ q * 2 ^ j * den x

pow_le_back : (a l : ℕ) → 2 ^ a ≤ 2 ^ l → a ≤ l
pow_le_back a l h = le_of_suc-le-suc (lt_of_not-le (λ (g : suc l ≤ a). lt_irrefl (2 ^ l) (lt_of_lt_of_le (pow-lt g) h)))

place : (l : ℕ) (e : ℤ) → down e ≤ 2 ^ l → (j : ℕ) × (up e * 2 ^ l ≡ 2 ^ j * down e)
place l (pos a) h = (a + l, sym (pow-add 2 a l) ∙ sym (mul-one (2 ^ (a + l))))
place l (negsuc a) h = (
  l - suc a,
  one-mul (2 ^ l) ∙ ap (λ (x : ℕ). 2 ^ x) (sym (back l (suc a) (pow_le_back (suc a) l h))) ∙ pow-add 2
      (l - suc a) (suc a),
)

stepped : (m u l p d : ℕ) → u * l ≡ p * d → m * u * l ≡ m * p * d
stepped m u l p d e = omega (arith, ap (λ (x : ℕ). m * x) e)

pub spot : (f : Format) (x : Float) → T (nonneg x) → T (fits f x) → Spot f x
unfolding fits
spot f nan p h = absurd p
spot f (inf s) p h = absurd p
spot f (fin s zero e) p h =
    record {
      q = 0;
      j = 0;
      small = pow_pos (prec f);
      is = ap (λ (x : ℕ). x * 2 ^ low f) (zero-mul (up e)) ∙ zero-mul
          (2 ^ low f) ∙ sym (zero-mul (down e));
    }
spot f (fin s (suc m) e) p h =
    let A = eqb (suc m % 2) 1 in
    let B = ltb (suc m) (2 ^ prec f) in
    let C = leb (down e) (2 ^ low f) in
    let D = ltb (suc m * up e) (2 ^ suc (emax f) * down e) in
    let w = place (low f) e (leb→le (down e) (2 ^ low f) (and_r (A && B) C (and_l (A && B && C) D h))) in
    record {
      q = suc m;
      j = w.0;
      small = ltb→lt (suc m) (2 ^ prec f) (and_r A B (and_l (A && B) C (and_l (A && B && C) D h)));
      is = stepped (suc m) (up e) (2 ^ low f) (2 ^ w.0) (down e) w.1;
    }

pub fits→range : (f : Format) (x : Float) → T (nonneg x) → T (fits f x) → num x < 2 ^ suc (emax f) * den x
unfolding fits
fits→range f nan p h = absurd p
fits→range f (inf s) p h = absurd p
fits→range f (fin s zero e) p h =
    subst (λ (z : ℕ). z < 2 ^ suc (emax f) * down e) (sym (zero-mul (up e))) (mul-pos (pow_pos (suc (emax f))) (down_pos e))
fits→range f (fin s (suc m) e) p h =
    ltb→lt (suc m * up e) (2 ^ suc (emax f) * down e)
    (and_r (eqb (suc m % 2) 1 && ltb (suc m) (2 ^ prec f) && leb (down e) (2 ^ low f))
    (ltb (suc m * up e) (2 ^ suc (emax f) * down e)) h)

-- ---- 2 ^ t times such a value is rounded to itself, if it is in range
in_range : (X P l E d Q J : ℕ) → 0 < l → X * l ≡ Q * J * d → X * P < E * d → Q * (J * P) < l * E
in_range X P l E d Q J L e h = lt_of_mul-lt-mul_right d g
  where
    g : Q * (J * P) * d < l * E * d
    g = omega (arith, mul-lt-mul_of_pos_right h L, ap (λ (z : ℕ). z * P) e)

same_size : (X P l a c d Q J : ℕ) → 0 < d → X * l ≡ Q * J * d → X * P * c ≡ a * d → a * l ≡ Q * (J * P) * c
same_size X P l a c d Q J D e k = eq_of_mul-eq-mul_right d D (a * l) (Q * (J * P) * c) g
  where
    g : a * l * d ≡ Q * (J * P) * c * d
    g = omega (arith, ap (λ (z : ℕ). z * l) k, ap (λ (z : ℕ). z * (P * c)) e)

pub exact : (f : Format) (x : Float) → T (nonneg x) → T (fits f x) → (t a c : ℕ) → 0 < c
    → num x * 2 ^ t < 2 ^ suc (emax f) * den x → num x * 2 ^ t * c ≡ a * den x → HasValue (round f false a c) false a c
exact f x p h t a c C fine e =
    let s = spot f x p h in
    let w : 2 ^ (s.j + t) ≡ 2 ^ s.j * 2 ^ t = pow-add 2 s.j t in
    round_exact f false a c s.q (s.j + t) C s.small
    (subst (λ (z : ℕ). s.q * z < 2 ^ (low f + suc (emax f))) (sym w)
    (subst (λ (z : ℕ). s.q * (2 ^ s.j * 2 ^ t) < z) (sym (pow-add 2 (low f) (suc (emax f))))
    (in_range (num x) (2 ^ t) (2 ^ low f) (2 ^ suc (emax f)) (den x) s.q (2 ^ s.j) (pow_pos (low f)) s.is fine)))
    (subst (λ (z : ℕ). a * 2 ^ low f ≡ s.q * z * c) (sym w)
    (same_size (num x) (2 ^ t) (2 ^ low f) a c (den x) s.q (2 ^ s.j) (den_pos x) s.is e))

-- such a value itself
pub rounds_to_itself : (f : Format) (x : Float) → T (nonneg x) → T (fits f x)
    → HasValue (round f false (num x) (den x)) false (num x) (den x)
rounds_to_itself f x p h =
    exact f x p h 0 (num x) (den x) (den_pos x)
    (subst (λ (z : ℕ). z < 2 ^ suc (emax f) * den x) (sym (mul-one (num x))) (fits→range f x p h))
    (ap (λ (z : ℕ). z * den x) (mul-one (num x)))

abbrev pub 2f : Float
2f = fin false 1 (pos 1)

-- ---- 2 * x in range: x + x and (x + x) / 2 are exact
module _ (f : Format) (x : Float) (p : T (nonneg x)) (h : T (fits f x)) (fine : num x * 2 < 2 ^ suc (emax f) * den x) where
  double : HasValue (add f x x) false (num x * den x + num x * den x) (den x * den x)
  double = subst (λ (z : Float). HasValue z false (num x * den x + num x * den x) (den x * den x)) (sym (add_is f x x p p))
      (exact f x p h 1 (num x * den x + num x * den x) (den x * den x) (mul-pos (den_pos x) (den_pos x)) fine
      (sums (num x) (den x)))
    where
      sums : (X d : ℕ) → X * 2 * (d * d) ≡ (X * d + X * d) * d
      sums X d = omega arith

  double_nonneg : T (nonneg (add f x x))
  double_nonneg = value_nonneg (add f x x) _ _ double

  agree : num x * 1 * (2 * den (add f x x)) ≡ num (add f x x) * 1 * den x
  agree = back_to (num x) (den x) (num (add f x x)) (den (add f x x)) (den_pos x) (cross (add f x x) _ _ double)
    where
      back_to : (X d N D : ℕ) → 0 < d → N * (d * d) ≡ (X * d + X * d) * D → X * 1 * (2 * D) ≡ N * 1 * d
      back_to X d N D dp e = eq_of_mul-eq-mul_right d dp (X * 1 * (2 * D)) (N * 1 * d) (omega (arith, e))

  halved : HasValue (div f (add f x x) 2f) false (num (add f x x) * 1) (2 * den (add f x x))
  halved =
      subst (λ (z : Float). HasValue z false (num (add f x x) * 1) (2 * den (add f x x)))
      (sym (half_is f (add f x x) double_nonneg))
      (exact f x p h 0 (num (add f x x) * 1) (2 * den (add f x x)) (twice (den (add f x x)) (den_pos (add f x x)))
      (less (num x) (2 ^ suc (emax f) * den x) fine) agree)
    where
      twice : (a : ℕ) → 0 < a → 0 < 2 * a
      twice a h = omega arith

      less : (X E : ℕ) → X * 2 < E → X * 1 < E
      less X E h = omega arith

  halved_nonneg : T (nonneg (div f (add f x x) 2f))
  halved_nonneg = value_nonneg (div f (add f x x) 2f) _ _ halved

  le_halved : T (le x (div f (add f x x) 2f))
  le_halved =
      le_of_values x (div f (add f x x) 2f) (num x) (den x) (num (add f x x) * 1) (2 * den (add f x x)) (den_pos x)
      (twice (den (add f x x)) (den_pos (add f x x))) (own x p) halved
      (le_of_eq (sums (num x) (2 * den (add f x x)) (num (add f x x) * 1 * den x) agree))
    where
      twice : (a : ℕ) → 0 < a → 0 < 2 * a
      twice a h = omega arith

      sums : (a b c : ℕ) → a * 1 * b ≡ c → a * b ≡ c
      sums a b c e = omega arith

  halved_le : T (le (div f (add f x x) 2f) x)
  halved_le =
      le_of_values (div f (add f x x) 2f) x (num (add f x x) * 1) (2 * den (add f x x)) (num x) (den x)
      (twice (den (add f x x)) (den_pos (add f x x))) (den_pos x) halved (own x p)
      (le_of_eq (sums (num x) (2 * den (add f x x)) (num (add f x x) * 1 * den x) agree))
    where
      twice : (a : ℕ) → 0 < a → 0 < 2 * a
      twice a h = omega arith

      sums : (a b c : ℕ) → a * 1 * b ≡ c → c ≡ a * b
      sums a b c e = omega arith

-- ---- the midpoint
in_range_below : (A a B b E : ℕ) → 0 < a → A * b ≤ B * a → B * 2 < E * b → A * 2 < E * a
in_range_below A a B b E ap h k = lt_of_mul-lt-mul_right b g
  where
    g : A * 2 * b < E * a * b
    g = omega (arith, mul-lt-mul_of_pos_right k ap)

abbrev pub mid : Format → Float → Float → Float
mid f a b = div f (add f b a) 2f

pub record Between (f : Format) (a b m : Float) : Type 0 where
  pub finite : T (nonneg m)
  pub fitting : T (fits f m)
  pub above : T (le a m)
  pub below : T (le m b)

pub mid_between : (f : Format) (a b : Float) → T (nonneg a) → T (nonneg b) → T (fits f a) → T (fits f b) → T (le a b)
    → num b * 2 < 2 ^ suc (emax f) * den b → Between f a b (mid f a b)
mid_between f a b pa pb fa fb h fine =
    let fine-a : num a * 2 < 2 ^ suc (emax f) * den a =
    in_range_below (num a) (den a) (num b) (den b) (2 ^ suc (emax f)) (den_pos a) (le→cross a b pa pb h) fine in
    let S = add f b a in
    let lo : T (le (add f a a) S) = add_mono f a b a a pa pb pa pa h (le_self a (nonneg_nn a pa)) in
    let hi : T (le S (add f b b)) = add_mono f b b a b pb pb pa pb (le_self b (nonneg_nn b pb)) h in
    let nA = double_nonneg f a pa fa fine-a in
    let nB = double_nonneg f b pb fb fine in
    let nS : T (nonneg S) = below_finite S (add f b b) (add_plus f b a pb pa) nB hi in
    let top : T (le (mid f a b) (div f (add f b b) 2f)) = half_mono f S (add f b b) nS nB hi in
    record {
      finite = below_finite (mid f a b) (div f (add f b b) 2f) (half_plus f S nS) (halved_nonneg f b pb fb fine) top;
      fitting = div-fits f S 2f;
      above =
          le_le_trans a (div f (add f a a) 2f) (mid f a b) (le_halved f a pa fa fine-a)
          (half_mono f (add f a a) S nA nS lo);
      below = le_le_trans (mid f a b) (div f (add f b b) 2f) b top (halved_le f b pb fb fine);
    }
