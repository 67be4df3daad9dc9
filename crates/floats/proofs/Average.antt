-- The average 0.875 * a + 0.125 * g of two values that are at most p is at most p, each operation rounded once.
-- The library has no law of averages. Assumes nothing.
use Rattle.std.proofs.Common.{◌≡◌, ℕ, zero, suc, ◌+◌, ◌-◌, ◌*◌, ◌/◌, ◌%◌, ◌^◌, ◌<◌, ◌≤◌, true, false, not, T, eqb, pos, negsuc, sym, refl, ap, ◌∙◌, subst, inl, inr, le_trans, le_of_eq, le_refl, lt_of_lt_of_le, lt_of_le_of_lt, mul-le-mul_right, mul_assoc, lt_of_mul-lt-mul_right, eq-or-lt_of_le, mul-lt-mul_of_pos_right, mul-pos, lt_of_not-le, div-add-mod', not-le_of_lt, le_of_mul-le-mul_right, mul-div_cancel, arith, lit<, eqb→eq, leb→le, pow_pos, pow_mono, pow-add, shl_lt}
use Prim.Native.Nat.{compare, Ordering}
use lib.Dec.{is_le, compare_is_eq, nleb→lt, eqb_refl}
use lib.Arith.{lt_of_le-ne}
use lib.Ieee.Fits.{two, two-le_pos, down_pos}
use lib.Ieee.{Float, nan, inf, fin, Format, binary64, prec, emax, low, size, up, down, nearest, round, add, mul, le, fits}
use lib.Ieee.Digits.{size-lt, size-le, size_reaches, back}
use lib.Ieee.Exact.{HasValue, round_exact}
use lib.Ieee.Nearest.{closest, closest_same}
use lib.Ieee.Order.{le_of_values, round_mono}
use lib.Ieee.Scale.{grid, overflow, finite, round_same, round_val, round_under}
use lib.Ieee.Positive.{num, den, den_pos}
use Rattle.floats.proofs.Order.{le_le_trans, le_self, no_more}
use Rattle.floats.proofs.Nonneg.{nonneg, nonneg_nn, own, cross, value_nonneg, le→cross, below_finite, add_is, mul_is}
use Rattle.floats.proofs.Nonneg.{mul_plus, add_mono, mul_mono}
use Rattle.floats.specs.Average.{seven_eighths, one_eighth, average}
use Rattle.floats.proofs.Middle.{spot, fits→range, rounds_to_itself}
use Rattle.floats.proofs.Zero.{Some, abs, abs_nonneg, abs≈, mul≈, near_some, nonneg_some, between_some}
use Rattle.floats.proofs.Zero.{add_mono_some, add_min}

-- ---- the nearest whole number
abbrev Cmp : Ordering → ℕ → ℕ → Type 0
Cmp Ordering.lt a b = a < b
Cmp Ordering.eq a b = a ≡ b
Cmp Ordering.gt a b = b < a

cmp : (a b : ℕ) → Cmp (compare a b) a b
cmp a b =
    go (compare a b) (leb→le a b) (nleb→lt a b) (eqb→eq a b) (λ (e : a ≡ b). subst (λ (x : ℕ). T (eqb a x)) e (eqb_refl a))
  where
    go : (o : Ordering) → (T (is_le o) → a ≤ b) → (T (not (is_le o)) → b < a) → (T (compare_is_eq o) → a ≡ b) → (a ≡ b → T (compare_is_eq o))
        → Cmp o a b
    go Ordering.lt h k e n = lt_of_le-ne (h tt) n
    go Ordering.eq h k e n = e tt
    go Ordering.gt h k e n = k tt

-- it is off by half at most
closest_err : (n u : ℕ) → closest n u * u * 2 ≤ n * 2 + u
closest_err n u = go (n / u) (n % u) (compare (n % u * 2) u) (cmp (n % u * 2) u) (div-add-mod' n u)
  where
    tie : (w : ℕ) → w % 2 ≤ 1
    tie w = omega arith

    go : (w r : ℕ) (o : Ordering) → Cmp o (r * 2) u → w * u + r ≡ n → nearest w o * u * 2 ≤ n * 2 + u
    go w r Ordering.lt c e = omega arith
    go w r Ordering.eq c e = omega (arith, mul-le-mul_right u (tie w))
    go w r Ordering.gt c e = omega arith

-- 7 / 8 of M: off by 3 / 8 at most where M is odd
sevenths : (M : ℕ) → closest (7 * M) 8 * 8 ≤ 7 * M + (4 - M % 2)
sevenths M = go (7 * M / 8) (7 * M % 8) (compare (7 * M % 8 * 2) 8) (cmp (7 * M % 8 * 2) 8) refl refl
  where
    go : (w r : ℕ) (o : Ordering) → Cmp o (r * 2) 8 → w ≡ 7 * M / 8 → r ≡ 7 * M % 8 → nearest w o * 8 ≤ 7 * M + (4 - M % 2)
    go w r Ordering.lt c e k = omega arith
    go w r Ordering.eq c e k = omega arith
    go w r Ordering.gt c e k = omega arith

-- M and 3 / 8, or for an even M and a half, is rounded to M
rounds_down : (M : ℕ) → closest (8 * M + (4 - M % 2)) 8 ≡ M
rounds_down M = go (M % 2) refl
  where
    at : (r : ℕ) → r < 8 → (8 * M + r) / 8 ≡ M
    at r h = omega arith

    rem : (r : ℕ) → r < 8 → (8 * M + r) % 8 ≡ r
    rem r h = omega arith

    even : M % 2 ≡ 0 → M + M % 2 ≡ M
    even e = omega arith

    go : (b : ℕ) → M % 2 ≡ b → closest (8 * M + (4 - b)) 8 ≡ M
    go zero e =
        ap (λ (w : ℕ). nearest w (compare ((8 * M + 4) % 8 * 2) 8)) (at 4 (lit< tt)) ∙ ap
        (λ (r : ℕ). nearest M (compare (r * 2) 8)) (rem 4 (lit< tt)) ∙ even e
    go (suc zero) e =
        ap (λ (w : ℕ). nearest w (compare ((8 * M + 3) % 8 * 2) 8)) (at 3 (lit< tt)) ∙ ap
        (λ (r : ℕ). nearest M (compare (r * 2) 8)) (rem 3 (lit< tt))
    go (suc (suc b)) e = omega arith

-- ---- a count of digits
size_is : (n z : ℕ) → n < 2 ^ z → 2 ^ (z - 1) ≤ n → size n ≡ z
size_is n z h k =
    exactly (size n) z (size-le n z h)
    (lt_of_not-le (λ (g : size n ≤ z - 1). not-le_of_lt (lt_of_lt_of_le (size-lt n) (pow_mono g)) k))
  where
    exactly : (x z : ℕ) → x ≤ z → z - 1 < x → x ≡ z
    exactly x z a b = omega arith

-- ---- N smallest values, for a whole N: what `round` does with N / 2 ^ low
unit_size : (f : Format) (N : ℕ) → size (N * 2 ^ low f / 2 ^ low f) ≡ size N
unit_size f N = ap size (mul-div_cancel N (pow_pos (low f)))

unit_grid : (f : Format) (N : ℕ) → grid f N (2 ^ low f) ≡ closest N (2 ^ (size N - prec f)) * 2 ^ (size N - prec f)
unit_grid f N =
    ap (λ (z : ℕ). closest (N * 2 ^ low f) (2 ^ low f * 2 ^ (z - prec f)) * 2 ^ (z - prec f)) (unit_size f N)
    ∙ ap (λ (w : ℕ). w * 2 ^ (size N - prec f))
    (closest_same (N * 2 ^ low f) (2 ^ low f * 2 ^ (size N - prec f)) N (2 ^ (size N - prec f))
    (mul-pos (pow_pos (low f)) (pow_pos (size N - prec f))) (pow_pos (size N - prec f))
    (mul_assoc N (2 ^ low f) (2 ^ (size N - prec f))))

-- ---- p is 8 * M * 2 ^ E smallest values, with M of just prec digits
pub record Eight (f : Format) (x : Float) : Type 0 where
  pub M : ℕ
  pub E : ℕ
  pub large : 2 ^ (prec f - 1) ≤ M
  pub small : M < 2 ^ prec f
  pub is : num x * 2 ^ low f ≡ M * 2 ^ E * 8 * den x

normalise : (P q j : ℕ) → 0 < P → q < 2 ^ P → 2 ^ (P - 1 + 3) ≤ q * 2 ^ j
    → (M : ℕ) × (E : ℕ) × (2 ^ (P - 1) ≤ M) × (M < 2 ^ P) × (q * 2 ^ j ≡ M * 2 ^ E * 8)
normalise P q j Pp small big =
    go (size (q * 2 ^ j)) (size-lt (q * 2 ^ j)) (size_reaches (q * 2 ^ j)) (size-le (q * 2 ^ j) (P + j) (shl_lt P j small))
    (lt_of_not-le (λ (g : size (q * 2 ^ j) ≤ P - 1 + 3). not-le_of_lt
    (lt_of_lt_of_le (size-lt (q * 2 ^ j)) (pow_mono g)) big))
  where
    go : (z : ℕ) → q * 2 ^ j < 2 ^ z → ((i : ℕ) → i < z → 2 ^ i ≤ q * 2 ^ j) → z ≤ P + j → P - 1 + 3 < z
        → (M : ℕ) × (E : ℕ) × (2 ^ (P - 1) ≤ M) × (M < 2 ^ P) × (q * 2 ^ j ≡ M * 2 ^ E * 8)
    go z hi lo up far =
        let k = z - P in
        let k-le : k ≤ j = omega arith in
        let z-is : P + k ≡ z = omega arith in
        let z1-is : P - 1 + k ≡ z - 1 = omega arith in
        let z1-lt : z - 1 < z = omega arith in
        let k-is : k - 3 + 3 ≡ k = omega arith in
        let M = q * 2 ^ (j - k) in
        let cut : M * 2 ^ k ≡ q * 2 ^ j =
        mul_assoc q (2 ^ (j - k)) (2 ^ k) ∙ ap (λ (x : ℕ). q * x)
        (sym (pow-add 2 (j - k) k) ∙ ap (λ (x : ℕ). 2 ^ x) (back j k k-le)) in
        let pz : 2 ^ P * 2 ^ k ≡ 2 ^ z = sym (pow-add 2 P k) ∙ ap (λ (x : ℕ). 2 ^ x) z-is in
        let pz1 : 2 ^ (P - 1) * 2 ^ k ≡ 2 ^ (z - 1) = sym (pow-add 2 (P - 1) k) ∙ ap (λ (x : ℕ). 2 ^ x) z1-is in
        let pk : 2 ^ (k - 3) * 8 ≡ 2 ^ k = sym (pow-add 2 (k - 3) 3) ∙ ap (λ (x : ℕ). 2 ^ x) k-is in (
          M,
          k - 3,
          le_of_mul-le-mul_right (le_trans (le_of_eq pz1) (le_trans (lo (z - 1) z1-lt) (le_of_eq (sym cut)))) (pow_pos k),
          lt_of_mul-lt-mul_right (2 ^ k) (lt_of_le_of_lt (le_of_eq cut) (lt_of_lt_of_le hi (le_of_eq (sym pz)))),
          sym cut ∙ ap (λ (x : ℕ). M * x) (sym pk) ∙ sym (mul_assoc M (2 ^ (k - 3)) 8),
        )

eight : (f : Format) (x : Float) → T (nonneg x) → T (fits f x) → 2 ^ (prec f - 1 + 3) * den x ≤ num x * 2 ^ low f
    → Eight f x
eight f x p h big =
    let s = spot f x p h in
    let w =
    normalise (prec f) s.q s.j (two-le_pos (prec f) (two f)) s.small
    (le_of_mul-le-mul_right (le_trans big (le_of_eq s.is)) (den_pos x)) in
    record { M = w.0; E = w.1; large = w.2; small = w.3; is = s.is ∙ ap (λ (z : ℕ). z * den x) w.4 }

-- ---- 2 ^ (E + 3) is 8 * 2 ^ E
up3 : (E : ℕ) → 2 ^ (E + 3) ≡ 2 ^ E * 8
up3 E = pow-add 2 E 3

at_eight : (a E : ℕ) → closest (a * 2 ^ E) (2 ^ (E + 3)) ≡ closest a 8
at_eight a E =
    closest_same (a * 2 ^ E) (2 ^ (E + 3)) a 8 (pow_pos (E + 3)) (lit< tt)
    (mul_assoc a (2 ^ E) 8 ∙ ap (λ (z : ℕ). a * z) (sym (up3 E)))

-- 7 / 8 of p, rounded
seven_bound : (P M E : ℕ) → M < 2 ^ P
    → closest (7 * M * 2 ^ E)
    (2 ^ (size (7 * M * 2 ^ E) - P)) * 2 ^ (size (7 * M * 2 ^ E) - P) ≤ (7 * M + (4 - M % 2)) * 2 ^ E
seven_bound P M E h =
    go (size (7 * M * 2 ^ E) - P) (few (size (7 * M * 2 ^ E)) (size-le (7 * M * 2 ^ E) (P + (E + 3)) in_all))
  where
    few : (z : ℕ) → z ≤ P + (E + 3) → z - P ≤ E + 3
    few z h = omega arith

    less : (W Q : ℕ) → 0 < W → M < Q → 7 * M * W < Q * (W * 8)
    less W Q w h = omega (arith, mul-le-mul_right W h)

    in_all : 7 * M * 2 ^ E < 2 ^ (P + (E + 3))
    in_all =
        lt_of_lt_of_le (less (2 ^ E) (2 ^ P) (pow_pos E) h)
        (le_of_eq (ap (λ (z : ℕ). 2 ^ P * z) (sym (up3 E)) ∙ sym (pow-add 2 P (E + 3))))

    same : (c W K : ℕ) → K ≡ W * 8 → c * 8 ≤ 7 * M + (4 - M % 2) → c * K ≤ (7 * M + (4 - M % 2)) * W
    same c W K e h = le_trans (le_of_eq (ap (λ (z : ℕ). c * z) e)) (omega (arith, mul-le-mul_right W h))

    finer : (g K W r : ℕ) → g * K * 2 ≤ 7 * M * W * 2 + K → K ≤ W * 4 → 2 ≤ r → g * K ≤ (7 * M + r) * W
    finer g K W r h k l = omega (arith, mul-le-mul_right W l)

    three : 2 ≤ 4 - M % 2
    three = omega arith

    go : (k : ℕ) → k ≤ E + 3 → closest (7 * M * 2 ^ E) (2 ^ k) * 2 ^ k ≤ (7 * M + (4 - M % 2)) * 2 ^ E
    go k l = elim (eq-or-lt_of_le l) [
      | inl e ↦ subst (λ (i : ℕ). closest (7 * M * 2 ^ E) (2 ^ i) * 2 ^ i ≤ (7 * M + (4 - M % 2)) * 2 ^ E) (sym e)
          (same (closest (7 * M * 2 ^ E) (2 ^ (E + 3))) (2 ^ E) (2 ^ (E + 3)) (up3 E)
          (subst (λ (c : ℕ). c * 8 ≤ 7 * M + (4 - M % 2)) (sym (at_eight (7 * M) E)) (sevenths M)))
      | inr l' ↦ finer (closest (7 * M * 2 ^ E) (2 ^ k)) (2 ^ k) (2 ^ E) (4 - M % 2) (closest_err (7 * M * 2 ^ E) (2 ^ k))
          (le_trans (pow_mono (short k l')) (le_of_eq (pow-add 2 E 2))) three
    ]
      where
        short : (k : ℕ) → k < E + 3 → k ≤ E + 2
        short k h = omega arith

-- p, and 3 / 8 or for an even M 4 / 8 of a unit in its last place, rounded
top_is : (f : Format) (M E : ℕ) → 2 ^ (prec f - 1) ≤ M → M < 2 ^ prec f
    → grid f ((8 * M + (4 - M % 2)) * 2 ^ E) (2 ^ low f) ≡ M * 2 ^ (E + 3)
top_is f M E lo hi =
    let N = (8 * M + (4 - M % 2)) * 2 ^ E in
    let P = prec f in
    let digits : size N - P ≡ E + 3 = ap (λ (z : ℕ). z - P) (size_is N (P + (E + 3)) under over) ∙ plain P (E + 3) in
    unit_grid f N ∙ ap (λ (k : ℕ). closest N (2 ^ k) * 2 ^ k) digits ∙ ap (λ (c : ℕ). c * 2 ^ (E + 3))
    (at_eight (8 * M + (4 - M % 2)) E ∙ rounds_down M)
  where
    plain : (P x : ℕ) → P + x - P ≡ x
    plain P x = omega arith

    less : (W Q r : ℕ) → 0 < W → M < Q → r ≤ 4 → (8 * M + r) * W < Q * (W * 8)
    less W Q r w h l = omega (arith, mul-le-mul_right W h, mul-le-mul_right W l)

    four : 4 - M % 2 ≤ 4
    four = omega arith

    under : (8 * M + (4 - M % 2)) * 2 ^ E < 2 ^ (prec f + (E + 3))
    under =
        lt_of_lt_of_le (less (2 ^ E) (2 ^ prec f) (4 - M % 2) (pow_pos E) hi four)
        (le_of_eq (ap (λ (z : ℕ). 2 ^ prec f * z) (sym (up3 E)) ∙ sym (pow-add 2 (prec f) (E + 3))))

    more : (W Q r : ℕ) → Q ≤ M → Q * (W * 8) ≤ (8 * M + r) * W
    more W Q r h = omega (arith, mul-le-mul_right W h)

    shift : (P x : ℕ) → 0 < P → P + x - 1 ≡ P - 1 + x
    shift P x h = omega arith

    over : 2 ^ (prec f + (E + 3) - 1) ≤ (8 * M + (4 - M % 2)) * 2 ^ E
    over =
        le_trans (le_of_eq (ap (λ (z : ℕ). 2 ^ z) (shift (prec f) (E + 3) (two-le_pos (prec f) (two f))) ∙ pow-add 2
        (prec f - 1) (E + 3) ∙ ap (λ (z : ℕ). 2 ^ (prec f - 1) * z) (up3 E)))
        (more (2 ^ E) (2 ^ (prec f - 1)) (4 - M % 2) lo)

-- ---- the average of p and p
abbrev 7/8 : Float
7/8 = seven_eighths

abbrev 1/8 : Float
1/8 = one_eighth

nonneg_finite : (x : Float) → T (nonneg x) → T (finite x)
nonneg_finite nan p = p
nonneg_finite (inf s) p = p
nonneg_finite (fin s m e) p = tt

module _ (f : Format) (p : Float) (np : T (nonneg p)) (fp : T (fits f p))
    (big : 2 ^ (prec f - 1 + 3) * den p ≤ num p * 2 ^ low f) where
  w : Eight f p
  w = eight f p np fp big

  fine : w.M * 2 ^ w.E * 8 < overflow f
  fine =
      subst (λ (z : ℕ). w.M * 2 ^ w.E * 8 < z) (sym (pow-add 2 (low f) (suc (emax f))))
      (lt_of_mul-lt-mul_right (den p)
      (go (num p) (w.M * 2 ^ w.E * 8) (2 ^ low f) (2 ^ suc (emax f)) (den p) (pow_pos (low f)) w.is
      (fits→range f p np fp)))
    where
      go : (X m l e d : ℕ) → 0 < l → X * l ≡ m * d → X < e * d → m * d < l * e * d
      go X m l e d lp k h = omega (arith, mul-lt-mul_of_pos_right h lp)

  A-is : mul f 7/8 p ≡ round f false (7 * w.M * 2 ^ w.E) (2 ^ low f)
  A-is =
      mul_is f 7/8 p tt np ∙ round_same f false (7 * num p) (8 * den p) (7 * w.M * 2 ^ w.E) (2 ^ low f)
      (eighth (den p) (den_pos p)) (pow_pos (low f)) (go (num p) (2 ^ low f) w.M (2 ^ w.E) (den p) w.is)
    where
      eighth : (d : ℕ) → 0 < d → 0 < 8 * d
      eighth d h = omega arith

      go : (X l m W d : ℕ) → X * l ≡ m * W * 8 * d → 7 * X * l ≡ 7 * m * W * (8 * d)
      go X l m W d e = omega arith

  G-is : mul f 1/8 p ≡ round f false (w.M * 2 ^ w.E) (2 ^ low f)
  G-is =
      mul_is f 1/8 p tt np ∙ round_same f false (1 * num p) (8 * den p) (w.M * 2 ^ w.E) (2 ^ low f)
      (eighth (den p) (den_pos p)) (pow_pos (low f)) (go (num p) (2 ^ low f) w.M (2 ^ w.E) (den p) w.is)
    where
      eighth : (d : ℕ) → 0 < d → 0 < 8 * d
      eighth d h = omega arith

      go : (X l m W d : ℕ) → X * l ≡ m * W * 8 * d → 1 * X * l ≡ m * W * (8 * d)
      go X l m W d e = omega arith

  A-le : T (le (mul f 7/8 p) p)
  A-le =
      le_le_trans (mul f 7/8 p) (round f false (num p) (den p)) p
      (subst (λ (z : Float). T (le z (round f false (num p) (den p)))) (sym (mul_is f 7/8 p tt np))
      (round_mono f (7 * num p) (8 * den p) (num p) (den p) (eighth (den p) (den_pos p)) (den_pos p)
      (go (num p) (den p))))
      (le_of_values (round f false (num p) (den p)) p (num p) (den p) (num p) (den p) (den_pos p) (den_pos p)
      (rounds_to_itself f p np fp) (own p np) (le_refl (num p * den p)))
    where
      eighth : (d : ℕ) → 0 < d → 0 < 8 * d
      eighth d h = omega arith

      go : (X d : ℕ) → 7 * X * d ≤ X * (8 * d)
      go X d = omega arith

  A-nonneg : T (nonneg (mul f 7/8 p))
  A-nonneg = below_finite (mul f 7/8 p) p (mul_plus f 7/8 p tt np) np A-le

  A-val : HasValue (mul f 7/8 p) false (grid f (7 * w.M * 2 ^ w.E) (2 ^ low f)) (2 ^ low f)
  A-val = subst (λ (z : Float). HasValue z false (grid f (7 * w.M * 2 ^ w.E) (2 ^ low f)) (2 ^ low f)) (sym A-is)
      (round_val f (7 * w.M * 2 ^ w.E) (2 ^ low f)
      (round_under f (7 * w.M * 2 ^ w.E) (2 ^ low f)
      (subst (λ (z : Float). T (finite z)) A-is (nonneg_finite (mul f 7/8 p) A-nonneg))))

  A-bound : grid f (7 * w.M * 2 ^ w.E) (2 ^ low f) ≤ (7 * w.M + (4 - w.M % 2)) * 2 ^ w.E
  A-bound = le_trans (le_of_eq (unit_grid f (7 * w.M * 2 ^ w.E))) (seven_bound (prec f) w.M w.E w.small)

  G-val : HasValue (mul f 1/8 p) false (w.M * 2 ^ w.E) (2 ^ low f)
  G-val =
      subst (λ (z : Float). HasValue z false (w.M * 2 ^ w.E) (2 ^ low f)) (sym G-is)
      (round_exact f false (w.M * 2 ^ w.E) (2 ^ low f) w.M w.E (pow_pos (low f)) w.small
      (part (w.M * 2 ^ w.E) (overflow f) fine) refl)
    where
      part : (a o : ℕ) → a * 8 < o → a < o
      part a o h = omega arith

  G-nonneg : T (nonneg (mul f 1/8 p))
  G-nonneg = value_nonneg (mul f 1/8 p) _ _ G-val

  top : Float
  top = round f false ((8 * w.M + (4 - w.M % 2)) * 2 ^ w.E) (2 ^ low f)

  grid_top : grid f ((8 * w.M + (4 - w.M % 2)) * 2 ^ w.E) (2 ^ low f) ≡ w.M * 2 ^ w.E * 8
  grid_top =
      top_is f w.M w.E w.large w.small ∙ ap (λ (z : ℕ). w.M * z) (up3 w.E) ∙ sym
      (mul_assoc w.M (2 ^ w.E) 8)

  top-le : T (le top p)
  unfolding top
  top-le =
      le_of_values _ p (grid f ((8 * w.M + (4 - w.M % 2)) * 2 ^ w.E) (2 ^ low f)) (2 ^ low f) (num p) (den p)
      (pow_pos (low f)) (den_pos p)
      (round_val f ((8 * w.M + (4 - w.M % 2)) * 2 ^ w.E) (2 ^ low f)
      (subst (λ (z : ℕ). z < overflow f) (sym grid_top) fine)) (own p np)
      (le_of_eq (ap (λ (z : ℕ). z * den p) grid_top ∙ sym w.is))

  le-top : T (le (add f (mul f 7/8 p) (mul f 1/8 p)) top)
  unfolding top
  le-top =
      let A = mul f 7/8 p in
      let G = mul f 1/8 p in
      subst (λ (z : Float). T (le z (round f false ((8 * w.M + (4 - w.M % 2)) * 2 ^ w.E) (2 ^ low f))))
      (sym (add_is f A G A-nonneg G-nonneg))
      (round_mono f (num A * den G + num G * den A) (den A * den G) ((8 * w.M + (4 - w.M % 2)) * 2 ^ w.E) (2 ^ low f)
      (mul-pos (den_pos A) (den_pos G)) (pow_pos (low f))
      (go (num A) (den A) (num G) (den G) (2 ^ low f) (grid f (7 * w.M * 2 ^ w.E) (2 ^ low f)) w.M (2 ^ w.E)
      (4 - w.M % 2) (cross A _ _ A-val) (cross G _ _ G-val) A-bound))
    where
      go : (a α g γ l h m W r : ℕ) → a * l ≡ h * α → g * l ≡ m * W * γ → h ≤ (7 * m + r) * W
          → (a * γ + g * α) * l ≤ (8 * m + r) * W * (α * γ)
      go a α g γ l h m W r e k b =
          omega (arith, ap (λ (z : ℕ). z * γ) e, ap (λ (z : ℕ). z * α) k, mul-le-mul_right (α * γ) b)

  own_average : T (le (add f (mul f 7/8 p) (mul f 1/8 p)) p)
  own_average = le_le_trans (add f (mul f 7/8 p) (mul f 1/8 p)) top p le-top top-le

  -- ---- of a and g that are at most p
  pub seven_nonneg : (a : Float) → T (nonneg a) → T (le a p) → T (nonneg (mul f 7/8 a))
  seven_nonneg a na ha =
      below_finite (mul f 7/8 a) (mul f 7/8 p) (mul_plus f 7/8 a tt na) A-nonneg
      (mul_mono f 7/8 7/8 a p tt tt na np (le_self 7/8 (nonneg_nn 7/8 tt)) ha)

  pub one_nonneg : (g : Float) → T (nonneg g) → T (le g p) → T (nonneg (mul f 1/8 g))
  one_nonneg g ng hg =
      below_finite (mul f 1/8 g) (mul f 1/8 p) (mul_plus f 1/8 g tt ng) G-nonneg
      (mul_mono f 1/8 1/8 g p tt tt ng np (le_self 1/8 (nonneg_nn 1/8 tt)) hg)

  pub weighted_le : (a g : Float) → T (nonneg a) → T (nonneg g) → T (le a p) → T (le g p)
      → T (le (add f (mul f 7/8 a) (mul f 1/8 g)) p)
  weighted_le a g na ng ha hg =
      le_le_trans (add f (mul f 7/8 a) (mul f 1/8 g)) (add f (mul f 7/8 p) (mul f 1/8 p)) p
      (add_mono f (mul f 7/8 a) (mul f 7/8 p) (mul f 1/8 g) (mul f 1/8 p) (seven_nonneg a na ha) A-nonneg
      (one_nonneg g ng hg) G-nonneg
      (mul_mono f 7/8 7/8 a p tt tt na np (le_self 7/8 (nonneg_nn 7/8 tt)) ha)
      (mul_mono f 1/8 1/8 g p tt tt ng np (le_self 1/8 (nonneg_nn 1/8 tt)) hg))
      own_average

-- ---- binary64: p at least 2 ^ -1019
abbrev pub least : Float
least = fin false 1 (negsuc 1018)

pub from_one : (p : Float) → T (le (fin false 1 (pos 0)) p) → T (le least p)
unfolding le
from_one p h = le_le_trans least (fin false 1 (pos 0)) p tt h

big : (p : Float) → T (nonneg p) → T (le least p) → 2 ^ (53 - 1 + 3) * den p ≤ num p * 2 ^ 1074
big p np h = go (num p) (den p) (2 ^ 1019) (2 ^ 55) (le→cross least p tt np h)
  where
    go : (X d A B : ℕ) → 1 * d ≤ X * A → B * d ≤ X * (A * B)
    go X d A B h = omega (arith, mul-le-mul_right B h)

least_nonneg : (p : Float) → T (finite p) → T (le least p) → T (nonneg p)
unfolding le
least_nonneg nan f h = f
least_nonneg (inf s) f h = f
least_nonneg (fin false n d) f h = tt
least_nonneg (fin true n d) f h =
    go (down d) (n * up d * down (negsuc 1018)) (down_pos d)
    (no_more (1 * 1 * down d) (n * up d * down (negsuc 1018)) h)
  where
    go : (a b : ℕ) → 0 < a → 1 * 1 * a + b ≤ 0 → ⊥
    go a b p h = omega arith

-- a and g without the sign -
pub average_nonneg_le : (p a g : Float) → T (nonneg p) → T (nonneg a) → T (nonneg g) → T (fits binary64 p) → T (le least p)
    → T (le a p) → T (le g p) → T (le (average a g) p)
average_nonneg_le p a g np na ng fp h ha hg = weighted_le binary64 p np fp (big p np h) a g na ng ha hg

-- ---- and with -0
module _ (p a g : Float) (fp : T (finite p)) (tp : T (fits binary64 p)) (h : T (le least p)) (sa : Some a) (sg : Some g)
    (ha : T (le a p)) (hg : T (le g p)) where
  np : T (nonneg p)
  np = least_nonneg p fp h

  na : T (nonneg (abs a))
  na = abs_nonneg a sa.fin

  ng : T (nonneg (abs g))
  ng = abs_nonneg g sg.fin

  ha' : T (le (abs a) p)
  ha' = le_le_trans (abs a) a p (abs≈ a sa).ge ha

  hg' : T (le (abs g) p)
  hg' = le_le_trans (abs g) g p (abs≈ g sg).ge hg

  part_a : Some (mul binary64 7/8 a)
  part_a = near_some (mul binary64 7/8 a) (mul binary64 7/8 (abs a)) (mul≈ binary64 7/8 a tt sa)
      (seven_nonneg binary64 p np tp (big p np h) (abs a) na ha')

  part_g : Some (mul binary64 1/8 g)
  part_g = near_some (mul binary64 1/8 g) (mul binary64 1/8 (abs g)) (mul≈ binary64 1/8 g tt sg)
      (one_nonneg binary64 p np tp (big p np h) (abs g) ng hg')

  pub average_le : T (le (average a g) p)
  average_le =
      le_le_trans (average a g) (average (abs a) (abs g)) p
      (add_mono_some binary64 (mul binary64 7/8 a) (mul binary64 7/8 (abs a)) (mul binary64 1/8 g)
      (mul binary64 1/8 (abs g))
      part_a (nonneg_some (mul binary64 7/8 (abs a)) (seven_nonneg binary64 p np tp (big p np h) (abs a) na ha'))
      part_g (nonneg_some (mul binary64 1/8 (abs g)) (one_nonneg binary64 p np tp (big p np h) (abs g) ng hg'))
      (mul≈ binary64 7/8 a tt sa).le (mul≈ binary64 1/8 g tt sg).le)
      (average_nonneg_le p (abs a) (abs g) np na ng tp h ha' hg')

  pub average_some : Some (average a g)
  average_some =
      between_some (average a g) p (add_min binary64 (mul binary64 7/8 a) (mul binary64 1/8 g) part_a part_g) average_le fp
