-- The rule of the paper: the window becomes multiplier * window + increment. Where the product is a whole number and the sum lies in 0..=1,000,000,
-- `window_of` is exactly that sum. Assumes nothing.
use mathlib.Core.Path.{◌≡◌, refl, sym, ap, ◌∙◌, subst}
use mathlib.Core.Bool.{Bool, true, false, cond}
use Prim.Native.Nat.{ℕ, ◌-◌, ◌*◌, ◌/◌, ◌^◌, ◌≤◌, ◌<◌, min}
use native.Mathlib.Nat.{mul-one, mul-pos, mul-div_cancel, eq_of_mul-eq-mul_right, lt_of_lt_of_le}
use native.Mathlib.Omega.{arith}
use lib.IntN.{ℤ, pos, neg_ℤ, ◌+ℤ◌}
use lib.Dec.{T, leb, lit<, lit≤}
use lib.Pow.{pow_mono, shl_lt}
use lib.Ieee.{Float, nan, inf, fin, unlike, up, down, binary64, round, mul, of_int, to_signed}
use lib.Ieee.Fits.{down_pos}
use lib.Ieee.Exact.{HasValue, round_exact}
use Rattle.remy.specs.declared.action.Action.{Action}
use Rattle.remy.specs.Action.{window_of, clamp, sum_of}

-- n, or -n where s is true
abbrev pub signed : Bool → ℕ → ℤ
signed s n = cond s (neg_ℤ (pos n)) (pos n)

more : (n i j : ℕ) → n < 2 ^ i → T (leb i j) → n < 2 ^ j
more n i j h t = lt_of_lt_of_le h (pow_mono {i = i} {j = j} (lit≤ t))

-- a whole number below 2 ^ 53 is rounded to itself
whole_round : (s : Bool) (num den n : ℕ) → 0 < den → n < 2 ^ 53 → num ≡ n * den → HasValue (round binary64 s num den) s num den
whole_round s num den n d small e =
    round_exact binary64 s num den n 1074 d small (shl_lt 1024 1074 (more n 53 1024 small tt)) (scaled num n den (2 ^ 1074) e)
  where
    scaled : (num n den p : ℕ) → num ≡ n * den → num * p ≡ n * p * den
    scaled num n den p e = omega (arith, ap (λ (z : ℕ). z * p) e)

lowest : (x : Float) (s : Bool) (num den n : ℕ) → 0 < den → num ≡ n * den → HasValue x s num den → HasValue x s n 1
lowest nan s num den n d e h = h
lowest (inf t) s num den n d e h = h
lowest (fin t m k) s num den n d e h = (
  h.0,
  eq_of_mul-eq-mul_right den d (m * up k * 1) (n * down k) (same (m * up k) den num n (down k) e h.1),
)
  where
    same : (a den num n d : ℕ) → num ≡ n * den → a * den ≡ num * d → a * 1 * den ≡ n * d * den
    same a den num n d e h = omega (arith, ap (λ (z : ℕ). z * d) e)

of_whole : (w : ℕ) → w < 2 ^ 32 → HasValue (of_int binary64 (pos w)) false w 1
unfolding of_int
of_whole w h = whole_round false w 1 w (lit< tt) (more w 32 53 h tt) (sym (mul-one w))

unlike_plus : (s : Bool) → unlike false s ≡ s
unlike_plus true = refl
unlike_plus false = refl

product : (a b w n d c : ℕ) → a * 1 ≡ w * d → w * b ≡ n * c → a * b ≡ n * (d * c)
product a b w n d c h k = omega (arith, ap (λ (z : ℕ). z * b) h, ap (λ (z : ℕ). z * d) k)

mul_whole : (x : Float) (w n : ℕ) (s : Bool) (m : ℕ) (e : ℤ) → HasValue x false w 1 → w * (m * up e) ≡ n * down e → n < 2 ^ 53
    → HasValue (mul binary64 x (fin s m e)) s n 1
unfolding mul
mul_whole nan w n s m e h k small = absurd h
mul_whole (inf t) w n s m e h k small = absurd h
mul_whole (fin true l i) w n s m e h k small = absurd (subst T h.0 tt)
mul_whole (fin false l i) w n s m e h k small =
    let num = l * up i * (m * up e) in
    let den = down i * down e in
    let d = mul-pos (down_pos i) (down_pos e) in
    let q : num ≡ n * den = product (l * up i) (m * up e) w n (down i) (down e) h.1 k in
    subst (λ (t : Bool). HasValue (round binary64 t num den) s n 1) (sym (unlike_plus s))
    (lowest (round binary64 s num den) s num den n d q (whole_round s num den n d small q))

cut-whole : (x : Float) (s : Bool) (n : ℕ) → HasValue x s n 1 → n < 2 ^ 31 → to_signed 31 x ≡ signed s n
unfolding to_signed
cut-whole nan s n h small = absurd h
cut-whole (inf t) s n h small = absurd h
cut-whole (fin t m e) s n h small =
    let q : m * up e / down e ≡ n = ap (λ (z : ℕ). z / down e) (sym (mul-one (m * up e)) ∙ h.1) ∙ mul-div_cancel n (down_pos e) in
    ap (λ (z : ℕ). cond t (neg_ℤ (pos (min z (2 ^ 31)))) (pos (min z (2 ^ 31 - 1)))) q
    ∙ ap (λ (b : Bool). cond b (neg_ℤ (pos (min n (2 ^ 31)))) (pos (min n (2 ^ 31 - 1)))) h.0
    ∙ ap (λ (z : ℕ). cond s (neg_ℤ (pos z)) (pos (min n (2 ^ 31 - 1)))) (kept n (2 ^ 31) small)
    ∙ ap (λ (z : ℕ). cond s (neg_ℤ (pos n)) (pos z)) (kept_less n (2 ^ 31) small)
  where
    kept : (n c : ℕ) → n < c → min n c ≡ n
    kept n c h = omega arith

    kept_less : (n c : ℕ) → n < c → min n (c - 1) ≡ n
    kept_less n c h = omega arith

module _ (a : Action) (w n : ℕ) (s : Bool) (m : ℕ) (e : ℤ) (is : a.window_multiplier ≡ fin s m e) (small : w < 2 ^ 32)
    (whole : w * (m * up e) ≡ n * down e) (range : n < 2 ^ 31) where
  -- the sum is the paper's
  pub paper_sum : sum_of a w ≡ signed s n +ℤ a.window_increment
  paper_sum =
      ap (λ (z : ℤ). z +ℤ a.window_increment)
      (ap (λ (x : Float). to_signed 31 (mul binary64 (of_int binary64 (pos w)) x)) is
      ∙ cut-whole (mul binary64 (of_int binary64 (pos w)) (fin s m e)) s n
      (mul_whole (of_int binary64 (pos w)) w n s m e (of_whole w small) whole (more n 31 53 range tt)) range)

  -- and so is the window, where the sum is in range
  pub paper_window : (r : ℕ) → signed s n +ℤ a.window_increment ≡ pos r → r ≤ 1000000 → window_of a w ≡ r
  unfolding window_of clamp
  paper_window r total h = ap clamp (paper_sum ∙ total) ∙ kept r 1000000 h
    where
      kept : (n c : ℕ) → n ≤ c → min n c ≡ n
      kept n c h = omega arith

  -- and where it is not, the end of the range
  pub paper_clamped : window_of a w ≡ clamp (signed s n +ℤ a.window_increment)
  unfolding window_of
  paper_clamped = ap clamp paper_sum
