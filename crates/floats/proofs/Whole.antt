-- Where a float cut to a whole number is held to an end of the range, and where two ranges give the same. Assumes nothing.
use Rattle.std.proofs.Common.{◌≡◌, ℕ, ◌+◌, ◌-◌, ◌*◌, ◌/◌, ◌^◌, ◌<◌, ◌≤◌, min, true, false, T, pos, neg_ℤ, refl, ap}
use Rattle.std.proofs.Common.{div-lt_iff_lt-mul, mul-pos, le-div_iff_mul-le, arith, ltb→lt, pow_pos, pow_mono}
use lib.Ieee.{Float, nan, inf, fin, up, down, le, lt, to_signed}
use lib.Ieee.Fits.{down_pos}
use Rattle.floats.proofs.Order.{leq→Le}

-- the cut of a quotient at c
cut : (q c : ℕ) → c ≤ q → min q c ≡ c
cut q c h = omega arith

scaled : (c d a : ℕ) → c * 1 * d ≤ a * 1 → c * d ≤ a
scaled c d a l = omega arith

scaled_lt : (a c d : ℕ) → a * 1 < c * 1 * d → a < c * d
scaled_lt a c d l = omega arith

at_least : (c d a : ℕ) → 0 < d → c * d ≤ a → c ≤ a / d
at_least c d a p l = (le-div_iff_mul-le p).1 l

under : (c d a : ℕ) → 0 < d → a < c * d → a / d < c
under c d a p l = (div-lt_iff_lt-mul p).1 l

-- with k bits or with h, where q is below the end
kept_both : (q c d : ℕ) → q < c → c ≤ d → min q d ≡ min q c
kept_both q c d h k = omega arith

ends : (a b : ℕ) → a ≤ b → a - 1 ≤ b - 1
ends a b h = omega arith

module _ (h : ℕ) where
  pub whole_above : (x : Float) → 0 < 2 ^ h - 1 → T (le (fin false (2 ^ h - 1) (pos 0)) x) → to_signed h x ≡ pos (2 ^ h - 1)
  unfolding to_signed le
  whole_above nan p k = absurd k
  whole_above (inf true) p k = absurd k
  whole_above (inf false) p k = refl
  whole_above (fin false m e) p k =
      ap pos (cut (m * up e / down e) (2 ^ h - 1) (at_least (2 ^ h - 1) (down e) (m * up e) (down_pos e)
      (scaled (2 ^ h - 1) (down e) (m * up e) (leq→Le false ((2 ^ h - 1) * 1 * down e) false (m * up e * 1) k))))
  whole_above (fin true m e) p k =
      absurd (no (m * up e) (2 ^ h - 1) (down e) (mul-pos p (down_pos e))
      (leq→Le false ((2 ^ h - 1) * 1 * down e) true (m * up e * 1) k))
    where
      no : (a c d : ℕ) → 0 < c * d → c * 1 * d + a * 1 ≤ 0 → ⊥
      no a c d p l = omega arith

  pub whole_below : (x : Float) → T (le x (fin true 1 (pos h))) → to_signed h x ≡ neg_ℤ (pos (2 ^ h))
  unfolding to_signed le
  whole_below nan k = absurd k
  whole_below (inf true) k = refl
  whole_below (inf false) k = absurd k
  whole_below (fin true m e) k =
      ap (λ (q : ℕ). neg_ℤ (pos q)) (cut (m * up e / down e) (2 ^ h) (at_least (2 ^ h) (down e) (m * up e) (down_pos e)
      (turned (2 ^ h) (down e) (m * up e) (leq→Le true (m * up e * 1) true (1 * 2 ^ h * down e) k))))
    where
      turned : (c d a : ℕ) → 1 * c * d ≤ a * 1 → c * d ≤ a
      turned c d a l = omega arith
  whole_below (fin false m e) k =
      absurd (no (m * up e) (2 ^ h) (down e) (mul-pos (pow_pos h) (down_pos e))
      (leq→Le false (m * up e * 1) true (1 * 2 ^ h * down e) k))
    where
      no : (a c d : ℕ) → 0 < c * d → a * 1 + 1 * c * d ≤ 0 → ⊥
      no a c d p l = omega arith

  pub whole_inside_lem : (k : ℕ) (x : Float) → h ≤ k → T (lt (fin true 1 (pos h)) x) → T (lt x (fin false (2 ^ h - 1) (pos 0)))
      → to_signed k x ≡ to_signed h x
  unfolding to_signed lt
  whole_inside_lem k nan w a b = absurd a
  whole_inside_lem k (inf true) w a b = absurd a
  whole_inside_lem k (inf false) w a b = absurd b
  whole_inside_lem k (fin false m e) w a b =
      ap pos (kept_both (m * up e / down e) (2 ^ h - 1) (2 ^ k - 1)
      (under (2 ^ h - 1) (down e) (m * up e) (down_pos e)
      (scaled_lt (m * up e) (2 ^ h - 1) (down e) (ltb→lt (m * up e * 1) ((2 ^ h - 1) * 1 * down e) b)))
      (ends (2 ^ h) (2 ^ k) (pow_mono w)))
  whole_inside_lem k (fin true m e) w a b =
      ap (λ (q : ℕ). neg_ℤ (pos q)) (kept_both (m * up e / down e) (2 ^ h) (2 ^ k)
      (under (2 ^ h) (down e) (m * up e) (down_pos e)
      (turned (m * up e) (2 ^ h) (down e) (ltb→lt (m * up e * 1) (1 * 2 ^ h * down e) a)))
      (pow_mono w))
    where
      turned : (a c d : ℕ) → a * 1 < 1 * c * d → a < c * d
      turned a c d l = omega arith
