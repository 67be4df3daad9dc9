-- The bit patterns of binary64: reading and writing undo each other but for NaN. Assumes nothing.
use Rattle.std.proofs.Common.{◌≡◌, ℕ, ◌^◌, ◌<◌, Bool, false, not, T, sym, ap, ◌∙◌, subst}
use lib.Ieee.{Float, binary64, fits, is_nan, nan_bits, to_bits, of_bits}
use lib.Ieee.Bits.{of_bits-to_bits, to_bits-of_bits, to_bits-lt, of_bits-fits, nan_bits_is}

-- ---- there and back
pub bits_back : (x : Float) → T (fits binary64 x) → of_bits binary64 (to_bits binary64 x) ≡ x
bits_back x h = of_bits-to_bits binary64 x h

pub bits_below : (x : Float) → T (fits binary64 x) → to_bits binary64 x < 2 ^ 64
bits_below x h = to_bits-lt binary64 x h

pub read_fits : (b : ℕ) → T (fits binary64 (of_bits binary64 b))
read_fits b = of_bits-fits binary64 b

pub read_back : (b : ℕ) → b < 2 ^ 64 → nan_bits binary64 b ≡ false → to_bits binary64 (of_bits binary64 b) ≡ b
read_back b h e = to_bits-of_bits binary64 b h (subst (λ (t : Bool). T (not t)) (sym e ∙ nan_bits_is binary64 b) tt)

pub bits_nan : (x : Float) → T (fits binary64 x) → nan_bits binary64 (to_bits binary64 x) ≡ is_nan x
bits_nan x h = nan_bits_is binary64 (to_bits binary64 x) ∙ ap is_nan (bits_back x h)

-- two floats of the format with the same bits are the same
pub bits_same : (x y : Float) → T (fits binary64 x) → T (fits binary64 y) → to_bits binary64 x ≡ to_bits binary64 y → x ≡ y
bits_same x y h k e = sym (bits_back x h) ∙ ap (of_bits binary64) e ∙ bits_back y k
