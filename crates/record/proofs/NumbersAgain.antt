-- A number that is read from bytes is written again as those bytes, and so is a float whose bits are no other NaN's. Assumes nothing.
use mathlib.Core.Path.{◌≡◌, refl, sym, ap, subst, ◌∙◌}
use mathlib.Core.Bool.{Bool, true, false, not, ◌||◌}
use mathlib.Core.List.{List, [], ◌∷◌, ◌++◌}
use Prim.Native.Nat.{ℕ, zero, suc, ◌+◌, ◌*◌, ◌/◌, ◌%◌, ◌^◌, ◌<◌, ◌≤◌}
use native.Mathlib.Nat.{pow-suc}
use native.Mathlib.Omega.{arith}
use borrow.Author.Tests.{eq-eqb, ne_eqb, eqb-true}
use lib.Dec.{T, eqb}
use lib.Ieee.{Float, nan, inf, fin, binary64, nan_bits, is_nan, to_bits, of_bits, lt, le, eq}
use lib.Ieee.Bits.{nan_bits_is}
use lib.Ieee.Scale.{finite}
use lib.ListN.{length, get_or, take, drop}
use lib.Seq.{take-suc}
use Rattle.floats.proofs.Bits.{read_back}
use Rattle.floats.proofs.Order.{le_nn_r}
use Rattle.wire.specs.Bytes.{bytes_of, value_from, number_at}
use Rattle.record.specs.Accepted.{nan_accepted}
use Rattle.wire.proofs.Bytes.{value_append, below_most, never}

-- every element is a byte
abbrev pub Bytes : List ℕ → Type 0
Bytes xs = (i : ℕ) → get_or xs i 0 < 256

pub drop_bytes : (k : ℕ) (xs : List ℕ) → Bytes xs → Bytes (drop k xs)
drop_bytes zero xs h = h
drop_bytes (suc k) [] h = h
drop_bytes (suc k) (x ∷ xs) h = drop_bytes k xs (λ i. h (suc i))

-- at most n bytes after a number below 256 ^ m give one below 256 ^ (m + n)
value_below : (n m acc : ℕ) (xs : List ℕ) → Bytes xs → acc < 256 ^ m → value_from acc (take n xs) < 256 ^ (m + n)
unfolding value_from
value_below zero m acc xs h l = below_most m (m + 0) acc l (omega arith)
value_below (suc n) m acc [] h l = below_most m (m + suc n) acc l (omega arith)
value_below (suc n) m acc (x ∷ xs) h l =
    let p : 256 ^ suc m ≡ 256 ^ m * 256 = pow-suc 256 m in
    let b = h zero in
    subst (λ (k : ℕ). value_from (acc * 256 + x) (take n xs) < 256 ^ k) (let e : suc m + n ≡ m + suc n = omega arith in e)
    (value_below n (suc m) (acc * 256 + x) xs (λ i. h (suc i)) (omega arith))

pub number_below : (bytes : List ℕ) (at n : ℕ) → Bytes bytes → number_at bytes at n < 256 ^ n
number_below bytes at n h =
    subst (λ (k : ℕ). number_at bytes at n < 256 ^ k) (let e : 0 + n ≡ n = omega arith in e)
    (value_below n 0 0 (drop at bytes) (drop_bytes at bytes h) (omega arith))

-- ---- bytes to number to bytes
last_back : (n v b : ℕ) → b < 256 → bytes_of (suc n) (v * 256 + b) ≡ bytes_of n v ++ (b ∷ [])
unfolding bytes_of
last_back n v b l =
    let q : (v * 256 + b) / 256 ≡ v = omega arith in
    let r : (v * 256 + b) % 256 ≡ b = omega arith in
    ap (λ (k : ℕ). bytes_of n k ++ ((v * 256 + b) % 256 ∷ [])) q ∙ ap (λ (k : ℕ). bytes_of n v ++ (k ∷ [])) r

value_last : (xs : List ℕ) (b : ℕ) → value_from 0 (xs ++ (b ∷ [])) ≡ value_from 0 xs * 256 + b
unfolding value_from
value_last xs b = value_append 0 xs (b ∷ [])

bytes_none : (x : ℕ) → bytes_of 0 x ≡ []
unfolding bytes_of
bytes_none x = refl

pub bytes_again : (n : ℕ) (xs : List ℕ) → Bytes xs → n ≤ length xs → bytes_of n (value_from 0 (take n xs)) ≡ take n xs
bytes_again zero xs h l = bytes_none (value_from 0 (take 0 xs))
bytes_again (suc n) xs h l =
    let e = take-suc xs n 0 l in
    let b = get_or xs n 0 in
    ap (λ (r : List ℕ). bytes_of (suc n) (value_from 0 r)) e
    ∙ ap (bytes_of (suc n)) (value_last (take n xs) b)
    ∙ last_back n (value_from 0 (take n xs)) b (h n)
    ∙ ap (λ (r : List ℕ). r ++ (b ∷ [])) (bytes_again n xs h (omega arith))
    ∙ sym e

-- ---- bits to float to bits
-- the pattern that a NaN is written as
nan_pattern : to_bits binary64 nan ≡ 0x7ff8_0000_0000_0000
unfolding to_bits
nan_pattern = refl

bits_nan_is : (b : ℕ) → nan_bits binary64 b ≡ true → of_bits binary64 b ≡ nan
unfolding is_nan
bits_nan_is b h = go (of_bits binary64 b) (sym (nan_bits_is binary64 b) ∙ h)
  where
    go : (x : Float) → is_nan x ≡ true → x ≡ nan
    go nan e = refl
    go (inf s) e = absurd (never e)
    go (fin s m k) e = absurd (never e)

-- a pattern that is written again: no NaN's, or that one (plain_accepted, and back)
abbrev pub Plain : ℕ → Type 0
Plain b = to_bits binary64 (of_bits binary64 b) ≡ b

zero_number : nan_bits binary64 0 ≡ false
unfolding nan_bits
zero_number = refl

module _ (b : ℕ) (l : b < 2 ^ 64) where
  pub plain_number : nan_bits binary64 b ≡ false → Plain b
  plain_number e = read_back b l e

  pub plain_accepted : nan_accepted b ≡ true → Plain b
  plain_accepted h = go (nan_bits binary64 b) refl h
    where
      go : (n : Bool) → nan_bits binary64 b ≡ n → not n || eqb b 0x7ff8_0000_0000_0000 ≡ true → Plain b
      go false e h = plain_number e
      go true e h = ap (to_bits binary64) (bits_nan_is b e) ∙ nan_pattern ∙ sym (eqb-true b 0x7ff8_0000_0000_0000 h)

  pub accepted_plain : Plain b → nan_accepted b ≡ true
  accepted_plain p = go (nan_bits binary64 b) refl
    where
      go : (n : Bool) → nan_bits binary64 b ≡ n → not n || eqb b 0x7ff8_0000_0000_0000 ≡ true
      go false e = refl
      go true e = eq-eqb b 0x7ff8_0000_0000_0000 (sym p ∙ ap (to_bits binary64) (bits_nan_is b e) ∙ nan_pattern)

  pub plain_not_nan : (of_bits binary64 b ≡ nan → ⊥) → Plain b
  plain_not_nan n = go (nan_bits binary64 b) refl
    where
      go : (t : Bool) → nan_bits binary64 b ≡ t → Plain b
      go false e = plain_number e
      go true e = absurd (n (bits_nan_is b e))

  -- "are 0": the float's bits are 0 where the field is
  pub zero_same : eqb (to_bits binary64 (of_bits binary64 b)) 0 ≡ eqb b 0
  zero_same = go (nan_bits binary64 b) refl
    where
      other : b ≡ 0 → nan_bits binary64 b ≡ true → ⊥
      other z e = never (sym zero_number ∙ sym (ap (nan_bits binary64) z) ∙ e)

      go : (t : Bool) → nan_bits binary64 b ≡ t → eqb (to_bits binary64 (of_bits binary64 b)) 0 ≡ eqb b 0
      go false e = ap (λ (k : ℕ). eqb k 0) (plain_number e)
      go true e = ap (λ (k : ℕ). eqb k 0) (ap (to_bits binary64) (bits_nan_is b e) ∙ nan_pattern) ∙ sym (ne_eqb b 0 (λ z. other z e))

pub zero_plain : (b : ℕ) → b ≡ 0 → Plain b
zero_plain b e = plain_number b (omega arith) (ap (nan_bits binary64) e ∙ zero_number)

-- a float that is finite, above another, or equal to one is no NaN
pub not_nan_finite : (x : Float) → finite x ≡ true → x ≡ nan → ⊥
not_nan_finite x h e = never (ap finite (sym e) ∙ h)

pub not_nan_above : (x y : Float) → lt x y ≡ true → y ≡ nan → ⊥
unfolding lt
not_nan_above nan y h e = never h
not_nan_above (inf s) y h e = never (ap (lt (inf s)) (sym e) ∙ h)
not_nan_above (fin s m k) y h e = never (ap (lt (fin s m k)) (sym e) ∙ h)

pub not_nan_least : (y x : Float) → T (le y x) → x ≡ nan → ⊥
unfolding is_nan
not_nan_least y x h e = le_nn_r y nan (subst (λ (z : Float). T (le y z)) e h)

pub not_nan_equal : (x y : Float) → eq x y ≡ true → x ≡ nan → ⊥
unfolding eq
not_nan_equal x y h e = never (ap (λ (z : Float). eq z y) (sym e) ∙ h)
