-- Big-endian bytes: their count and range, the number that they stand for, and when two lists are the same. Assumes nothing.
use mathlib.Core.Path.{◌≡◌, refl, sym, ap, subst, ◌∙◌}
use mathlib.Core.Bool.{Bool, true, false, ◌&&◌, true≢false}
use mathlib.Core.List.{List, [], ◌∷◌, ◌++◌, append_assoc, append-nil}
use Prim.Native.Nat.{ℕ, zero, suc, ◌+◌, ◌*◌, ◌/◌, ◌%◌, ◌^◌, ◌<◌, ◌≤◌}
use mathlib.Core.Logic.{inl, inr}
use native.Mathlib.Nat.{pow-suc, pow-le-pow_right, eq-or-lt_of_le}
use native.Mathlib.Numerals.{add-one}
use native.Mathlib.Omega.{arith}
use borrow.Author.Tests.{eq-eqb}
use lib.Dec.{eqb}
use Rattle.std.specs.Prelude.{◌==◌}
use Rattle.std.specs.Int.{w64, from_be_bytes}
use Rattle.std.specs.Cmp.Lexicographic.{pointwise, same_text}
use lib.ListN.{length, get_or, set, take, drop, length-append, length-drop, length-take}
use Rattle.std.proofs.lemmas.List.{get_or-set_other}
use Rattle.std.proofs.lemmas.Grind.{get_or-set_at}
use lib.Seq.{take_at, take_all, take-suc, get_or-drop, get_or-take}
use Rattle.wire.specs.Bytes.{bytes_of, shorts_bytes, value_from, number_at, same_bytes}

-- ---- the bytes of a number
pub bytes_count : (n x : ℕ) → length (bytes_of n x) ≡ n
unfolding bytes_of
bytes_count zero x = refl
bytes_count (suc n) x = let h = bytes_count n (x / 256) in simp length-append (omega arith)

snoc_below : (xs : List ℕ) (b : ℕ) → ((k : ℕ) → get_or xs k 0 < 256) → b < 256 → (k : ℕ) → get_or (xs ++ (b ∷ [])) k 0 < 256
snoc_below [] b h l zero = l
snoc_below [] b h l (suc k) = omega arith
snoc_below (x ∷ xs) b h l zero = h zero
snoc_below (x ∷ xs) b h l (suc k) = snoc_below xs b (λ j. h (suc j)) l k

-- each element is a byte
pub bytes_below : (n x k : ℕ) → get_or (bytes_of n x) k 0 < 256
unfolding bytes_of
bytes_below zero x k = omega arith
bytes_below (suc n) x k = snoc_below (bytes_of n (x / 256)) (x % 256) (bytes_below n (x / 256)) (omega arith) k

-- ---- numbers in two bytes each
pub shorts_count : (xs : List ℕ) → length (shorts_bytes xs) ≡ 2 * length xs
unfolding shorts_bytes
shorts_count [] = refl
shorts_count (x ∷ xs) =
    let h = shorts_count xs in
    let e = bytes_count 2 x in
    length-append (bytes_of 2 x) (shorts_bytes xs) ∙ omega arith

pub shorts_append : (xs ys : List ℕ) → shorts_bytes (xs ++ ys) ≡ shorts_bytes xs ++ shorts_bytes ys
unfolding shorts_bytes
shorts_append [] ys = refl
shorts_append (x ∷ xs) ys =
    ap (λ (r : List ℕ). bytes_of 2 x ++ r) (shorts_append xs ys) ∙ sym (append_assoc (bytes_of 2 x) (shorts_bytes xs) (shorts_bytes ys))

-- one number more
pub shorts_more : (xs : List ℕ) (x : ℕ) → shorts_bytes (xs ++ x ∷ []) ≡ shorts_bytes xs ++ bytes_of 2 x
unfolding shorts_bytes
shorts_more xs x = shorts_append xs (x ∷ []) ∙ ap (λ (r : List ℕ). shorts_bytes xs ++ r) (append-nil (bytes_of 2 x))

pub value_append : (acc : ℕ) (xs ys : List ℕ) → value_from acc (xs ++ ys) ≡ value_from (value_from acc xs) ys
unfolding value_from
value_append acc [] ys = refl
value_append acc (x ∷ xs) ys = value_append (acc * 256 + x) xs ys

pub value_back : (n x : ℕ) → x < 256 ^ n → value_from 0 (bytes_of n x) ≡ x
unfolding bytes_of value_from
value_back zero x l = omega arith
value_back (suc n) x l =
    let p : 256 ^ suc n ≡ 256 ^ n * 256 = pow-suc 256 n in
    let e = value_back n (x / 256) (omega arith) in
    value_append 0 (bytes_of n (x / 256)) (x % 256 ∷ []) ∙ (omega arith)

-- ---- a number that stands in a list
pub number_stands : (bytes : List ℕ) (at n x : ℕ) (rest : List ℕ) → x < 256 ^ n → drop at bytes ≡ bytes_of n x ++ rest → number_at bytes at n ≡ x
number_stands bytes at n x rest l e =
    ap (λ (r : List ℕ). value_from 0 (take n r)) e ∙ ap (value_from 0) (take_at (bytes_of n x) rest n (bytes_count n x)) ∙ value_back n x l

-- ---- the same bytes
pub same_self : (xs : List ℕ) → same_bytes xs xs ≡ true
unfolding same_bytes
same_self [] = refl
same_self (x ∷ xs) = rw (eq-eqb x x refl) (same_self xs)

pub same_of : (xs ys : List ℕ) → xs ≡ ys → same_bytes xs ys ≡ true
same_of xs ys e = ap (same_bytes xs) (sym e) ∙ same_self xs

pub never : false ≡ true → ⊥
never e = true≢false (sym e)

-- `a == b` of two slices
pub same_tested : (xs ys : List ℕ) → pointwise ◌==◌ xs ys ≡ same_bytes xs ys
unfolding same_bytes
same_tested [] [] = refl
same_tested [] (y ∷ ys) = refl
same_tested (x ∷ xs) [] = refl
same_tested (x ∷ xs) (y ∷ ys) = ap (λ (b : Bool). eqb x y && b) (same_tested xs ys)

pub same_is : (xs ys : List ℕ) → same_bytes xs ys ≡ true → xs ≡ ys
same_is xs ys h = same_text xs ys (sym (same_tested xs ys ∙ h))

pub false_of : (b : Bool) → (b ≡ true → ⊥) → b ≡ false
false_of true h = absurd (h refl)
false_of false h = refl

-- ---- reading a number byte by byte
pub number_none : (bytes : List ℕ) (at : ℕ) → 0 ≡ number_at bytes at 0
unfolding value_from
number_none bytes at = refl

value_more : (bs : List ℕ) (i x : ℕ) → i < length bs → x ≡ value_from 0 (take i bs) → x * 256 + get_or bs i 0 ≡ value_from 0 (take (i + 1) bs)
unfolding value_from
value_more bs i x l e =
    let t : take (i + 1) bs ≡ take i bs ++ (get_or bs i 0 ∷ []) = ap (λ (k : ℕ). take k bs) (add-one i) ∙ take-suc bs i 0 l in
    sym (ap (value_from 0) t ∙ value_append 0 (take i bs) (get_or bs i 0 ∷ []) ∙ omega arith)

pub number_more : (bytes : List ℕ) (at i x : ℕ) → at + i < length bytes → x ≡ number_at bytes at i
    → x * 256 + get_or bytes (at + i) 0 ≡ number_at bytes at (i + 1)
number_more bytes at i x l e =
    ap (λ (b : ℕ). x * 256 + b) (sym (get_or-drop at bytes i 0)) ∙ value_more (drop at bytes) i x (omega (arith, length-drop at bytes)) e

-- x is the number in the first i of some bytes
pub record Read (bs : List ℕ) (i x : ℕ) : Type 0 where
  pub value : x ≡ value_from 0 (take i bs)
  pub below : x < 256 ^ i

pub read_none : (bs : List ℕ) → Read bs 0 0
unfolding value_from
read_none bs = record { value = refl; below = omega arith }

pub read_more : (bs : List ℕ) (i x b : ℕ) → i < length bs → Read bs i x → b ≡ get_or bs i 0 → b < 256 → Read bs (i + 1) (x * 256 + b)
read_more bs i x b l r e h =
    let u = r.below in
    let p : 256 ^ (i + 1) ≡ 256 ^ i * 256 = ap (λ (k : ℕ). 256 ^ k) (add-one i) ∙ pow-suc 256 i in
    record { value = ap (λ (k : ℕ). x * 256 + k) e ∙ value_more bs i x l r.value; below = omega arith }

pub below_most : (i n x : ℕ) → x < 256 ^ i → i ≤ n → x < 256 ^ n
below_most i n x h l = let p : 256 ^ i ≤ 256 ^ n = pow-le-pow_right (omega arith) l in omega arith

-- the most that is read before the last of eight bytes
pub read_seven : (bs : List ℕ) (i x : ℕ) → Read bs i x → i < 8 → x < 72057594037927936
read_seven bs i x r h = below_most i 7 x r.below (omega arith)

-- bytes of a list that are none or n at most
pub field_length : (bytes : List ℕ) (at n : ℕ) {bs : List ℕ} → bs ≡ take n (drop at bytes) → length bs ≤ n
field_length bytes at n e = omega (arith, ap length e, length-take n (drop at bytes))

pub read_all : (bs : List ℕ) (i x : ℕ) (bytes : List ℕ) (at n : ℕ) → bs ≡ take n (drop at bytes) → Read bs i x → length bs ≤ i → i ≤ length bs
    → (x ≡ number_at bytes at n) × (x < 256 ^ n)
read_all bs i x bytes at n e r h m =
    let l = field_length bytes at n e in
    (r.value ∙ ap (value_from 0) (take_all i bs h ∙ e), below_most i n x r.below (omega arith))

-- ---- numbers one after the other into an array: one more
pub counts_more : (f : ℕ → ℕ) (xs : List ℕ) (i x : ℕ) → i < length xs → ((k : ℕ) → k < i → get_or xs k 0 ≡ f k) → x ≡ f i → (k : ℕ) → k < i + 1
    → get_or (set xs i x) k 0 ≡ f k
counts_more f xs i x l h e k m =
    elim (eq-or-lt_of_le (at_most k i m)) [
      | inl p ↦ get_or-set_at xs i k x 0 p l ∙ e ∙ ap f (sym p)
      | inr q ↦ get_or-set_other xs i k x 0 (λ p. apart p q) ∙ h k q
    ]
  where
    at_most : (k i : ℕ) → k < i + 1 → k ≤ i
    at_most k i m = omega arith

    apart : {k i : ℕ} → k ≡ i → k < i → ⊥
    apart p q = omega arith

-- bytes that end early stand for a shorter number
pub number_short : (bytes : List ℕ) (at i n x : ℕ) → length bytes ≤ at + i → i ≤ n → x ≡ number_at bytes at i → x ≡ number_at bytes at n
number_short bytes at i n x l h e =
    let r = drop at bytes in
    let d = length-drop at bytes in
    e ∙ ap (value_from 0) (take_all i r (omega arith) ∙ sym (take_all n r (omega arith)))

-- eight bytes as one word
pub eight_read : (bs bytes : List ℕ) (at n : ℕ) {x : ℕ} → bs ≡ take n (drop at bytes) → 8 ≤ length bs → length bs < 9 → ((i : ℕ) → get_or bytes i 0 < 256)
    → x ≡ from_be_bytes w64 (get_or bs 0 0 ∷ get_or bs 1 0 ∷ get_or bs 2 0 ∷ get_or bs 3 0 ∷ get_or bs 4 0 ∷ get_or bs 5 0 ∷ get_or bs 6 0 ∷ get_or bs 7 0 ∷ []) → (x ≡ number_at bytes at n) × (x < 256 ^ n)
eight_read bs bytes at n {x} e l u given h =
    let f = field_length bytes at n e in
    let small : (i : ℕ) → i < 8 → get_or bs i 0 < 256 =
    λ i b. subst (λ (v : ℕ). v < 256)
    (sym (ap (λ (ys : List ℕ). get_or ys i 0) e ∙ get_or-take n (drop at bytes) i 0 (omega (arith, f, l, b)) ∙ get_or-drop at bytes i 0)) (given (at + i)) in
    let r1 = read_more bs 0 _ (get_or bs 0 0) (omega (arith, l)) (read_none bs) refl (small 0 (omega arith)) in
    let r2 = read_more bs 1 _ (get_or bs 1 0) (omega (arith, l)) (r1) refl (small 1 (omega arith)) in
    let r3 = read_more bs 2 _ (get_or bs 2 0) (omega (arith, l)) (r2) refl (small 2 (omega arith)) in
    let r4 = read_more bs 3 _ (get_or bs 3 0) (omega (arith, l)) (r3) refl (small 3 (omega arith)) in
    let r5 = read_more bs 4 _ (get_or bs 4 0) (omega (arith, l)) (r4) refl (small 4 (omega arith)) in
    let r6 = read_more bs 5 _ (get_or bs 5 0) (omega (arith, l)) (r5) refl (small 5 (omega arith)) in
    let r7 = read_more bs 6 _ (get_or bs 6 0) (omega (arith, l)) (r6) refl (small 6 (omega arith)) in
    let r8 = read_more bs 7 _ (get_or bs 7 0) (omega (arith, l)) (r7) refl (small 7 (omega arith)) in
    read_all bs 8 x bytes at n e (subst (Read bs 8) (omega (arith, h)) r8) (omega (arith, u)) l
