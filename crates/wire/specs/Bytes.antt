-- Numbers as big-endian bytes.
use Rattle.std.specs.Prelude.{Bool, true, false, ◌&&◌, cond, List, [], ◌∷◌, ◌++◌, ℕ, zero, suc, ◌+◌, ◌*◌, ◌/◌, ◌%◌, take, drop, eqb}

-- x in n bytes, the highest first
unfoldable pub bytes_of : ℕ → ℕ → List ℕ
bytes_of zero x = []
bytes_of (suc n) x = bytes_of n (x / 256) ++ (x % 256 ∷ [])

-- numbers in two bytes each
unfoldable pub shorts_bytes : List ℕ → List ℕ
unfolding bytes_of
shorts_bytes [] = []
shorts_bytes (x ∷ xs) = bytes_of 2 x ++ shorts_bytes xs

-- the number that bytes stand for, after those that gave acc
unfoldable pub value_from : ℕ → List ℕ → ℕ
value_from acc [] = acc
value_from acc (b ∷ bs) = value_from (acc * 256 + b) bs

-- the number in n bytes from place at on
abbrev pub number_at : List ℕ → ℕ → ℕ → ℕ
number_at bytes at n = value_from 0 (take n (drop at bytes))

abbrev pub flag_byte : Bool → ℕ
flag_byte b = cond b 1 0

unfoldable pub same_bytes : List ℕ → List ℕ → Bool
same_bytes [] [] = true
same_bytes [] (y ∷ ys) = false
same_bytes (x ∷ xs) [] = false
same_bytes (x ∷ xs) (y ∷ ys) = eqb x y && same_bytes xs ys
