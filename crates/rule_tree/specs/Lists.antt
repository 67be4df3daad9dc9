-- Lists and numbers that the definitions of the tree are written with.
use Rattle.std.specs.Prelude.{Bool, true, ◌&&◌, cond, List, [], ◌∷◌, ◌++◌, ℕ, zero, suc, ◌+◌, eqb, set}

-- f holds of every number below n
unfoldable pub all_below : ℕ → (ℕ → Bool) → Bool
all_below zero f = true
all_below (suc n) f = all_below n f && f n

-- how many numbers below n have f
unfoldable pub count_below : ℕ → (ℕ → Bool) → ℕ
count_below zero f = 0
count_below (suc n) f = cond (f n) 1 0 + count_below n f

-- how often x stands in a list
unfoldable pub occurrences : ℕ → List ℕ → ℕ
occurrences x [] = 0
occurrences x (y ∷ ys) = cond (eqb y x) 1 0 + occurrences x ys

-- f 0, f 1, .. of n elements
unfoldable pub tabulate : {A : Type 0} → ℕ → (ℕ → A) → List A
tabulate zero f = []
tabulate (suc n) f = tabulate n f ++ (f n ∷ [])

unfoldable pub total : List ℕ → ℕ
total [] = 0
total (x ∷ xs) = x + total xs

-- n elements from place at on become v
unfoldable pub fill : {A : Type 0} → List A → ℕ → ℕ → A → List A
fill xs at zero v = xs
fill xs at (suc n) v = set (fill xs at n v) (at + n) v
