-- 02, request 14: "Generate all split lists of length 0 to n, n at most 3, shorter first and then by their node numbers in order."
use Rattle.std.specs.Prelude.{Bool, true, false, not, ◌&&◌, ◌||◌, cond, List, [], ◌∷◌, ◌++◌, ℕ, zero, suc, length, eqb, leb, ltb}
use Rattle.rule_tree.specs.Nodes.{node_count}

-- "n at most 3"
abbrev pub most_listed : ℕ
most_listed = 3

-- a list names x
unfoldable pub names : List ℕ → ℕ → Bool
names [] x = false
names (y ∷ ys) x = eqb y x || names ys x

-- xs with one split more, of each leaf among the first n nodes, by their numbers: a node that was split is no leaf
unfoldable pub one_more_of : List ℕ → ℕ → List (List ℕ)
unfolding names
one_more_of xs zero = []
one_more_of xs (suc i) = one_more_of xs i ++ cond (names xs i) [] ((xs ++ (i ∷ [])) ∷ [])

unfoldable pub each_more : List (List ℕ) → List (List ℕ)
unfolding one_more_of
each_more [] = []
each_more (xs ∷ rest) = one_more_of xs (node_count (length xs)) ++ each_more rest

-- the lists of k splits, "by their node numbers in order"
unfoldable pub growths : ℕ → List (List ℕ)
unfolding each_more
growths zero = [] ∷ []
growths (suc k) = each_more (growths k)

-- "of length 0 to n .., shorter first"
unfoldable pub up_to : ℕ → List (List ℕ)
unfolding growths
up_to zero = growths 0
up_to (suc n) = up_to n ++ growths (suc n)

unfoldable pub same : List ℕ → List ℕ → Bool
same [] [] = true
same [] (y ∷ ys) = false
same (x ∷ xs) [] = false
same (x ∷ xs) (y ∷ ys) = eqb x y && same xs ys

-- ---- the same lists by a test of their own, in which nothing is generated: each number names a leaf then, done being the splits before it
unfoldable pub grows_from : List ℕ → ℕ → List ℕ → Bool
unfolding names
grows_from done k [] = true
grows_from done k (i ∷ rest) = ltb i (node_count k) && (not (names done i) && grows_from (i ∷ done) (suc k) rest)

-- a way to grow a tree by at most n splits
unfoldable pub is_growth : ℕ → List ℕ → Bool
unfolding grows_from
is_growth n xs = leb (length xs) n && grows_from [] 0 xs
