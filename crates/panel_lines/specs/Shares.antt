-- 02, request 5, "Shares that add up": "Each share is cut to whole as before. The thousandths missing go one each to the leaves with the
-- largest remainders, ties to the lower node. With total 0 all remain 0." The counts are one a node, and leaf says which nodes are leaves.
use Rattle.std.specs.Prelude.{◌≡◌, Bool, true, ◌&&◌, ◌||◌, cond, List, ℕ, zero, suc, ◌+◌, ◌-◌, ◌*◌, ◌/◌, ◌%◌, ◌<◌, ◌≤◌, length, get_or, eqb, ltb}
use Rattle.rule_tree.specs.Lists.{count_below, tabulate, total}

-- f 0 + f 1 + .. of n numbers
unfoldable pub sum_below : ℕ → (ℕ → ℕ) → ℕ
sum_below zero f = 0
sum_below (suc n) f = f n + sum_below n f

-- 01: "share = 1000 × count / total cut to whole", and the remainder
abbrev pub cut_at : List ℕ → ℕ → ℕ
cut_at xs i = 1000 * get_or xs i 0 / total xs

abbrev pub remainder_at : List ℕ → ℕ → ℕ
remainder_at xs i = 1000 * get_or xs i 0 % total xs

-- "The thousandths missing": what the leaves' cut shares leave of 1000
unfoldable pub missing_among : (ℕ → Bool) → List ℕ → ℕ
unfolding sum_below
missing_among leaf xs = 1000 - sum_below (length xs) (λ i. cond (leaf i) (cut_at xs i) 0)

-- "the largest remainders, ties to the lower node": j comes before i
unfoldable pub ahead : (ℕ → ℕ) → ℕ → ℕ → Bool
ahead remainder i j = ltb (remainder i) (remainder j) || (eqb (remainder j) (remainder i) && ltb j i)

-- how many leaves come before i
abbrev pub rank_among : (ℕ → Bool) → List ℕ → ℕ → ℕ
rank_among leaf xs i = count_below (length xs) (λ j. leaf j && ahead (remainder_at xs) i j)

-- the share of leaf i: "one each" to as many leaves as thousandths are missing; "With total 0 all remain 0"
unfoldable pub share_among : (ℕ → Bool) → List ℕ → ℕ → ℕ
unfolding ahead missing_among
share_among leaf xs i =
    cond (eqb (total xs) 0) 0 (cut_at xs i + cond (ltb (rank_among leaf xs i) (missing_among leaf xs)) 1 0)

-- ---- what the code is held to
-- the same among all entries, which the code counts: a parent's 0 changes no leaf's share (proofs/Shares, among_leaves)
abbrev pub every_entry : ℕ → Bool
every_entry i = true

abbrev pub missing_in : List ℕ → ℕ
missing_in xs = missing_among every_entry xs

abbrev pub rank_in : List ℕ → ℕ → ℕ
rank_in xs i = count_below (length xs) (λ j. ahead (remainder_at xs) i j)

-- by remainders in a list
abbrev pub rank_of : List ℕ → ℕ → ℕ
rank_of remainders i = count_below (length remainders) (λ j. ahead (λ k. get_or remainders k 0) i j)

abbrev pub share_in : List ℕ → ℕ → ℕ
share_in xs i = share_among every_entry xs i

-- the counts' total, at most 2^53
pub record Totalled (xs : List ℕ) (all : ℕ) : Type 0 where
  pub few : length xs ≤ 513
  pub sum : all ≡ total xs
  pub held : all ≤ 9007199254740992

-- counts that are not all 0
pub record Some (xs : List ℕ) (all : ℕ) : Type 0 where
  pub totalled : Totalled xs all
  pub some : 0 < all

-- and an entry of them, with the remainders and the thousandths missing
pub record Entry (xs : List ℕ) (all : ℕ) (remainders : List ℕ) (missing i : ℕ) : Type 0 where
  pub counts : Some xs all
  pub left : remainders ≡ tabulate (length xs) (remainder_at xs)
  pub lacking : missing ≡ missing_in xs
  pub inside : i < length xs
