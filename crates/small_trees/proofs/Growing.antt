-- What a list that passes the test of a growth is, number by number. Assumes nothing.
use mathlib.Core.Path.{◌≡◌}
use mathlib.Core.Bool.{true, false}
use mathlib.Core.List.{List, [], ◌∷◌}
use Prim.Native.Nat.{ℕ, suc, ◌<◌, ◌≤◌}
use native.Mathlib.Omega.{arith}
use lib.ListN.{length}
use Rattle.std.proofs.lemmas.Bool.Decides.{nat_tests}
use Rattle.rule_tree.specs.Nodes.{node_count}
use Rattle.small_trees.specs.Lists.{names, grows_from, is_growth}

-- ---- a list that does not name x
pub unnamed_head : (y : ℕ) (ys : List ℕ) (x : ℕ) → names (y ∷ ys) x ≡ false → y ≡ x → ⊥
unfolding names
unnamed_head y ys x h = grind (arith, nat_tests, h)

pub unnamed_rest : (y : ℕ) (ys : List ℕ) (x : ℕ) → names (y ∷ ys) x ≡ false → names ys x ≡ false
unfolding names
unnamed_rest y ys x h = grind (arith, nat_tests, h)

-- ---- one split of a growth
pub record Step (done : List ℕ) (k i : ℕ) (rest : List ℕ) : Type 0 where
  pub node : i < node_count k
  pub leaf : names done i ≡ false
  pub more : grows_from (i ∷ done) (suc k) rest ≡ true

pub stepped : (done : List ℕ) (k i : ℕ) (rest : List ℕ) → grows_from done k (i ∷ rest) ≡ true → Step done k i rest
unfolding grows_from
stepped done k i rest h = record { node = grind (arith, nat_tests, h); leaf = grind (arith, nat_tests, h); more = grind (arith, nat_tests, h) }

pub growth_short : (n : ℕ) (xs : List ℕ) → is_growth n xs ≡ true → length xs ≤ n
unfolding is_growth
growth_short n xs h = grind (arith, nat_tests, h)

pub growth_grows : (n : ℕ) (xs : List ℕ) → is_growth n xs ≡ true → grows_from [] 0 xs ≡ true
unfolding is_growth
growth_grows n xs h = grind (arith, nat_tests, h)

-- ---- the first number is 0, the second one of 1 to 8, the third another one of 1 to 16
pub growth_first : (n i : ℕ) (rest : List ℕ) → is_growth n (i ∷ rest) ≡ true → i ≡ 0
growth_first n i rest h = omega (arith, (stepped [] 0 i rest (growth_grows n (i ∷ rest) h)).node)

pub record Second (a : ℕ) : Type 0 where
  pub low : 1 ≤ a
  pub high : a < 9

pub growth_second : (n a : ℕ) (rest : List ℕ) → is_growth n (0 ∷ a ∷ rest) ≡ true → Second a
unfolding names grows_from is_growth
growth_second n a rest h = record { low = grind (arith, nat_tests, h); high = grind (arith, nat_tests, h) }

pub record Third (a b : ℕ) : Type 0 where
  pub low : 1 ≤ b
  pub high : b < 17
  pub apart : a ≡ b → ⊥

pub growth_third : (n a b : ℕ) (rest : List ℕ) → is_growth n (0 ∷ a ∷ b ∷ rest) ≡ true → Third a b
unfolding names grows_from is_growth
growth_third n a b rest h = record { low = grind (arith, nat_tests, h); high = grind (arith, nat_tests, h); apart = λ e. grind (arith, nat_tests, h, e) }

pub second_grows : (n a : ℕ) → 2 ≤ n → Second a → is_growth n (0 ∷ a ∷ []) ≡ true
unfolding names grows_from is_growth
second_grows n a l s = let p = s.low in let q = s.high in grind (arith, nat_tests)

pub third_grows : (n a b : ℕ) → 3 ≤ n → Second a → Third a b → is_growth n (0 ∷ a ∷ b ∷ []) ≡ true
unfolding names grows_from is_growth
third_grows n a b l s t =
    let p = s.low in
    let q = s.high in
    let r = t.low in
    let u = t.high in
    let d = t.apart in
    grind (arith, nat_tests)
