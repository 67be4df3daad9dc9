-- The lists, computed: what comes after each, and that a list which is no growth is refused. Assumes nothing.
use mathlib.Core.Path.{◌≡◌, refl, sym, ap, subst, ◌∙◌}
use mathlib.Core.Bool.{Bool, true, false, not, ◌&&◌, ◌||◌, cond}
use mathlib.Core.Logic.{⊎_elim}
use mathlib.Core.List.{List, [], ◌∷◌}
use Prim.Native.Nat.{ℕ, ◌+◌, ◌<◌, ◌≤◌}
use native.Mathlib.Omega.{arith}
use borrow.Author.Tests.{le-leb, lt-leb}
use lib.Dec.{eqb, leb, ltb}
use Rattle.rule_tree.specs.Lists.{all_below}
use Rattle.rule_tree.proofs.Lists.{all_below_at}
use Rattle.rule_tree.proofs.Counting.{and_left, and_right}
use Rattle.rule_tree.proofs.Owners.{below_or_not}
use Rattle.std.proofs.lemmas.Bool.Decides.{nat_tests}
use Rattle.std.specs.Prelude.{Option, Some, None, Result, Ok, Err}
use Rattle.refusal.specs.declared.Refusal.{Refusal}
use Rattle.refusal.specs.declared.Refusal.TheVariants.{NoSplitList}
use Rattle.small_trees.specs.Lists.{most_listed, up_to, same, is_growth}
use Rattle.small_trees.specs.Calls.{among, after_in, next_of}

pub same_is : (x y : List ℕ) → same x y ≡ true → x ≡ y
unfolding same
same_is [] [] h = refl
same_is [] (y ∷ ys) h = cc
same_is (x ∷ xs) [] h = cc
same_is (x ∷ xs) (y ∷ ys) h =
    let a : x ≡ y = grind (arith, nat_tests, h) in
    let b : xs ≡ ys = same_is xs ys (grind (arith, nat_tests, h)) in
    cc

-- ---- an answer is not refused, and gives x
gives : Result (Option (List ℕ)) Refusal → Option (List ℕ) → Bool
gives (Ok (Some x)) (Some y) = same x y
gives (Ok (Some x)) None = false
gives (Ok None) (Some y) = false
gives (Ok None) None = true
gives (Err r) y = false

gives_is : (a : Result (Option (List ℕ)) Refusal) (o : Option (List ℕ)) → gives a o ≡ true → a ≡ Ok o
unfolding gives
gives_is (Ok (Some x)) (Some y) h = ap (λ (z : List ℕ). Ok (Some z)) (same_is x y h)
gives_is (Ok (Some x)) None h = cc
gives_is (Ok None) (Some y) h = cc
gives_is (Ok None) None h = refl
gives_is (Err r) y h = cc

-- ---- a list that fails what all of them pass is none of them
unfoldable pub all_of : (List ℕ → Bool) → List (List ℕ) → Bool
all_of p [] = true
all_of p (y ∷ ys) = p y && all_of p ys

none_of_them : (p : List ℕ → Bool) (x : List ℕ) (l : List (List ℕ)) → all_of p l ≡ true → p x ≡ false → among l x ≡ false
unfolding all_of among
none_of_them p x [] a h = refl
none_of_them p x (y ∷ ys) a h = by (same x y) refl (none_of_them p x ys (and_right (p y) (all_of p ys) a) h)
  where
    by : (b : Bool) → same x y ≡ b → among ys x ≡ false → b || among ys x ≡ false
    by true e r = let z : false ≡ true = sym (subst (λ (z : List ℕ). p z ≡ false) (same_is x y e) h) ∙ and_left (p y) (all_of p ys) a in cc
    by false e r = r

-- each of the lists is a growth of at most n splits
pub all_growths : all_below 4 (λ n. all_of (is_growth n) (up_to n)) ≡ true
unfolding all_below all_of is_growth up_to
all_growths = refl

next_refused : (n : ℕ) (x : List ℕ) → leb n most_listed && among (up_to n) x ≡ false → next_of n x ≡ Err NoSplitList
unfolding next_of
next_refused n x h = ap (λ (b : Bool). cond b (Ok (after_in (up_to n) x)) (Err NoSplitList)) h

pub next_above : (n : ℕ) (x : List ℕ) → 3 < n → next_of n x ≡ Err NoSplitList
next_above n x l = next_refused n x (rw (lt-leb n 3 (omega arith)))

pub next_out : (n : ℕ) (x : List ℕ) → is_growth n x ≡ false → next_of n x ≡ Err NoSplitList
next_out n x h =
    ⊎_elim
    (λ (l : n < 4).
    let none = none_of_them (is_growth n) x (up_to n) (all_below_at 4 n (λ k. all_of (is_growth k) (up_to k)) all_growths l) h in
    next_refused n x (rw (le-leb n 3 (omega arith), none)))
    (λ (l : 4 ≤ n). next_above n x (omega arith))
    (below_or_not n 4)

-- ---- what comes after a list of two, and of three
abbrev pub two_next : ℕ → ℕ → Option (List ℕ)
two_next n a = cond (ltb a 8) (Some (0 ∷ (a + 1) ∷ [])) (cond (eqb n 2) None (Some (0 ∷ 1 ∷ 2 ∷ [])))

abbrev pub leaf_next : ℕ → ℕ → Option (List ℕ)
leaf_next a b =
    cond (eqb (b + 1) a) (Some (0 ∷ a ∷ (b + 2) ∷ [])) (cond (ltb b 16) (Some (0 ∷ a ∷ (b + 1) ∷ [])) (cond (ltb a 8) (Some (0 ∷ (a + 1) ∷ 1 ∷ [])) None))

twos : all_below 4 (λ n. all_below 9 (λ a. not (is_growth n (0 ∷ a ∷ [])) || gives (next_of n (0 ∷ a ∷ [])) (two_next n a))) ≡ true
unfolding all_below is_growth next_of gives
twos = refl

threes : all_below 9 (λ a. all_below 17 (λ b. not (is_growth 3 (0 ∷ a ∷ b ∷ [])) || gives (next_of 3 (0 ∷ a ∷ b ∷ [])) (leaf_next a b))) ≡ true
unfolding all_below is_growth next_of gives
threes = refl

pub implied : (p q : Bool) → not p || q ≡ true → p ≡ true → q ≡ true
implied true q h e = h
implied false q h e = cc

pub next_two : (n a : ℕ) → n < 4 → a < 9 → is_growth n (0 ∷ a ∷ []) ≡ true → next_of n (0 ∷ a ∷ []) ≡ Ok (two_next n a)
next_two n a l m g =
    gives_is (next_of n (0 ∷ a ∷ [])) (two_next n a)
    (implied (is_growth n (0 ∷ a ∷ [])) (gives (next_of n (0 ∷ a ∷ [])) (two_next n a))
    (all_below_at 9 a (λ b. not (is_growth n (0 ∷ b ∷ [])) || gives (next_of n (0 ∷ b ∷ [])) (two_next n b))
    (all_below_at 4 n (λ k. all_below 9 (λ b. not (is_growth k (0 ∷ b ∷ [])) || gives (next_of k (0 ∷ b ∷ [])) (two_next k b))) twos l)
    m)
    g)

pub next_three : (a b : ℕ) → a < 9 → b < 17 → is_growth 3 (0 ∷ a ∷ b ∷ []) ≡ true → next_of 3 (0 ∷ a ∷ b ∷ []) ≡ Ok (leaf_next a b)
next_three a b l m g =
    gives_is (next_of 3 (0 ∷ a ∷ b ∷ [])) (leaf_next a b)
    (implied (is_growth 3 (0 ∷ a ∷ b ∷ [])) (gives (next_of 3 (0 ∷ a ∷ b ∷ [])) (leaf_next a b))
    (all_below_at 17 b (λ k. not (is_growth 3 (0 ∷ a ∷ k ∷ [])) || gives (next_of 3 (0 ∷ a ∷ k ∷ [])) (leaf_next a k))
    (all_below_at 9 a (λ i. all_below 17 (λ k. not (is_growth 3 (0 ∷ i ∷ k ∷ [])) || gives (next_of 3 (0 ∷ i ∷ k ∷ [])) (leaf_next i k))) threes l)
    m)
    g)
