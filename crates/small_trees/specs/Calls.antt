-- 02, request 14: "A call takes one list and gives the next, or says that it was the last."
use Rattle.std.specs.Prelude.{Bool, false, ◌&&◌, ◌||◌, cond, List, [], ◌∷◌, ℕ, leb, Option, Some, None, Result, Ok}
use Rattle.refusal.specs.declared.Refusal.{Refusal}
use Rattle.refusal.specs.declared.Refusal.TheVariants.{NoSplitList}
use Rattle.refusal.specs.Guards.{Check, check, checked}
use Rattle.small_trees.specs.Lists.{most_listed, up_to, same}

-- x is one of the lists
unfoldable pub among : List (List ℕ) → List ℕ → Bool
unfolding same
among [] x = false
among (y ∷ ys) x = same x y || among ys x

-- "gives the next, or says that it was the last"
unfoldable pub head_of : List (List ℕ) → Option (List ℕ)
head_of [] = None
head_of (y ∷ ys) = Some y

unfoldable pub after_in : List (List ℕ) → List ℕ → Option (List ℕ)
unfolding same head_of
after_in [] x = None
after_in (y ∷ ys) x = cond (same x y) (head_of ys) (after_in ys x)

-- "An n above 3, or a list that isn't one of them, is refused with 30 as the only check."
abbrev pub next_order : ℕ → List ℕ → List Check
next_order n x = check (leb n most_listed && among (up_to n) x) NoSplitList ∷ []

unfoldable pub next_of : ℕ → List ℕ → Result (Option (List ℕ)) Refusal
unfolding up_to among after_in
next_of n x = checked (next_order n x) (Ok (after_in (up_to n) x))
