-- The order of the lists, and the calls one after another.
use Rattle.std.specs.Prelude.{Bool, true, false, ◌&&◌, ◌||◌, cond, List, [], ◌∷◌, ℕ, zero, suc, ◌+◌, length, eqb, ltb, Option, Some, None, Result, Ok, Err}
use Rattle.refusal.specs.declared.Refusal.{Refusal}
use Rattle.small_trees.specs.Lists.{same}
use Rattle.small_trees.specs.Calls.{next_of}

-- "then by their node numbers in order"
unfoldable pub lower : List ℕ → List ℕ → Bool
lower [] ys = false
lower (x ∷ xs) [] = false
lower (x ∷ xs) (y ∷ ys) = ltb x y || (eqb x y && lower xs ys)

-- "shorter first"
unfoldable pub before : List ℕ → List ℕ → Bool
unfolding lower
before x y = ltb (length x) (length y) || (eqb (length x) (length y) && lower x y)

unfoldable pub rises_from : List ℕ → List (List ℕ) → Bool
unfolding before
rises_from x [] = true
rises_from x (y ∷ ys) = before x y && rises_from y ys

unfoldable pub rises : List (List ℕ) → Bool
unfolding rises_from
rises [] = true
rises (x ∷ xs) = rises_from x xs

-- how often x is one of the lists
unfoldable pub times_in : List (List ℕ) → List ℕ → ℕ
unfolding same
times_in [] x = 0
times_in (y ∷ ys) x = cond (same x y) 1 0 + times_in ys x

-- x and what at most f calls give from it, each taking what the one before gave; and the first answer that is no list, if there is one
pub record Walk : Type 0 where
  pub lists : List (List ℕ)
  pub ended : Option (Result (Option (List ℕ)) Refusal)

unfoldable pub onward : (List ℕ → Walk) → Result (Option (List ℕ)) Refusal → Walk
onward go (Ok (Some x)) = go x
onward go (Ok None) = record { lists = []; ended = Some (Ok None) }
onward go (Err r) = record { lists = []; ended = Some (Err r) }

unfoldable pub walked : ℕ → ℕ → List ℕ → Walk
unfolding next_of onward
walked n zero x = record { lists = []; ended = None }
walked n (suc f) x =
    let w = onward (λ y. walked n f y) (next_of n x) in
    record { lists = x ∷ w.lists; ended = w.ended }
