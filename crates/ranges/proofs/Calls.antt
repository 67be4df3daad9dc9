-- What the call answers and leaves, one law for each way. Assumes nothing.
use Rattle.std.proofs.Common.{◌≡◌, sym, ap, ◌∙◌, true, false, List, ℕ, ◌++◌, ◌<◌, ◌≤◌, length, drop, arith, le-leb, zero-add}
use Rattle.std.proofs.lemmas.Bool.{lt-leb}
use Rattle.std.specs.Prelude.{Ok, Err}
use Rattle.std.proofs.lemmas.List.Edits.{sets, sets-eq}
use Rattle.refusal.specs.declared.Refusal.TheVariants.{NotGrown, BadRanges, ShortList}
use Rattle.refusal.specs.Guards.{pass}
use Rattle.rule_tree.specs.declared.RuleTree.{RuleTree}
use Rattle.rule_tree.specs.Grown.{grown_of}
use Rattle.ranges.specs.declared.Ranges.{Ranges}
use Rattle.ranges.specs.Ranges.{ordered_of, leaves_within, leaves_of, list_after}

-- written to the first places
pub at_the_front : (ls xs : List ℕ) → length ls ≤ length xs → sets xs 0 ls ≡ ls ++ drop (length ls) xs
at_the_front ls xs l = sets-eq ls xs 0 (omega arith) ∙ ap (λ (k : ℕ). ls ++ drop k xs) (zero-add (length ls))

module _ (t : RuleTree) (r : Ranges) (xs : List ℕ) where
  pub not_grown : grown_of t ≡ false → (Err NotGrown ≡ leaves_of t r xs) × (xs ≡ list_after t r xs)
  unfolding leaves_of list_after pass
  not_grown g = (rw g, rw g)

  pub not_ordered : grown_of t ≡ true → ordered_of r ≡ false → (Err BadRanges ≡ leaves_of t r xs) × (xs ≡ list_after t r xs)
  unfolding leaves_of list_after pass
  not_ordered g o = (rw (g, o), rw (g, o))

  module _ (g : grown_of t ≡ true) (o : ordered_of r ≡ true) where
    pub too_short : length xs < length (leaves_within t r) → (Err ShortList ≡ leaves_of t r xs) × (xs ≡ list_after t r xs)
    unfolding leaves_of list_after pass
    too_short l = let b = lt-leb (length (leaves_within t r)) (length xs) l in (rw (g, o, b), rw (g, o, b))

    pub listed : length (leaves_within t r) ≤ length xs
        → (Ok (length (leaves_within t r)) ≡ leaves_of t r xs)
        × (leaves_within t r ++ drop (length (leaves_within t r)) xs ≡ list_after t r xs)
    unfolding leaves_of list_after pass
    listed l =
        let b = le-leb (length (leaves_within t r)) (length xs) l in
        (rw (g, o, b), rw (g, o, b) (sym (at_the_front (leaves_within t r) xs l)))
