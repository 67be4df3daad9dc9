-- 01, "Lens checks", over the definitions: in the tree whose root was split once, counts 0 5 0 5 0 0 0 0 0 make node 3 the most used. Assumes nothing.
use mathlib.Core.Path.{◌≡◌, refl, ap}
use mathlib.Core.Bool.{Bool, true, false}
use mathlib.Core.List.{List, [], ◌∷◌}
use Prim.Native.Nat.{ℕ}
use native.Mathlib.Omega.{arith}
use Rattle.remy.specs.declared.action.Action.{Action}
use Rattle.remy.specs.Action.{valid_of}
use Rattle.remy.specs.Cube.{usual_ends}
use Rattle.rule_tree.specs.declared.RuleTree.{RuleTree}
use Rattle.std.specs.Prelude.{Ok, Some}
use Rattle.rule_tree.specs.Grown.{grown_of}
use Rattle.rule_tree.specs.Counts.{counts_hold, most_used}
use Rattle.rule_tree.specs.Change.{fresh_tree, split_at_of}
use Rattle.rule_tree.specs.Calls.{most_used_of}
use Rattle.rule_tree.proofs.Changing.{fresh_grown, fresh_length, split_grown, usual_ends_lem}

abbrev pub root_split : Action → RuleTree
root_split a = split_at_of (fresh_tree usual_ends a) 0

abbrev pub lens_counts : List ℕ
lens_counts = 0 ∷ 5 ∷ 0 ∷ 5 ∷ 0 ∷ 0 ∷ 0 ∷ 0 ∷ 0 ∷ []

pub lens_chosen : (a : Action) (u : Bool) → most_used (root_split a).nodes lens_counts u 9 ≡ Some 3
unfolding split_at_of most_used
lens_chosen a true = refl
lens_chosen a false = refl

pub lens_held : (a : Action) → counts_hold (root_split a) lens_counts ≡ true
unfolding split_at_of counts_hold
lens_held a = refl

pub root_split_grown : (a : Action) → valid_of a ≡ true → grown_of (root_split a) ≡ true
root_split_grown a v =
    split_grown (fresh_tree usual_ends a) 0 (fresh_length usual_ends a) (fresh_grown usual_ends a v usual_ends_lem) refl (omega arith)

-- the call's answer, whichever leaves are asked for
pub lens_most_used : (a : Action) (u : Bool) → valid_of a ≡ true → most_used_of u (root_split a) lens_counts ≡ Ok (Some 3)
unfolding most_used_of
lens_most_used a u v = rw (root_split_grown a v, lens_held a) (ap Ok (lens_chosen a u))
