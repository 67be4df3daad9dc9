-- What each public call on a tree answers, refusals first and in 01's order.
use Rattle.std.specs.Prelude.{Bool, not, ◌&&◌, cond, List, [], ◌∷◌, ℕ, ◌+◌, set, get_or, length, eqb, ltb, Option, Some, None, Result, Ok, Err}
use Rattle.refusal.specs.declared.Refusal.{Refusal}
use Rattle.refusal.specs.declared.Refusal.TheVariants.{BadCounts, BadSettings, FullTally, FullTree, NoLeaf, NoSplit, NotAdmitted, NotGrown}
use Rattle.refusal.specs.Guards.{Check, check, checked}
use Rattle.remy.specs.declared.action.Action.{Action}
use Rattle.remy.specs.declared.point.Point.{Point}
use Rattle.remy.specs.declared.cube.Cube.{Cube}
use Rattle.remy.specs.Action.{valid_of}
use Rattle.remy.specs.Cube.{point_of, zero, root_of, contains_of}
use Rattle.rule_tree.specs.declared.RuleTree.{RuleTree}
use Rattle.rule_tree.specs.declared.AugmentedRuleTree.{AugmentedRuleTree}
use Rattle.rule_tree.specs.declared.Lookup.{Lookup}
use Rattle.rule_tree.specs.Lists.{count_below, total}
use Rattle.rule_tree.specs.Nodes.{node_at_of, children_of, is_leaf_of, node_count, no_action, slots, most_splits, action_in}
use Rattle.rule_tree.specs.Grown.{ends_hold, grown_of}
use Rattle.rule_tree.specs.Cubes.{cube_of}
use Rattle.rule_tree.specs.Walk.{walk_of, leaf_of}
use Rattle.rule_tree.specs.Counts.{limit, counts_hold, used_in, most_used}
use Rattle.rule_tree.specs.Change.{fresh_tree, with_action, with_mark, without_marks, split_at_of, undone}
use Rattle.rule_tree.specs.Equal.{trees_equal}

-- a tree whose box is empty: no point is in it, and the test for 10 refuses it
abbrev pub blank_tree : RuleTree
blank_tree = fresh_tree (point_of zero zero zero) no_action

-- a number names a leaf
abbrev pub leaf_in : RuleTree → ℕ → Bool
leaf_in t i = ltb i (node_count t.splits) && is_leaf_of t.nodes i

-- ---- the tests of each call, in 01's order: "10 before all"; "3, 1, 20"; "4, 23"
-- 02, wish 8: "Outside that, refuse as settings"
abbrev pub new_order : Point → Action → List Check
new_order ends a = check (ends_hold ends) BadSettings ∷ check (valid_of a) NotAdmitted ∷ []

abbrev pub grown_order : RuleTree → List Check
grown_order t = check (grown_of t) NotGrown ∷ []

-- a node, leaf or parent
abbrev pub domain_order : RuleTree → ℕ → List Check
domain_order t i = check (grown_of t) NotGrown ∷ check (ltb i (node_count t.splits)) NoLeaf ∷ []

abbrev pub leaf_order : RuleTree → ℕ → List Check
leaf_order t i = check (grown_of t) NotGrown ∷ check (leaf_in t i) NoLeaf ∷ []

abbrev pub action_order : RuleTree → ℕ → Action → List Check
action_order t i a = check (grown_of t) NotGrown ∷ check (leaf_in t i) NoLeaf ∷ check (valid_of a) NotAdmitted ∷ []

-- "20 a 65th split"
abbrev pub split_order : RuleTree → ℕ → List Check
split_order t i = check (grown_of t) NotGrown ∷ check (leaf_in t i) NoLeaf ∷ check (ltb t.splits most_splits) FullTree ∷ []

-- 02, wish 2: "refused with 24, after 10 alone"
abbrev pub undo_order : RuleTree → List Check
undo_order t = check (grown_of t) NotGrown ∷ check (ltb 0 t.splits) NoSplit ∷ []

abbrev pub counts_order : RuleTree → List ℕ → List Check
counts_order t xs = check (grown_of t) NotGrown ∷ check (counts_hold t xs) BadCounts ∷ []

-- "23 a tally that reaches a leaf with the total already 2^53"
abbrev pub tally_order : RuleTree → List ℕ → Point → List Check
tally_order t xs p =
    check (grown_of t) NotGrown ∷ check (counts_hold t xs) BadCounts
    ∷ check (not (contains_of (root_of t.ends) p && eqb (total xs) limit)) FullTally ∷ []

abbrev pub equal_order : RuleTree → RuleTree → List Check
equal_order a b = check (grown_of a) NotGrown ∷ check (grown_of b) NotGrown ∷ []

-- ---- the calls
unfoldable pub new_of : Point → Action → Result RuleTree Refusal
new_of ends a = checked (new_order ends a) (Ok (fresh_tree ends a))

-- the cube of a node
unfoldable pub domain_of : RuleTree → ℕ → Result Cube Refusal
domain_of t i = checked (domain_order t i) (Ok (cube_of t i))

-- what a point finds in a grown tree
unfoldable pub found_in : RuleTree → Point → Option Action
found_in t p = cond (contains_of (root_of t.ends) p) (Some (action_in (node_at_of t.nodes (leaf_of t p)))) None

-- what lookup finds
unfoldable pub lookup_of : RuleTree → Point → Result (Option Action) Refusal
lookup_of t p = checked (grown_order t) (Ok (found_in t p))

-- 02, wish 11: "Lookup also returns the number of cubes it tested": "the root, then children in order up to the one that holds the point"; "An outside point counts 1"
unfoldable pub tested_in : RuleTree → Point → ℕ
tested_in t p =
    cond (contains_of (root_of t.ends) p) (walk_of (children_of t.nodes) (root_of t.ends) p).tested 1

unfoldable pub opened_in : RuleTree → Point → Lookup
opened_in t p = record { found = Ok (found_in t p); tested = tested_in t p }

-- lookup with the number of cubes tested; a refusal tests none
unfoldable pub opened_of : RuleTree → Point → Lookup
opened_of t p = record { found = lookup_of t p; tested = cond (grown_of t) (tested_in t p) 0 }

-- lookup with one leaf's action replaced
unfoldable pub replaced_of : AugmentedRuleTree → Point → Result (Option Action) Refusal
replaced_of a p =
    checked (action_order a.tree a.leaf a.action) (Ok (found_in (with_action a.tree a.leaf a.action) p))

-- a tally
unfoldable pub tally_of : RuleTree → List ℕ → Point → Result (Option ℕ) Refusal
tally_of t xs p =
    checked (tally_order t xs p) (Ok (cond (contains_of (root_of t.ends) p) (Some (leaf_of t p)) None))

-- the lent list after a tally
unfoldable pub counted_in : List ℕ → Result (Option ℕ) Refusal → List ℕ
counted_in xs (Ok (Some i)) = set xs i (get_or xs i 0 + 1)
counted_in xs (Ok None) = xs
counted_in xs (Err r) = xs

-- set action
unfoldable pub set_of : RuleTree → ℕ → Action → Result RuleTree Refusal
set_of t i a = checked (action_order t i a) (Ok (with_action t i a))

-- mark
unfoldable pub mark_of : RuleTree → ℕ → Result RuleTree Refusal
mark_of t i = checked (leaf_order t i) (Ok (with_mark t i))

-- clear all marks
unfoldable pub clear_of : RuleTree → Result RuleTree Refusal
clear_of t = checked (grown_order t) (Ok (without_marks t))

-- split
unfoldable pub split_of : RuleTree → ℕ → Result RuleTree Refusal
split_of t i = checked (split_order t i) (Ok (split_at_of t i))

-- the newest split taken back
unfoldable pub undo_of : RuleTree → Result RuleTree Refusal
undo_of t = checked (undo_order t) (Ok (undone t))

-- num_parents
unfoldable pub parents_of : RuleTree → Result ℕ Refusal
parents_of t = checked (grown_order t) (Ok (count_below slots (λ i. not (is_leaf_of t.nodes i))))

-- num_used_rules
unfoldable pub used_of : RuleTree → List ℕ → Result ℕ Refusal
used_of t xs = checked (counts_order t xs) (Ok (used_in xs))

-- most used, or most used among the unmarked; none where all are marked
unfoldable pub most_used_of : Bool → RuleTree → List ℕ → Result (Option ℕ) Refusal
most_used_of unmarked t xs = checked (counts_order t xs) (Ok (most_used t.nodes xs unmarked (length xs)))

-- equality
unfoldable pub equal_of : RuleTree → RuleTree → Result Bool Refusal
equal_of a b = checked (equal_order a b) (Ok (trees_equal a b))
