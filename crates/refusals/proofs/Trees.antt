-- Each call on a tree is refused by the first check that fails, and else gives what 01 says. Assumes nothing.
use mathlib.Core.Path.{◌≡◌, refl, sym}
use mathlib.Core.Bool.{Bool, true, false, cond}
use mathlib.Core.List.{List}
use Prim.Native.Nat.{ℕ, ◌<◌}
use native.Mathlib.Omega.{arith}
use borrow.Author.Tests.{eqb-true, eqb-false}
use lib.ListN.{length}
use lib.Dec.{eqb}
use Rattle.std.specs.Prelude.{Option, Some, None, Result, Ok, Err}
use Rattle.refusal.specs.declared.Refusal.{Refusal}
use Rattle.remy.specs.declared.action.Action.{Action}
use Rattle.remy.specs.declared.point.Point.{Point}
use Rattle.remy.specs.Cube.{root_of, contains_of}
use Rattle.rule_tree.specs.declared.Node.{Node}
use Rattle.rule_tree.specs.declared.RuleTree.{RuleTree}
use Rattle.rule_tree.specs.declared.AugmentedRuleTree.{AugmentedRuleTree}
use Rattle.rule_tree.specs.Nodes.{node_at_of, children_of, action_in}
use Rattle.rule_tree.specs.Grown.{grown_of}
use Rattle.rule_tree.specs.Walk.{leaf_of, walk_of}
use Rattle.rule_tree.specs.Change.{fresh_tree, with_action, with_mark, without_marks, split_at_of, undone}
use Rattle.rule_tree.specs.Calls.{leaf_in, new_order, grown_order, domain_order, leaf_order, action_order, split_order, undo_order, counts_order, tally_order, equal_order, new_of, set_of, mark_of, clear_of, split_of, undo_of, domain_of, found_in, lookup_of, replaced_of, tally_of, counted_in, parents_of, used_of, most_used_of, equal_of}
use Rattle.rule_tree.proofs.GrownTree.{grown_facts, grown_long, leaf_below}
use Rattle.rule_tree.proofs.Looking.{replaced_same, replaced_other}
use Rattle.rule_tree_view.specs.View.{lent_tree, view_of}
use Rattle.refusals.specs.Told.{option_told, maybe_told, result_told, told_by}
use Rattle.refusals.specs.Order.{Guarded, view_order}
use Rattle.refusals.specs.Gives.{domain_gives, lookup_gives, replaced_gives, view_gives, tally_gives, parents_gives, used_gives, most_used_gives, equal_gives}
use Rattle.refusals.proofs.Ways.{maybe_tells, maybe_tells_so, result_tells, guards}

-- ---- calls that hand back a tree
pub new_guarded : (e : Point) (a : Action) → Guarded (new_order e a) (fresh_tree e a) (new_of e a)
unfolding new_of
new_guarded e a = guards (new_order e a) (fresh_tree e a)

pub set_guarded : (t : RuleTree) (i : ℕ) (a : Action) → Guarded (action_order t i a) (with_action t i a) (set_of t i a)
unfolding set_of
set_guarded t i a = guards (action_order t i a) (with_action t i a)

pub mark_guarded : (t : RuleTree) (i : ℕ) → Guarded (leaf_order t i) (with_mark t i) (mark_of t i)
unfolding mark_of
mark_guarded t i = guards (leaf_order t i) (with_mark t i)

pub clear_guarded : (t : RuleTree) → Guarded (grown_order t) (without_marks t) (clear_of t)
unfolding clear_of
clear_guarded t = guards (grown_order t) (without_marks t)

pub split_guarded : (t : RuleTree) (i : ℕ) → Guarded (split_order t i) (split_at_of t i) (split_of t i)
unfolding split_of
split_guarded t i = guards (split_order t i) (split_at_of t i)

pub undo_guarded : (t : RuleTree) → Guarded (undo_order t) (undone t) (undo_of t)
unfolding undo_of
undo_guarded t = guards (undo_order t) (undone t)

-- ---- calls that answer a value
pub domain_told_lem : (t : RuleTree) (i : ℕ) → result_told (domain_of t i) ≡ told_by (domain_order t i) (domain_gives t i)
unfolding domain_of
domain_told_lem t i = result_tells (domain_order t i) _

-- ---- lookups
pub lookup_told : (t : RuleTree) (p : Point) → maybe_told (lookup_of t p) ≡ told_by (grown_order t) (lookup_gives t p)
unfolding lookup_of found_in
lookup_told t p = maybe_tells (grown_order t) (lookup_gives t p)

-- in a tree with one leaf's action replaced: that action at the leaf, elsewhere the leaf's own
module _ (t : RuleTree) (leaf : ℕ) (a : Action) (p : Point) (l : leaf < length t.nodes) where
  replaced_in_lem : (b : Bool) → contains_of (root_of t.ends) p ≡ b → (z : Bool) → eqb (leaf_of t p) leaf ≡ z
      → found_in (with_action t leaf a) p ≡ cond b (Some (cond z a (action_in (node_at_of t.nodes (leaf_of t p))))) None
  unfolding found_in
  replaced_in_lem true h true e = sym (replaced_same t leaf a p (walk_of (children_of t.nodes) (root_of t.ends) p) h refl l (eqb-true (leaf_of t p) leaf e))
  replaced_in_lem true h false e = sym (replaced_other t leaf a p (walk_of (children_of t.nodes) (root_of t.ends) p) h refl (eqb-false (leaf_of t p) leaf e))
  replaced_in_lem false h z e = rw h

leaf_inside : (t : RuleTree) (i : ℕ) → grown_of t ≡ true → leaf_in t i ≡ true → i < length t.nodes
leaf_inside t i g l = let f = grown_facts t g in omega (arith, f.few, grown_long t f, leaf_below t i l)

pub replaced_told : (a : AugmentedRuleTree) (p : Point) → maybe_told (replaced_of a p) ≡ told_by (action_order a.tree a.leaf a.action) (replaced_gives a p)
unfolding replaced_of
replaced_told a p =
    maybe_tells_so (action_order a.tree a.leaf a.action) (found_in (with_action a.tree a.leaf a.action) p) (replaced_gives a p)
    (λ h. replaced_in_lem a.tree a.leaf a.action p (leaf_inside a.tree a.leaf h.0 h.1.0) _ refl _ refl)

pub view_told : (nodes : List Node) (ends : Point) (leaf : ℕ) (a : Action) (p : Point)
    → maybe_told (view_of nodes ends leaf a p) ≡ told_by (view_order nodes ends leaf a) (view_gives nodes ends leaf a p)
unfolding view_of replaced_of
view_told nodes ends leaf a p =
    maybe_tells_so (view_order nodes ends leaf a) (found_in (with_action (lent_tree nodes ends) leaf a) p) (view_gives nodes ends leaf a p)
    (λ h. replaced_in_lem (lent_tree nodes ends) leaf a p (leaf_inside (lent_tree nodes ends) leaf h.1.0 h.1.1.0) _ refl _ refl)

-- ---- counts
pub tally_told : (t : RuleTree) (xs : List ℕ) (p : Point) → maybe_told (tally_of t xs p) ≡ told_by (tally_order t xs p) (tally_gives t p)
unfolding tally_of
tally_told t xs p = maybe_tells (tally_order t xs p) (tally_gives t p)

-- a refused tally leaves the lent list
pub tally_keeps : (xs : List ℕ) (r : Result (Option ℕ) Refusal) → ((maybe_told r).number ≡ 0 → ⊥) → counted_in xs r ≡ xs
unfolding maybe_told option_told counted_in
tally_keeps xs (Ok (Some i)) n = absurd (n refl)
tally_keeps xs (Ok None) n = refl
tally_keeps xs (Err r) n = refl

pub parents_told : (t : RuleTree) → result_told (parents_of t) ≡ told_by (grown_order t) (parents_gives t)
unfolding parents_of
parents_told t = result_tells (grown_order t) _

pub used_told : (t : RuleTree) (xs : List ℕ) → result_told (used_of t xs) ≡ told_by (counts_order t xs) (used_gives xs)
unfolding used_of
used_told t xs = result_tells (counts_order t xs) _

pub most_used_told : (unmarked : Bool) (t : RuleTree) (xs : List ℕ)
    → maybe_told (most_used_of unmarked t xs) ≡ told_by (counts_order t xs) (most_used_gives unmarked t xs)
unfolding most_used_of
most_used_told unmarked t xs = maybe_tells (counts_order t xs) (most_used_gives unmarked t xs)

pub equal_told : (a b : RuleTree) → result_told (equal_of a b) ≡ told_by (equal_order a b) (equal_gives a b)
unfolding equal_of
equal_told a b = result_tells (equal_order a b) _
