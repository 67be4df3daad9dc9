-- A slice of one leaf with a valid action: the view of leaf 0 with another valid action gives that action at every point of the root cube, whatever the
-- box's upper ends. Assumes nothing.
use mathlib.Core.Path.{◌≡◌, ◌∙◌}
use mathlib.Core.Bool.{true}
use mathlib.Core.List.{[], ◌∷◌}
use lib.Dec.{T}
use lib.Ieee.{Float, le, lt}
use lib.Ieee.Bits.{is_true}
use Rattle.floats.proofs.Order.{lt_le_trans}
use Rattle.remy.specs.declared.action.Action.{Action}
use Rattle.remy.specs.declared.point.Point.{Point}
use Rattle.remy.specs.Action.{valid_of}
use Rattle.remy.specs.Cube.{zero, least_end, ack, send, ratio, point_of, root_of, contains_of}
use Rattle.remy.proofs.Ends.{ends_from_one}
use Rattle.rule_tree.specs.declared.RuleTree.{RuleTree}
use Rattle.std.specs.Prelude.{Ok, Some}
use Rattle.rule_tree.specs.Nodes.{leaf_with}
use Rattle.rule_tree.specs.Grown.{ends_hold, grown_of}
use Rattle.rule_tree.specs.Walk.{descend}
use Rattle.rule_tree.specs.Change.{fresh_tree}
use Rattle.rule_tree.specs.Calls.{found_in, replaced_of}
use Rattle.rule_tree.proofs.Plain.{PointFits, ends_admitted_lem}
use Rattle.rule_tree.proofs.Changing.{fresh_length, fresh_grown}
use Rattle.rule_tree_view.specs.View.{view_of}
use Rattle.rule_tree_view.proofs.Viewed.{view_grown}

above_zero : (x : Float) → T (le least_end x) → lt zero x ≡ true
unfolding lt
above_zero x h = is_true _ (lt_le_trans zero least_end x tt h)

module _ (ends : Point) (f : PointFits ends) (h : ends_hold ends ≡ true) (b a : Action) (vb : valid_of b ≡ true) (va : valid_of a ≡ true) where
  abbrev t : RuleTree
  t = fresh_tree ends b

  grown : grown_of t ≡ true
  grown = fresh_grown ends b vb h

  pub one_leaf : (p : Point) → contains_of (root_of ends) p ≡ true → view_of (leaf_with b ∷ []) ends 0 a p ≡ Ok (Some a)
  unfolding replaced_of found_in descend
  one_leaf p i = view_grown t (fresh_length ends b) grown f 0 a p ∙ rw (grown, va, i)

  zero_inside : contains_of (root_of ends) (point_of zero zero zero) ≡ true
  unfolding contains_of le
  zero_inside =
      let low = ends_from_one ends (ends_admitted_lem ends h) in
      rw (above_zero (ack ends) low.0, above_zero (send ends) low.1.0, above_zero (ratio ends) low.1.1)

  pub one_leaf_at_zero : view_of (leaf_with b ∷ []) ends 0 a (point_of zero zero zero) ≡ Ok (Some a)
  one_leaf_at_zero = one_leaf (point_of zero zero zero) zero_inside
