-- The cycle of `node_equal` and `children_equal` meets its contracts.
use mathlib.Core.Path.{◌∙◌}
use mathlib.Core.Logic.{⊎_elim}
use native.Mathlib.Omega.{arith}
use borrow.Author.Rules.{rules}
use Rattle.rule_tree.specs.Equal.{action_equal}
use Rattle.rule_tree.proofs.Lists.{all_below_none}
use Rattle.rule_tree.proofs.EqualWays as law
use Rattle.rule_tree.proofs.inner.equal.+children_equal_node_equal.Goals as goal
use Rattle.rule_tree.proofs.inner.equal.+children_equal_node_equal.Goals.{node_equal-then-depth-eq0-via-then-depth-eq0, node_equal-then-depth-eq0-via-else-depth-eq0+then-ne}

pub children_equal-returns-then-x-gt-LAST_EIGHT : goal.children_equal-returns-then-x-gt-LAST_EIGHT
children_equal-returns-then-x-gt-LAST_EIGHT t c =
    ⊎_elim (λ h. law.far_left _ _ _ _ _ _ _ (omega arith) h) (λ h. law.far_right _ _ _ _ _ _ _ (omega arith) h.1) c.then-x-gt-LAST_EIGHT.either

pub children_equal-loop-k-init : goal.children_equal-loop-k-init
children_equal-loop-k-init t c = all_below_none _

pub children_equal-returns-then-not-node_equal : goal.children_equal-returns-then-not-node_equal
children_equal-returns-then-not-node_equal t c = law.one_differs _ _ _ _ _ _ _ _ _ _ c.child.ensures c.child-in-loop-k.ensures _ c.node_equal.ensures c.loop-k-test.true c.if-not-node_equal.true

pub children_equal-loop-k-preserved : goal.children_equal-loop-k-preserved
children_equal-loop-k-preserved t c = law.one_more _ _ _ _ _ _ _ _ _ _ c.child.ensures c.child-in-loop-k.ensures _ c.node_equal.ensures c.loop-k.invariant c.if-not-node_equal.false

pub node_equal-returns-then-depth-eq0 : goal.node_equal-returns-then-depth-eq0
node_equal-returns-then-depth-eq0 t c =
    elim (c.then-depth-eq0.branch) [
      | node_equal-then-depth-eq0-via-then-depth-eq0 w ↦ law.at_zero _ _ _ _ _ _ _ w.if-depth-eq0.true
      | node_equal-then-depth-eq0-via-else-depth-eq0+then-ne w ↦ law.cubes_differ _ _ _ _ _ _ _ w.if-depth-eq0.false (law.cubes_other _ _ _ w.ne.ensures w.if-ne.true)
    ]

pub node_equal-returns-in-0-eq0 : goal.node_equal-returns-in-0-eq0
node_equal-returns-in-0-eq0 t c =
    c.eq.ensures ∙ law.actions_same c.action.result c.action-in-0-eq0.result (search rules) (search rules)
    ∙ (λ z. action_equal (c.action.ensures z) (c.action-in-0-eq0.ensures z))
    ∙ law.both_leaves c.args.a.now c.args.b.now _ _ _ _ _ c.if-depth-eq0.false (law.cubes_same _ _ _ c.ne.ensures c.if-ne.false) c.in-0-eq0.is-0 c.in-0-eq0.is-1

pub node_equal-returns-in_default : goal.node_equal-returns-in_default
node_equal-returns-in_default t c =
    c.children_equal.ensures ∙ law.both_parents c.args.a.now c.args.b.now _ _ _ _ _ c.if-depth-eq0.false (law.cubes_same _ _ _ c.ne.ensures c.if-ne.false) c.in_default.is-0.1 c.in_default.is-1.1

pub node_equal-returns-in-0-default : goal.node_equal-returns-in-0-default
node_equal-returns-in-0-default t c = law.leaf_parent c.args.a.now c.args.b.now _ _ _ _ _ c.if-depth-eq0.false (law.cubes_same _ _ _ c.ne.ensures c.if-ne.false) c.in-0-default.is-0 c.in-0-default.is-1.1

pub node_equal-returns-in_default-eq0 : goal.node_equal-returns-in_default-eq0
node_equal-returns-in_default-eq0 t c = law.parent_leaf c.args.a.now c.args.b.now _ _ _ _ _ c.if-depth-eq0.false (law.cubes_same _ _ _ c.ne.ensures c.if-ne.false) c.in_default-eq0.is-0.1 c.in_default-eq0.is-1
