-- `walk` meets its contract. The loop's invariant: node i is on the way from the root, and c is its link. The measure: a later node is nearer to 513.
-- Assumes nothing.
use mathlib.Core.Path.{refl, sym, ◌∙◌}
use native.Mathlib.Omega.{arith}
use Rattle.rule_tree.proofs.Walking.{at_root, at_leaf, turn}
use Rattle.rule_tree.proofs.inner.walk.walk.Goals as goal

pub loop-c-init : goal.loop-c-init
loop-c-init c =
    let v = c.requires in
    (at_root c.args.children.now c.args.root c.args.p v.whole v.inside, refl)

pub overflow_add-i : goal.overflow_add-i
overflow_add-i c = let o = (turn c.args.children.now c.args.root c.args.p c.loop-c.cube c.loop-c.i c.loop-c.tested c.loop-c.c c.toward-step.result c.requires c.loop-c.invariant.0 c.loop-c.invariant.1 c.loop-c-test.true c.toward-step.ensures).on in record { fits = let b = o.below in omega arith }

pub bounds-children-i : goal.bounds-children-i
bounds-children-i c = (turn c.args.children.now c.args.root c.args.p c.loop-c.cube c.loop-c.i c.loop-c.tested c.loop-c.c c.toward-step.result c.requires c.loop-c.invariant.0 c.loop-c.invariant.1 c.loop-c-test.true c.toward-step.ensures).on.below

pub loop-c-smaller : goal.loop-c-smaller
loop-c-smaller c = let t = turn c.args.children.now c.args.root c.args.p c.loop-c.cube c.loop-c.i c.loop-c.tested c.loop-c.c c.toward-step.result c.requires c.loop-c.invariant.0 c.loop-c.invariant.1 c.loop-c-test.true c.toward-step.ensures in let b = t.on.below in let g = t.later in omega arith

pub loop-c-preserved : goal.loop-c-preserved
loop-c-preserved c = ((turn c.args.children.now c.args.root c.args.p c.loop-c.cube c.loop-c.i c.loop-c.tested c.loop-c.c c.toward-step.result c.requires c.loop-c.invariant.0 c.loop-c.invariant.1 c.loop-c-test.true c.toward-step.ensures).on, refl)

pub returns : goal.returns
returns c =
    let l = c.loop-c in
    let a = c.args in
    at_leaf a.children.now a.root a.p l.cube l.i l.tested l.invariant.0 (sym l.invariant.1 ∙ c.loop-c-test.false)
