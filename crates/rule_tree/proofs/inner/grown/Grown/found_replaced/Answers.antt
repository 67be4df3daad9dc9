-- The leaf reached has the new action.
use native.Mathlib.Omega.{arith}
use Rattle.rule_tree.proofs.GrownTree.{grown_facts, grown_long}
use Rattle.rule_tree.proofs.Looking as law
use Rattle.rule_tree.proofs.inner.grown.Grown.found_replaced.Goals as goal

pub returns-then-node-leaf : goal.returns-then-node-leaf
returns-then-node-leaf c =
    let t = c.args.self.tree.now in
    let h = c.in_ok-node.ensures in
    let long = grown_long t (grown_facts t c.args.self.grown) in
    law.replaced_same t c.args.leaf c.args.action c.args.p c.in_ok-node.field-0 h.0 h.1 (omega arith) c.if-node-leaf.true
