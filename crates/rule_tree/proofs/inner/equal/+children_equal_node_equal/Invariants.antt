-- The measures of the cycle are twice the depth, and one more for the children. The loop's invariant: the children passed are alike.
use Rattle.std.proofs.Common.{◌+◌, ◌*◌}
use Rattle.rule_tree.proofs.EqualWays as law
use Rattle.rule_tree.proofs.inner.equal.+children_equal_node_equal.Given as goal

abbrev pub decreases-children_equal : goal.decreases-children_equal
decreases-children_equal l = 2 * l.depth + 1

abbrev pub decreases-node_equal : goal.decreases-node_equal
decreases-node_equal l = 2 * l.depth

abbrev pub invariant-children_equal-loop-k : goal.invariant-children_equal-loop-k
invariant-children_equal-loop-k l = law.children_same l.a l.b l.x.cube l.y.cube l.depth l.x.node l.y.node l.k
