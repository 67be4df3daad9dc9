-- The measure of `cube_at` is the node.
use Rattle.rule_tree.proofs.inner.cubes.+cube_at.Given as goal

abbrev pub decreases-cube_at : goal.decreases-cube_at
decreases-cube_at l = l.i
