-- The loop's invariant: the nodes passed are unmarked.
use mathlib.Core.Path.{◌≡◌}
use Rattle.rule_tree.specs.Change.{unmarked_node}
use Rattle.rule_tree.proofs.ChangeWays.{swept}
use Rattle.rule_tree.proofs.inner.change.without_marks.Given as goal

abbrev pub invariant-loop-x : goal.invariant-loop-x
invariant-loop-x l = l.x-items ≡ swept unmarked_node l.fn.t.nodes l.x-index
