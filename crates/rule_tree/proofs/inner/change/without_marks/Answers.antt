-- The loop's invariant: the nodes passed are unmarked.
use mathlib.Core.Path.{ap, ◌∙◌}
use borrow.Author.Rules.{rules}
use Rattle.rule_tree.specs.Change.{with_nodes, unmarked_node}
use Rattle.rule_tree.proofs.ChangeWays.{marks_more, swept_all}
use Rattle.rule_tree.proofs.inner.change.without_marks.Goals as goal

pub loop-x-preserved : goal.loop-x-preserved
loop-x-preserved c = marks_more c.args.t.nodes _ _ _ (search rules) c.loop-x.invariant c.unmarked.ensures

pub returns : goal.returns
returns c = ap (with_nodes c.args.t) (c.loop-x.invariant ∙ swept_all unmarked_node c.args.t.nodes _ (search rules))
