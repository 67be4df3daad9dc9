-- The loop's invariant: the most used among the nodes passed.
use Rattle.rule_tree.proofs.Counting.{Holding}
use Rattle.rule_tree.proofs.inner.counts.most_used.Given as goal

abbrev pub invariant-loop-i : goal.invariant-loop-i
invariant-loop-i l = Holding l.t.nodes l.counts l.unmarked l.i l.best l.most
