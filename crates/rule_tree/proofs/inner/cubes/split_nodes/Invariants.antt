-- The loop's invariant: each bucket holds the last owner below i.
use Rattle.rule_tree.proofs.Owners as law
use Rattle.rule_tree.proofs.inner.cubes.split_nodes.Given as goal

abbrev pub invariant-loop-i : goal.invariant-loop-i
invariant-loop-i l = law.Split l.children l.out l.i
