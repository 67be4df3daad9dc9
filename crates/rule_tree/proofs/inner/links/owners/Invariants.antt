-- The loop's invariant: each bucket counts the owners passed.
use Rattle.rule_tree.proofs.Owners as law
use Rattle.rule_tree.proofs.inner.links.owners.Given as goal

abbrev pub invariant-loop-c : goal.invariant-loop-c
invariant-loop-c l = law.Owned l.children l.out l.c-index
