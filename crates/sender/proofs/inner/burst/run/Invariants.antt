-- The first i acks were taken, their windows and flags are in the lists, and the course of the burst is theirs and then that of the acks
-- left. Assumes nothing.
use Rattle.sender.proofs.Bursts as law
use Rattle.sender.proofs.inner.burst.run.Given as goal

abbrev pub invariant-loop-i : goal.invariant-loop-i
invariant-loop-i l = law.SoFar l.rules.grown.tree.now l.fn.s l.acks l.initial.windows l.initial.clipped l.windows l.clipped l.sender l.i
