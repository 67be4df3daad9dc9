-- The loop's invariant: what is left of the list answers what the whole list does. Assumes nothing.
use Rattle.std.proofs.Common.{length}
use Rattle.host_answers.specs.Parts.{Ready}
use Rattle.host_answers.proofs.Groups.{Going}
use Rattle.host_answers.proofs.inner.groups.groups_on.Given as goal

abbrev pub invariant-loop-rest : goal.invariant-loop-rest
invariant-loop-rest l = (Ready l.t) × Going l.held l.list l.t l.rest

abbrev pub decreases-loop-rest : goal.decreases-loop-rest
decreases-loop-rest l = length l.rest
