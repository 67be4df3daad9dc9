-- What is left to put, once it is put, makes the whole.
use lib.ListN.{length}
use Rattle.runs.specs.Script.{calls_of}
use Rattle.runs.specs.Ran.{ran_from}
use Rattle.runs.proofs.Looping.{Stood}
use Rattle.runs.proofs.make_calls.Given as goal

abbrev pub invariant-loop-call : goal.invariant-loop-call
invariant-loop-call l =
    Stood (length l.script) l.initial.w (ran_from l.fn.start.trainer l.fn.start.sender (calls_of l.script)) l.state l.w l.rest

abbrev pub decreases-loop-call : goal.decreases-loop-call
decreases-loop-call l = length l.rest
