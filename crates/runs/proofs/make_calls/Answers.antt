-- The calls in turn, and then the record and the sender.
use native.Mathlib.Omega.{arith}
use Rattle.runs.proofs.Looping as law
use Rattle.runs.proofs.make_calls.Goals as goal

pub loop-call-init : goal.loop-call-init
loop-call-init c = law.stood_first c.args.script.now c.args.start c.args.w.now (omega arith)

pub loop-call-smaller : goal.loop-call-smaller
loop-call-smaller c = law.fewer c.loop-call.invariant c.in-Some.ensures

pub loop-call-preserved : goal.loop-call-preserved
loop-call-preserved c = law.stood_next c.loop-call.invariant c.in-Some.ensures c.make.ensures

pub returns : goal.returns
returns c = law.stood_last c.loop-call.invariant c.in_default.ensures c.finish.ensures c.put_sender.ensures
