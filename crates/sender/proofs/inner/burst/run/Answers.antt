-- `run` ends at a refused ack or after the last one, and each turn takes one ack more. Assumes nothing.
use Rattle.std.proofs.Common.{rules, arith}
use Rattle.sender.specs.Burst.{flag_of}
use Rattle.sender.proofs.Bursts as law
use Rattle.sender.proofs.inner.burst.run.Goals as goal

pub returns-in-Err : goal.returns-in-Err
returns-in-Err c = law.stopped _ _ _ _ _ c.loop-i.invariant c.loop-i-test.true _ c.ack_by.ensures c.in-Err.is

pub loop-i-preserved : goal.loop-i-preserved
unfolding flag_of
loop-i-preserved c =
    law.turn _ _ _ _ _ c.loop-i.invariant c.loop-i-test.true _ c.ack_by.ensures (omega arith) (omega arith) c.in-Ok.is (search rules)

pub returns : goal.returns
returns c = law.over _ _ _ _ _ c.loop-i.invariant (omega arith)
