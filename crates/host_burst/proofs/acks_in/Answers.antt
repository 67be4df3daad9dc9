-- `acks_in` ends where all acks are gathered. Assumes nothing.
use Rattle.std.proofs.Common.{arith}
use Rattle.host_burst.proofs.Gathering as law
use Rattle.host_burst.proofs.acks_in.Goals as goal

pub returns : goal.returns
returns c = law.all c.args.list.now c.loop-i.i (omega arith) c.loop-i.invariant.gathered
