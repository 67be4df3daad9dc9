-- `events_on` takes the events and writes the sender back. Assumes nothing.
use native.Mathlib.Omega.{arith}
use Rattle.host_sender.proofs.EventWays as law
use Rattle.host_sender.proofs.inner.run.events_on.Goals as goal

pub returns : goal.returns
returns c =
    law.taken c.args.tree.tree.now c.args.sender.now c.args.list.now c.args.out.now c.if-sender-ne-SENDER_SIZE.false c.if-list-ne0.false (omega arith) c.of.ensures
    c.read_sender.ensures c.run-after.ensures.0 c.write_sender.ensures c.run-after.ensures.1
