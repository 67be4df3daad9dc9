-- `put_seconds` stores the flag and the bits. Assumes nothing.
use Rattle.host_sender.proofs.Writing as law
use Rattle.host_sender.proofs.inner.write.put_seconds.Goals as goal

pub returns-in-Some : goal.returns-in-Some
returns-in-Some c = law.seconds_there c.args.buf.now c.args.at c.in-Some.x c.in-Some.is c.to_bits.ensures c.put-in-Some.ensures
