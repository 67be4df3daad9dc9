-- `put_trips` stores the flag and both round trips. Assumes nothing.
use Rattle.host_sender.proofs.Writing as law
use Rattle.host_sender.proofs.inner.write.put_trips.Goals as goal

pub returns-in-Some : goal.returns-in-Some
returns-in-Some c =
    law.trips_there c.args.buf.now c.args.at c.in-Some.rtt c.in-Some.is c.to_bits.ensures c.put_seconds.ensures c.put-in-Some.ensures
