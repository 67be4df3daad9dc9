-- `put_point` stores three fields, one after the other. Assumes nothing.
use Rattle.wire.proofs.Fields as law
use Rattle.wire.proofs.inner.write.put_point.Goals as goal

pub returns : goal.returns
returns c =
    law.point_written c.args.buf.now c.args.at c.args.p _ _ _ c.to_bits-ack.ensures c.to_bits-send.ensures c.to_bits-ratio.ensures
    c.put.ensures c.put-2.ensures c.put-3.ensures
