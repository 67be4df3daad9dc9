-- The loop's invariant: x is the number in the bytes that were read. Assumes nothing.
use Rattle.wire.proofs.Bytes.{Read}
use Rattle.wire.proofs.inner.read.number_at.Given as goal

abbrev pub invariant-loop-b : goal.invariant-loop-b
invariant-loop-b l = Read l.field l.b-index l.x
