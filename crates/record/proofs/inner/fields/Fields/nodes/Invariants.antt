-- The loop's invariant: the nodes passed are read, and at is the place of the next.
use Rattle.record.proofs.Reading.{Gathered}
use Rattle.record.proofs.inner.fields.Fields.nodes.Given as goal

abbrev pub invariant-loop-i : goal.invariant-loop-i
invariant-loop-i l = Gathered l.self.layout l.given l.self.bytes.now l.self.splits l.nodes l.at l.i
