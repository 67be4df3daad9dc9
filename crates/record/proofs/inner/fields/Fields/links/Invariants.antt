-- The loop's invariant: the links after the first k splits.
use Rattle.record.proofs.Reading.{Linked}
use Rattle.record.specs.Layout.{list_place}
use Rattle.record.proofs.inner.fields.Fields.links.Given as goal

abbrev pub invariant-loop-k : goal.invariant-loop-k
invariant-loop-k l = Linked l.self.bytes.now (list_place l.self.layout) l.out l.k
