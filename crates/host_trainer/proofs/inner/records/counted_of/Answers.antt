-- `host_trainer::inner::records::counted_of` lends the counts that there are. Assumes nothing.
use Rattle.std.proofs.Common.{sym}
use native.Mathlib.Omega.{arith}
use lib.Seq.{length-take-le}
use Rattle.host_trainer.proofs.RecordWays as law
use Rattle.host_trainer.proofs.inner.records.counted_of.Goals as goal

pub slice_bounds-answered-end : goal.slice_bounds-answered-end
slice_bounds-answered-end c =
    sym (length-take-le c.count_of-n.result c.counts_at-counts.result (omega (arith, c.count_of-n.ensures, law.count_few c.args.bytes.now)))
