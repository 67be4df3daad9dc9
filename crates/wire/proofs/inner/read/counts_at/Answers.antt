-- `counts_at` reads one number more at each turn. Assumes nothing.
use Rattle.std.proofs.Common.{rules, ℕ, ◌*◌}
use Rattle.wire.specs.Bytes.{number_at}
use Rattle.wire.proofs.Bytes.{counts_more}
use Rattle.wire.proofs.inner.read.counts_at.Goals as goal

pub loop-i-preserved : goal.loop-i-preserved
loop-i-preserved g c = (
  search rules,
  counts_more (λ (k : ℕ). number_at c.args.bytes.now (8 * k) 8) c.loop-i.counts c.loop-i.i _ (search rules) c.loop-i.invariant.1 c.number_at.ensures.0,
)
