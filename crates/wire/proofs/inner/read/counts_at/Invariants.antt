-- The loop's invariant: the numbers before the loop's place are read. Assumes nothing.
use Rattle.std.proofs.Common.{◌≡◌, ℕ, ◌*◌, ◌<◌, get_or, length}
use Rattle.wire.specs.Bytes.{number_at}
use Rattle.wire.proofs.inner.read.counts_at.Given as goal

abbrev pub invariant-loop-i : goal.invariant-loop-i
invariant-loop-i g l = (length l.counts ≡ g.row.N) × ((k : ℕ) → k < l.i → get_or l.counts k 0 ≡ number_at l.bytes (8 * k) 8)
