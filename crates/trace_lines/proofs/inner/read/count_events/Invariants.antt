-- `count_events` counts whole events. The loop's invariant: n events stand before place at, and the rest is as whole as all. Assumes nothing.
use Prim.Native.Nat.{◌-◌}
use lib.ListN.{length}
use Rattle.trace_lines.proofs.Counting as law
use Rattle.trace_lines.proofs.inner.read.count_events.Given as goal

abbrev pub invariant-loop-at : goal.invariant-loop-at
invariant-loop-at l = law.Counting l.body l.at l.n

abbrev pub decreases-loop-at : goal.decreases-loop-at
decreases-loop-at l = length l.body - l.at
