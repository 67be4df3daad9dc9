-- The loop's invariant: what is left of 1000 and the cut shares passed make 1000.
use mathlib.Core.Path.{◌≡◌}
use Prim.Native.Nat.{◌+◌}
use Rattle.panel_lines.specs.Shares.{sum_below, cut_at}
use Rattle.panel_lines.proofs.inner.shares.Counted.missing.Given as goal

abbrev pub invariant-loop-count : goal.invariant-loop-count
invariant-loop-count l = l.missing + sum_below l.count-index (cut_at l.self.counts.now) ≡ 1000
