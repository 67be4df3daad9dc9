-- The loop's invariant: no row before the loop's holds the point. Assumes nothing.
use Rattle.std.proofs.Common.{◌-◌, ◌≡◌}
use Rattle.even.specs.Even.{row_from, row_of}
use Rattle.even.proofs.row_of.Given as goal

abbrev pub invariant-loop-row : goal.invariant-loop-row
invariant-loop-row l = row_from (64 - l.row) l.row l.p ≡ row_of l.p
