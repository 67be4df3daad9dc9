-- The loop's invariant: the rows so far are written. Assumes nothing.
use Rattle.std.proofs.Common.{◌≡◌, ◌≤◌, ◌-◌, ◌*◌, length}
use Rattle.std.proofs.lemmas.List.Edits.{sets}
use Rattle.host_trainer.specs.Lookups.{point_count, rows_bytes}
use Rattle.host_trainer.proofs.inner.rows.put_rows.Given as goal

abbrev pub invariant-loop-i : goal.invariant-loop-i
invariant-loop-i g l =
    (l.i ≤ point_count l.points) × (length l.out ≡ length l.initial.out) × (length (rows_bytes (g.R.Row.bytes l.rows) l.points l.i) ≡ g.R.Row.width * l.i)
    × (l.out ≡ sets l.initial.out 0 (rows_bytes (g.R.Row.bytes l.rows) l.points l.i))

abbrev pub decreases-loop-i : goal.decreases-loop-i
decreases-loop-i g l = point_count l.points - l.i
