-- `put_window` writes the window and the line's end, by the flag. Assumes nothing.
use Rattle.trace_lines.proofs.Lines as law
use Rattle.trace_lines.proofs.inner.write.put_window.Goals as goal

pub returns-then-clipped : goal.returns-then-clipped
returns-then-clipped c =
    law.window_written c.args.window c.args.clipped c.put_decimal-end.ensures (law.end_clipped c.args.clipped c.if-clipped.true) c.put.ensures

pub returns-else-clipped : goal.returns-else-clipped
returns-else-clipped c =
    law.window_written c.args.window c.args.clipped c.put_decimal-end.ensures (law.end-plain c.args.clipped c.if-clipped.false) c.put-else-clipped.ensures
