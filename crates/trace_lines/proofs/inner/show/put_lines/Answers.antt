-- `put_lines` writes a line an event. The loop's invariant: the lines of the events passed are stored, and `left` is the sender after them.
-- Assumes nothing.
use mathlib.Core.Path.{ap}
use native.Mathlib.Omega.{arith}
use Rattle.sender.specs.declared.Sender.{Sender}
use Rattle.panel_lines.proofs.Lines.{named}
use Rattle.trace_lines.specs.Trace.{events_in, lines_from}
use Rattle.trace_lines.proofs.Showing as law
use Rattle.trace_lines.proofs.inner.show.put_lines.Goals as goal

pub put_line-next-requires : goal.put_line-next-requires
put_line-next-requires c =
    law.line_room _ _ _ _ _ _ _ _ _ _ c.loop.invariant c.loop-test.true c.event_in-e.ensures c.size_of-size.ensures c.event_by-reply.ensures c.requires.room

pub loop-preserved : goal.loop-preserved
loop-preserved c =
    law.shown_turn _ _ _ _ _ _ _ _ _ _ c.loop.invariant c.loop-test.true c.event_in-e.ensures c.size_of-size.ensures c.event_by-reply.ensures c.put_line-next.ensures c.left_by-left.ensures

pub returns : goal.returns
returns c =
    named (ap (λ (u : Sender). lines_from c.args.rules.now.grown.tree.now u (events_in c.args.body.now)) c.fresh-left.ensures)
    (law.shown_done _ _ _ _ _ _ _ _ _ _ c.loop.invariant (omega arith))
