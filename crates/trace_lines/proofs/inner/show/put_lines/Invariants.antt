-- `put_lines` writes a line an event. The loop's invariant: the lines of the events passed are stored, and `left` is the sender after them.
-- Assumes nothing.
use Rattle.trace_lines.proofs.Showing as law
use Rattle.trace_lines.proofs.inner.show.put_lines.Given as goal

abbrev pub invariant-loop : goal.invariant-loop
invariant-loop l = law.Shown l.rules.grown.tree.now l.body l.n l.initial.left l.initial.out l.out l.left l.at l.next l.counter
