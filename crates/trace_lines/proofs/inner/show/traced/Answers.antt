-- `traced` tests the start, counts the events, tests the room, and writes their lines. Assumes nothing.
use mathlib.Core.Path.{sym, ◌∙◌}
use native.Mathlib.Omega.{arith}
use Rattle.trace_lines.proofs.Ways as law
use Rattle.trace_lines.proofs.inner.show.traced.Goals as goal

pub returns-then-not-start_holds : goal.returns-then-not-start_holds
returns-then-not-start_holds c = law.traced_start _ _ _ (sym c.start_holds.ensures ∙ c.if-not-start_holds.true)

pub returns-in_default : goal.returns-in_default
returns-in_default c =
    law.traced_broken _ _ _ (sym c.start_holds.ensures ∙ c.if-not-start_holds.false) c.count_events.ensures c.in_default.is

pub overflow_mul-n : goal.overflow_mul-n
overflow_mul-n c =
    record { fits = omega (arith, law.count_most c.args.tree.tree.now _ c.args.out.now (sym c.start_holds.ensures ∙ c.if-not-start_holds.false) c.count_events.ensures _ c.in-Some.is) }

pub returns-then-n-out : goal.returns-then-n-out
returns-then-n-out c =
    law.traced_short _ _ _ (sym c.start_holds.ensures ∙ c.if-not-start_holds.false) c.count_events.ensures _ c.in-Some.is c.if-n-out.true

pub put_lines-requires : goal.put_lines-requires
put_lines-requires c =
    law.tracing c.args.tree.tree.now _ _ (sym c.start_holds.ensures ∙ c.if-not-start_holds.false) c.count_events.ensures _ c.in-Some.is c.if-n-out.false

pub returns : goal.returns
returns c =
    law.traced_taken _ _ _ (sym c.start_holds.ensures ∙ c.if-not-start_holds.false) c.count_events.ensures _ c.in-Some.is c.if-n-out.false
    (rw c.of-rules.ensures at c.put_lines.ensures)
