-- `printed` writes the lines, or the one line of a refusal. Assumes nothing.
use native.Mathlib.Omega.{arith}
use Rattle.trace_lines.proofs.Printing as law
use Rattle.trace_lines.proofs.printed.Goals as goal

pub put_refusal-requires : goal.put_refusal-requires
put_refusal-requires c =
    rw c.number.ensures
    (law.refusal_room c.args.input.now c.args.out.now c.trace.ensures.0 c.trace.ensures.1 (omega (arith, c.well_formed)) _ c.in-Err.is)

pub returns-in-Ok : goal.returns-in-Ok
returns-in-Ok c =
    law.lines_printed c.args.input.now c.args.out.now c.trace.ensures.0 c.trace.ensures.1 _ c.in-Ok.is

pub returns-in-Err : goal.returns-in-Err
returns-in-Err c =
    law.refusal_printed c.args.input.now c.args.out.now c.trace.ensures.0 c.trace.ensures.1 (omega (arith, c.well_formed)) _ c.in-Err.is
    (rw c.number.ensures at c.put_refusal.ensures)
