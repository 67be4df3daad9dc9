-- A save that is taken, and the load of its bytes.
use Rattle.runs.proofs.Turning as law
use Rattle.runs.proofs.calls.reload_by.Goals as goal

pub slice_bounds-saved-end : goal.slice_bounds-saved-end
slice_bounds-saved-end c = law.lent c.args.t c.args.buffer.now c.in-Ok.n c.save.ensures.0 c.in-Ok.is _ c.save.auto.buf

pub slice_bounds-saved-end-in-Ok : goal.slice_bounds-saved-end-in-Ok
slice_bounds-saved-end-in-Ok c = law.lent_size c.args.t c.args.buffer.now c.in-Ok.n c.save.ensures.0 c.in-Ok.is _ c.save.auto.buf

pub returns-in-Ok : goal.returns-in-Ok
returns-in-Ok c =
    law.by_load c.args.t c.args.buffer.now c.in-Ok.n c.save.ensures.0 c.in-Ok.is _ c.save.auto.buf c.save.ensures.1 c.load.ensures c.report.ensures
