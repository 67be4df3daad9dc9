-- The record is saved into a buffer that holds any.
use lib.ListN.{replicate}
use Rattle.runs.proofs.Turning as law
use Rattle.runs.proofs.calls.finish.Goals as goal

pub slice_bounds-buffer-end : goal.slice_bounds-buffer-end
slice_bounds-buffer-end c = law.lent c.args.t (replicate 16388 0) c.in-Ok.n c.save.ensures.0 c.in-Ok.is _ c.save.auto.buf

pub slice_bounds-put_bytes-end : goal.slice_bounds-put_bytes-end
slice_bounds-put_bytes-end c = law.lent_size c.args.t (replicate 16388 0) c.in-Ok.n c.save.ensures.0 c.in-Ok.is _ c.save.auto.buf

pub returns : goal.returns
returns c = law.end_put c.args.t c.in-Ok.n c.save.ensures.0 c.in-Ok.is c.save.ensures.1 c.put.ensures c.put_bytes.ensures
