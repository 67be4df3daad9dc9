-- `host_trainer::inner::rows::put_all` tests in the order 6, 9, and a refusal leaves the buffer. Assumes nothing.
use Rattle.host_trainer.proofs.LookupWays as law
use Rattle.host_trainer.proofs.inner.rows.put_all.Goals as goal

pub returns-then-points-ne0 : goal.returns-then-points-ne0
returns-then-points-ne0 g c = law.rows_cut g.R.Row.width (g.R.Row.bytes c.args.rows.now) c.args.points.now c.args.out.now c.if-points-ne0.true

pub returns-then-size-out : goal.returns-then-size-out
returns-then-size-out g c =
    law.rows_short g.R.Row.width (g.R.Row.bytes c.args.rows.now) c.args.points.now c.args.out.now c.size.result c.size.ensures.value c.if-points-ne0.false
    c.if-size-out.true

pub returns : goal.returns
returns g c =
    law.rows_taken g.R.Row.width (g.R.Row.bytes c.args.rows.now) c.args.points.now c.args.out.now c.size.result c.size.ensures.value c.if-points-ne0.false
    c.if-size-out.false c.put_rows.ensures
