-- `host_lists::inner::rows::asked_by`: no phase, nothing asked for. Assumes nothing.
use Rattle.std.proofs.Common.{sym, ◌∙◌}
use Rattle.host_lists.proofs.Rows as law
use Rattle.host_lists.proofs.inner.rows.asked_by.Goals as goal

pub returns-in-None : goal.returns-in-None
returns-in-None c = law.row_nowhere c.args.t.now c.args.out.now (sym c.of.ensures ∙ c.in-None.is)
