-- `host_lists::inner::rows::put_candidates`: the sums of the three axes give the list of candidates. Assumes nothing.
use Rattle.std.proofs.Common.{◌∙◌}
use Rattle.host_lists.proofs.Rows as law
use Rattle.host_lists.proofs.inner.rows.put_candidates.Goals as goal

pub put_row-requires : goal.put_row-requires
put_row-requires c =
    law.from_held c.args.list.settings.now c.args.list.action (c.as_slice.ensures.value ∙ c.multiplier_sums-m.ensures) (c.as_slice-2.ensures.value ∙ c.increment_sums-i.ensures)
    (c.as_slice-3.ensures.value ∙ c.delay_sums-d.ensures) c.args.from c.requires

pub returns : goal.returns
returns c =
    law.row_held c.args.list.settings.now c.args.list.action (c.as_slice.ensures.value ∙ c.multiplier_sums-m.ensures) (c.as_slice-2.ensures.value ∙ c.increment_sums-i.ensures)
    (c.as_slice-3.ensures.value ∙ c.delay_sums-d.ensures) c.args.own c.args.from c.args.out.now c.put_row.ensures
