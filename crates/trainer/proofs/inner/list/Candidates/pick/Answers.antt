-- Candidate k of the product of the three axes' sums. Assumes nothing.
use Rattle.std.proofs.Common.{rules}
use mir.Syntax.{w32}
use mir.ValLaws.{to_z-of_z}
use Rattle.trainer.proofs.Pick.{pick_past, pick_at}
use Rattle.trainer.proofs.inner.list.Candidates.pick.Goals as goal

pub returns-then-k-length : goal.returns-then-k-length
returns-then-k-length c =
    pick_past c.args.self.settings.now c.args.self.action c.args.k c.multiplier_sums-m.result.items c.increment_sums-i.result.items c.delay_sums-d.result.items
    c.multiplier_sums-m.ensures c.increment_sums-i.ensures c.delay_sums-d.ensures
    _ _ _ c.len-3.ensures.value c.len.ensures.value c.len-2.ensures.value c.if-k-length.true

pub returns : goal.returns
returns c =
    pick_at c.args.self.settings.now c.args.self.action c.args.k c.multiplier_sums-m.result.items c.increment_sums-i.result.items c.delay_sums-d.result.items
    c.multiplier_sums-m.ensures c.increment_sums-i.ensures c.delay_sums-d.ensures
    c.len-3.result c.len.result c.len-2.result c.len-3.ensures.value c.len.ensures.value c.len-2.ensures.value
    c.value_at-multiplier.result c.value_at-increment.result _ c.value_at-delay.result c.new.result c.if-k-length.false
    (rw c.as_slice.ensures.value at c.value_at-multiplier.ensures)
    (rw (c.as_slice-2.ensures.value, c.len-4.ensures.value, ← c.len-2.ensures.value) at c.value_at-increment.ensures)
    (rw (c.as_slice-3.ensures.value, c.len-5.ensures.value, ← c.len-2.ensures.value) at c.value_at-delay.ensures)
    (to_z-of_z w32 c.value_at-increment.result (search rules)) c.new.ensures
