-- The list is the product of the three axes' sums. Assumes nothing.
use Rattle.trainer.proofs.CandidateLaws.{total}
use Rattle.trainer.proofs.inner.list.Candidates.len.Goals as goal

pub returns : goal.returns
returns c = rw (c.len-m.ensures.value, c.len-i.ensures.value, c.len-d.ensures.value, c.multiplier_sums.ensures, c.increment_sums.ensures, c.delay_sums.ensures) (total c.args.self.settings.now c.args.self.action)
