-- `missing` meets its contract. Assumes nothing.
use Rattle.panel_lines.proofs.ShareWays.{product_fits, missing_start, missing_room, missing_turn, missing_done}
use Rattle.panel_lines.proofs.inner.shares.Counted.missing.Goals as goal

pub loop-count-init : goal.loop-count-init
loop-count-init c = missing_start c.args.self.counts.now

pub overflow_mul-missing : goal.overflow_mul-missing
overflow_mul-missing c = record { fits = product_fits _ _ _ c.args.self.some.totalled }

pub overflow_sub-missing : goal.overflow_sub-missing
overflow_sub-missing c = missing_room _ _ c.args.self.some _ _ c.loop-count.invariant c.loop-count-test.true

pub loop-count-preserved : goal.loop-count-preserved
loop-count-preserved c = missing_turn _ _ c.args.self.some _ _ c.loop-count.invariant c.loop-count-test.true

pub returns : goal.returns
returns c = missing_done _ _ c.args.self.some _ _ c.loop-count.invariant c.loop-count.auto.count-index-end c.loop-count-test.false
