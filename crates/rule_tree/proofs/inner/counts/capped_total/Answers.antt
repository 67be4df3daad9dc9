-- The loop's invariant: the sum of what was passed, at most 2^53.
use mathlib.Core.Path.{refl}
use native.Mathlib.Omega.{arith}
use Rattle.rule_tree.specs.Lists.{total}
use Rattle.rule_tree.proofs.Counting.{capped_over, capped_more}
use Rattle.rule_tree.proofs.inner.counts.capped_total.Goals as goal

pub loop-x-init : goal.loop-x-init
unfolding total
loop-x-init c = (omega arith, refl)

pub returns-then-total-x : goal.returns-then-total-x
returns-then-total-x c = capped_over _ _ _ c.loop-x-test.true c.loop-x.invariant.1 c.if-total-x.true

pub loop-x-preserved : goal.loop-x-preserved
loop-x-preserved c = (omega arith, capped_more _ _ _ c.loop-x-test.true c.loop-x.invariant.1)
