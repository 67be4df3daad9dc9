-- Each turn counts one value. Assumes nothing.
use Rattle.std.proofs.Common.{sym, refl, arith}
use Rattle.trainer.proofs.Axis.{count_turn, count_stop, count_done}
use Rattle.trainer.proofs.inner.axis.Axis.ends.Goals as goal

pub returns-then-not-at_most : goal.returns-then-not-at_most
returns-then-not-at_most g c = count_stop _ _ _ _ _ _ refl _ (sym c.if-not-at_most.ensures) c.loop-turn.invariant.count

pub loop-turn-preserved : goal.loop-turn-preserved
loop-turn-preserved g c = record {
  change = c.times-x.ensures.change;
  count = count_turn _ _ _ _ _ _ refl _ _ _ (omega arith) (sym c.if-not-at_most.ensures) c.times-x.ensures.value c.loop-turn.invariant.count;
}

pub returns : goal.returns
returns g c = count_done _ _ _ _ _ _ c.at_most-2.ensures _ (omega arith) c.loop-turn.invariant.count
