-- `remainders` meets its contract. Assumes nothing.
use native.Mathlib.Omega.{arith}
use borrow.Author.Rules.{rules}
use Rattle.panel_lines.proofs.Filling.{filled_none, filled_turn, filled_done}
use Rattle.panel_lines.proofs.ShareWays.{product_fits, remainder_is}
use Rattle.panel_lines.proofs.inner.shares.Counted.remainders.Goals as goal

pub loop-i-init : goal.loop-i-init
loop-i-init c = record { long = search rules; filled = filled_none _ }

pub bounds-remainders-i : goal.bounds-remainders-i
bounds-remainders-i c = omega (arith, c.loop-i-test.true, c.args.self.some.totalled.few)

pub overflow_mul-remainders : goal.overflow_mul-remainders
overflow_mul-remainders c = record { fits = product_fits _ _ _ c.args.self.some.totalled }

pub loop-i-preserved : goal.loop-i-preserved
loop-i-preserved c = record {
  long = search rules;
  filled = filled_turn _ _ _ _ (omega (arith, c.loop-i-test.true, c.loop-i.invariant.long, c.args.self.some.totalled.few)) c.loop-i.invariant.filled (remainder_is _ _ _ c.args.self.some.totalled);
}

pub returns : goal.returns
returns c = filled_done _ _ c.loop-i.i _ c.loop-i.auto.i-end c.loop-i-test.false c.loop-i.invariant.filled
