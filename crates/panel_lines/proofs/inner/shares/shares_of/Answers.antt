-- `shares_of` meets its contract. Assumes nothing.
use native.Mathlib.Omega.{arith}
use borrow.Author.Rules.{rules}
use Rattle.panel_lines.proofs.Filling.{filled_none, filled_turn, filled_done}
use Rattle.panel_lines.proofs.ShareWays.{shares_none}
use Rattle.panel_lines.proofs.inner.shares.shares_of.Goals as goal

pub returns-then-all-eq0 : goal.returns-then-all-eq0
returns-then-all-eq0 c = shares_none _ _ c.requires c.if-all-eq0.true

pub loop-i-init : goal.loop-i-init
loop-i-init c = record { long = search rules; filled = filled_none _ }

pub loop-i-preserved : goal.loop-i-preserved
loop-i-preserved c = record {
  long = search rules;
  filled = filled_turn _ _ _ _ (omega (arith, c.loop-i.invariant.long, c.requires.few)) c.loop-i.invariant.filled c.share.ensures;
}

pub returns : goal.returns
returns c = filled_done _ _ c.loop-i.i _ c.loop-i.auto.i-end c.loop-i-test.false c.loop-i.invariant.filled
