-- The loop's invariant: the shares passed are stored.
use mathlib.Core.Path.{◌≡◌}
use lib.ListN.{length, take}
use Rattle.rule_tree.specs.Lists.{tabulate}
use Rattle.panel_lines.specs.Shares.{share_in}
use Rattle.panel_lines.proofs.inner.shares.shares_of.Given as goal

abbrev pub invariant-loop-i : goal.invariant-loop-i
invariant-loop-i l = record {
  long : length l.shares ≡ 513;
  filled : take l.i l.shares ≡ tabulate l.i (share_in l.counts);
}
