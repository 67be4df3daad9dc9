-- The loop's invariant: the remainders passed are stored.
use mathlib.Core.Path.{◌≡◌}
use lib.ListN.{length, take}
use Rattle.rule_tree.specs.Lists.{tabulate}
use Rattle.panel_lines.specs.Shares.{remainder_at}
use Rattle.panel_lines.proofs.inner.shares.Counted.remainders.Given as goal

abbrev pub invariant-loop-i : goal.invariant-loop-i
invariant-loop-i l = record {
  long : length l.remainders ≡ 513;
  filled : take l.i l.remainders ≡ tabulate l.i (remainder_at l.self.counts.now);
}
