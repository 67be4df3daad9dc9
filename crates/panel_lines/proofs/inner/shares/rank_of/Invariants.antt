-- The loop's invariant: how many of those passed come before entry i.
use mathlib.Core.Path.{◌≡◌}
use Prim.Native.Nat.{◌≤◌}
use Rattle.rule_tree.specs.Lists.{count_below}
use Rattle.panel_lines.proofs.ShareWays.{ahead_of}
use Rattle.panel_lines.proofs.inner.shares.rank_of.Given as goal

abbrev pub invariant-loop-j : goal.invariant-loop-j
invariant-loop-j l = record {
  few : l.rank ≤ l.j;
  counted : l.rank ≡ count_below l.j (ahead_of l.remainders l.i);
}
