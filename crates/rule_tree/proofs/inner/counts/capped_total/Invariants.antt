-- The loop's invariant: the sum of what was passed, at most 2^53.
use mathlib.Core.Path.{◌≡◌}
use Prim.Native.Nat.{◌≤◌}
use lib.ListN.{take}
use Rattle.rule_tree.specs.Lists.{total}
use Rattle.rule_tree.proofs.inner.counts.capped_total.Given as goal

abbrev pub invariant-loop-x : goal.invariant-loop-x
invariant-loop-x l = (l.total ≤ 9007199254740992) × (l.total ≡ total (take l.x-index l.counts))
