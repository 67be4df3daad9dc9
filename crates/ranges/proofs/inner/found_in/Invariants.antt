-- `inner::found_in`: the leaves among the first i nodes are listed. Assumes nothing.
use Rattle.std.proofs.Common.{◌≡◌}
use Rattle.ranges.specs.Ranges.{passing, reached_leaf}
use Rattle.ranges.proofs.inner.found_in.Given as goal

abbrev pub invariant-loop-i : goal.invariant-loop-i
invariant-loop-i l = l.leaves.items ≡ passing (reached_leaf l.t.tree.now l.r) 0 l.i
