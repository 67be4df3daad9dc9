-- `walk` meets its contract. The loop's invariant: node i is on the way from the root, and c is its link. The measure: a later node is nearer to 513.
-- Assumes nothing.
use mathlib.Core.Path.{◌≡◌}
use Prim.Native.Nat.{◌-◌}
use lib.ListN.{get_or}
use Rattle.rule_tree.proofs.Walking.{On}
use Rattle.rule_tree.proofs.inner.walk.walk.Given as goal

abbrev pub invariant-loop-c : goal.invariant-loop-c
invariant-loop-c l = On l.children l.initial.cube l.p l.cube l.i l.tested × (l.c ≡ get_or l.children l.i 0)

abbrev pub decreases-loop-c : goal.decreases-loop-c
decreases-loop-c l = 513 - l.i
