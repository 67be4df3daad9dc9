-- The loop's invariant: the leaves among the nodes passed are stored.
use mathlib.Core.Path.{◌≡◌}
use lib.ListN.{length}
use Rattle.panel_lines.specs.Panel.{leaf_lines}
use Rattle.panel_lines.specs.Parts.{Wrote, listed}
use Rattle.panel_lines.proofs.inner.write.put_leaves.Given as goal

abbrev pub invariant-loop-i : goal.invariant-loop-i
invariant-loop-i l = record {
  long : length l.buf ≡ length l.initial.buf;
  wrote : Wrote l.initial.buf l.at l.buf l.next (leaf_lines l.t.nodes (listed l.shares) l.i);
}
