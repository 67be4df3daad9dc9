-- The loop's invariant: the links of the first i nodes are gathered, and there are none after them.
use Rattle.std.proofs.Common.{◌≡◌}
use Rattle.rule_tree.specs.Nodes.{links_of}
use Rattle.rule_tree.proofs.inner.links.gathered.Given as goal

abbrev pub invariant-loop-i : goal.invariant-loop-i
invariant-loop-i l = l.links ≡ links_of l.nodes l.i
