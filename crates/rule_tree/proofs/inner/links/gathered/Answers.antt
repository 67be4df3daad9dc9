-- The loop's invariant: the links of the first i nodes are gathered, and there are none after them.
use Rattle.std.proofs.Common.{ℕ, List, ap, ◌∙◌, set, arith}
use Rattle.rule_tree.specs.Nodes.{node_at_of}
use Rattle.rule_tree.proofs.LinkWays.{links_none, links_more}
use Rattle.rule_tree.proofs.inner.links.gathered.Goals as goal

pub loop-i-init : goal.loop-i-init
loop-i-init c = links_none c.args.nodes.now

pub loop-i-preserved : goal.loop-i-preserved
loop-i-preserved c =
    let nodes = c.args.nodes.now in
    let i = c.loop-i.i in
    ap (λ (cs : List ℕ). set cs i (node_at_of nodes i).children) c.loop-i.invariant
    ∙ links_more nodes i (omega arith) (omega arith)
