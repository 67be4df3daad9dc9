-- The links of a tree's nodes, which fill the array.
use Rattle.std.proofs.Common.{rules, ◌∙◌}
use Rattle.rule_tree.proofs.LinkWays as law
use Rattle.rule_tree.proofs.inner.links.children_of.Goals as goal

pub returns : goal.returns
returns c = c.gathered.ensures ∙ law.gathered_all c.args.t.now.nodes (search rules)
