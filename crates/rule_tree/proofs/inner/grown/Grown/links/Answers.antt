-- A grown tree's links and root are ready for a walk.
use borrow.Author.Rules.{rules}
use Rattle.rule_tree.proofs.Links.{grown_whole}
use Rattle.rule_tree.proofs.Leaf.{ready}
use Rattle.rule_tree.proofs.inner.grown.Grown.links.Goals as goal

pub invariant_of-result : goal.invariant_of-result
invariant_of-result c =
    let t = c.args.self.tree.now in
    record { ready = ready t c.args.self.grown (grown_whole t c.args.self.grown (record { acks = search rules; sends = search rules; ratios = search rules })) c.children_of.ensures c.root.ensures }
