-- The view of the nodes that a grown tree uses.
use Rattle.std.proofs.Common.{◌≡◌, ◌∙◌, true, ap, sym, take, rules, arith}
use Rattle.std.proofs.lemmas.Grind.{common_steps}
use Rattle.rule_tree.specs.Nodes.{node_count}
use Rattle.rule_tree.specs.Grown.{grown_of}
use Rattle.rule_tree.specs.Calls.{replaced_of}
use Rattle.rule_tree_view.specs.View.{view_of}
use Rattle.rule_tree_view.proofs.Viewed.{view_grown}
use Rattle.rule_tree_view.proofs.looked_through.Goals as goal

pub returns-in_err-of : goal.returns-in_err-of
unfolding replaced_of
returns-in_err-of c = grind (arith, common_steps)

pub returns : goal.returns
returns c =
    let t = c.args.tree in
    let g : grown_of t ≡ true = ap grown_of (sym c.in_ok-of.ensures) ∙ c.in_ok-of.field-0.grown in
    let e : c.action.result ≡ view_of (take (node_count t.splits) t.nodes) t.ends c.args.leaf c.args.action c.args.p = search rules in
    e ∙ view_grown t (search rules) g (record { acks = search rules; sends = search rules; ratios = search rules }) c.args.leaf c.args.action c.args.p
