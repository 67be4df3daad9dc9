-- How many nodes are no leaf.
use Rattle.std.proofs.Common.{rules, ◌≡◌, ◌∙◌, ap, sym, length, get_or, eqb, not, count_by}
use Rattle.rule_tree.specs.declared.Node.{Node}
use Rattle.rule_tree.specs.Lists.{count_below}
use Rattle.rule_tree.specs.Nodes.{no_node}
use Rattle.rule_tree.proofs.Lists.{count_below_list}
use Rattle.rule_tree.proofs.inner.links.num_parents.Goals as goal

pub returns : goal.returns
returns c =
    let long : length c.args.t.now.nodes ≡ 513 = search rules in
    let e : c.count.result ≡ count_by (λ (x : Node). not (eqb x.children 0)) c.args.t.now.nodes = search rules in
    e ∙ sym (count_below_list (λ (x : Node). not (eqb x.children 0)) c.args.t.now.nodes no_node) ∙ ap (λ n. count_below n (λ k. not (eqb (get_or c.args.t.now.nodes k no_node).children 0))) long
