-- No count above 0 stands beside a parent.
use Rattle.std.proofs.Common.{rules, tests, ◌≡◌, ◌∙◌, ◌||◌, ℕ, eqb}
use Rattle.std.specs.List.{list_all, zip}
use Rattle.std.proofs.lemmas.Iterator.{YieldsList-from_slice, YieldsList-from_zip}
use Rattle.std.proofs.lemmas.Iterator.Search.{all_from_yields_List}
use Rattle.rule_tree.specs.declared.Node.{Node}
use Rattle.rule_tree.specs.Nodes.{no_node}
use Rattle.rule_tree.proofs.Lists.{all_below_pairs}
use Rattle.rule_tree.proofs.inner.counts.none_at_parents.Goals as goal

pub returns : goal.returns
returns c =
    let e : c.all.result ≡ list_all (λ (q : ℕ × Node). eqb q.1.children 0 || eqb q.0 0) (zip c.args.counts.now c.args.t.now.nodes) =
    all_from_yields_List _ c.all.new.self _ c.all.result c.all.ensures.ran (YieldsList-from_zip (YieldsList-from_slice c.args.counts.now cc) (YieldsList-from_slice c.args.t.now.nodes cc)) (λ x b q k. search (rules, tests)) in
    e ∙ all_below_pairs (λ (n : ℕ) (x : Node). eqb x.children 0 || eqb n 0) c.args.counts.now c.args.t.now.nodes 0 no_node (search rules)
