-- Every slot holds.
use Rattle.std.proofs.Common.{rules, tests, ◌≡◌, ◌∙◌, ap, ℕ, length, ltb, get_or}
use Rattle.std.specs.List.{list_all, enumerate_from}
use Rattle.std.proofs.lemmas.Iterator.{YieldsList-from_slice}
use Rattle.std.proofs.lemmas.Iterator.Search.{all_from_yields_List}
use Rattle.std.proofs.lemmas.Iterator.Consumers.{YieldsList-from_enumerate}
use Rattle.rule_tree.specs.declared.Node.{Node}
use Rattle.rule_tree.specs.Lists.{all_below}
use Rattle.rule_tree.specs.Nodes.{no_node, node_count}
use Rattle.rule_tree.specs.Grown.{slot_holds}
use Rattle.rule_tree.proofs.Lists.{all_below_places}
use Rattle.rule_tree.proofs.inner.links.payloads_hold.Goals as goal

pub returns : goal.returns
returns c =
    let xs = c.args.t.now.nodes in
    let long : length xs ≡ 513 = search rules in
    let e : c.all.result ≡ list_all (λ (q : ℕ × Node). slot_holds q.1 (ltb q.0 (node_count c.args.t.now.splits))) (enumerate_from 0 xs) =
    all_from_yields_List _ _ _ c.all.result c.all.ensures.ran (YieldsList-from_enumerate (YieldsList-from_slice xs cc) cc) (λ x b q k. search (rules, tests)) in
    e ∙ all_below_places (λ i x. slot_holds x (ltb i (node_count c.args.t.now.splits))) xs no_node ∙ ap (λ n. all_below n (λ i. slot_holds (get_or xs i no_node) (ltb i (node_count c.args.t.now.splits)))) long
