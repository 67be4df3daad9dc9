-- Every action is valid.
use Rattle.std.proofs.Common.{rules, tests, ◌≡◌, ◌∙◌}
use Rattle.std.specs.List.{list_all}
use Rattle.std.proofs.lemmas.Iterator.{YieldsList-from_slice}
use Rattle.std.proofs.lemmas.Iterator.Search.{all_from_yields_List}
use Rattle.remy.specs.Action.{valid_of}
use Rattle.rule_tree.specs.declared.Node.{Node}
use Rattle.rule_tree.specs.Nodes.{no_node, action_in}
use Rattle.rule_tree.proofs.Lists.{all_below_list}
use Rattle.rule_tree_view.proofs.all_valid.Goals as goal

pub returns : goal.returns
returns c =
    let e : c.all.result ≡ list_all (λ (x : Node). valid_of (action_in x)) c.args.nodes.now =
    all_from_yields_List _ _ _ c.all.result c.all.ensures.ran (YieldsList-from_slice c.args.nodes.now cc) (λ x b q k. search (rules, tests)) in
    e ∙ all_below_list (λ x. valid_of (action_in x)) c.args.nodes.now no_node
