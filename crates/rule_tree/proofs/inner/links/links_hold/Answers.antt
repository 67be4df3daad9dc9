-- Every link holds.
use Rattle.std.proofs.Common.{rules, tests, ◌≡◌, ◌∙◌, ap, ℕ, length, get_or}
use Rattle.std.specs.List.{list_all, enumerate_from}
use Rattle.std.proofs.lemmas.Iterator.{YieldsList-from_slice}
use Rattle.std.proofs.lemmas.Iterator.Search.{all_from_yields_List}
use Rattle.std.proofs.lemmas.Iterator.Consumers.{YieldsList-from_enumerate}
use Rattle.rule_tree.specs.Lists.{all_below}
use Rattle.rule_tree.specs.Grown.{link_holds}
use Rattle.rule_tree.proofs.Lists.{all_below_places}
use Rattle.rule_tree.proofs.inner.links.links_hold.Goals as goal

pub returns : goal.returns
returns c =
    let cs = c.args.children.now in
    let long : length cs ≡ 513 = search rules in
    let e : c.all.result ≡ list_all (λ (q : ℕ × ℕ). link_holds c.args.splits q.1 q.0) (enumerate_from 0 cs) =
    all_from_yields_List _ _ _ c.all.result c.all.ensures.ran (YieldsList-from_enumerate (YieldsList-from_slice cs cc) cc) (λ x b q k. search (rules, tests)) in
    e ∙ all_below_places (λ i k. link_holds c.args.splits k i) cs 0 ∙ ap (λ n. all_below n (λ i. link_holds c.args.splits (get_or cs i 0) i)) long
