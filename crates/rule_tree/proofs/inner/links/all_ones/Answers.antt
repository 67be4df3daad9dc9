-- Each of the first splits has one owner.
use Rattle.std.proofs.Common.{rules, tests, ◌≡◌, ◌∙◌, ℕ, eqb, take}
use Rattle.std.specs.List.{list_all}
use Rattle.std.proofs.lemmas.Iterator.{YieldsList-from_slice}
use Rattle.std.proofs.lemmas.Iterator.Search.{all_from_yields_List}
use Rattle.rule_tree.proofs.Lists.{all_below_front}
use Rattle.rule_tree.proofs.inner.links.all_ones.Goals as goal

pub returns : goal.returns
returns c =
    let xs = c.args.owners.now in
    let e : c.all.result ≡ list_all (λ (n : ℕ). eqb n 1) (take c.args.splits xs) =
    all_from_yields_List _ _ _ c.all.result c.all.ensures.ran (YieldsList-from_slice (take c.args.splits xs) (search rules)) (λ x b q k. search (rules, tests)) in
    e ∙ all_below_front (λ (n : ℕ). eqb n 1) xs 0 c.args.splits (search rules)
