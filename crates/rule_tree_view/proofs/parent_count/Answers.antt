-- How many links there are.
use Rattle.std.proofs.Common.{rules, ◌≡◌, ◌∙◌, ap, sym, ℕ, length, get_or, eqb, not, count_by}
use Rattle.rule_tree.specs.Lists.{count_below}
use Rattle.rule_tree.proofs.Lists.{count_below_list}
use Rattle.rule_tree_view.proofs.parent_count.Goals as goal

pub returns : goal.returns
returns c =
    let cs = c.args.links.now in
    let long : length cs ≡ 513 = search rules in
    let e : c.count.result ≡ count_by (λ (k : ℕ). not (eqb k 0)) cs = search rules in
    e ∙ sym (count_below_list (λ (k : ℕ). not (eqb k 0)) cs 0) ∙ ap (λ n. count_below n (λ i. not (eqb (get_or cs i 0) 0))) long
