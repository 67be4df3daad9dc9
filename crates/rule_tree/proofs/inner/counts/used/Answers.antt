-- How many counts are above 0.
use Rattle.std.proofs.Common.{rules, ◌≡◌, ◌∙◌, sym, ltb, count_by}
use Rattle.rule_tree.proofs.Lists.{count_below_list}
use Rattle.rule_tree.proofs.inner.counts.used.Goals as goal

pub returns : goal.returns
returns c =
    let e : c.count.result ≡ count_by (λ n. ltb 0 n) c.args.counts.now = search rules in
    e ∙ sym (count_below_list (λ n. ltb 0 n) c.args.counts.now 0)
