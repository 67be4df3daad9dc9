-- `leaves_within`: the leaves found stand in the first places of the list. Assumes nothing.
use Rattle.std.proofs.Common.{◌≡◌, ◌∙◌, sym, ap, length, arith, List, ℕ}
use Rattle.rule_tree.specs.declared.RuleTree.{RuleTree}
use Rattle.rule_tree.specs.Grown.{grown_of}
use Rattle.ranges.specs.Ranges.{leaves_within}
use Rattle.ranges.proofs.Calls as law
use Rattle.ranges.proofs.leaves_within.Goals as goal

pub returns-clause-list : goal.returns-clause-list
returns-clause-list c =
    let ls : List ℕ = leaves_within c.args.tree c.args.r in
    let same : c.in_ok-tree.tree.tree.now ≡ c.args.tree = c.in_ok-tree.ensures in
    let found : c.found_in-found.result.items ≡ ls = c.found_in-found.ensures ∙ ap (λ (t : RuleTree). leaves_within t c.args.r) same in
    let n : c.len-n.result ≡ length ls = c.len-n.ensures.value ∙ ap length found in
    let w : c.copy_from_slice.new.self ≡ ls = c.copy_from_slice.ensures.after ∙ c.as_slice.ensures.value ∙ found in
    rw (w, n)
    (law.listed c.args.tree c.args.r c.args.list.now (ap grown_of (sym same) ∙ c.in_ok-tree.tree.grown) (sym c.ordered.ensures ∙ c.if-not-ordered.false) (omega arith)).1
