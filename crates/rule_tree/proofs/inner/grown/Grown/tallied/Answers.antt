-- The list gains one at the leaf reached, and a refusal leaves it.
use mathlib.Core.Path.{◌≡◌, refl}
use mathlib.Core.List.{List}
use mathlib.Core.Bool.{true}
use Prim.Native.Nat.{ℕ, ◌<◌}
use native.Mathlib.Omega.{arith}
use lib.ListN.{length}
use Rattle.rule_tree.specs.declared.RuleTree.{RuleTree}
use Rattle.rule_tree.specs.Nodes.{node_count}
use Rattle.rule_tree.specs.Counts.{counts_hold}
use Rattle.rule_tree.proofs.Counting.{counts_accepted}
use Rattle.rule_tree.proofs.Looking as law
use Rattle.rule_tree.proofs.inner.grown.Grown.tallied.Goals as goal

below : (t : RuleTree) (xs : List ℕ) (n : ℕ) → counts_hold t xs ≡ true → n < node_count t.splits → n < length xs
below t xs n h l = let m = (counts_accepted t xs h).one_a_node in omega arith

pub bounds-counts-reached : goal.bounds-counts-reached
bounds-counts-reached c = below c.args.self.tree.now c.args.counts.now c.in-Some.reached.node c.requires c.in-Some.ensures.2

pub overflow_add-counts : goal.overflow_add-counts
overflow_add-counts c =
    let l = below c.args.self.tree.now c.args.counts.now c.in-Some.reached.node c.requires c.in-Some.ensures.2 in
    record { fits = law.count_small c.args.counts.now c.in-Some.reached.node l c.args.self.tree.now c.requires _ c.capped_total.ensures c.if-capped_total-eq-MOST_COUNTED.false }

pub bounds-counts-reached-2 : goal.bounds-counts-reached-2
bounds-counts-reached-2 c = below c.args.self.tree.now c.args.counts.now c.in-Some.reached.node c.requires c.in-Some.ensures.2

pub returns : goal.returns
returns c =
    let h = c.in-Some.ensures in
    let e = law.tally_counted c.args.self.tree.now c.args.counts.now c.args.p c.args.self.grown c.requires h.0
    c.capped_total.result c.capped_total.ensures c.if-capped_total-eq-MOST_COUNTED.false c.in-Some.reached.node (law.reached_leaf_lem c.args.self.tree.now c.args.p _ h.1) in
    (e, law.counted_leaf c.args.counts.now _ c.in-Some.reached.node e)

pub returns-then-capped_total-eq-MOST_COUNTED : goal.returns-then-capped_total-eq-MOST_COUNTED
returns-then-capped_total-eq-MOST_COUNTED c =
    let e = law.tally_full c.args.self.tree.now c.args.counts.now c.args.p c.args.self.grown c.requires c.in-Some.ensures.0
    c.capped_total.result c.capped_total.ensures c.if-capped_total-eq-MOST_COUNTED.true in
    (e, law.counted_refused c.args.counts.now _ _ refl e)

pub returns-in_default : goal.returns-in_default
returns-in_default c =
    let e = law.tally_nothing c.args.self.tree.now c.args.counts.now c.args.p c.args.self.grown c.requires c.in_default.ensures in
    (e, law.counted_nothing c.args.counts.now _ e)
