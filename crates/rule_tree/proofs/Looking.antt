-- One law for each way through `reach`, `opened`, `found_replaced` and `tallied`, over plain values. Assumes nothing.
use mathlib.Core.Path.{◌≡◌, refl, sym, ap, subst, ◌∙◌}
use mathlib.Core.Bool.{true, false}
use mathlib.Core.List.{List}
use Prim.Native.Nat.{ℕ, ◌+◌, ◌^◌, ◌<◌}
use native.Mathlib.Omega.{arith}
use lib.ListN.{get_or, set, length}
use borrow.Author.Tests.{eq-eqb, ne_eqb}
use Rattle.remy.specs.declared.action.Action.{Action}
use Rattle.remy.specs.declared.point.Point.{Point}
use Rattle.remy.specs.declared.cube.Cube.{Cube}
use Rattle.remy.specs.Cube.{contains_of, root_of, Whole}
use Rattle.rule_tree.specs.declared.Node.{Node}
use Rattle.rule_tree.specs.declared.RuleTree.{RuleTree}
use Rattle.std.specs.Result.{IsErr}
use Rattle.std.specs.Prelude.{Option, Some, None, MatchOption, Result, Ok, Err}
use Rattle.refusal.specs.declared.Refusal.{Refusal}
use Rattle.refusal.specs.declared.Refusal.TheVariants.{FullTally, NotGrown}
use Rattle.rule_tree.specs.declared.Lookup.{Lookup}
use Rattle.rule_tree.specs.declared.inner.walk.Reached.{Reached}
use Rattle.rule_tree.specs.Lists.{total}
use Rattle.rule_tree.specs.Nodes.{node_at_of, children_of, node_count, slots, action_in}
use Rattle.rule_tree.specs.Grown.{grown_of}
use Rattle.rule_tree.specs.Walk.{walk_of, leaf_of}
use Rattle.rule_tree.specs.Leaf.{Ready}
use Rattle.rule_tree.specs.Counts.{limit, capped_total, counts_hold}
use Rattle.rule_tree.specs.Change.{with_action}
use Rattle.rule_tree.specs.Calls.{found_in, lookup_of, tested_in, opened_in, opened_of, tally_of, counted_in}
use Rattle.rule_tree.proofs.Lists.{total_take, total_take_le}
use Rattle.rule_tree.proofs.Counting.{counts_accepted}
use Rattle.rule_tree.proofs.Changing.{action_at_lem, action_other, action_links}
use Rattle.rule_tree.proofs.Links.{grown_splits, grown_own_links}
use Rattle.rule_tree.proofs.Walking.{walk_leaf}

-- ---- reach
-- what the links of a grown tree reach is a node that is in use
pub reached_node : (t : RuleTree) (p : Point) (o : Option Reached) {cs : List ℕ} {root : Cube} → grown_of t ≡ true → Ready cs root → cs ≡ children_of t.nodes → root ≡ root_of t.ends
    → MatchOption o (contains_of root p ≡ false) (λ r. (contains_of root p ≡ true) × (r ≡ walk_of cs root p))
    → MatchOption o (contains_of (root_of t.ends) p ≡ false)
    (λ r. (contains_of (root_of t.ends) p ≡ true) × (r ≡ walk_of (children_of t.nodes) (root_of t.ends) p) × (r.node < node_count t.splits))
reached_node t p None g y e q h = rw q at h
reached_node t p (Some r) g y e q h =
    let i : contains_of (root_of t.ends) p ≡ true = rw q at h.0 in
    let k : r ≡ walk_of (children_of t.nodes) (root_of t.ends) p = rw (e, q) at h.1 in (
      i,
      k,
      subst (λ (x : Reached). x.node < node_count t.splits) (sym k)
          (walk_leaf (children_of t.nodes) (root_of t.ends) p t.splits (grown_splits t g) (grown_own_links t g) (subst Whole q y.whole) i).node,
    )

-- the leaf of a walk
pub reached_leaf_lem : (t : RuleTree) (p : Point) (r : Reached) → r ≡ walk_of (children_of t.nodes) (root_of t.ends) p → r.node ≡ leaf_of t p
reached_leaf_lem t p r e = ap (λ (x : Reached). x.node) e

pub leaf_slot : (t : RuleTree) → grown_of t ≡ true → (n : ℕ) → n < node_count t.splits → n < slots
leaf_slot t g n l = let a = grown_splits t g in omega arith

-- ---- what is found
look_found : (t : RuleTree) (p : Point) (r : Reached) → contains_of (root_of t.ends) p ≡ true → r ≡ walk_of (children_of t.nodes) (root_of t.ends) p
    → Some (action_in (node_at_of t.nodes r.node)) ≡ found_in t p
unfolding found_in
look_found t p r h e = rw (h, e)

look_nothing : (t : RuleTree) (p : Point) → contains_of (root_of t.ends) p ≡ false → None ≡ found_in t p
unfolding found_in
look_nothing t p h = rw h

-- ---- opened
tested_inside : (t : RuleTree) (p : Point) (r : Reached) → contains_of (root_of t.ends) p ≡ true → r ≡ walk_of (children_of t.nodes) (root_of t.ends) p
    → r.tested ≡ tested_in t p
unfolding tested_in
tested_inside t p r h e = rw (h, e)

tested_outside : (t : RuleTree) (p : Point) → contains_of (root_of t.ends) p ≡ false → 1 ≡ tested_in t p
unfolding tested_in
tested_outside t p h = rw h

lookup_is : (t : RuleTree) (p : Point) (f : Option Action) (n : ℕ) → f ≡ found_in t p → n ≡ tested_in t p → ◌≡◌ {A = Lookup} record { found = Ok f; tested = n } (opened_in t p)
unfolding opened_in
lookup_is t p f n e h = λ j. record { found = Ok (e j); tested = h j }

pub open_found : (t : RuleTree) (p : Point) (r : Reached) (a : Action) → contains_of (root_of t.ends) p ≡ true → r ≡ walk_of (children_of t.nodes) (root_of t.ends) p
    → a ≡ action_in (node_at_of t.nodes r.node) → ◌≡◌ {A = Lookup} record { found = Ok (Some a); tested = r.tested } (opened_in t p)
open_found t p r a h e f = lookup_is t p (Some a) r.tested (ap Some f ∙ look_found t p r h e) (tested_inside t p r h e)

pub open_nothing : (t : RuleTree) (p : Point) → contains_of (root_of t.ends) p ≡ false → ◌≡◌ {A = Lookup} record { found = Ok None; tested = 1 } (opened_in t p)
open_nothing t p h = lookup_is t p None 1 (look_nothing t p h) (tested_outside t p h)

-- a call's answer, by the test of the tree
pub opened_grown : (t : RuleTree) (p : Point) → grown_of t ≡ true → opened_in t p ≡ opened_of t p
unfolding opened_in opened_of lookup_of
opened_grown t p g = rw g

pub opened_refused : (t : RuleTree) (p : Point) → grown_of t ≡ false → ◌≡◌ {A = Lookup} record { found = Err NotGrown; tested = 0 } (opened_of t p)
unfolding opened_of lookup_of
opened_refused t p g = rw g

-- what is found is what a lookup finds
pub opened_found : (t : RuleTree) (p : Point) → (opened_of t p).found ≡ lookup_of t p
unfolding opened_of
opened_found t p = refl

-- ---- found_replaced
module _ (t : RuleTree) (leaf : ℕ) (a : Action) (p : Point) (r : Reached) (h : contains_of (root_of t.ends) p ≡ true) (e : r ≡ walk_of (children_of t.nodes) (root_of t.ends) p) where
  replaced_at : Some (action_in (node_at_of (with_action t leaf a).nodes r.node)) ≡ found_in (with_action t leaf a) p
  replaced_at = look_found (with_action t leaf a) p r h (rw (action_links t leaf a) e)

  pub replaced_same : leaf < length t.nodes → r.node ≡ leaf → Some a ≡ found_in (with_action t leaf a) p
  replaced_same l q =
      ap (λ (y : Node). Some (action_in y)) (sym (action_at_lem t leaf a l))
      ∙ ap (λ (i : ℕ). Some (action_in (node_at_of (with_action t leaf a).nodes i))) (sym q)
      ∙ replaced_at

  pub replaced_other : (r.node ≡ leaf → ⊥) → Some (action_in (node_at_of t.nodes r.node)) ≡ found_in (with_action t leaf a) p
  replaced_other q =
      ap (λ (y : Node). Some (action_in y)) (sym (action_other t leaf a r.node q)) ∙ replaced_at

pub replaced_nothing : (t : RuleTree) (leaf : ℕ) (a : Action) (p : Point) → contains_of (root_of t.ends) p ≡ false → None ≡ found_in (with_action t leaf a) p
replaced_nothing t leaf a p h = look_nothing (with_action t leaf a) p h

-- ---- tallied
-- no count is above the total
pub count_small : (xs : List ℕ) (i : ℕ) → i < length xs → (t : RuleTree) → counts_hold t xs ≡ true → (n : ℕ) → n ≡ capped_total xs → (n ≡ limit → ⊥) → get_or xs i 0 + 1 < 2 ^ 64
count_small xs i l t c n e f = let a = total_take xs i l in let b = total_take_le xs (i + 1) in let k = (counts_accepted t xs c).total_held in omega (arith, f)

module _ (t : RuleTree) (xs : List ℕ) (p : Point) (g : grown_of t ≡ true) (c : counts_hold t xs ≡ true) where
  pub tally_nothing : contains_of (root_of t.ends) p ≡ false → Ok None ≡ tally_of t xs p
  unfolding tally_of
  tally_nothing h = rw (g, c, h)

  pub tally_full : contains_of (root_of t.ends) p ≡ true → (n : ℕ) → n ≡ capped_total xs → n ≡ limit → Err FullTally ≡ tally_of t xs p
  unfolding tally_of
  tally_full h n e m =
      let k = (counts_accepted t xs c).total_held in
      let f : total xs ≡ limit = omega arith in
      rw (g, c, h, eq-eqb (total xs) limit f)

  pub tally_counted : contains_of (root_of t.ends) p ≡ true → (n : ℕ) → n ≡ capped_total xs → (n ≡ limit → ⊥)
      → (r : ℕ) → r ≡ leaf_of t p → Ok (Some r) ≡ tally_of t xs p
  unfolding tally_of
  tally_counted h n e m r q =
      let k = (counts_accepted t xs c).total_held in
      rw (g, c, h, ne_eqb (total xs) limit (λ f. absurd (omega (arith, f, m))), q)

-- the list after a tally of which the answer is known
pub counted_leaf : (xs : List ℕ) (r : Result (Option ℕ) Refusal) (i : ℕ) → Ok (Some i) ≡ r → set xs i (get_or xs i 0 + 1) ≡ counted_in xs r
unfolding counted_in
counted_leaf xs r i e = rw (← e)

pub counted_nothing : (xs : List ℕ) (r : Result (Option ℕ) Refusal) → Ok None ≡ r → xs ≡ counted_in xs r
unfolding counted_in
counted_nothing xs r e = rw (← e)

pub counted_refused : (xs : List ℕ) (r q : Result (Option ℕ) Refusal) → IsErr q → q ≡ r → xs ≡ counted_in xs r
unfolding counted_in
counted_refused xs r (Err k) h e = rw (← e)
counted_refused xs r (Ok o) h e = cc
