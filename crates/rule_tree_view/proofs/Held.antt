-- When a slice is taken: the code's tests of the gathered links and of the ends hold where the tree that uses its nodes is grown, and only there. Assumes nothing.
use mathlib.Core.Path.{◌≡◌, refl, sym, ap, subst, ◌∙◌}
use mathlib.Core.Bool.{Bool, true, false, ◌&&◌}
use mathlib.Core.Logic.{⊎_elim}
use mathlib.Core.List.{List}
use Prim.Native.Nat.{ℕ, ◌<◌, ◌≤◌}
use native.Mathlib.Omega.{arith}
use borrow.Author.Tests.{eqb-true, eq-eqb, lt-ltb, le-ltb}
use lib.Dec.{eqb, ltb}
use lib.ListN.{length}
use Rattle.remy.specs.declared.point.Point.{Point}
use Rattle.remy.specs.Action.{valid_of}
use Rattle.rule_tree.specs.declared.Node.{Node}
use Rattle.rule_tree.specs.declared.RuleTree.{RuleTree}
use Rattle.rule_tree.specs.Nodes.{node_at_of, children_of, links_of, node_count, action_in}
use Rattle.rule_tree.specs.Grown.{linked_of, plain_of, slot_holds, payloads_hold, ends_hold, grown_of}
use Rattle.rule_tree.proofs.Lists.{all_below_all, all_below_at}
use Rattle.rule_tree.proofs.LinkWays.{grown_rest}
use Rattle.rule_tree.proofs.Links.{grown_linked, grown_ends_hold, grown_splits, grown_valid}
use Rattle.rule_tree.proofs.GrownTree.{slot_used, slot_unused}
use Rattle.rule_tree.proofs.Owners.{below_or_not}
use Rattle.rule_tree.proofs.Walking.{linked_few}
use Rattle.rule_tree.proofs.Plain.{and_l, and_r}
use Rattle.rule_tree.proofs.Changing.{blank_plain}
use Rattle.rule_tree_view.specs.View.{parents_in, lent_tree, lent_grown, linked_parents, all_valid, linked_in}
use Rattle.rule_tree_view.proofs.Lent as lent

module _ (nodes : List Node) (ends : Point) where
  abbrev t : RuleTree
  t = lent_tree nodes ends

  abbrev n : ℕ
  n = length nodes

  abbrev pub cs : List ℕ
  cs = links_of nodes n

  -- what a slice that is taken has
  pub record Held : Type 0 where
    pub long : n ≡ node_count (parents_in nodes)
    pub few : n ≤ 513
    pub grown : grown_of t ≡ true
    pub links : cs ≡ children_of t.nodes

  abbrev pub tested : Bool
  tested = linked_in nodes cs ends

  payloads : n ≡ node_count (parents_in nodes) → ((i : ℕ) → i < n → valid_of (action_in (node_at_of nodes i)) ≡ true)
      → payloads_hold t.nodes (parents_in nodes) ≡ true
  payloads e v =
      all_below_all 513 (λ i. slot_holds (node_at_of t.nodes i) (ltb i (node_count (parents_in nodes))))
      (λ i m. ⊎_elim
      (λ (l : i < n).
      slot_used (node_at_of t.nodes i) _ (lt-ltb i _ (omega (arith, e))) ∙ ap (λ (x : Node). valid_of (action_in x)) (lent.lent_used nodes i l) ∙ v i l)
      (λ (l : n ≤ i).
      slot_unused (node_at_of t.nodes i) _ (le-ltb i _ (omega (arith, e))) ∙ ap plain_of (lent.lent_blank nodes i l m) ∙ blank_plain)
      (below_or_not i n))

  pub tested_held : tested ≡ true → Held
  tested_held h =
      let s = linked_parents cs in
      let a : n ≡ node_count s = eqb-true _ _ (and_l (eqb n (node_count s)) _ h) in
      let r : linked_of cs s && (all_valid nodes && ends_hold ends) ≡ true = and_r (eqb n (node_count s)) _ h in
      let b : linked_of cs s ≡ true = and_l (linked_of cs s) _ r in
      let w : all_valid nodes && ends_hold ends ≡ true = and_r (linked_of cs s) _ r in
      let few : n ≤ 513 = omega (arith, a, linked_few cs s b) in
      let l : cs ≡ children_of t.nodes = lent.links_all nodes few in
      let p : s ≡ parents_in nodes = ap linked_parents l ∙ lent.parents_counted nodes few in
      let long : n ≡ node_count (parents_in nodes) = a ∙ ap node_count p in
      record {
        long = long;
        few = few;
        grown =
            sym (grown_rest t (subst (λ (ks : List ℕ). linked_of ks (parents_in nodes) ≡ true) l (subst (λ (k : ℕ). linked_of cs k ≡ true) p b)) (payloads long (λ i m. all_below_at n i _ (and_l (all_valid nodes) _ w) m)))
            ∙ and_r (all_valid nodes) _ w;
        links = l;
      }

  pub grown_held : n ≡ node_count (parents_in nodes) → grown_of t ≡ true → Held
  grown_held e g =
      let few : n ≤ 513 = omega (arith, e, grown_splits t g) in
      record {
        long = e;
        few = few;
        grown = g;
        links = lent.links_all nodes few;
      }

  pub held_tested : Held → tested ≡ true
  held_tested h =
      let p : linked_parents cs ≡ parents_in nodes = ap linked_parents h.links ∙ lent.parents_counted nodes h.few in
      let l : linked_of cs (parents_in nodes) ≡ true =
      subst (λ (ks : List ℕ). linked_of ks (parents_in nodes) ≡ true) (sym h.links) (grown_linked t h.grown) in
      let v : all_valid nodes ≡ true =
      all_below_all n (λ i. valid_of (action_in (node_at_of nodes i)))
      (λ i m. ap (λ (x : Node). valid_of (action_in x)) (sym (lent.lent_used nodes i m)) ∙ grown_valid t h.grown i (omega (arith, h.long))) in
      subst (λ (k : ℕ). eqb n (node_count k) && (linked_of cs k && (all_valid nodes && ends_hold ends)) ≡ true) (sym p)
      (rw (eq-eqb n (node_count (parents_in nodes)) h.long, l, v) (grown_ends_hold t h.grown))

  no : (b : Bool) → b ≡ true → b ≡ false → ⊥
  no b x y = let z : ◌≡◌ {A = ℕ} 0 1 = cc in omega arith

  -- the tree of a slice that is not taken is not grown
  pub not_held : (Held → ⊥) → lent_grown nodes ends ≡ false
  not_held f = go (lent_grown nodes ends) refl
    where
      go : (b : Bool) → lent_grown nodes ends ≡ b → b ≡ false
      go true e = absurd (f (grown_held (eqb-true _ _ (and_l _ (grown_of t) e)) (and_r (eqb n (node_count (parents_in nodes))) _ e)))
      go false e = refl

  pub not_tested : tested ≡ false → lent_grown nodes ends ≡ false
  not_tested e = not_held (λ h. no tested (held_tested h) e)

  pub too_long : 513 < n → lent_grown nodes ends ≡ false
  too_long l = not_held (λ h. omega (arith, h.few))

  pub held_grown : Held → lent_grown nodes ends ≡ true
  held_grown h = rw (eq-eqb _ _ h.long) h.grown
