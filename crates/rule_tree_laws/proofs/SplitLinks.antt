-- A split keeps the test of a tree's links: one link is another, that of the leaf which it makes a parent. Assumes nothing.
use mathlib.Core.Path.{◌≡◌, sym, ap, subst, ◌∙◌}
use mathlib.Core.Bool.{true}
use mathlib.Core.Logic.{inl, inr, ⊎_elim, ◌≢◌}
use mathlib.Core.List.{List}
use Prim.Native.Nat.{ℕ, ◌+◌, ◌-◌, ◌*◌, ◌<◌, ◌≤◌}
use native.Mathlib.Omega.{arith}
use lib.ListN.{get_or, set, length, length-map, length-set}
use lib.Seq.{ext_get_or, get_or-set_same, get_or-set_other}
use borrow.Author.Tests.{eq-eqb, ne_eqb}
use Rattle.rule_tree.specs.declared.Node.{Node}
use Rattle.rule_tree.specs.declared.RuleTree.{RuleTree}
use Rattle.rule_tree.specs.Nodes.{node_at_of, children_of, node_count}
use Rattle.rule_tree.specs.Lists.{occurrences}
use Rattle.rule_tree.specs.Grown.{link_holds, linked_of}
use Rattle.rule_tree.specs.Change.{split_at_of}
use Rattle.rule_tree.specs.Calls.{leaf_in}
use Rattle.rule_tree.proofs.Lists.{all_below_at}
use Rattle.rule_tree.proofs.LinkWays.{children_at}
use Rattle.rule_tree.proofs.Owners.{same_or_not, below_or_not}
use Rattle.rule_tree.proofs.Links.{link_holds_lem, link_more}
use Rattle.rule_tree.proofs.Walking.{links_parent, linked_links, linked_owners, links_linked}
use Rattle.rule_tree.proofs.GrownTree.{leaf_below, leaf_childless}
use Rattle.rule_tree.proofs.Changing.{occurrences_set, occurrences_none, split_length, split_splits, split_parent, split_child, split_other}

pub links_513 : (nodes : List Node) → length nodes ≡ 513 → length (children_of nodes) ≡ 513
links_513 nodes e = length-map nodes (λ x. x.children) ∙ e

-- ---- one split of a leaf
module _ (t : RuleTree) (i : ℕ) (n : length t.nodes ≡ 513) (g : linked_of (children_of t.nodes) t.splits ≡ true) (l : leaf_in t i ≡ true) (r : t.splits < 64) where
  pub after_513 : length (split_at_of t i).nodes ≡ 513
  after_513 = split_length t i ∙ n

  below : i < node_count t.splits
  below = leaf_below t i l

  pub old_link : (j : ℕ) → j < node_count t.splits → j ≢ i → get_or (children_of (split_at_of t i).nodes) j 0 ≡ get_or (children_of t.nodes) j 0
  old_link j b o =
      children_at (split_at_of t i).nodes j ∙ ap (λ (x : Node). x.children) (split_other t i j o (inl b)) ∙ sym (children_at t.nodes j)

  pub new_link : get_or (children_of (split_at_of t i).nodes) i 0 ≡ 8 * t.splits + 1
  new_link = children_at (split_at_of t i).nodes i ∙ ap (λ (x : Node). x.children) (split_parent t i (let b = below in omega arith) below)

  -- past the nodes there are no links
  no_link : (j : ℕ) → j < 513 → node_count t.splits ≤ j → get_or (children_of t.nodes) j 0 ≡ 0
  no_link j b m =
      ⊎_elim (λ (z : get_or (children_of t.nodes) j 0 ≡ 0). z)
      (λ (z : get_or (children_of t.nodes) j 0 ≢ 0).
      let q = links_parent (children_of t.nodes) t.splits j (linked_links (children_of t.nodes) t.splits g) b z in
      absurd (let x = q.after in let y = q.inside in omega arith))
      (same_or_not (get_or (children_of t.nodes) j 0) 0)

  far_link : (j : ℕ) → j < 513 → node_count t.splits ≤ j → get_or (children_of (split_at_of t i).nodes) j 0 ≡ 0
  far_link j b m =
      children_at (split_at_of t i).nodes j
      ∙ ⊎_elim
      (λ (x : j < 8 * t.splits + 9).
      let k = j - (8 * t.splits + 1) in
      let e : 8 * t.splits + 1 + k ≡ j = omega arith in
      ap (λ (y : ℕ). (node_at_of (split_at_of t i).nodes y).children) (sym e)
      ∙ ap (λ (y : Node). y.children) (split_child t i (omega arith) k (omega arith)))
      (λ (x : 8 * t.splits + 9 ≤ j).
      let c = below in
      ap (λ (y : Node). y.children) (split_other t i j (λ z. absurd (omega (arith, z))) (inr (omega arith)))
      ∙ sym (children_at t.nodes j) ∙ no_link j b m)
      (below_or_not j (8 * t.splits + 9))

  -- of the links only the new parent's is another
  pub split_links : children_of (split_at_of t i).nodes ≡ set (children_of t.nodes) i (8 * t.splits + 1)
  split_links =
      let cs = children_of t.nodes in
      let c = below in
      let a = links_513 t.nodes n in
      let z = links_513 (split_at_of t i).nodes after_513 in
      ext_get_or 0 (children_of (split_at_of t i).nodes) (set cs i (8 * t.splits + 1))
      (z ∙ sym (length-set cs i (8 * t.splits + 1) ∙ a))
      (λ j b.
      ⊎_elim
      (λ (e : j ≡ i).
      ap (λ (y : ℕ). get_or (children_of (split_at_of t i).nodes) y 0) e ∙ new_link
      ∙ sym (ap (λ (y : ℕ). get_or (set cs i (8 * t.splits + 1)) y 0) e ∙ get_or-set_same cs i (8 * t.splits + 1) 0 (omega arith)))
      (λ (e : j ≢ i).
      ⊎_elim (λ (x : j < node_count t.splits). old_link j x e)
      (λ (x : node_count t.splits ≤ j). far_link j (omega (arith, b)) x ∙ sym (no_link j (omega (arith, b)) x))
      (below_or_not j (node_count t.splits))
      ∙ sym (get_or-set_other cs i j (8 * t.splits + 1) 0 e))
      (same_or_not j i))

  split_link : (j : ℕ) → j < 513 → link_holds (t.splits + 1) (get_or (set (children_of t.nodes) i (8 * t.splits + 1)) j 0) j ≡ true
  split_link j b =
      let cs = children_of t.nodes in
      let c = below in
      let a = links_513 t.nodes n in
      ⊎_elim
      (λ (e : j ≡ i).
      subst (λ (x : ℕ). link_holds (t.splits + 1) x j ≡ true)
      (sym (ap (λ (y : ℕ). get_or (set cs i (8 * t.splits + 1)) y 0) e ∙ get_or-set_same cs i (8 * t.splits + 1) 0 (omega arith)))
      (link_holds_lem (t.splits + 1) (8 * t.splits + 1) j (record { first = omega arith; after = omega arith; inside = omega arith })))
      (λ (e : j ≢ i).
      subst (λ (x : ℕ). link_holds (t.splits + 1) x j ≡ true) (sym (get_or-set_other cs i j (8 * t.splits + 1) 0 e))
      (link_more t.splits (t.splits + 1) (get_or cs j 0) j (omega arith)
      (all_below_at 513 j (λ k. link_holds t.splits (get_or cs k 0) k) (linked_links cs t.splits g) b)))
      (same_or_not j i)

  split_owner : (k : ℕ) → k < t.splits + 1 → occurrences (8 * k + 1) (set (children_of t.nodes) i (8 * t.splits + 1)) ≡ 1
  split_owner k b =
      let cs = children_of t.nodes in
      let c = below in
      let a = links_513 t.nodes n in
      let leaf : get_or cs i 0 ≡ 0 = children_at t.nodes i ∙ leaf_childless t i l in
      occurrences_set (8 * k + 1) (8 * t.splits + 1) cs i (omega arith) (λ e. absurd (omega (arith, e)))
      ∙ ⊎_elim
      (λ (e : k ≡ t.splits).
      let z : occurrences (8 * k + 1) cs ≡ 0 = occurrences_none (8 * k + 1) cs (λ j x y. none j (omega arith) (y ∙ ap (λ (m : ℕ). 8 * m + 1) e)) in
      rw (eq-eqb (8 * t.splits + 1) (8 * k + 1) (omega arith)) (omega arith))
      (λ (e : k ≢ t.splits).
      let m : k < t.splits = less k e b in
      let z = linked_owners cs t.splits g k m in
      rw (ne_eqb (8 * t.splits + 1) (8 * k + 1) (λ y. absurd (omega (arith, y)))) (omega arith))
      (same_or_not k t.splits)
    where
      less : (k : ℕ) → k ≢ t.splits → k < t.splits + 1 → k < t.splits
      less k e b = ⊎_elim (λ (x : k < t.splits). x) (λ (x : t.splits ≤ k). absurd (e (omega arith))) (below_or_not k t.splits)

      none : (j : ℕ) → j < 513 → get_or (children_of t.nodes) j 0 ≡ 8 * t.splits + 1 → ⊥
      none j x y =
          let q = links_parent (children_of t.nodes) t.splits j (linked_links (children_of t.nodes) t.splits g) x (λ z. absurd (omega (arith, z))) in
          let u = q.inside in
          omega arith

  -- a split keeps the test of the links
  pub split_linked : linked_of (children_of (split_at_of t i).nodes) (split_at_of t i).splits ≡ true
  split_linked =
      rw (split_links, split_splits t i)
      (links_linked (set (children_of t.nodes) i (8 * t.splits + 1)) (t.splits + 1) (omega arith) split_link split_owner)
