-- Each split names a leaf then, exactly where the links that are read from the list of splits are those of a grown tree. Assumes nothing.
use mathlib.Core.Path.{◌≡◌, refl, sym, ap, ◌∙◌}
use mathlib.Core.Bool.{true}
use mathlib.Core.List.{List, [], ◌∷◌}
use mathlib.Core.Logic.{⊎_elim}
use Prim.Native.Nat.{ℕ, zero, suc, ◌+◌, ◌*◌, ◌<◌, ◌≤◌}
use native.Mathlib.Omega.{arith}
use borrow.Author.Tests.{eq-eqb, ne_eqb, eqb-true, lt-ltb, ltb-true}
use lib.Dec.{eqb, ltb}
use lib.ListN.{length, get_or}
use Rattle.remy.specs.declared.action.Action.{Action}
use Rattle.rule_tree.specs.declared.Node.{Node}
use Rattle.rule_tree.specs.Lists.{occurrences, tabulate}
use Rattle.rule_tree.specs.Nodes.{node_count, children_of}
use Rattle.rule_tree.specs.Grown.{link_holds, owners_of, linked_of, grown_of}
use Rattle.rule_tree.proofs.Lists.{all_below_at, all_below_all, get_d_tabulate}
use Rattle.rule_tree.proofs.LinkWays.{children_count, linked_ones}
use Rattle.rule_tree.proofs.Owners.{same_or_not}
use Rattle.rule_tree.proofs.Plain.{and_l, and_r}
use Rattle.rule_tree.proofs.Changing.{occurrences_none}
use Rattle.rule_tree.proofs.Links as links
use Rattle.record.specs.declared.inner.layout.Layout.{Layout}
use Rattle.record.specs.Layout.{list_place}
use Rattle.record.specs.Read.{split_at_place, link_of, node_at_place, tree_at}
use Rattle.record.specs.Accepted.{split_accepted, splits_accepted}
use Rattle.record.proofs.LinksRead.{link_leaf, link_last, link_free, link_named, link_node}
use Rattle.record.proofs.TreeRead.{nodes_long, child_used, child_parent}

-- ---- a number that stands at one place of a list
once_stands : (f : ℕ) (cs : List ℕ) (at : ℕ) → at < length cs → get_or cs at 0 ≡ f → ((j : ℕ) → j < length cs → get_or cs j 0 ≡ f → j ≡ at)
    → occurrences f cs ≡ 1
unfolding occurrences
once_stands f [] at l e h = absurd (omega arith)
once_stands f (c ∷ cs) zero l e h =
    let n = occurrences_none f cs (λ j b z. absurd (let w : suc j ≡ 0 = h (suc j) (omega arith) z in omega arith)) in
    rw (eq-eqb c f e) (omega arith)
once_stands f (c ∷ cs) (suc at) l e h =
    let n : c ≡ f → ⊥ = (λ z. let w : 0 ≡ suc at = h 0 (omega arith) z in omega arith) in
    let r = once_stands f cs at (omega arith) e (λ j b z. let w : suc j ≡ suc at = h (suc j) (omega arith) z in omega arith) in
    rw (ne_eqb c f n) (omega arith)

module _ (lay : Layout) (a : Action) (bytes : List ℕ) (s : ℕ) (few : s ≤ 64) where
  abbrev list : ℕ
  list = list_place lay

  abbrev nodes : List Node
  nodes = tabulate 513 (node_at_place lay a bytes s)

  abbrev cs : List ℕ
  cs = children_of nodes

  -- ---- from the splits to the links
  module _ (h : splits_accepted lay bytes s ≡ true) where
    split_at : (k : ℕ) → k < s → split_accepted bytes list k ≡ true
    unfolding splits_accepted
    split_at k l = all_below_at s k (split_accepted bytes list) h l

    split_low : (k : ℕ) → k < s → split_at_place bytes list k < node_count k
    unfolding split_accepted
    split_low k l = ltb-true _ _ (and_l (ltb (split_at_place bytes list k) (node_count k)) _ (split_at k l))

    split_leaf : (k : ℕ) → k < s → link_of bytes list k (split_at_place bytes list k) ≡ 0
    unfolding split_accepted
    split_leaf k l = eqb-true _ _ (and_r (ltb (split_at_place bytes list k) (node_count k)) _ (split_at k l))

    -- so that no two splits name the same node
    split_link : (k : ℕ) → k < s → link_of bytes list s (split_at_place bytes list k) ≡ 8 * k + 1
    split_link k l =
        link_last bytes list s (split_at_place bytes list k) k l refl
        (λ m b d e. link_free bytes list m (split_at_place bytes list m) (split_leaf m d) k b (sym e))

    link_good : (i : ℕ) → i < 513 → link_holds s (get_or cs i 0) i ≡ true
    link_good i l =
        ⊎_elim (λ (z : get_or cs i 0 ≡ 0). links.link_leaf s (get_or cs i 0) i z)
        (λ (n : get_or cs i 0 ≡ 0 → ⊥).
        let e = child_used lay a bytes s few i (child_parent lay a bytes s few i n) in
        let r = link_named bytes list s i (λ z. n (e ∙ z)) in
        let low = split_low r.by r.below in
        links.link_holds_lem s (get_or cs i 0) i
        (record {
          first = omega (arith, r.link);
          after = omega (arith, r.link, r.node);
          inside = omega (arith, r.link, r.below);
        }))
        (same_or_not (get_or cs i 0) 0)

    one_owner : (k : ℕ) → k < s → occurrences (8 * k + 1) cs ≡ 1
    one_owner k l =
        let low = split_low k l in
        let at = split_at_place bytes list k in
        once_stands (8 * k + 1) cs at (omega (arith, children_count nodes, (nodes_long lay a bytes s few))) (child_used lay a bytes s few at (omega arith) ∙ split_link k l)
        (λ j b e.
        let u = child_used lay a bytes s few j (child_parent lay a bytes s few j (λ z. omega (arith, e, z))) in
        sym (link_node bytes list s j k (sym u ∙ e)))

    pub splits_linked : linked_of cs s ≡ true
    splits_linked =
        sym (linked_ones cs s few (all_below_all 513 (λ i. link_holds s (get_or cs i 0) i) link_good))
        ∙ all_below_all s (λ k. eqb (get_or (owners_of cs) k 0) 1)
        (λ k l. eq-eqb _ 1 (get_d_tabulate 64 k (λ k. occurrences (8 * k + 1) cs) 0 (omega arith) ∙ one_owner k l))

  -- ---- and back
  module _ (g : grown_of (tree_at lay a bytes s) ≡ true) where
    pub owner_node : (k : ℕ) (l : k < s) → split_at_place bytes list k ≡ (links.grown_owner (tree_at lay a bytes s) g (nodes_long lay a bytes s few) k l).at
    owner_node k l =
        let o = links.grown_owner (tree_at lay a bytes s) g (nodes_long lay a bytes s few) k l in
        link_node bytes list s o.at k (sym (child_used lay a bytes s few o.at (omega (arith, o.low))) ∙ o.is)

    owner_link : (k : ℕ) → k < s → get_or cs (split_at_place bytes list k) 0 ≡ 8 * k + 1
    owner_link k l = ap (λ (i : ℕ). get_or cs i 0) (owner_node k l) ∙ (links.grown_owner (tree_at lay a bytes s) g (nodes_long lay a bytes s few) k l).is

    split_good : (k : ℕ) → k < s → split_accepted bytes list k ≡ true
    unfolding split_accepted
    split_good k l =
        let o = links.grown_owner (tree_at lay a bytes s) g (nodes_long lay a bytes s few) k l in
        let e = owner_node k l in
        rw (lt-ltb (split_at_place bytes list k) (node_count k) (omega (arith, o.low)))
        (eq-eqb _ 0 (link_leaf bytes list k (split_at_place bytes list k)
        (λ j b z.
        let p = owner_link j (omega arith) in
        let q = owner_link k l in
        let w : get_or cs (split_at_place bytes list j) 0 ≡ get_or cs (split_at_place bytes list k) 0 = ap (λ (i : ℕ). get_or cs i 0) z in
        omega arith)))

    pub linked_splits : splits_accepted lay bytes s ≡ true
    unfolding splits_accepted
    linked_splits = all_below_all s (split_accepted bytes list) split_good
