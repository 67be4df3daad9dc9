-- What taking the newest split back leaves where, and that a grown tree stays grown. Assumes nothing.
use mathlib.Core.Path.{◌≡◌, refl, sym, ap, subst, ◌∙◌}
use mathlib.Core.Bool.{true}
use mathlib.Core.Logic.{⊎_elim, ◌⊎◌, inl, inr}
use mathlib.Core.List.{List}
use Prim.Native.Nat.{ℕ, ◌+◌, ◌-◌, ◌*◌, ◌<◌, ◌≤◌}
use native.Mathlib.Omega.{arith}
use borrow.Author.Tests.{lt-ltb, le-ltb, ne_eqb}
use lib.Dec.{ltb}
use lib.ListN.{length, get_or, set, length-map}
use lib.Seq.{get_or-set_other}
use Rattle.rule_tree.specs.declared.Node.{Node}
use Rattle.rule_tree.specs.declared.RuleTree.{RuleTree}
use Rattle.rule_tree.specs.Lists.{occurrences, fill}
use Rattle.rule_tree.specs.Nodes.{node_at_of, node_count, linked_to, blank_node, children_of}
use Rattle.rule_tree.specs.Cubes.{owner_below}
use Rattle.rule_tree.specs.Grown.{link_holds, slot_holds, ends_hold, grown_of}
use Rattle.rule_tree.specs.Change.{newest_parent, undone}
use Rattle.rule_tree.proofs.Lists.{get_d_tabulate}
use Rattle.rule_tree.proofs.Owners.{below_or_not}
use Rattle.rule_tree.proofs.Patched.{patched, Place, new, here, other, place, patched_count, patched_new, patched_here, patched_other}
use Rattle.rule_tree.proofs.GrownTree.{Parent, child-at, grown_facts, facts_grown, link_none, link_from, link_parts, slot_used, slot_unused, node_valid}
use Rattle.rule_tree.proofs.Links.{Owner, grown_splits, grown_owner}
use Rattle.rule_tree.proofs.Changing.{map_set, map_fill, fill_same, occurrences_set, blank_plain, old_used}

-- the first node that the newest split added
abbrev pub newest_first : RuleTree → ℕ
newest_first t = 8 * (t.splits - 1) + 1

-- what taking it back makes, with fill shut
abbrev undone_tree : RuleTree → RuleTree
undone_tree t =
    record {
      nodes = patched t.nodes (newest_parent t) (linked_to (node_at_of t.nodes (newest_parent t)) 0) (newest_first t) blank_node;
      splits = t.splits - 1;
      ends = t.ends;
    }

undo_is : (t : RuleTree) → undone_tree t ≡ undone t
unfolding undone
undo_is t = refl

module _ (t : RuleTree) where
  pub undo_length : length (undone t).nodes ≡ length t.nodes
  undo_length = ap (λ (r : RuleTree). length r.nodes) (sym (undo_is t)) ∙ patched_count t.nodes _ _ (newest_first t) blank_node

  pub undo_splits : (undone t).splits ≡ t.splits - 1
  undo_splits = ap (λ (r : RuleTree). r.splits) (sym (undo_is t))

  pub undo_ends : (undone t).ends ≡ t.ends
  undo_ends = ap (λ (r : RuleTree). r.ends) (sym (undo_is t))

-- ---- a grown tree with a split
module _ (t : RuleTree) (n : length t.nodes ≡ 513) (h : grown_of t ≡ true) (s : 0 < t.splits) where
  owner : Owner (children_of t.nodes) (t.splits - 1)
  owner = grown_owner t h n (t.splits - 1) (omega arith)

  owner_newest : owner.at ≡ newest_parent t
  owner_newest =
      sym owner.split
      ∙ get_d_tabulate 64 (t.splits - 1) (λ k. owner_below 513 (children_of t.nodes) (8 * k + 1)) 0 (omega (arith, grown_splits t h))

  -- the newest split's parent comes before the nodes that it added, and is the only one that they are the children of
  pub newest_before : newest_parent t < newest_first t
  newest_before = omega (arith, owner.low, owner_newest)

  pub newest_children : (node_at_of t.nodes (newest_parent t)).children ≡ newest_first t
  newest_children =
      sym (child-at t.nodes (newest_parent t)) ∙ ap (λ (j : ℕ). get_or (children_of t.nodes) j 0) (sym owner_newest) ∙ owner.is

  pub newest_only : (j : ℕ) → (node_at_of t.nodes j).children ≡ newest_first t → j ≡ newest_parent t
  newest_only j e = owner.only j (child-at t.nodes j ∙ e) ∙ owner_newest

  -- no node from there on is a parent
  pub newest_leaf : (i : ℕ) → newest_first t ≤ i → i < 513 → (node_at_of t.nodes i).children ≡ 0
  newest_leaf i a b =
      ⊎_elim (λ (z : (node_at_of t.nodes i).children ≡ 0). z)
      (λ (p : Parent t.splits (node_at_of t.nodes i).children i). absurd (omega (arith, p.first, p.later, p.below)))
      (link_parts _ _ _ ((grown_facts t h).links i b))

  pub undo_parent : node_at_of (undone t).nodes (newest_parent t) ≡ linked_to (node_at_of t.nodes (newest_parent t)) 0
  undo_parent =
      ap (λ (r : RuleTree). node_at_of r.nodes (newest_parent t)) (sym (undo_is t))
      ∙ patched_here t.nodes (newest_parent t) _ (newest_first t) blank_node newest_before (omega (arith, newest_before, grown_splits t h))

  pub undo_new : (i : ℕ) → newest_first t ≤ i → i < newest_first t + 8 → node_at_of (undone t).nodes i ≡ blank_node
  undo_new i a b =
      ap (λ (r : RuleTree). node_at_of r.nodes i) (sym (undo_is t))
      ∙ patched_new t.nodes (newest_parent t) _ (newest_first t) blank_node i (omega (arith, grown_splits t h)) a b

  pub undo_other :
      (i : ℕ) → (i ≡ newest_parent t → ⊥) → (i < newest_first t) ⊎ (newest_first t + 8 ≤ i) → node_at_of (undone t).nodes i ≡ node_at_of t.nodes i
  undo_other i m a =
      ap (λ (r : RuleTree). node_at_of r.nodes i) (sym (undo_is t))
      ∙ patched_other t.nodes (newest_parent t) _ (newest_first t) blank_node i m a

  -- of the links only the parent's is another
  pub undo_links : children_of (undone t).nodes ≡ set (children_of t.nodes) (newest_parent t) 0
  undo_links =
      let cs = children_of t.nodes in
      ap (λ (r : RuleTree). children_of r.nodes) (sym (undo_is t))
      ∙ map_fill (λ (x : Node). x.children) (set t.nodes (newest_parent t) (linked_to (node_at_of t.nodes (newest_parent t)) 0)) (newest_first t) 8 blank_node
      ∙ ap (λ (zs : List ℕ). fill zs (newest_first t) 8 0) (map_set (λ (x : Node). x.children) t.nodes (newest_parent t) _)
      ∙ fill_same (set cs (newest_parent t) 0) (newest_first t) 8 0 0
      (λ k p. get_or-set_other cs (newest_parent t) (newest_first t + k) 0 0 (λ e. absurd (omega (arith, e, newest_before)))
      ∙ child-at t.nodes (newest_first t + k)
      ∙ newest_leaf (newest_first t + k) (omega arith) (omega (arith, grown_splits t h)))

  undo_link : (j : ℕ) → j < 513 → link_holds (t.splits - 1) (node_at_of (undone t).nodes j).children j ≡ true
  undo_link j b = go (place (newest_first t) (newest_parent t) j newest_before)
    where
      fewer : (j ≡ newest_parent t → ⊥) → Parent t.splits (node_at_of t.nodes j).children j
          → (node_at_of t.nodes j).children < node_count (t.splits - 1)
      fewer m q =
          ⊎_elim (λ (l : (node_at_of t.nodes j).children < newest_first t). omega arith)
          (λ (l : newest_first t ≤ (node_at_of t.nodes j).children). absurd (m (newest_only j (omega (arith, q.first, q.below)))))
          (below_or_not (node_at_of t.nodes j).children (newest_first t))

      go : Place (newest_first t) (newest_parent t) j → link_holds (t.splits - 1) (node_at_of (undone t).nodes j).children j ≡ true
      go (new a c) = link_none _ _ j (ap (λ (x : Node). x.children) (undo_new j a c))
      go (here e) = link_none _ _ j (ap (λ (i : ℕ). (node_at_of (undone t).nodes i).children) e ∙ ap (λ (x : Node). x.children) undo_parent)
      go (other m a) =
          subst (λ (x : Node). link_holds (t.splits - 1) x.children j ≡ true) (sym (undo_other j m a))
          (⊎_elim (link_none _ _ j)
          (λ (q : Parent t.splits (node_at_of t.nodes j).children j).
          link_from _ _ j (record { first = q.first; later = q.later; below = fewer m q }))
          (link_parts _ _ _ ((grown_facts t h).links j b)))

  undo_slot : (j : ℕ) → j < 513 → slot_holds (node_at_of (undone t).nodes j) (ltb j (node_count (t.splits - 1))) ≡ true
  undo_slot j b = go (place (newest_first t) (newest_parent t) j newest_before)
    where
      go : Place (newest_first t) (newest_parent t) j → slot_holds (node_at_of (undone t).nodes j) (ltb j (node_count (t.splits - 1))) ≡ true
      go (new a c) =
          ap (λ (x : Node). slot_holds x (ltb j (node_count (t.splits - 1)))) (undo_new j a c)
          ∙ slot_unused _ _ (le-ltb j (node_count (t.splits - 1)) (omega arith)) ∙ blank_plain
      go (here e) =
          ap (λ (x : Node). slot_holds x (ltb j (node_count (t.splits - 1)))) (ap (node_at_of (undone t).nodes) e ∙ undo_parent)
          ∙ slot_used _ _ (lt-ltb j (node_count (t.splits - 1)) (omega (arith, e, newest_before)))
          ∙ node_valid t (grown_facts t h) (newest_parent t) (omega (arith, newest_before))
      go (other m a) =
          ap (λ (x : Node). slot_holds x (ltb j (node_count (t.splits - 1)))) (undo_other j m a)
          ∙ ap (slot_holds (node_at_of t.nodes j)) (sym (old_used (t.splits - 1) j (aside a)) ∙ ap (λ (q : ℕ). ltb j (node_count q)) whole)
          ∙ (grown_facts t h).slots j b
        where
          whole : t.splits - 1 + 1 ≡ t.splits
          whole = omega arith

          aside : (j < newest_first t) ⊎ (newest_first t + 8 ≤ j) → (j < node_count (t.splits - 1)) ⊎ (node_count (t.splits - 1 + 1) ≤ j)
          aside (inl l) = inl (omega arith)
          aside (inr l) = inr (omega arith)

  undo_owner : (k : ℕ) → k < t.splits - 1 → occurrences (8 * k + 1) (children_of (undone t).nodes) ≡ 1
  undo_owner k l =
      ap (occurrences (8 * k + 1)) undo_links
      ∙ occurrences_set (8 * k + 1) 0 (children_of t.nodes) (newest_parent t)
      (omega (arith, length-map t.nodes (λ (x : Node). x.children), newest_before, grown_splits t h))
      (λ e. absurd (omega (arith, e, child-at t.nodes (newest_parent t), newest_children)))
      ∙ (rw (ne_eqb 0 (8 * k + 1) (λ e. absurd (omega (arith, e)))) (omega (arith, (grown_facts t h).owners k (omega arith))))

  pub undo_grown : grown_of (undone t) ≡ true
  undo_grown =
      let e = sym (undo_splits t) in
      facts_grown (undone t)
      (record {
        few = omega (arith, undo_splits t, grown_splits t h);
        links = λ j b. subst (λ (q : ℕ). link_holds q (node_at_of (undone t).nodes j).children j ≡ true) e (undo_link j b);
        owners = λ k b. undo_owner k (omega (arith, undo_splits t));
        slots = λ j b. subst (λ (q : ℕ). slot_holds (node_at_of (undone t).nodes j) (ltb j (node_count q)) ≡ true) e (undo_slot j b);
        box = ap ends_hold (undo_ends t) ∙ (grown_facts t h).box;
      })
