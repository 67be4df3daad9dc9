-- What the test of a grown tree says, fact by fact, and back. Assumes nothing.
use mathlib.Core.Path.{◌≡◌, refl, sym, ap, subst, ◌∙◌}
use mathlib.Core.Bool.{Bool, true, false, ◌&&◌}
use mathlib.Core.Logic.{⊎_elim, ◌⊎◌, inl, inr}
use mathlib.Core.List.{List}
use Prim.Native.Nat.{ℕ, ◌+◌, ◌*◌, ◌%◌, ◌<◌, ◌≤◌}
use native.Mathlib.Omega.{arith}
use borrow.Author.Tests.{lt-ltb, le-leb, eq-eqb, eqb-true, leb-true, leb-false, ltb-true}
use lib.Dec.{eqb, leb, ltb}
use lib.ListN.{length, get_or, get_or-eq_default}
use lib.Ieee.{to_bits}
use Rattle.remy.specs.Action.{valid_of}
use Rattle.rule_tree.specs.declared.Node.{Node}
use Rattle.rule_tree.specs.declared.RuleTree.{RuleTree}
use Rattle.std.specs.Prelude.{Some}
use Rattle.rule_tree.specs.Lists.{occurrences}
use Rattle.rule_tree.specs.Nodes.{no_node, node_at_of, is_leaf_of, node_count, children_of, action_in}
use Rattle.rule_tree.specs.Grown.{link_holds, links_hold, owners_of, all_ones, linked_of, plain_of, slot_holds, payloads_hold, ends_hold, grown_of}
use Rattle.rule_tree.specs.Counts.{counts_hold, most_used}
use Rattle.rule_tree.specs.Calls.{leaf_in}
use Rattle.rule_tree.proofs.Lists.{all_below_at, all_below_all, get_d_tabulate, and_left, and_right, and_both}
use Rattle.rule_tree.proofs.Owners.{same_or_not}
pub use Rattle.rule_tree.proofs.LinkWays.{children_at as child-at}
pub use Rattle.rule_tree.proofs.Links.{link_leaf as link_none}
use Rattle.rule_tree.proofs.Links.{link_of_lem, link_holds_lem, grown_splits, grown_own_links, grown_occurs, grown_slot_holds, grown_ends_hold, grown_unused_leaf, grown_valid}
use Rattle.rule_tree.proofs.Counting.{counts_accepted, most_used_leaf, most_used_found, any_leaf, eligible_leaf}

pub record Grown (t : RuleTree) : Type 0 where
  pub few : t.splits ≤ 64
  pub links : (i : ℕ) → i < 513 → link_holds t.splits (node_at_of t.nodes i).children i ≡ true
  pub owners : (k : ℕ) → k < t.splits → occurrences (8 * k + 1) (children_of t.nodes) ≡ 1
  pub slots : (i : ℕ) → i < 513 → slot_holds (node_at_of t.nodes i) (ltb i (node_count t.splits)) ≡ true
  pub box : ends_hold t.ends ≡ true

-- the tests, with their inner definitions shut
grown_is : (t : RuleTree) → grown_of t ≡ (linked_of (children_of t.nodes) t.splits && (payloads_hold t.nodes t.splits && ends_hold t.ends))
unfolding grown_of
grown_is t = refl

linked-is : (cs : List ℕ) (s : ℕ) → linked_of cs s ≡ (leb s 64 && (links_hold cs s && all_ones (owners_of cs) s))
unfolding linked_of
linked-is cs s = refl

module _ (t : RuleTree) where
  pub grown_facts : grown_of t ≡ true → Grown t
  grown_facts h = record {
    few = grown_splits t h;
    links =
        λ i p. subst (λ (c : ℕ). link_holds t.splits c i ≡ true) (child-at t.nodes i)
        (all_below_at 513 i (λ j. link_holds t.splits (get_or (children_of t.nodes) j 0) j) (grown_own_links t h) p);
    owners = grown_occurs t h;
    slots = grown_slot_holds t h;
    box = grown_ends_hold t h;
  }

  pub facts_grown : Grown t → grown_of t ≡ true
  facts_grown g =
      grown_is t
      ∙ and_both (linked_of (children_of t.nodes) t.splits) _
      (linked-is _ _
      ∙ and_both (leb t.splits 64) _ (le-leb _ _ g.few)
      (and_both (links_hold (children_of t.nodes) t.splits) _
      (all_below_all 513 (λ j. link_holds t.splits (get_or (children_of t.nodes) j 0) j)
      (λ i p. subst (λ (c : ℕ). link_holds t.splits c i ≡ true) (sym (child-at t.nodes i)) (g.links i p)))
      (all_below_all t.splits (λ j. eqb (get_or (owners_of (children_of t.nodes)) j 0) 1)
      (λ k p. eq-eqb _ 1 (get_d_tabulate 64 k (λ j. occurrences (8 * j + 1) (children_of t.nodes)) 0 (omega (arith, g.few)) ∙ g.owners k p)))))
      (and_both (payloads_hold t.nodes t.splits) _
      (all_below_all 513 (λ j. slot_holds (node_at_of t.nodes j) (ltb j (node_count t.splits))) g.slots)
      g.box)

-- ---- one link
no : (b : Bool) → b ≡ false → b ≡ true → ⊥
no b p q = let z : ◌≡◌ {A = ℕ} 0 1 = cc in omega arith

pub record Parent (s c i : ℕ) : Type 0 where
  pub first : c % 8 ≡ 1
  pub later : i < c
  pub below : c < node_count s

pub link_parts : (s c i : ℕ) → link_holds s c i ≡ true → (c ≡ 0) ⊎ Parent s c i
link_parts s c i h =
    ⊎_elim (λ (e : c ≡ 0). inl e)
    (λ (n : c ≡ 0 → ⊥). let k = link_of_lem s c i h n in inr (record { first = k.first; later = k.after; below = k.inside }))
    (same_or_not c 0)

pub link_from : (s c i : ℕ) → Parent s c i → link_holds s c i ≡ true
link_from s c i p = link_holds_lem s c i (record { first = p.first; after = p.later; inside = p.below })

-- ---- one slot
pub slot_used : (x : Node) (u : Bool) → u ≡ true → slot_holds x u ≡ valid_of (action_in x)
unfolding slot_holds
slot_used x u p = rw p

pub slot_unused : (x : Node) (u : Bool) → u ≡ false → slot_holds x u ≡ plain_of x
unfolding slot_holds
slot_unused x u p = rw p

slot_none : (u : Bool) → slot_holds no_node u ≡ false
unfolding slot_holds valid_of to_bits
slot_none true = refl
slot_none false = refl

-- ---- a number that names a leaf
pub leaf_below : (t : RuleTree) (i : ℕ) → leaf_in t i ≡ true → i < node_count t.splits
leaf_below t i h = ltb-true i (node_count t.splits) (and_left (ltb i (node_count t.splits)) (is_leaf_of t.nodes i) h)

pub leaf_childless : (t : RuleTree) (i : ℕ) → leaf_in t i ≡ true → (node_at_of t.nodes i).children ≡ 0
leaf_childless t i h = eqb-true _ 0 (and_right (ltb i (node_count t.splits)) (is_leaf_of t.nodes i) h)

pub leaf_from : (t : RuleTree) (i : ℕ) → i < node_count t.splits → (node_at_of t.nodes i).children ≡ 0 → leaf_in t i ≡ true
leaf_from t i l e = and_both (ltb i (node_count t.splits)) (is_leaf_of t.nodes i) (lt-ltb _ _ l) (eq-eqb _ 0 e)

-- ---- a grown tree
module _ (t : RuleTree) (g : Grown t) where
  -- the array is whole: what lies past a list's end is no slot
  pub grown_long : 513 ≤ length t.nodes
  grown_long = go (leb 513 (length t.nodes)) refl
    where
      go : (b : Bool) → leb 513 (length t.nodes) ≡ b → 513 ≤ length t.nodes
      go true e = leb-true 513 (length t.nodes) e
      go false e =
          let l = leb-false 513 (length t.nodes) e in
          let d : node_at_of t.nodes (length t.nodes) ≡ no_node = get_or-eq_default t.nodes no_node (omega arith) in
          absurd
          (no (slot_holds (node_at_of t.nodes (length t.nodes)) (ltb (length t.nodes) (node_count t.splits)))
          (ap (λ (x : Node). slot_holds x (ltb (length t.nodes) (node_count t.splits))) d ∙ slot_none _)
          (g.slots (length t.nodes) l))

  -- a slot that is not in use has no children
  pub unused_childless : (i : ℕ) → i < 513 → node_count t.splits ≤ i → (node_at_of t.nodes i).children ≡ 0
  unused_childless i l u = grown_unused_leaf t (facts_grown t g) i u l

  -- the last node is a leaf
  pub last_leaf : leaf_in t (8 * t.splits) ≡ true
  last_leaf =
      leaf_from t (8 * t.splits) (omega arith)
      (⊎_elim (λ (e : (node_at_of t.nodes (8 * t.splits)).children ≡ 0). e)
      (λ (p : Parent t.splits (node_at_of t.nodes (8 * t.splits)).children (8 * t.splits)). absurd (omega (arith, p.later, p.below)))
      (link_parts _ _ _ (g.links (8 * t.splits) (omega (arith, g.few)))))

  -- a node's action is valid, and so a leaf's
  pub node_valid : (i : ℕ) → i < node_count t.splits → valid_of (action_in (node_at_of t.nodes i)) ≡ true
  node_valid i l = grown_valid t (facts_grown t g) i l

  pub leaf_valid : (i : ℕ) → leaf_in t i ≡ true → valid_of (action_in (node_at_of t.nodes i)) ≡ true
  leaf_valid i h = node_valid i (leaf_below t i h)

-- ---- the most used of a tree's leaves
module _ (t : RuleTree) (xs : List ℕ) (c : counts_hold t xs ≡ true) where
  -- whichever leaves are asked for, the answer names a leaf
  pub chosen_leaf_lem : (u : Bool) (b : ℕ) → most_used t.nodes xs u (length xs) ≡ Some b → leaf_in t b ≡ true
  chosen_leaf_lem u b e =
      let m = most_used_leaf t.nodes xs u (length xs) b e in
      leaf_from t b (omega (arith, m.below, (counts_accepted t xs c).one_a_node)) (eligible_leaf (node_at_of t.nodes b) u m.asked)

  -- with no leaf left out there is an answer
  pub chosen_found : grown_of t ≡ true → (b : ℕ) × (most_used t.nodes xs false (length xs) ≡ Some b)
  chosen_found h =
      let l = last_leaf t (grown_facts t h) in
      most_used_found t.nodes xs false (length xs) (8 * t.splits)
      (omega (arith, (counts_accepted t xs c).one_a_node))
      (any_leaf t.nodes (8 * t.splits) (and_right (ltb (8 * t.splits) (node_count t.splits)) (is_leaf_of t.nodes (8 * t.splits)) l))
