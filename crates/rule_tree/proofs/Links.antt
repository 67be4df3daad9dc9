-- What the test of a tree says of it: its splits, links, owners, payloads, ends and cubes. Assumes nothing.
use mathlib.Core.Path.{◌≡◌, refl, sym, ap, subst, ◌∙◌}
use mathlib.Core.Bool.{Bool, true, false, ◌&&◌, ◌||◌}
use mathlib.Core.Logic.{⊎_elim}
use mathlib.Core.List.{List}
use Prim.Native.Nat.{ℕ, ◌+◌, ◌-◌, ◌*◌, ◌/◌, ◌%◌, ◌<◌, ◌≤◌}
use native.Mathlib.Omega.{arith}
use borrow.Author.Tests.{eq-eqb, ne_eqb, lt-ltb, le-ltb, eqb-true, ltb-true, leb-true}
use lib.Dec.{T, eqb, ltb, leb}
use lib.ListN.{length, get_or, get_or-eq_default}
use Rattle.remy.specs.Action.{valid_of}
use Rattle.remy.specs.Cube.{child_cube, root_of, ends_admitted, Whole}
use Rattle.rule_tree.specs.declared.RuleTree.{RuleTree}
use Rattle.rule_tree.specs.Lists.{occurrences}
use Rattle.rule_tree.specs.Nodes.{node_at_of, children_of, node_count, action_in}
use Rattle.rule_tree.specs.Grown.{link_holds, links_hold, owners_of, all_ones, linked_of, plain_of, slot_holds, payloads_hold, ends_hold, grown_of}
use Rattle.rule_tree.specs.Cubes.{owner_below, split_nodes, Before, cube_at, cube_of}
use Rattle.rule_tree.proofs.Lists.{all_below_at, all_below_all, get_d_tabulate}
use Rattle.rule_tree.proofs.LinkWays.{children_at, children_count, slot_used, slot_unused}
use Rattle.rule_tree.proofs.Owners.{same_or_not, below_or_not, Once, once_of, owner_found, owner_is}
use Rattle.rule_tree.proofs.Plain.{and_l, and_r, PointFits, ends_admitted_lem, ends_whole}
use Rattle.rule_tree.proofs.CubeSteps.{parent_of, child_step}

-- ---- one link
pub record Link (s c i : ℕ) : Type 0 where
  pub first : c % 8 ≡ 1
  pub after : i < c
  pub inside : c < node_count s

pub link_of_lem : (s c i : ℕ) → link_holds s c i ≡ true → (c ≡ 0 → ⊥) → Link s c i
unfolding link_holds
link_of_lem s c i h n =
    let a : eqb (c % 8) 1 && (ltb i c && ltb c (node_count s)) ≡ true = rw (ne_eqb c 0 n) at h in
    let b = and_r (eqb (c % 8) 1) _ a in
    record {
      first = eqb-true _ _ (and_l (eqb (c % 8) 1) _ a);
      after = ltb-true _ _ (and_l (ltb i c) _ b);
      inside = ltb-true _ _ (and_r (ltb i c) _ b);
    }

pub link_leaf : (s c i : ℕ) → c ≡ 0 → link_holds s c i ≡ true
unfolding link_holds
link_leaf s c i e = rw (eq-eqb c 0 e)

pub link_holds_lem : (s c i : ℕ) → Link s c i → link_holds s c i ≡ true
unfolding link_holds
link_holds_lem s c i l =
    rw (eq-eqb (c % 8) 1 l.first, lt-ltb i c l.after, lt-ltb c (node_count s) l.inside) (either (eqb c 0))
  where
    either : (b : Bool) → b || true ≡ true
    either true = refl
    either false = refl

pub link_more : (s r c i : ℕ) → s ≤ r → link_holds s c i ≡ true → link_holds r c i ≡ true
link_more s r c i l h =
    ⊎_elim (λ (e : c ≡ 0). link_leaf r c i e)
    (λ (n : c ≡ 0 → ⊥).
    let k = link_of_lem s c i h n in
    link_holds_lem r c i (record { first = k.first; after = k.after; inside = omega (arith, k.inside) }))
    (same_or_not c 0)

-- the node that split k made a parent
pub record Owner (cs : List ℕ) (k : ℕ) : Type 0 where
  pub at : ℕ
  pub low : at ≤ 8 * k
  pub is : get_or cs at 0 ≡ 8 * k + 1
  pub only : (j : ℕ) → get_or cs j 0 ≡ 8 * k + 1 → j ≡ at
  pub split : get_or (split_nodes cs) k 0 ≡ at

-- what is no default stands in the list
held_below : (cs : List ℕ) (j : ℕ) → (get_or cs j 0 ≡ 0 → ⊥) → j < length cs
held_below cs j n = ⊎_elim (λ (l : j < length cs). l) (λ (g : length cs ≤ j). absurd (n (get_or-eq_default cs 0 g))) (below_or_not j (length cs))

-- ---- the parts of the test
module _ (t : RuleTree) (g : grown_of t ≡ true) where
  pub grown_linked : linked_of (children_of t.nodes) t.splits ≡ true
  unfolding grown_of
  grown_linked = and_l (linked_of (children_of t.nodes) t.splits) _ g

  grown_rest : payloads_hold t.nodes t.splits && ends_hold t.ends ≡ true
  unfolding grown_of
  grown_rest = and_r (linked_of (children_of t.nodes) t.splits) _ g

  pub grown_payloads : payloads_hold t.nodes t.splits ≡ true
  grown_payloads = and_l (payloads_hold t.nodes t.splits) _ grown_rest

  pub grown_ends_hold : ends_hold t.ends ≡ true
  grown_ends_hold = and_r (payloads_hold t.nodes t.splits) _ grown_rest

  -- "At most 64 splits"
  pub grown_splits : t.splits ≤ 64
  unfolding linked_of
  grown_splits = leb-true _ _ (and_l (leb t.splits 64) _ grown_linked)

  grown_joined : links_hold (children_of t.nodes) t.splits && all_ones (owners_of (children_of t.nodes)) t.splits ≡ true
  unfolding linked_of
  grown_joined = and_r (leb t.splits 64) _ grown_linked

  pub grown_own_links : links_hold (children_of t.nodes) t.splits ≡ true
  grown_own_links = and_l (links_hold (children_of t.nodes) t.splits) _ grown_joined

  grown_ones : all_ones (owners_of (children_of t.nodes)) t.splits ≡ true
  grown_ones = and_r (links_hold (children_of t.nodes) t.splits) _ grown_joined

  -- ---- links
  pub grown_links : links_hold (children_of t.nodes) 64 ≡ true
  grown_links =
      all_below_all 513 (λ i. link_holds 64 (get_or (children_of t.nodes) i 0) i)
      (λ i l. link_more t.splits 64 (get_or (children_of t.nodes) i 0) i grown_splits
      (all_below_at 513 i (λ i. link_holds t.splits (get_or (children_of t.nodes) i 0) i) grown_own_links l))

  pub grown_walkable : T (links_hold (children_of t.nodes) 64)
  grown_walkable = subst T (sym grown_links) tt

  pub grown_link : (i : ℕ) → i < 513 → (get_or (children_of t.nodes) i 0 ≡ 0 → ⊥)
      → Link t.splits (get_or (children_of t.nodes) i 0) i
  grown_link i l n =
      link_of_lem t.splits (get_or (children_of t.nodes) i 0) i
      (all_below_at 513 i (λ i. link_holds t.splits (get_or (children_of t.nodes) i 0) i) grown_own_links l) n

  -- ---- owners: split k made one node a parent, which comes before the nodes that it added
  pub grown_occurs : (k : ℕ) → k < t.splits → occurrences (8 * k + 1) (children_of t.nodes) ≡ 1
  grown_occurs k l =
      let s = grown_splits in
      sym (get_d_tabulate 64 k (λ k. occurrences (8 * k + 1) (children_of t.nodes)) 0 (omega arith))
      ∙ eqb-true _ _ (all_below_at t.splits k (λ k. eqb (get_or (owners_of (children_of t.nodes)) k 0) 1) grown_ones l)

  pub grown_once : (k : ℕ) → k < t.splits → Once (children_of t.nodes) (8 * k + 1)
  grown_once k l = once_of (8 * k + 1) (children_of t.nodes) (grown_occurs k l)

  -- the owner of a first child f is the only one
  pub grown_only : (i j : ℕ) → i < 513 → (get_or (children_of t.nodes) i 0 ≡ 0 → ⊥)
      → get_or (children_of t.nodes) j 0 ≡ get_or (children_of t.nodes) i 0 → j ≡ i
  grown_only i j l n e =
      let cs = children_of t.nodes in
      let f = get_or cs i 0 in
      let k = grown_link i l n in
      let q : f ≡ 8 * (f / 8) + 1 = omega (arith, k.first) in
      let o = grown_once (f / 8) (omega (arith, k.first, k.inside)) in
      o.only j (held_below cs j (λ z. n (sym e ∙ z))) (e ∙ q) ∙ sym (o.only i (held_below cs i n) q)

  -- what cube_at asks of the splits' nodes
  pub grown_low : Before (split_nodes (children_of t.nodes))
  grown_low k l =
      let cs = children_of t.nodes in
      let e : get_or (split_nodes cs) k 0 ≡ owner_below 513 cs (8 * k + 1) =
      get_d_tabulate 64 k (λ k. owner_below 513 cs (8 * k + 1)) 0 l in
      ⊎_elim (λ (z : owner_below 513 cs (8 * k + 1) ≡ 0). omega arith)
      (λ w.
      let a = w.0 in
      let b = w.1 in
      let h = grown_link (owner_below 513 cs (8 * k + 1)) a (λ z. omega (arith, z)) in
      omega (arith, h.after))
      (owner_found 513 cs (8 * k + 1))

  -- the node that the split of a first child made a parent is its parent
  pub grown_split : (i : ℕ) → i < 513 → (get_or (children_of t.nodes) i 0 ≡ 0 → ⊥)
      → get_or (split_nodes (children_of t.nodes)) (get_or (children_of t.nodes) i 0 / 8) 0 ≡ i
  grown_split i l n =
      let cs = children_of t.nodes in
      let f = get_or cs i 0 in
      let k = grown_link i l n in
      let s = grown_splits in
      let q : f ≡ 8 * (f / 8) + 1 = omega (arith, k.first) in
      get_d_tabulate 64 (f / 8) (λ k. owner_below 513 cs (8 * k + 1)) 0 (omega (arith, k.first, k.inside))
      ∙ owner_is 513 cs (8 * (f / 8) + 1) i l q (λ j b e. grown_only i j l n (e ∙ sym q))

  pub grown_owner : length t.nodes ≡ 513 → (k : ℕ) → k < t.splits → Owner (children_of t.nodes) k
  grown_owner full k l =
      let cs = children_of t.nodes in
      let o = grown_once k l in
      let b : o.at < 513 = omega (arith, o.below, children_count t.nodes) in
      let n : get_or cs o.at 0 ≡ 0 → ⊥ = (λ z. let e = o.is in omega (arith, z)) in
      let h = grown_link o.at b n in
      let q : get_or cs o.at 0 / 8 ≡ k = omega (arith, o.is) in
      record {
        at = o.at;
        low = omega (arith, h.after, o.is);
        is = o.is;
        only = λ j e. grown_only o.at j b n (e ∙ sym o.is);
        split = ap (λ (k : ℕ). get_or (split_nodes cs) k 0) (sym q) ∙ grown_split o.at b n;
      }

  -- ---- what the nodes hold
  pub grown_slot_holds : (i : ℕ) → i < 513 → slot_holds (node_at_of t.nodes i) (ltb i (node_count t.splits)) ≡ true
  grown_slot_holds i l = all_below_at 513 i (λ i. slot_holds (node_at_of t.nodes i) (ltb i (node_count t.splits))) grown_payloads l

  pub grown_valid : (i : ℕ) → i < node_count t.splits → valid_of (action_in (node_at_of t.nodes i)) ≡ true
  grown_valid i l =
      let s = grown_splits in
      slot_used (node_at_of t.nodes i) (ltb i (node_count t.splits)) (lt-ltb _ _ l) ∙ grown_slot_holds i (omega arith)

  pub grown_unused_leaf : (i : ℕ) → node_count t.splits ≤ i → i < 513 → (node_at_of t.nodes i).children ≡ 0
  grown_unused_leaf i a l =
      ⊎_elim (λ (z : (node_at_of t.nodes i).children ≡ 0). z)
      (λ (n : (node_at_of t.nodes i).children ≡ 0 → ⊥).
      let h = grown_link i l (λ z. n (sym (children_at t.nodes i) ∙ z)) in
      absurd (omega (arith, h.after, h.inside)))
      (same_or_not (node_at_of t.nodes i).children 0)

  pub grown_unused_plain : (i : ℕ) → node_count t.splits ≤ i → i < 513 → plain_of (node_at_of t.nodes i) ≡ true
  grown_unused_plain i a l = slot_unused (node_at_of t.nodes i) (ltb i (node_count t.splits)) (le-ltb _ _ a) ∙ grown_slot_holds i l

  -- ---- the ends, whose floats fit as those of every value that a program holds
  pub grown_admitted : ends_admitted t.ends ≡ true
  grown_admitted = ends_admitted_lem t.ends grown_ends_hold

  pub grown_whole : PointFits t.ends → Whole (root_of t.ends)
  grown_whole f = ends_whole t.ends f grown_ends_hold

  -- ---- cubes
  pub grown_family : (i : ℕ) → i < 513 → ((node_at_of t.nodes i).children ≡ 0 → ⊥) → (k : ℕ) → k < 8
      → (node_at_of t.nodes i).children + k < node_count t.splits
  grown_family i l n k b =
      let e = children_at t.nodes i in
      let h = grown_link i l (λ z. n (sym e ∙ z)) in
      omega (arith, h.first, h.inside)

  -- a child's cube is its parent's halved
  pub grown_child_cube : (i : ℕ) → i < 513 → ((node_at_of t.nodes i).children ≡ 0 → ⊥) → (k : ℕ) → k < 8
      → cube_of t ((node_at_of t.nodes i).children + k) ≡ child_cube (cube_of t i) k
  grown_child_cube i l n k b =
      let cs = children_of t.nodes in
      let ps = split_nodes cs in
      let root = root_of t.ends in
      let e = children_at t.nodes i in
      let f = (node_at_of t.nodes i).children in
      let h = grown_link i l (λ z. n (sym e ∙ z)) in
      let s = grown_splits in
      let q : (f + k - 1) / 8 ≡ get_or cs i 0 / 8 = omega (arith, h.first) in
      let r : (f + k - 1) % 8 ≡ k = omega (arith, h.first) in
      let p : parent_of ps (f + k) ≡ i = ap (λ (k : ℕ). get_or ps k 0) q ∙ grown_split i l (λ z. n (sym e ∙ z)) in
      child_step ps root grown_low (f + k) (omega (arith, h.first, h.inside)) (λ z. n (omega (arith, z)))
      ∙ ap (λ (j : ℕ). child_cube (cube_at (parent_of ps (f + k)) ps root (parent_of ps (f + k))) j) r
      ∙ ap (λ (p : ℕ). child_cube (cube_at p ps root p) k) p
