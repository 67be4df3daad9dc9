-- What a split does to the leaf that a point reaches: a point of the split leaf goes to one of its eight children, any other stays, and each keeps its action;
-- and two splits give the same cubes in either order. Assumes nothing.
use mathlib.Core.Path.{◌≡◌, refl, sym, ap, subst, ◌∙◌}
use mathlib.Core.Bool.{Bool, true, false}
use mathlib.Core.Logic.{inl, ⊎_elim, ◌≢◌}
use mathlib.Core.List.{List}
use Prim.Native.Nat.{ℕ, zero, suc, ◌+◌, ◌*◌, ◌<◌, ◌≤◌}
use native.Mathlib.Nat.{eq-zero-or-pos}
use native.Mathlib.Omega.{arith}
use lib.Dec.{eqb}
use lib.ListN.{get_or, length}
use Rattle.remy.specs.declared.point.Point.{Point}
use Rattle.remy.specs.declared.cube.Cube.{Cube}
use Rattle.remy.specs.Cube.{contains_of, child_cube, place_of_point, root_of, Whole}
use Rattle.remy.proofs.Partition.{place_below, place_holds}
use Rattle.rule_tree.specs.declared.Node.{Node}
use Rattle.rule_tree.specs.declared.RuleTree.{RuleTree}
use Rattle.std.specs.Prelude.{Some}
use Rattle.rule_tree.specs.Nodes.{node_at_of, children_of, node_count, action_in}
use Rattle.rule_tree.specs.Grown.{linked_of, grown_of}
use Rattle.rule_tree.specs.Cubes.{cube_of}
use Rattle.rule_tree.specs.Walk.{leaf_of}
use Rattle.rule_tree.specs.Change.{split_at_of}
use Rattle.rule_tree.specs.Calls.{found_in, leaf_in}
use Rattle.rule_tree.proofs.LinkWays.{children_at}
use Rattle.rule_tree.proofs.Owners.{same_or_not}
use Rattle.rule_tree.proofs.Links.{grown_linked, grown_whole}
use Rattle.rule_tree.proofs.Plain.{PointFits}
use Rattle.rule_tree.proofs.GrownTree.{leaf_below, leaf_childless}
use Rattle.rule_tree.proofs.Changing.{split_length, split_splits, split_ends, split_child, split_other, split_old_leaf}
use Rattle.rule_tree_laws.proofs.SplitLinks.{links_513, after_513, old_link, new_link, split_linked}
use Rattle.rule_tree_laws.proofs.Family.{Child, child_of, born, cube_in, cube_root, cube_child}
use Rattle.rule_tree_laws.proofs.Partition.{node_whole, InOneLeaf, in_one_leaf, in_none}

-- ---- a list of links, and another that has the same links but for a leaf i
module _
    (cs ds : List ℕ) (s r i : ℕ) (h : linked_of cs s ≡ true) (k : linked_of ds r ≡ true) (n : length cs ≡ 513) (m : length ds ≡ 513) (more : s ≤ r)
    (leaf : get_or cs i 0 ≡ 0) (old : (j : ℕ) → j < node_count s → j ≢ i → get_or ds j 0 ≡ get_or cs j 0) (root : Cube)
  where
    kept_from : (d j : ℕ) → j ≤ d → j < node_count s → cube_in ds root j ≡ cube_in cs root j
    kept_from zero j a l = let z : j ≡ 0 = omega arith in rw z (cube_root ds root ∙ sym (cube_root cs root))
    kept_from (suc d) j a l =
        ⊎_elim
        (λ (z : j ≡ 0). rw z (cube_root ds root ∙ sym (cube_root cs root)))
        (λ (y : 0 < j).
        let b = born cs s h n j l y in
        let q = b.mother in
        let c = b.child in
        let f = c.later in
        let e : get_or ds q 0 ≡ get_or cs q 0 = old q (omega arith) (λ x. c.link (ap (λ (u : ℕ). get_or cs u 0) x ∙ leaf)) in
        let v : Child ds q b.place j =
        record { parent = c.parent; later = c.later; link = λ z. c.link (sym e ∙ z); place = c.place; is = c.is ∙ ap (λ (u : ℕ). u + b.place) (sym e) } in
        cube_child ds r k m root q b.place j (omega arith) v
        ∙ ap (λ (x : Cube). child_cube x b.place) (kept_from d q (omega arith) (omega arith))
        ∙ sym (cube_child cs s h n root q b.place j l c))
        (eq-zero-or-pos j)

    -- the nodes of before keep their cubes
    cubes_same : (j : ℕ) → j < node_count s → cube_in ds root j ≡ cube_in cs root j
    cubes_same j l = kept_from j j (omega arith) l

-- the cube of the leaf that p reaches
abbrev pub reached_cube : RuleTree → Point → Cube
reached_cube t p = cube_of t (leaf_of t p)

-- ---- one split of a leaf
module _ (t : RuleTree) (i : ℕ) (n : length t.nodes ≡ 513) (g : linked_of (children_of t.nodes) t.splits ≡ true) (l : leaf_in t i ≡ true) (r : t.splits < 64) where
  below : i < node_count t.splits
  below = leaf_below t i l

  -- the nodes of before keep their cubes
  pub cubes_kept : (j : ℕ) → j < node_count t.splits → cube_of (split_at_of t i) j ≡ cube_of t j
  cubes_kept j b =
      ap (λ (e : Point). cube_in (children_of (split_at_of t i).nodes) (root_of e) j) (split_ends t i)
      ∙ cubes_same (children_of t.nodes) (children_of (split_at_of t i).nodes) t.splits (split_at_of t i).splits i
      g (split_linked t i n g l r) (links_513 t.nodes n) (links_513 (split_at_of t i).nodes (after_513 t i n g l r))
      (let e = split_splits t i in omega arith) (children_at t.nodes i ∙ leaf_childless t i l) (old_link t i n g l r) (root_of t.ends) j b

  -- the new nodes have the eight halves of the leaf's cube
  pub cubes_new : (k : ℕ) → k < 8 → cube_of (split_at_of t i) (8 * t.splits + 1 + k) ≡ child_cube (cube_of t i) k
  cubes_new k b =
      let cs = children_of (split_at_of t i).nodes in
      let s = (split_at_of t i).splits in
      let h = split_linked t i n g l r in
      let m = links_513 (split_at_of t i).nodes (after_513 t i n g l r) in
      let f = below in
      let z : get_or cs i 0 ≡ 8 * t.splits + 1 = new_link t i n g l r in
      let c : Child cs i k (get_or cs i 0 + k) = child_of cs s h m i k (omega arith) (λ y. absurd (omega (arith, y))) b in
      let e = split_splits t i in
      ap (λ (x : ℕ). cube_of (split_at_of t i) (x + k)) (sym z)
      ∙ cube_child cs s h m (root_of (split_at_of t i).ends) i k (get_or cs i 0 + k) (omega arith) c
      ∙ ap (λ (x : Cube). child_cube x k) (cubes_kept i below)

  module _ (w : Whole (root_of t.ends)) (p : Point) (e : contains_of (root_of t.ends) p ≡ true) where
    after_whole : Whole (root_of (split_at_of t i).ends)
    after_whole = rw (split_ends t i) w

    after_inside : contains_of (root_of (split_at_of t i).ends) p ≡ true
    after_inside = rw (split_ends t i) e

    reached : InOneLeaf t p
    reached = in_one_leaf t p g n w e

    after : InOneLeaf (split_at_of t i) p
    after = in_one_leaf (split_at_of t i) p (split_linked t i n g l r) (after_513 t i n g l r) after_whole after_inside

    -- a point of another leaf reaches that leaf still
    pub reach_other : leaf_of t p ≢ i → leaf_of (split_at_of t i) p ≡ leaf_of t p
    reach_other o =
        let b = reached.node in
        let s = split_splits t i in
        sym (after.only (leaf_of t p) (omega arith)
        (ap (λ (x : Node). eqb x.children 0) (split_other t i (leaf_of t p) o (inl b)) ∙ reached.leaf)
        (ap (λ (c : Cube). contains_of c p) (cubes_kept (leaf_of t p) b) ∙ reached.inside))

    -- a point of the leaf reaches the child whose cube holds it
    pub reach_split : leaf_of t p ≡ i → leaf_of (split_at_of t i) p ≡ 8 * t.splits + 1 + place_of_point (cube_of t i) p
    reach_split o =
        let k = place_of_point (cube_of t i) p in
        let b : k < 8 = place_below (cube_of t i) p in
        let s = split_splits t i in
        let v : Whole (cube_of t i) = node_whole (children_of t.nodes) t.splits g (links_513 t.nodes n) (root_of t.ends) w i below in
        let x : contains_of (cube_of t i) p ≡ true = subst (λ (j : ℕ). contains_of (cube_of t j) p ≡ true) o reached.inside in
        sym (after.only (8 * t.splits + 1 + k) (omega arith)
        (ap (λ (y : Node). eqb y.children 0) (split_child t i (omega arith) k b))
        (ap (λ (c : Cube). contains_of c p) (cubes_new k b) ∙ place_holds (cube_of t i) v p x))

    pub cube_other : leaf_of t p ≢ i → reached_cube (split_at_of t i) p ≡ reached_cube t p
    cube_other o = ap (cube_of (split_at_of t i)) (reach_other o) ∙ cubes_kept (leaf_of t p) reached.node

    pub cube_split : leaf_of t p ≡ i → reached_cube (split_at_of t i) p ≡ child_cube (cube_of t i) (place_of_point (cube_of t i) p)
    cube_split o = ap (cube_of (split_at_of t i)) (reach_split o) ∙ cubes_new (place_of_point (cube_of t i) p) (place_below (cube_of t i) p)

    found_kept : found_in (split_at_of t i) p ≡ found_in t p
    found_kept =
        after.found
        ∙ ⊎_elim
        (λ (o : leaf_of t p ≡ i).
        let k = place_of_point (cube_of t i) p in
        ap (λ (j : ℕ). Some (action_in (node_at_of (split_at_of t i).nodes j))) (reach_split o)
        ∙ ap (λ (x : Node). Some (action_in x)) (split_child t i (omega arith) k (place_below (cube_of t i) p))
        ∙ ap (λ (j : ℕ). Some (action_in (node_at_of t.nodes j))) (sym o))
        (λ (o : leaf_of t p ≢ i).
        ap (λ (j : ℕ). Some (action_in (node_at_of (split_at_of t i).nodes j))) (reach_other o)
        ∙ ap (λ (x : Node). Some (action_in x)) (split_other t i (leaf_of t p) o (inl reached.node)))
        (same_or_not (leaf_of t p) i)
        ∙ sym reached.found

  -- a split keeps every point's action
  pub split_keeps : Whole (root_of t.ends) → (p : Point) → found_in (split_at_of t i) p ≡ found_in t p
  split_keeps w p = go (contains_of (root_of t.ends) p) refl
    where
      go : (b : Bool) → contains_of (root_of t.ends) p ≡ b → found_in (split_at_of t i) p ≡ found_in t p
      go true e = found_kept w p e
      go false e =
          (in_none (split_at_of t i) p (split_linked t i n g l r) (after_513 t i n g l r) (rw (split_ends t i) w) (rw (split_ends t i) e)).nothing
          ∙ sym (in_none t p g n w e).nothing

-- ---- two splits, of the leaf i and then of the leaf j
module _
    (t : RuleTree) (i j : ℕ) (n : length t.nodes ≡ 513) (g : linked_of (children_of t.nodes) t.splits ≡ true) (l : leaf_in t i ≡ true) (m : leaf_in t j ≡ true) (o : i ≢ j) (r : t.splits < 63)
    (w : Whole (root_of t.ends))
  where
    first_linked : linked_of (children_of (split_at_of t i).nodes) (split_at_of t i).splits ≡ true
    first_linked = split_linked t i n g l (omega arith)

    first_513 : length (split_at_of t i).nodes ≡ 513
    first_513 = split_length t i ∙ n

    still_leaf : leaf_in (split_at_of t i) j ≡ true
    still_leaf = split_old_leaf t i n (leaf_below t i l) (omega arith) j (λ e. o (sym e)) (inl (leaf_below t j m)) ∙ m

    room : (split_at_of t i).splits < 64
    room = let e = split_splits t i in omega arith

    first_whole : Whole (root_of (split_at_of t i).ends)
    first_whole = rw (split_ends t i) w

    -- every point's action is kept
    pub both_keep : (p : Point) → found_in (split_at_of (split_at_of t i) j) p ≡ found_in t p
    both_keep p = split_keeps (split_at_of t i) j first_513 first_linked still_leaf room first_whole p ∙ split_keeps t i n g l (omega arith) w p

    module _ (p : Point) (e : contains_of (root_of t.ends) p ≡ true) where
      first_inside : contains_of (root_of (split_at_of t i).ends) p ≡ true
      first_inside = rw (split_ends t i) e

      both_first : leaf_of t p ≡ i → reached_cube (split_at_of (split_at_of t i) j) p ≡ child_cube (cube_of t i) (place_of_point (cube_of t i) p)
      both_first q =
          let b = leaf_below t j m in
          let x = reach_split t i n g l (omega arith) w p e q in
          cube_other (split_at_of t i) j first_513 first_linked still_leaf room first_whole p first_inside (λ y. absurd (omega (arith, y)))
          ∙ cube_split t i n g l (omega arith) w p e q

      both_second : leaf_of t p ≡ j → reached_cube (split_at_of (split_at_of t i) j) p ≡ child_cube (cube_of t j) (place_of_point (cube_of t j) p)
      both_second q =
          let x = reach_other t i n g l (omega arith) w p e (λ y. o (sym y ∙ q)) in
          cube_split (split_at_of t i) j first_513 first_linked still_leaf room first_whole p first_inside (x ∙ q)
          ∙ ap (λ (c : Cube). child_cube c (place_of_point c p)) (cubes_kept t i n g l (omega arith) j (leaf_below t j m))

      both_neither : leaf_of t p ≢ i → leaf_of t p ≢ j → reached_cube (split_at_of (split_at_of t i) j) p ≡ reached_cube t p
      both_neither a b =
          let x = reach_other t i n g l (omega arith) w p e a in
          cube_other (split_at_of t i) j first_513 first_linked still_leaf room first_whole p first_inside (λ y. b (sym x ∙ y))
          ∙ cube_other t i n g l (omega arith) w p e a

-- the order of two splits does not change the cube that a point of the box lies in
pub split_order_lem :
    (t : RuleTree) (i j : ℕ) → length t.nodes ≡ 513 → linked_of (children_of t.nodes) t.splits ≡ true → leaf_in t i ≡ true → leaf_in t j ≡ true → i ≢ j → t.splits < 63
    → Whole (root_of t.ends) → (p : Point) → contains_of (root_of t.ends) p ≡ true
    → reached_cube (split_at_of (split_at_of t i) j) p ≡ reached_cube (split_at_of (split_at_of t j) i) p
split_order_lem t i j n g l m o r w p e =
    ⊎_elim
    (λ (a : leaf_of t p ≡ i). both_first t i j n g l m o r w p e a ∙ sym (both_second t j i n g m l (λ x. o (sym x)) r w p e a))
    (λ (a : leaf_of t p ≢ i).
    ⊎_elim
    (λ (b : leaf_of t p ≡ j). both_second t i j n g l m o r w p e b ∙ sym (both_first t j i n g m l (λ x. o (sym x)) r w p e b))
    (λ (b : leaf_of t p ≢ j). both_neither t i j n g l m o r w p e a b ∙ sym (both_neither t j i n g m l (λ x. o (sym x)) r w p e b a))
    (same_or_not (leaf_of t p) j))
    (same_or_not (leaf_of t p) i)

-- ---- a grown tree, whose ends are the usual ones
module _ (t : RuleTree) (n : length t.nodes ≡ 513) (g : grown_of t ≡ true) (f : PointFits t.ends) where
  pub grown_split_keeps : (i : ℕ) → leaf_in t i ≡ true → t.splits < 64 → (p : Point) → found_in (split_at_of t i) p ≡ found_in t p
  grown_split_keeps i l r p = split_keeps t i n (grown_linked t g) l r (grown_whole t g f) p

  pub grown_split_order : (i j : ℕ) → leaf_in t i ≡ true → leaf_in t j ≡ true → i ≢ j → t.splits < 63
      → (p : Point) → contains_of (root_of t.ends) p ≡ true → reached_cube (split_at_of (split_at_of t i) j) p ≡ reached_cube (split_at_of (split_at_of t j) i) p
  grown_split_order i j l m o r p e = split_order_lem t i j n (grown_linked t g) l m o r (grown_whole t g f) p e
