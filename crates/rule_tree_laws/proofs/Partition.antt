-- The leaves of a tested tree part its root box: each point of the box lies in the cube of one leaf, the one that the walk ends at, and no other point lies in any node's cube.
-- The upper ends of the box may be any that make a whole cube. Assumes nothing.
use mathlib.Core.Path.{◌≡◌, refl, sym, ap, subst, ◌∙◌}
use mathlib.Core.Bool.{Bool, true, false}
use mathlib.Core.Logic.{⊎_elim}
use mathlib.Core.List.{List}
use Prim.Native.Nat.{ℕ, zero, suc, ◌+◌, ◌<◌, ◌≤◌}
use native.Mathlib.Nat.{eq-zero-or-pos}
use native.Mathlib.Omega.{arith}
use lib.Ieee.{Float, nan}
use lib.ListN.{get_or, length, length-map}
use borrow.Author.Tests.{eqb-true, eq-eqb}
use Rattle.remy.specs.declared.point.Point.{Point}
use Rattle.remy.specs.declared.cube.Cube.{Cube}
use Rattle.floats.specs.Interval.{End}
use Rattle.remy.specs.Cube.{ack, send, ratio, point_of, contains_of, child_cube, place_of_point, root_of, Whole}
use Rattle.remy.proofs.Partition.{whole_child, whole_root, child_inside, place_only, place_below}
use Rattle.remy.proofs.Lens.{nan_ack, nan_send, nan_ratio}
use Rattle.rule_tree.specs.declared.Node.{Node}
use Rattle.rule_tree.specs.declared.RuleTree.{RuleTree}
use Rattle.std.specs.Prelude.{Ok, Some, None}
use Rattle.rule_tree.specs.declared.inner.walk.Reached.{Reached}
use Rattle.rule_tree.specs.Nodes.{node_at_of, children_of, node_count, is_leaf_of, action_in}
use Rattle.rule_tree.specs.Grown.{linked_of, grown_of}
use Rattle.rule_tree.specs.Walk.{walk_of, leaf_of}
use Rattle.rule_tree.specs.Calls.{found_in, lookup_of}
use Rattle.rule_tree.proofs.LinkWays.{children_at}
use Rattle.rule_tree.proofs.Plain.{PointFits}
use Rattle.rule_tree.proofs.Links.{Link, grown_linked, grown_whole}
use Rattle.rule_tree.proofs.Walking.{eight_inside, On, at_root, at_leaf, step, links_parent, descent, walk_leaf, linked_few, linked_links}
pub use Rattle.rule_tree_laws.specs.Leaves.{InOneLeaf, InNone}
use Rattle.rule_tree_laws.proofs.Family.{Child, child_of, born, cube_in, cube_root, cube_child}

-- node j, whose cube holds p, is on the walk from the root
record Way (cs : List ℕ) (root : Cube) (p : Point) (j : ℕ) : Type 0 where
  inside : contains_of root p ≡ true
  tested : ℕ
  on : On cs root p (cube_in cs root j) j tested

-- the leaf i alone holds p
pub record OneLeaf (cs : List ℕ) (s : ℕ) (root : Cube) (p : Point) (i : ℕ) : Type 0 where
  pub node : i < node_count s
  pub leaf : get_or cs i 0 ≡ 0
  pub inside : contains_of (cube_in cs root i) p ≡ true
  pub only : (j : ℕ) → j < node_count s → get_or cs j 0 ≡ 0 → contains_of (cube_in cs root j) p ≡ true → j ≡ i

module _ (cs : List ℕ) (s : ℕ) (h : linked_of cs s ≡ true) (n : length cs ≡ 513) (root : Cube) (w : Whole root) where
  whole_from : (m j : ℕ) → j ≤ m → j < node_count s → Whole (cube_in cs root j)
  whole_from zero j a l = let z : j ≡ 0 = omega arith in rw (z, cube_root cs root) w
  whole_from (suc m) j a l =
      ⊎_elim
      (λ (z : j ≡ 0). rw (z, cube_root cs root) w)
      (λ (y : 0 < j).
      let b = born cs s h n j l y in
      let f = b.child.later in
      subst Whole (sym (cube_child cs s h n root b.mother b.place j l b.child))
      (whole_child (cube_in cs root b.mother) (whole_from m b.mother (omega arith) (omega arith)) b.place))
      (eq-zero-or-pos j)

  -- every node's cube can be halved again
  pub node_whole : (j : ℕ) → j < node_count s → Whole (cube_in cs root j)
  node_whole j l = whole_from j j (omega arith) l

  module _ (p : Point) where
    way_root : contains_of (cube_in cs root 0) p ≡ true → Way cs root p 0
    way_root e =
        let i : contains_of root p ≡ true = rw (cube_root cs root) at e in
        record { inside = i; tested = 1; on = rw (cube_root cs root) (at_root cs root p w i) }

    way_child : (q k j : ℕ) → j < node_count s → Child cs q k j → contains_of (child_cube (cube_in cs root q) k) p ≡ true → Way cs root p q → Way cs root p j
    way_child q k j l c e v =
        let c₀ = cube_in cs root q in
        let f = c.later in
        let x : k ≡ place_of_point c₀ p = place_only c₀ (node_whole q (omega arith)) p k c.place e in
        let o = step cs root p c₀ q v.tested v.on s (linked_few cs s h) (links_parent cs s q (linked_links cs s h) c.parent c.link) in
        let d : cube_in cs root j ≡ child_cube c₀ (place_of_point c₀ p) = cube_child cs s h n root q k j l c ∙ ap (child_cube c₀) x in
        let m : j ≡ get_or cs q 0 + place_of_point c₀ p = c.is ∙ ap (λ (y : ℕ). get_or cs q 0 + y) x in
        record {
          inside = v.inside;
          tested = v.tested + 1 + place_of_point c₀ p;
          on = subst (λ (y : Cube). On cs root p y j (v.tested + 1 + place_of_point c₀ p)) (sym d)
              (subst (λ (y : ℕ). On cs root p (child_cube c₀ (place_of_point c₀ p)) y (v.tested + 1 + place_of_point c₀ p)) (sym m) o);
        }

    way_from : (m j : ℕ) → j ≤ m → j < node_count s → contains_of (cube_in cs root j) p ≡ true → Way cs root p j
    way_from zero j a l e =
        let z : j ≡ 0 = omega arith in
        subst (Way cs root p) (sym z) (way_root (subst (λ (x : ℕ). contains_of (cube_in cs root x) p ≡ true) z e))
    way_from (suc m) j a l e =
        ⊎_elim
        (λ (z : j ≡ 0). subst (Way cs root p) (sym z) (way_root (subst (λ (x : ℕ). contains_of (cube_in cs root x) p ≡ true) z e)))
        (λ (y : 0 < j).
        let b = born cs s h n j l y in
        let q = b.mother in
        let f = b.child.later in
        let c : contains_of (child_cube (cube_in cs root q) b.place) p ≡ true = ap (λ (x : Cube). contains_of x p) (sym (cube_child cs s h n root q b.place j l b.child)) ∙ e in
        way_child q b.place j l b.child c
        (way_from m q (omega arith) (omega arith) (child_inside (cube_in cs root q) (node_whole q (omega arith)) p b.place c)))
        (eq-zero-or-pos j)

    way : (j : ℕ) → j < node_count s → contains_of (cube_in cs root j) p ≡ true → Way cs root p j
    way j l e = way_from j j (omega arith) l e

    -- the points of a node's cube are the box's
    pub node_inside : (j : ℕ) → j < node_count s → contains_of (cube_in cs root j) p ≡ true → contains_of root p ≡ true
    node_inside j l e = (way j l e).inside

    -- no node's cube holds a point that is not in the box
    pub no_node : contains_of root p ≡ false → (j : ℕ) → j < node_count s → contains_of (cube_in cs root j) p ≡ false
    no_node e j l = go (contains_of (cube_in cs root j) p) refl
      where
        go : (b : Bool) → contains_of (cube_in cs root j) p ≡ b → b ≡ false
        go true f = absurd (let g : contains_of root p ≡ true = node_inside j l f in let z : ◌≡◌ {A = ℕ} 0 1 = cc in omega arith)
        go false f = refl

    -- a leaf whose cube holds p is where the walk ends
    leaf_reached : (j : ℕ) → j < node_count s → get_or cs j 0 ≡ 0 → contains_of (cube_in cs root j) p ≡ true → j ≡ (walk_of cs root p).node
    leaf_reached j l z e =
        let v = way j l e in
        ap (λ (r : Reached). r.node) (at_leaf cs root p (cube_in cs root j) j v.tested v.on z)

    pub one_leaf : contains_of root p ≡ true → OneLeaf cs s root p (walk_of cs root p).node
    one_leaf e =
        let few = linked_few cs s h in
        let links = linked_links cs s h in
        let d = descent cs root p s few links (λ cube i. (i < node_count s) × (cube ≡ cube_in cs root i)) more w e (omega arith, sym (cube_root cs root)) in
        let r : d.node ≡ (walk_of cs root p).node = ap (λ (x : Reached). x.node) (at_leaf cs root p d.cube d.node d.tested d.on d.leaf) in
        subst (OneLeaf cs s root p) r (record {
          node = d.kept.0;
          leaf = d.leaf;
          inside = ap (λ (c : Cube). contains_of c p) (sym d.kept.1) ∙ d.on.inside;
          only = λ j l z f. leaf_reached j l z f ∙ sym r;
        })
      where
        more : (cube : Cube) (i : ℕ) → i < 513 → Link s (get_or cs i 0) i → Whole cube → contains_of cube p ≡ true → (i < node_count s) × (cube ≡ cube_in cs root i)
            → (get_or cs i 0 + place_of_point cube p < node_count s) × (child_cube cube (place_of_point cube p) ≡ cube_in cs root (get_or cs i 0 + place_of_point cube p))
        more cube i b q v f a =
            let k : place_of_point cube p < 8 = place_below cube p in
            let l : get_or cs i 0 + place_of_point cube p < node_count s = eight_inside s (get_or cs i 0) i (place_of_point cube p) q k in
            let c = child_of cs s h n i (place_of_point cube p) b (λ z. absurd (let g = q.after in omega (arith, z))) k in
            (l, ap (λ (x : Cube). child_cube x (place_of_point cube p)) a.1 ∙ sym (cube_child cs s h n root i (place_of_point cube p) (get_or cs i 0 + place_of_point cube p) l c))

-- ---- a tree: its links are tested, its box has any upper ends that make a whole cube
leaf_link : (nodes : List Node) (i : ℕ) → is_leaf_of nodes i ≡ true → get_or (children_of nodes) i 0 ≡ 0
leaf_link nodes i e = children_at nodes i ∙ eqb-true (node_at_of nodes i).children 0 e

link_leaf : (nodes : List Node) (i : ℕ) → get_or (children_of nodes) i 0 ≡ 0 → is_leaf_of nodes i ≡ true
link_leaf nodes i e = eq-eqb (node_at_of nodes i).children 0 (sym (children_at nodes i) ∙ e)

found_inside : (t : RuleTree) (p : Point) → contains_of (root_of t.ends) p ≡ true → found_in t p ≡ Some (action_in (node_at_of t.nodes (leaf_of t p)))
unfolding found_in
found_inside t p e = rw e

found_outside : (t : RuleTree) (p : Point) → contains_of (root_of t.ends) p ≡ false → found_in t p ≡ None
unfolding found_in
found_outside t p e = rw e

pub looked_up : (t : RuleTree) (p : Point) → grown_of t ≡ true → lookup_of t p ≡ Ok (found_in t p)
unfolding lookup_of
looked_up t p g = rw g

module _ (t : RuleTree) (p : Point) (h : linked_of (children_of t.nodes) t.splits ≡ true) (n : length t.nodes ≡ 513) (w : Whole (root_of t.ends)) where
  pub in_one_leaf : contains_of (root_of t.ends) p ≡ true → InOneLeaf t p
  in_one_leaf e =
      let cs = children_of t.nodes in
      let o = one_leaf cs t.splits h (length-map t.nodes (λ x. x.children) ∙ n) (root_of t.ends) w p e in
      record {
        node = o.node;
        leaf = link_leaf t.nodes (leaf_of t p) o.leaf;
        inside = o.inside;
        only = λ j l z f. o.only j l (leaf_link t.nodes j z) f;
        found = found_inside t p e;
      }

  pub in_none : contains_of (root_of t.ends) p ≡ false → InNone t p
  in_none e =
      record {
        none = no_node (children_of t.nodes) t.splits h (length-map t.nodes (λ x. x.children) ∙ n) (root_of t.ends) w p e;
        nothing = found_outside t p e;
      }

-- for any upper ends whose doubles are finite
pub parts_box : (t : RuleTree) → linked_of (children_of t.nodes) t.splits ≡ true → length t.nodes ≡ 513
    → End (ack t.ends) → End (send t.ends) → End (ratio t.ends) → (p : Point)
    → (contains_of (root_of t.ends) p ≡ true → InOneLeaf t p) × (contains_of (root_of t.ends) p ≡ false → InNone t p)
parts_box t h n a s r p = let w = whole_root t.ends a s r in (in_one_leaf t p h n w, in_none t p h n w)

-- ---- a grown tree
module _ (t : RuleTree) (g : grown_of t ≡ true) (n : length t.nodes ≡ 513) (f : PointFits t.ends) (p : Point) where
  pub grown_one_leaf : contains_of (root_of t.ends) p ≡ true → InOneLeaf t p
  grown_one_leaf e = in_one_leaf t p (grown_linked t g) n (grown_whole t g f) e

  pub grown_none : contains_of (root_of t.ends) p ≡ false → InNone t p
  grown_none e = in_none t p (grown_linked t g) n (grown_whole t g f) e

  pub lookup_found : contains_of (root_of t.ends) p ≡ true → lookup_of t p ≡ Ok (Some (action_in (node_at_of t.nodes (leaf_of t p))))
  lookup_found e = looked_up t p g ∙ ap Ok (grown_one_leaf e).found

  pub lookup_nothing : contains_of (root_of t.ends) p ≡ false → lookup_of t p ≡ Ok None
  lookup_nothing e = looked_up t p g ∙ ap Ok (grown_none e).nothing

  -- what a search in order tests on the way: at most one cube for each node up to the leaf
  pub tested_few : contains_of (root_of t.ends) p ≡ true
      → ((walk_of (children_of t.nodes) (root_of t.ends) p).tested ≤ 1 + leaf_of t p) × (1 + leaf_of t p ≤ 513)
  tested_few e =
      let h = grown_linked t g in
      let l = walk_leaf (children_of t.nodes) (root_of t.ends) p t.splits (linked_few (children_of t.nodes) t.splits h) (linked_links (children_of t.nodes) t.splits h) (grown_whole t g f) e in
      (l.few, let b = l.below in omega arith)

-- NaN finds nothing
pub nan_finds_nothing : (t : RuleTree) (x y : Float)
    → (found_in t (point_of nan x y) ≡ None) × ((found_in t (point_of x nan y) ≡ None) × (found_in t (point_of x y nan) ≡ None))
nan_finds_nothing t x y = (
  found_outside t (point_of nan x y) (nan_ack (root_of t.ends) x y),
  (found_outside t (point_of x nan y) (nan_send (root_of t.ends) x y), found_outside t (point_of x y nan) (nan_ratio (root_of t.ends) x y)),
)
