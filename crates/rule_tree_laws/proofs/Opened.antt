-- How many cubes a lookup tests: the walk's number, at most 1 + 8 d for a leaf d splits deep and never above 513; 1 for a point outside.
-- The upper ends of the box may be any that a tree may have. Assumes nothing.
use mathlib.Core.Path.{◌≡◌, refl, sym, ap, subst, ◌∙◌}
use mathlib.Core.Bool.{Bool, true, false}
use mathlib.Core.Logic.{⊎_elim}
use mathlib.Core.List.{List}
use Prim.Native.Nat.{ℕ, zero, suc, ◌+◌, ◌-◌, ◌*◌, ◌/◌, ◌<◌, ◌≤◌}
use native.Mathlib.Nat.{eq-zero-or-pos}
use native.Mathlib.Omega.{arith}
use lib.ListN.{get_or, length, length-map}
use borrow.Author.Tests.{eq-eqb, ne_eqb}
use Rattle.remy.specs.declared.point.Point.{Point}
use Rattle.remy.specs.declared.cube.Cube.{Cube}
use Rattle.remy.specs.Cube.{contains_of, child_cube, place_of_point, root_of, Whole}
use Rattle.remy.proofs.Partition.{place_below}
use Rattle.rule_tree.specs.declared.RuleTree.{RuleTree}
use Rattle.rule_tree.specs.declared.Lookup.{Lookup}
use Rattle.std.specs.Prelude.{Ok, Some, None}
use Rattle.rule_tree.specs.declared.inner.walk.Reached.{Reached}
use Rattle.rule_tree.specs.Nodes.{node_at_of, children_of, node_count, slots, action_in}
use Rattle.rule_tree.specs.Grown.{linked_of, grown_of}
use Rattle.rule_tree.specs.Cubes.{split_nodes, Before}
use Rattle.rule_tree.specs.Walk.{walk_of, leaf_of}
use Rattle.rule_tree.specs.Calls.{found_in, tested_in, opened_in, opened_of}
use Rattle.rule_tree.proofs.Looking.{opened_grown}
use Rattle.rule_tree.proofs.Plain.{PointFits}
use Rattle.rule_tree.proofs.CubeSteps.{parent_of}
use Rattle.rule_tree.proofs.Links.{Link, grown_linked, grown_whole}
use Rattle.rule_tree.proofs.Walking.{eight_inside, On, at_root, at_leaf, step, descent, linked_few, linked_links}
pub use Rattle.rule_tree_laws.specs.Opened.{depth_at, depth_in, depth_of}
use Rattle.rule_tree_laws.proofs.Family.{Child, child_of, parent_is, split_low}
use Rattle.rule_tree_laws.proofs.Partition.{grown_one_leaf, grown_none, tested_few}

-- ---- depth does not depend on the fuel, and a child is one split deeper than its parent
root_depth : (d : ℕ) (ps : List ℕ) (i : ℕ) → i ≡ 0 → depth_at d ps i ≡ 0
unfolding depth_at
root_depth zero ps i e = refl
root_depth (suc d) ps i e = rw (eq-eqb i 0 e)

step_depth : (d : ℕ) (ps : List ℕ) (i : ℕ) → 0 < i → depth_at (suc d) ps i ≡ suc (depth_at d ps (parent_of ps i))
unfolding depth_at
step_depth d ps i l = rw (ne_eqb i 0 (λ z. absurd (omega (arith, z))))

module _ (ps : List ℕ) (low : Before ps) where
  before : (i : ℕ) → i < slots → 0 < i → parent_of ps i < i
  before i b l = omega (arith, low ((i - 1) / 8) (omega arith))

  fuel : (d e i : ℕ) → i < slots → i ≤ d → i ≤ e → depth_at d ps i ≡ depth_at e ps i
  fuel zero e i b p q = root_depth zero ps i (omega arith) ∙ sym (root_depth e ps i (omega arith))
  fuel (suc d) zero i b p q = root_depth (suc d) ps i (omega arith) ∙ sym (root_depth zero ps i (omega arith))
  fuel (suc d) (suc e) i b p q =
      ⊎_elim (λ (z : i ≡ 0). root_depth (suc d) ps i z ∙ sym (root_depth (suc e) ps i z))
      (λ (l : 0 < i).
      let k : parent_of ps i < i = before i b l in
      step_depth d ps i l ∙ ap suc (fuel d e (parent_of ps i) (omega arith) (omega arith) (omega arith)) ∙ sym (step_depth e ps i l))
      (eq-zero-or-pos i)

  one_deeper : (i : ℕ) → i < slots → 0 < i → depth_at i ps i ≡ suc (depth_at (parent_of ps i) ps (parent_of ps i))
  one_deeper i b l =
      let k : parent_of ps i < i = before i b l in
      fuel i (suc (i - 1)) i b (omega arith) (omega arith) ∙ step_depth (i - 1) ps i l
      ∙ ap suc (fuel (i - 1) (parent_of ps i) (parent_of ps i) (omega arith) (omega arith) (omega arith))

pub depth_root : (cs : List ℕ) → depth_in cs 0 ≡ 0
depth_root cs = root_depth 0 (split_nodes cs) 0 refl

-- node i, d splits deep, was reached with at most 1 + 8 d cubes tested
record Counted (cs : List ℕ) (s : ℕ) (root : Cube) (p : Point) (cube : Cube) (i : ℕ) : Type 0 where
  tested : ℕ
  node : i < node_count s
  on : On cs root p cube i tested
  deep : tested ≤ 1 + 8 * depth_in cs i

module _ (cs : List ℕ) (s : ℕ) (h : linked_of cs s ≡ true) (n : length cs ≡ 513) where
  pub depth_child : (i k j : ℕ) → j < node_count s → Child cs i k j → depth_in cs j ≡ suc (depth_in cs i)
  depth_child i k j l c =
      let few = linked_few cs s h in
      let f = c.later in
      one_deeper (split_nodes cs) (split_low cs s h n) j (omega arith) (omega arith)
      ∙ ap (λ (x : ℕ). suc (depth_in cs x)) (parent_is cs s h n i k j c).0

  module _ (root : Cube) (w : Whole root) (p : Point) where
    counted_child : (cube : Cube) (i : ℕ) → i < 513 → Link s (get_or cs i 0) i → Counted cs s root p cube i
        → Counted cs s root p (child_cube cube (place_of_point cube p)) (get_or cs i 0 + place_of_point cube p)
    counted_child cube i b q c =
        let k : place_of_point cube p < 8 = place_below cube p in
        let l : get_or cs i 0 + place_of_point cube p < node_count s = eight_inside s (get_or cs i 0) i (place_of_point cube p) q k in
        let e = depth_child i (place_of_point cube p) (get_or cs i 0 + place_of_point cube p) l (child_of cs s h n i (place_of_point cube p) b (λ z. absurd (let g = q.after in omega (arith, z))) k) in
        let d = c.deep in
        record {
          tested = c.tested + 1 + place_of_point cube p;
          node = l;
          on = step cs root p cube i c.tested c.on s (linked_few cs s h) q;
          deep = omega arith;
        }

    -- the walk tests at most the root and eight cubes for each split above its leaf
    pub walk_deep : contains_of root p ≡ true → (walk_of cs root p).tested ≤ 1 + 8 * depth_in cs (walk_of cs root p).node
    walk_deep e =
        let d = descent cs root p s (linked_few cs s h) (linked_links cs s h) (Counted cs s root p)
        (λ cube i b q v f c. counted_child cube i b q c) w e
        (record { tested = 1; node = omega arith; on = at_root cs root p w e; deep = omega arith }) in
        let c = d.kept in
        subst (λ (r : Reached). r.tested ≤ 1 + 8 * depth_in cs r.node)
        (at_leaf cs root p d.cube d.node c.tested c.on d.leaf) c.deep

-- ---- the calls
found_opened : (t : RuleTree) (p : Point) → grown_of t ≡ true → opened_of t p ≡ record { found = Ok (found_in t p); tested = tested_in t p }
unfolding opened_in
found_opened t p g = sym (opened_grown t p g)

tested_inside : (t : RuleTree) (p : Point) → contains_of (root_of t.ends) p ≡ true → tested_in t p ≡ (walk_of (children_of t.nodes) (root_of t.ends) p).tested
unfolding tested_in
tested_inside t p e = rw e

tested_outside : (t : RuleTree) (p : Point) → contains_of (root_of t.ends) p ≡ false → tested_in t p ≡ 1
unfolding tested_in
tested_outside t p e = rw e

module _ (t : RuleTree) (g : grown_of t ≡ true) (n : length t.nodes ≡ 513) (f : PointFits t.ends) (p : Point) where
  -- "The number equals the walk's in the definition"
  pub opened_inside : contains_of (root_of t.ends) p ≡ true
      → opened_of t p ≡ record { found = Ok (Some (action_in (node_at_of t.nodes (leaf_of t p)))); tested = (walk_of (children_of t.nodes) (root_of t.ends) p).tested }
  opened_inside e =
      found_opened t p g
      ∙ (λ j. record { found = Ok ((grown_one_leaf t g n f p e).found j); tested = tested_inside t p e j })

  -- "An outside point counts 1"
  pub opened_outside : contains_of (root_of t.ends) p ≡ false → opened_of t p ≡ record { found = Ok None; tested = 1 }
  opened_outside e =
      found_opened t p g ∙ (λ j. record { found = Ok ((grown_none t g n f p e).nothing j); tested = tested_outside t p e j })

  tested_is : contains_of (root_of t.ends) p ≡ true → (opened_of t p).tested ≡ (walk_of (children_of t.nodes) (root_of t.ends) p).tested
  tested_is e = ap (λ (l : Lookup). l.tested) (opened_inside e)

  -- "For a leaf d splits deep it is at most 1 + 8 × d"
  pub opened_deep : contains_of (root_of t.ends) p ≡ true → (opened_of t p).tested ≤ 1 + 8 * depth_of t (leaf_of t p)
  opened_deep e =
      subst (λ (m : ℕ). m ≤ 1 + 8 * depth_of t (leaf_of t p)) (sym (tested_is e))
      (walk_deep (children_of t.nodes) t.splits (grown_linked t g) (length-map t.nodes (λ x. x.children) ∙ n) (root_of t.ends) (grown_whole t g f) p e)

  -- "and never above 513"
  pub opened_few : (opened_of t p).tested ≤ 513
  opened_few = go (contains_of (root_of t.ends) p) refl
    where
      go : (b : Bool) → contains_of (root_of t.ends) p ≡ b → (opened_of t p).tested ≤ 513
      go true e = let a = tested_is e in let l = tested_few t g n f p e in let x = l.0 in let y = l.1 in omega arith
      go false e = let a : (opened_of t p).tested ≡ 1 = ap (λ (l : Lookup). l.tested) (opened_outside e) in omega arith
