-- The list of the leaves that pass the test: by rising node, each once, the reached ones and no others. Assumes nothing.
use mathlib.Core.Path.{◌≡◌, refl, sym, ◌∙◌}
use mathlib.Core.Bool.{Bool, true, false, true≢false}
use mathlib.Core.List.{[], ◌∷◌}
use mathlib.Core.Logic.{◌↔◌}
use Prim.Native.Nat.{ℕ, ◌+◌, ◌<◌}
use native.Mathlib.Omega.{arith}
use borrow.Author.Tests.{ltb-true, lt-ltb}
use lib.Dec.{ltb}
use lib.ListN.{length}
use Rattle.remy.specs.declared.point.Point.{Point}
use Rattle.remy.specs.Cube.{root_of, contains_of}
use Rattle.rule_tree.specs.declared.RuleTree.{RuleTree}
use Rattle.rule_tree.specs.Nodes.{node_count, is_leaf_of}
use Rattle.rule_tree.specs.Grown.{grown_of}
use Rattle.rule_tree.specs.Cubes.{cube_of}
use Rattle.rule_tree.specs.Walk.{leaf_of}
use Rattle.rule_tree.specs.Calls.{leaf_in}
use Rattle.rule_tree.proofs.Plain.{PointFits, and_l, and_r}
use Rattle.rule_tree_laws.proofs.Partition.{grown_one_leaf}
use Rattle.ranges.specs.declared.Ranges.{Ranges}
use Rattle.ranges.specs.Ranges.{lowest_of, ordered_of, reachable, reached_leaf, leaves_within}
use Rattle.ranges.specs.Reached.{Fits, Reached, Listed, Rising, point_ranges}
use Rattle.ranges.proofs.Passing.{rising, listed_passes, passes_listed, none_pass, one_passes}
use Rattle.ranges.proofs.LeafWays.{reached_met, reached_exactly, point_reached}

-- a leaf in use
leaf_low : (t : RuleTree) (i : ℕ) → leaf_in t i ≡ true → i < 0 + node_count t.splits
leaf_low t i l =
    let b : i < node_count t.splits = ltb-true i (node_count t.splits) (and_l (ltb i (node_count t.splits)) (is_leaf_of t.nodes i) l) in
    omega arith

is_leaf : (t : RuleTree) (i : ℕ) → leaf_in t i ≡ true → is_leaf_of t.nodes i ≡ true
is_leaf t i l = and_r (ltb i (node_count t.splits)) (is_leaf_of t.nodes i) l

leaf_used : (t : RuleTree) (r : Ranges) (i : ℕ) → i < 0 + node_count t.splits → reached_leaf t r i ≡ true → leaf_in t i ≡ true
leaf_used t r i b w = rw (lt-ltb i (node_count t.splits) (omega arith)) (and_l (is_leaf_of t.nodes i) (reachable (cube_of t i) r) w)

module _ (t : RuleTree) (g : grown_of t ≡ true) (n : length t.nodes ≡ 513) (f : PointFits t.ends) (r : Ranges) where
  -- "by rising node, each once"
  pub within_rising : Rising 0 (leaves_within t r)
  within_rising = rising (reached_leaf t r) (node_count t.splits) 0

  -- the leaves that some point within the ranges reaches, "none missing" and no others
  pub within_exactly : Fits (lowest_of r) → ordered_of r ≡ true → (i : ℕ) → Listed i (leaves_within t r) ↔ ((leaf_in t i ≡ true) × Reached t r i)
  within_exactly q o i = (
    λ m.
        let w = listed_passes (reached_leaf t r) (node_count t.splits) 0 i m in
        let l = leaf_used t r i w.1.0 w.1.1 in
        (l, (reached_exactly t g n f i l r q o).1 (and_r (is_leaf_of t.nodes i) (reachable (cube_of t i) r) w.1.1)),
    λ m.
        passes_listed (reached_leaf t r) (node_count t.splits) 0 i (omega arith) (leaf_low t i m.0)
        (rw (is_leaf t i m.0) ((reached_exactly t g n f i m.0 r q o).0 m.1)),
  )

  -- "A leaf with an empty cube is never listed"
  pub empty_unlisted : Fits (lowest_of r) → ordered_of r ≡ true → (i : ℕ) → ((p : Point) → contains_of (cube_of t i) p ≡ false) → Listed i (leaves_within t r) → ⊥
  empty_unlisted q o i e m =
      let w = (within_exactly q o i).0 m in
      let k = reached_met t g n f i w.0 r w.1 in
      true≢false (sym k.inside ∙ e k.point)

-- "Where both ends are equal on all three axes the list is the leaf that lookup finds, or empty"
module _ (t : RuleTree) (g : grown_of t ≡ true) (n : length t.nodes ≡ 513) (f : PointFits t.ends) (p : Point) where
  abbrev only : Ranges
  only = point_ranges p

  finds : (i : ℕ) → i < 0 + node_count t.splits → reached_leaf t only i ≡ true → (contains_of (root_of t.ends) p ≡ true) × (leaf_of t p ≡ i)
  finds i b w = (point_reached t g n f i (leaf_used t only i b w) p).0 (and_r (is_leaf_of t.nodes i) (reachable (cube_of t i) only) w)

  pub point_inside : contains_of (root_of t.ends) p ≡ true → leaves_within t only ≡ leaf_of t p ∷ []
  point_inside e =
      let o = grown_one_leaf t g n f p e in
      let j = leaf_of t p in
      let l : leaf_in t j ≡ true = rw (lt-ltb j (node_count t.splits) o.node) o.leaf in
      one_passes (reached_leaf t only) (node_count t.splits) 0 j (omega arith) (let b = o.node in omega arith)
      (rw o.leaf ((point_reached t g n f j l p).1 (e, refl)))
      (λ k a b w. sym (finds k b w).1)

  pub point_outside : contains_of (root_of t.ends) p ≡ false → leaves_within t only ≡ []
  point_outside e = none_pass (reached_leaf t only) (node_count t.splits) 0 (λ k a b. go k b (reached_leaf t only k) refl)
    where
      go : (k : ℕ) → k < 0 + node_count t.splits → (c : Bool) → reached_leaf t only k ≡ c → c ≡ false
      go k b true w = absurd (true≢false (sym (finds k b w).0 ∙ e))
      go k b false w = refl
