-- A grown tree's links and root are ready for a walk; the leaf that holds a point is a node, and its action is what the point finds.
-- Assumes nothing.
use mathlib.Core.Path.{◌≡◌, refl, ap}
use mathlib.Core.Bool.{Bool, true, false}
use mathlib.Core.List.{List}
use Prim.Native.Nat.{ℕ, ◌<◌}
use native.Mathlib.Omega.{arith}
use lib.Ieee.Bits.{is_true}
use Rattle.remy.specs.declared.point.Point.{Point}
use Rattle.remy.specs.declared.cube.Cube.{Cube}
use Rattle.remy.specs.Cube.{contains_of, root_of, Whole}
use Rattle.rule_tree.specs.declared.RuleTree.{RuleTree}
use Rattle.rule_tree.specs.declared.inner.walk.Reached.{Reached}
use Rattle.std.specs.Prelude.{Some, None}
use Rattle.rule_tree.specs.Nodes.{children_of}
use Rattle.rule_tree.specs.Grown.{links_hold, grown_of}
use Rattle.rule_tree.specs.Walk.{walk_of}
use Rattle.rule_tree.specs.Calls.{found_in}
use Rattle.rule_tree.specs.Leaf.{Ready, leaf_holding, found_by}
use Rattle.rule_tree.proofs.Links.{grown_walkable}
use Rattle.rule_tree.proofs.Walking.{walk_leaf}

pub ready : (t : RuleTree) {cs : List ℕ} {root : Cube} → grown_of t ≡ true → Whole (root_of t.ends) → cs ≡ children_of t.nodes → root ≡ root_of t.ends → Ready cs root
ready t g w l z = rw (l, z) (record { links = grown_walkable t g; whole = w })

module _ (cs : List ℕ) (root : Cube) (p : Point) where
  -- what its answer says
  pub outside : leaf_holding cs root p ≡ None → contains_of root p ≡ false
  unfolding leaf_holding
  outside e = go (contains_of root p) refl e
    where
      go : (b : Bool) → contains_of root p ≡ b → leaf_holding cs root p ≡ None → contains_of root p ≡ false
      go true v e = cc
      go false v e = v

  pub inside : (i : ℕ) → leaf_holding cs root p ≡ Some i → (contains_of root p ≡ true) × ((walk_of cs root p).node ≡ i)
  unfolding leaf_holding
  inside i e = go (contains_of root p) refl e
    where
      go : (b : Bool) → contains_of root p ≡ b → leaf_holding cs root p ≡ Some i → (contains_of root p ≡ true) × ((walk_of cs root p).node ≡ i)
      go true v e = (v, cc)
      go false v e = cc

  -- the leaf is a node
  pub reached_slot : {r : Reached} → Ready cs root → contains_of root p ≡ true → r ≡ walk_of cs root p → r.node < 513
  reached_slot y v e =
      let l = (walk_leaf cs root p 64 (omega arith) (is_true (links_hold cs 64) y.links) y.whole v).below in
      omega (arith, l, ap (λ (x : Reached). x.node) e)

  pub leaf_below : Ready cs root → (i : ℕ) → leaf_holding cs root p ≡ Some i → i < 513
  leaf_below r i e = let h = inside i e in omega (arith, h.1, reached_slot r h.0 refl)

-- a lookup finds what the leaf has
pub found_by_lem : (t : RuleTree) (p : Point) → found_by t.nodes (leaf_holding (children_of t.nodes) (root_of t.ends) p) ≡ found_in t p
unfolding leaf_holding found_by found_in
found_by_lem t p = go (contains_of (root_of t.ends) p) refl
  where
    go : (b : Bool) → contains_of (root_of t.ends) p ≡ b → found_by t.nodes (leaf_holding (children_of t.nodes) (root_of t.ends) p) ≡ found_in t p
    go true v = rw v
    go false v = rw v
