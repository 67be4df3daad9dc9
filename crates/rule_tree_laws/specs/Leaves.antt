-- 01, "The root box is node 0's cube; a point is any three floats": where a point lies in a tree, and what it finds.
use Rattle.std.specs.Prelude.{◌≡◌, true, false, ℕ, ◌<◌, Some, None}
use Rattle.remy.specs.declared.point.Point.{Point}
use Rattle.remy.specs.Cube.{contains_of}
use Rattle.rule_tree.specs.declared.RuleTree.{RuleTree}
use Rattle.rule_tree.specs.Nodes.{node_at_of, node_count, is_leaf_of, action_in}
use Rattle.rule_tree.specs.Cubes.{cube_of}
use Rattle.rule_tree.specs.Walk.{leaf_of}
use Rattle.rule_tree.specs.Calls.{found_in}

-- a point of the box lies in the cube of the leaf that it reaches, in no other leaf's, and finds that leaf's action
pub record InOneLeaf (t : RuleTree) (p : Point) : Type 0 where
  pub node : leaf_of t p < node_count t.splits
  pub leaf : is_leaf_of t.nodes (leaf_of t p) ≡ true
  pub inside : contains_of (cube_of t (leaf_of t p)) p ≡ true
  pub only : (j : ℕ) → j < node_count t.splits → is_leaf_of t.nodes j ≡ true → contains_of (cube_of t j) p ≡ true → j ≡ leaf_of t p
  pub found : found_in t p ≡ Some (action_in (node_at_of t.nodes (leaf_of t p)))

-- any other point lies in no node's cube and finds nothing
pub record InNone (t : RuleTree) (p : Point) : Type 0 where
  pub none : (j : ℕ) → j < node_count t.splits → contains_of (cube_of t j) p ≡ false
  pub nothing : found_in t p ≡ None
