-- 01, "Lookup is RuleTree::action": from the root, at each parent the first child whose cube contains the point, down to a leaf.
use Rattle.std.specs.Prelude.{◌≡◌, true, cond, List, ℕ, zero, suc, ◌+◌, get_or, T, eqb}
use Rattle.remy.specs.declared.point.Point.{Point}
use Rattle.remy.specs.declared.cube.Cube.{Cube}
use Rattle.remy.specs.Cube.{contains_of, child_cube, root_of, Whole}
use Rattle.rule_tree.specs.declared.RuleTree.{RuleTree}
use Rattle.rule_tree.specs.declared.inner.walk.Reached.{Reached}
use Rattle.rule_tree.specs.Nodes.{children_of, slots, most_splits}
use Rattle.rule_tree.specs.Grown.{links_hold}

-- the first of the left children from k on whose cube contains p
unfoldable pub first_from : ℕ → ℕ → Cube → Point → ℕ
unfolding contains_of child_cube
first_from zero k c p = k
first_from (suc left) k c p = cond (contains_of (child_cube c k) p) k (first_from left (suc k) c p)

abbrev pub first_child : Cube → Point → ℕ
first_child c p = first_from 8 0 c p

abbrev pub tested_more : ℕ → Reached → Reached
tested_more n r = record { node = r.node; tested = n + r.tested }

-- from node i with the cube c down to a leaf, with the cubes tested on the way; no way down is longer than d, where d is the number of nodes
unfoldable pub descend : ℕ → List ℕ → ℕ → Cube → Point → Reached
unfolding first_from
descend zero cs i c p = record { node = i; tested = 0 }
descend (suc d) cs i c p =
    cond (eqb (get_or cs i 0) 0) (record { node = i; tested = 0 })
    (let k = first_child c p in tested_more (suc k) (descend d cs (get_or cs i 0 + k) (child_cube c k) p))

-- the root's cube is tested too
abbrev pub walk_of : List ℕ → Cube → Point → Reached
walk_of cs root p = tested_more 1 (descend slots cs 0 root p)

-- what the walk needs of its tree and its point
pub record Walkable (cs : List ℕ) (root : Cube) (p : Point) : Type 0 where
  pub links : T (links_hold cs most_splits)
  pub whole : Whole root
  pub inside : contains_of root p ≡ true

-- the leaf that p reaches in a tree, for a p inside the root cube
abbrev pub leaf_of : RuleTree → Point → ℕ
leaf_of t p = (walk_of (children_of t.nodes) (root_of t.ends) p).node
