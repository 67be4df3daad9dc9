-- Lookup by what is gathered of a tree once, its links and its root: the leaf that holds a point.
use Rattle.std.specs.Prelude.{cond, List, ℕ, T, Option, Some, None}
use Rattle.remy.specs.declared.point.Point.{Point}
use Rattle.remy.specs.declared.cube.Cube.{Cube}
use Rattle.remy.specs.Cube.{contains_of, Whole}
use Rattle.rule_tree.specs.declared.Node.{Node}
use Rattle.remy.specs.declared.action.Action.{Action}
use Rattle.rule_tree.specs.Nodes.{node_at_of, action_in}
use Rattle.rule_tree.specs.Grown.{links_hold}
use Rattle.rule_tree.specs.Walk.{walk_of}

-- links that hold, and a whole root: every point inside can be walked to a leaf
pub record Ready (cs : List ℕ) (root : Cube) : Type 0 where
  pub links : T (links_hold cs 64)
  pub whole : Whole root

unfoldable pub leaf_holding : List ℕ → Cube → Point → Option ℕ
leaf_holding cs root p = cond (contains_of root p) (Some (walk_of cs root p).node) None

-- what is found there: the leaf's action, or nothing
unfoldable pub found_by : List Node → Option ℕ → Option Action
found_by nodes (Some i) = Some (action_in (node_at_of nodes i))
found_by nodes None = None
