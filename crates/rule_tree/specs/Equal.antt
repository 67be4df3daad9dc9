-- 01, "Equality": "two nodes are equal when their cubes are and their children are pairwise equal, leaves by cube and action; marks don't count".
use Rattle.std.specs.Prelude.{Bool, false, ◌&&◌, cond, List, ℕ, zero, suc, ◌+◌, eqb}
use Rattle.std.specs.Float.Ieee.{eq}
use Rattle.std.specs.Int.{w32}
use Rattle.std.proofs.Common.{of_z}
use Rattle.remy.specs.declared.action.Action.{Action}
use Rattle.remy.specs.declared.cube.Cube.{Cube}
use Rattle.remy.specs.Cube.{point_equal, child_cube, root_of}
use Rattle.rule_tree.specs.declared.Node.{Node}
use Rattle.rule_tree.specs.declared.RuleTree.{RuleTree}
use Rattle.rule_tree.specs.Lists.{all_below}
use Rattle.rule_tree.specs.Nodes.{node_at_of, slots, action_in}

unfoldable pub cube_equal : Cube → Cube → Bool
unfolding point_equal
cube_equal c d = point_equal c.min d.min && point_equal c.max d.max

unfoldable pub action_equal : Action → Action → Bool
action_equal a b =
    eq a.window_multiplier b.window_multiplier
    && (eqb (of_z w32 a.window_increment) (of_z w32 b.window_increment) && eq a.intersend_delay.0 b.intersend_delay.0)

-- node i of the nodes s, with the cube c, and node j of the nodes t, with the cube d; no way down is longer than depth, where depth is the number of nodes
unfoldable pub node_equal : ℕ → List Node → List Node → ℕ → ℕ → Cube → Cube → Bool
unfolding cube_equal action_equal all_below child_cube
node_equal zero s t i j c d = false
node_equal (suc depth) s t i j c d =
    let x = node_at_of s i in
    let y = node_at_of t j in
    cube_equal c d
    && cond (eqb x.children 0)
    (cond (eqb y.children 0) (action_equal (action_in x) (action_in y)) false)
    (cond (eqb y.children 0) false
    (all_below 8 (λ k. node_equal depth s t (x.children + k) (y.children + k) (child_cube c k) (child_cube d k))))

abbrev pub trees_equal : RuleTree → RuleTree → Bool
trees_equal a b = node_equal slots a.nodes b.nodes 0 0 (root_of a.ends) (root_of b.ends)

-- ---- what the private functions of the code are held to
-- the children of two parents, x and y being the first of each, pair by pair
abbrev pub children_equal : ℕ → List Node → List Node → ℕ → ℕ → Cube → Cube → Bool
children_equal depth s t x y c d = all_below 8 (λ k. node_equal depth s t (x + k) (y + k) (child_cube c k) (child_cube d k))
