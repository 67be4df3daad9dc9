-- 01, "rule_tree.rs": nodes, leaves and parents.
use Rattle.std.specs.Prelude.{Bool, false, List, map, ◌++◌, ℕ, ◌+◌, ◌*◌, get_or, take, drop, replicate, pos, eqb}
use Rattle.std.specs.Float.{nan}
use Rattle.remy.specs.declared.action.Action.{Action}
use Rattle.remy.specs.Action.{action_of}
use Rattle.remy.specs.Cube.{zero}
use Rattle.rule_tree.specs.declared.Node.{Node}

-- the action of a node
abbrev pub action_in : Node → Action
action_in x =
    record {
      window_multiplier = x.window_multiplier;
      window_increment = x.window_increment;
      intersend_delay = x.intersend_delay;
    }

-- the node that holds an action, its first child's number, 0 for a leaf, and a mark
abbrev pub node_holding : Action → ℕ → Bool → Node
node_holding a first marked =
    record {
      window_multiplier = a.window_multiplier;
      intersend_delay = a.intersend_delay;
      window_increment = a.window_increment;
      children = first;
      optimized = marked;
    }

-- what reading past the end of an array of nodes gives
abbrev pub no_node : Node
no_node = node_holding (action_of nan (pos 0) nan) 0 false

abbrev pub node_at_of : List Node → ℕ → Node
node_at_of nodes i = get_or nodes i no_node

-- an unmarked leaf
abbrev pub leaf_with : Action → Node
leaf_with a = node_holding a 0 false

-- the action of a slot that is not in use: (+0, 0, +0)
abbrev pub no_action : Action
no_action = action_of zero (pos 0) zero

-- a node with the action and mark of another, and first for its first child: 0 for a leaf
abbrev pub linked_to : Node → ℕ → Node
linked_to x first = node_holding (action_in x) first x.optimized

abbrev pub blank_node : Node
blank_node = leaf_with no_action

abbrev pub children_of : List Node → List ℕ
children_of nodes = map (λ (x : Node). x.children) nodes

-- "split k adds nodes 8k-7 to 8k": after s splits there are 1 + 8 s nodes
abbrev pub node_count : ℕ → ℕ
node_count s = 1 + 8 * s

-- "At most 64 splits, 513 nodes"
abbrev pub most_splits : ℕ
most_splits = 64

abbrev pub slots : ℕ
slots = node_count most_splits

abbrev pub is_leaf_of : List Node → ℕ → Bool
is_leaf_of nodes i = eqb (node_at_of nodes i).children 0

-- ---- what the private functions of the code are held to
-- the links of the first n nodes, and none after them
unfoldable pub links_of : List Node → ℕ → List ℕ
links_of nodes n = take n (children_of nodes) ++ drop n (replicate slots 0)
