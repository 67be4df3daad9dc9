-- What changes a tree: a new one, another action, a mark, marks cleared, a split, the newest split taken back.
use Rattle.std.specs.Prelude.{true, false, cond, List, map, ℕ, ◌+◌, ◌-◌, ◌*◌, set, replicate, eqb}
use Rattle.remy.specs.declared.action.Action.{Action}
use Rattle.remy.specs.declared.point.Point.{Point}
use Rattle.rule_tree.specs.declared.Node.{Node}
use Rattle.rule_tree.specs.declared.RuleTree.{RuleTree}
use Rattle.rule_tree.specs.Lists.{fill}
use Rattle.rule_tree.specs.Nodes.{node_at_of, leaf_with, linked_to, blank_node, children_of, slots, action_in, node_holding}
use Rattle.rule_tree.specs.Cubes.{owner_below}

-- "Node 0 is the root leaf"
abbrev pub fresh_tree : Point → Action → RuleTree
fresh_tree ends a = record { nodes = set (replicate slots blank_node) 0 (leaf_with a); splits = 0; ends = ends }

abbrev pub with_nodes : RuleTree → List Node → RuleTree
with_nodes t nodes = record { nodes = nodes; splits = t.splits; ends = t.ends }

-- set action keeps the mark
abbrev pub with_action : RuleTree → ℕ → Action → RuleTree
with_action t i a =
    with_nodes t (set t.nodes i (node_holding a (node_at_of t.nodes i).children (node_at_of t.nodes i).optimized))

abbrev pub with_mark : RuleTree → ℕ → RuleTree
with_mark t i =
    with_nodes t (set t.nodes i (node_holding (action_in (node_at_of t.nodes i)) (node_at_of t.nodes i).children true))

-- marks are of leaves
unfoldable pub unmarked_node : Node → Node
unmarked_node x = cond (eqb x.children 0) (node_holding (action_in x) x.children false) x

abbrev pub without_marks : RuleTree → RuleTree
without_marks t = with_nodes t (map unmarked_node t.nodes)

-- "Split k (from 1) makes one leaf a parent and adds nodes 8k-7 to 8k in child order, each with the parent's action, unmarked"; the parent keeps
-- "the action and mark it had when split"
unfoldable pub split_at_of : RuleTree → ℕ → RuleTree
unfolding fill
split_at_of t i =
    let first = 8 * t.splits + 1 in
    record {
      nodes = fill (set t.nodes i (linked_to (node_at_of t.nodes i) first)) first 8 (leaf_with (action_in (node_at_of t.nodes i)));
      splits = t.splits + 1;
      ends = t.ends;
    }

-- the node that the newest split made a parent
abbrev pub newest_parent : RuleTree → ℕ
newest_parent t = owner_below slots (children_of t.nodes) (8 * (t.splits - 1) + 1)

-- "The parent becomes a leaf with the action and mark it had when split", and the nodes that the newest split added are blank again
unfoldable pub undone : RuleTree → RuleTree
unfolding fill
undone t =
    let i = newest_parent t in
    record {
      nodes = fill (set t.nodes i (linked_to (node_at_of t.nodes i) 0)) (8 * (t.splits - 1) + 1) 8 blank_node;
      splits = t.splits - 1;
      ends = t.ends;
    }
