-- 01: "lookup through the tree with one leaf's action replaced": through "a small struct holding the lent node slice, the leaf number and the other action".
-- 02, wish 8: "Let the three upper ends be settings": a slice does not say them, so that they stand beside it.
use Rattle.std.specs.Prelude.{Bool, not, ◌&&◌, List, [], ◌∷◌, ◌++◌, ℕ, ◌-◌, length, get_or, replicate, eqb, Option, Result}
use Rattle.std.specs.Borrow.{Bor}
use Rattle.refusal.specs.declared.Refusal.{Refusal}
use Rattle.refusal.specs.declared.Refusal.TheVariants.{NotGrown}
use Rattle.refusal.specs.Guards.{check, checked}
use Rattle.remy.specs.declared.action.Action.{Action}
use Rattle.remy.specs.declared.point.Point.{Point}
use Rattle.remy.specs.Action.{valid_of}
use Rattle.rule_tree.specs.declared.Node.{Node}
use Rattle.rule_tree.specs.declared.RuleTree.{RuleTree}
use Rattle.rule_tree.specs.Lists.{all_below, count_below}
use Rattle.rule_tree.specs.Nodes.{node_at_of, is_leaf_of, blank_node, node_count, action_in}
use Rattle.rule_tree.specs.Grown.{linked_of, ends_hold, grown_of}
use Rattle.rule_tree.specs.Calls.{replaced_of}
use Rattle.rule_tree_view.specs.declared.AugmentedView.{AugmentedView}

-- the view of a slice, with the upper ends of its box
abbrev pub view_with : Bor (List Node) → Point → ℕ → Action → AugmentedView
view_with nodes ends leaf a = record { nodes = nodes; ends = ends; leaf = leaf; action = a }

-- how many of a slice's nodes are parents
abbrev pub parents_in : List Node → ℕ
parents_in nodes = count_below (length nodes) (λ i. not (is_leaf_of nodes i))

-- the nodes of the tree that uses these: blank ones after them
abbrev pub lent_nodes : List Node → List Node
lent_nodes nodes = nodes ++ replicate (513 - length nodes) blank_node

-- the tree that uses these nodes: as many splits as there are parents, and these ends
abbrev pub lent_tree : List Node → Point → RuleTree
lent_tree nodes ends = record { nodes = lent_nodes nodes; splits = parents_in nodes; ends = ends }

-- a slice has the 1 + 8 s nodes that s splits make, s being its parents, and the tree that uses them is grown
abbrev pub lent_grown : List Node → Point → Bool
lent_grown nodes ends = eqb (length nodes) (node_count (parents_in nodes)) && grown_of (lent_tree nodes ends)

-- lookup through a tree with one leaf's action replaced: 10, 3, 1
abbrev pub replaced_in : RuleTree → ℕ → Action → Point → Result (Option Action) Refusal
replaced_in t leaf a p = replaced_of (record { tree = t; leaf = leaf; action = a }) p

-- lookup through a view: 10, 3, 1; "10 a tree .. or node slice, not grown from the root leaf by splits or holding what the record's rules exclude": a slice
-- has the 1 + 8 s nodes that s splits make, s being its parents, and is no more than these; its ends are ones that a box may have
unfoldable pub view_of : List Node → Point → ℕ → Action → Point → Result (Option Action) Refusal
view_of nodes ends leaf a p =
    checked (check (eqb (length nodes) (node_count (parents_in nodes))) NotGrown ∷ []) (replaced_in (lent_tree nodes ends) leaf a p)

-- ---- what the private functions of the code are held to
-- how many nodes have a link
abbrev pub linked_parents : List ℕ → ℕ
linked_parents cs = count_below 513 (λ i. not (eqb (get_or cs i 0) 0))

-- the actions of the nodes are valid
abbrev pub all_valid : List Node → Bool
all_valid nodes = all_below (length nodes) (λ i. valid_of (action_in (node_at_of nodes i)))

-- the links of the nodes are those of a tree that splits made, their actions are valid, and the ends are ones that a box may have
abbrev pub linked_in : List Node → List ℕ → Point → Bool
linked_in nodes cs ends =
    eqb (length nodes) (node_count (linked_parents cs)) && (linked_of cs (linked_parents cs) && (all_valid nodes && ends_hold ends))
