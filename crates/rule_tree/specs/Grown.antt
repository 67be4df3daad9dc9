-- Refusal 10: "a tree .. not grown from the root leaf by splits or holding what the record's rules exclude".
use Rattle.std.specs.Prelude.{Bool, not, ◌&&◌, ◌||◌, cond, List, ℕ, ◌+◌, ◌*◌, ◌%◌, get_or, eqb, ltb, leb}
use Rattle.std.specs.Float.{binary64}
use Rattle.std.specs.Float.Ieee.{to_bits}
use Rattle.std.specs.Int.{w32}
use Rattle.std.proofs.Common.{of_z}
use Rattle.remy.specs.declared.point.Point.{Point}
use Rattle.remy.specs.Action.{valid_of}
use Rattle.remy.specs.Cube.{ends_admitted}
use Rattle.rule_tree.specs.declared.Node.{Node}
use Rattle.rule_tree.specs.declared.RuleTree.{RuleTree}
use Rattle.rule_tree.specs.Lists.{all_below, occurrences, tabulate}
use Rattle.rule_tree.specs.Nodes.{node_at_of, children_of, node_count, slots, most_splits, action_in}

-- node i with children c is a leaf, or a parent whose first child is the first of a split's eight nodes and comes after it
unfoldable pub link_holds : ℕ → ℕ → ℕ → Bool
link_holds s c i = eqb c 0 || (eqb (c % 8) 1 && (ltb i c && ltb c (node_count s)))

abbrev pub links_hold : List ℕ → ℕ → Bool
links_hold cs s = all_below slots (λ i. link_holds s (get_or cs i 0) i)

-- how many nodes have each split's eight nodes for children
abbrev pub owners_of : List ℕ → List ℕ
owners_of cs = tabulate most_splits (λ k. occurrences (8 * k + 1) cs)

abbrev pub all_ones : List ℕ → ℕ → Bool
all_ones owners s = all_below s (λ k. eqb (get_or owners k 0) 1)

-- "At most 64 splits"; "Split k makes one leaf a parent and adds nodes 8k-7 to 8k"
unfoldable pub linked_of : List ℕ → ℕ → Bool
unfolding all_below link_holds
linked_of cs s = leb s most_splits && (links_hold cs s && all_ones (owners_of cs) s)

-- the action is (+0, 0, +0), bit by bit, and the node is unmarked
unfoldable pub plain_of : Node → Bool
plain_of x =
    eqb (to_bits binary64 x.window_multiplier) 0
    && (eqb (of_z w32 x.window_increment) 0 && (eqb (to_bits binary64 x.intersend_delay.0) 0 && not x.optimized))

-- the action of a leaf, and that which a parent keeps, is valid; a slot that is not in use holds nothing
unfoldable pub slot_holds : Node → Bool → Bool
unfolding plain_of
slot_holds x used = cond used (valid_of (action_in x)) (plain_of x)

abbrev pub payloads_hold : List Node → ℕ → Bool
payloads_hold nodes s = all_below slots (λ i. slot_holds (node_at_of nodes i) (ltb i (node_count s)))

-- 02, wish 8: "Let the three upper ends be settings, each from 1 to 1,000,000; lower ends remain 0"
unfoldable pub ends_hold : Point → Bool
unfolding ends_admitted
ends_hold e = ends_admitted e

unfoldable pub grown_of : RuleTree → Bool
unfolding linked_of slot_holds ends_hold
grown_of t = linked_of (children_of t.nodes) t.splits && (payloads_hold t.nodes t.splits && ends_hold t.ends)
