-- Counts, one a node: refusal 4, the most used leaf, and how many are used.
use Rattle.std.specs.Prelude.{Bool, not, ◌&&◌, ◌||◌, cond, List, ℕ, zero, suc, ◌+◌, min, length, get_or, eqb, leb, ltb, Option, Some, None}
use Rattle.rule_tree.specs.declared.Node.{Node}
use Rattle.rule_tree.specs.declared.RuleTree.{RuleTree}
use Rattle.rule_tree.specs.Lists.{all_below, count_below, total}
use Rattle.rule_tree.specs.Nodes.{node_at_of, is_leaf_of, node_count}

-- 2 ^ 53
abbrev pub limit : ℕ
limit = 9007199254740992

-- the total, or one more than the limit where it is above that
abbrev pub capped_total : List ℕ → ℕ
capped_total xs = min (total xs) (limit + 1)

abbrev pub none_at_parents : List Node → List ℕ → ℕ → Bool
none_at_parents nodes xs n = all_below n (λ i. is_leaf_of nodes i || eqb (get_or xs i 0) 0)

-- refusal 4, "counts: not one per node, above 0 at a parent, or total over 2^53"
unfoldable pub counts_hold : RuleTree → List ℕ → Bool
unfolding all_below total
counts_hold t xs =
    eqb (length xs) (node_count t.splits)
    && (none_at_parents t.nodes xs (length xs) && leb (capped_total xs) limit)

-- num_used_rules: how many counts are above 0
abbrev pub used_in : List ℕ → ℕ
used_in xs = count_below (length xs) (λ i. ltb 0 (get_or xs i 0))

-- a leaf, and where only unmarked ones are asked for, an unmarked one
unfoldable pub eligible : Node → Bool → Bool
eligible x unmarked = eqb x.children 0 && not (unmarked && x.optimized)

-- "greatest count, ties to the highest node": the better of what was chosen before and the leaf i
unfoldable pub better : List ℕ → ℕ → Option ℕ → Option ℕ
better xs i (Some b) = cond (leb (get_or xs b 0) (get_or xs i 0)) (Some i) (Some b)
better xs i None = Some i

-- the most used among the first n nodes
unfoldable pub most_used : List Node → List ℕ → Bool → ℕ → Option ℕ
unfolding eligible better
most_used nodes xs unmarked zero = None
most_used nodes xs unmarked (suc i) =
    cond (eligible (node_at_of nodes i) unmarked) (better xs i (most_used nodes xs unmarked i)) (most_used nodes xs unmarked i)
