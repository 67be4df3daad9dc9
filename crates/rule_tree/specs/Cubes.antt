-- The cube of a node, from the splits alone.
use Rattle.std.specs.Prelude.{cond, List, ℕ, zero, suc, ◌+◌, ◌-◌, ◌*◌, ◌/◌, ◌%◌, ◌<◌, ◌≤◌, get_or, eqb}
use Rattle.remy.specs.declared.cube.Cube.{Cube}
use Rattle.remy.specs.Cube.{child_cube, root_of}
use Rattle.rule_tree.specs.declared.RuleTree.{RuleTree}
use Rattle.rule_tree.specs.Lists.{tabulate}
use Rattle.rule_tree.specs.Nodes.{children_of, slots, most_splits}

-- the last node below n whose first child is f, 0 where there is none
unfoldable pub owner_below : ℕ → List ℕ → ℕ → ℕ
owner_below zero cs f = 0
owner_below (suc n) cs f = cond (eqb (get_or cs n 0) f) n (owner_below n cs f)

-- the node that each split made a parent
abbrev pub split_nodes : List ℕ → List ℕ
split_nodes cs = tabulate most_splits (λ k. owner_below slots cs (8 * k + 1))

-- each split's node comes before the eight nodes that it adds
abbrev pub Before : List ℕ → Type 0
Before ps = (k : ℕ) → k < most_splits → get_or ps k 0 ≤ 8 * k

-- node 0 has the root cube, and any other is child (i - 1) % 8 of the node that its split made a parent; d is at least i
unfoldable pub cube_at : ℕ → List ℕ → Cube → ℕ → Cube
unfolding child_cube
cube_at zero ps root i = root
cube_at (suc d) ps root i = cond (eqb i 0) root (child_cube (cube_at d ps root (get_or ps ((i - 1) / 8) 0)) ((i - 1) % 8))

abbrev pub cube_of : RuleTree → ℕ → Cube
cube_of t i = cube_at i (split_nodes (children_of t.nodes)) (root_of t.ends) i
