-- 02, wish 11: "For a leaf d splits deep it is at most 1 + 8 × d": how deep a node is.
use Rattle.std.specs.Prelude.{cond, List, ℕ, zero, suc, ◌-◌, ◌/◌, get_or, eqb}
use Rattle.rule_tree.specs.declared.RuleTree.{RuleTree}
use Rattle.rule_tree.specs.Nodes.{children_of}
use Rattle.rule_tree.specs.Cubes.{split_nodes}

-- node 0 is no split deep, and any other is one deeper than the node that its split made a parent; d is at least i
unfoldable pub depth_at : ℕ → List ℕ → ℕ → ℕ
depth_at zero ps i = 0
depth_at (suc d) ps i = cond (eqb i 0) 0 (suc (depth_at d ps (get_or ps ((i - 1) / 8) 0)))

-- by the nodes' links
abbrev pub depth_in : List ℕ → ℕ → ℕ
depth_in cs i = depth_at i (split_nodes cs) i

abbrev pub depth_of : RuleTree → ℕ → ℕ
depth_of t i = depth_in (children_of t.nodes) i
