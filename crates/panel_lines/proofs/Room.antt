-- How much room the lines take: a share has at most four digits, so that a leaf's line has at most 9 bytes. Assumes nothing.
use mathlib.Core.Bool.{Bool, true, false, cond}
use mathlib.Core.List.{List, []}
use Prim.Native.Nat.{ℕ, zero, suc, ◌+◌, ◌*◌, ◌<◌, ◌≤◌}
use native.Mathlib.Omega.{arith}
use lib.Dec.{eqb}
use lib.ListN.{length}
use Rattle.rule_tree.specs.declared.Node.{Node}
use Rattle.rule_tree.specs.declared.RuleTree.{RuleTree}
use Rattle.rule_tree.specs.Nodes.{node_at_of, is_leaf_of, node_count}
use Rattle.panel_lines.specs.Panel.{share_of, leaf_line, leaf_lines, lines_of}
use Rattle.panel_lines.specs.Parts.{node_line}
use Rattle.panel_lines.proofs.Decimal.{decimal_few}
use Rattle.panel_lines.proofs.Shares.{share_few}
use Rattle.panel_lines.proofs.Lines.{leaf_count, first_count, lines_count, lines_length}

line_few : (x : Node) (i share : ℕ) → i < 1000 → share ≤ 1001 → length (node_line x i share) ≤ 9
line_few x i share l h = by (eqb x.children 0)
  where
    by : (b : Bool) → length (cond b (leaf_line i share) []) ≤ 9
    by true =
        let a = decimal_few 2 i (omega arith) in
        let d = decimal_few 3 share (omega arith) in
        omega (arith, leaf_count i share)
    by false = omega arith

lines_few : (nodes : List Node) (share : ℕ → ℕ) → ((i : ℕ) → share i ≤ 1001) → (n : ℕ) → n ≤ 1000 → length (leaf_lines nodes share n) ≤ 9 * n
unfolding leaf_lines
lines_few nodes share h zero l = omega arith
lines_few nodes share h (suc n) l =
    let f = lines_few nodes share h n (omega arith) in
    let e = line_few (node_at_of nodes n) n (share n) (omega arith) (h n) in
    omega (arith, lines_count nodes share n)

-- whatever the tree and the counts, the lines fit 8,192 bytes
pub lines_fit : (t : RuleTree) (xs : List ℕ) → t.splits ≤ 64 → length (lines_of t xs) ≤ 8192
lines_fit t xs l =
    let a = decimal_few 2 (1 + 7 * t.splits) (omega arith) in
    let b = decimal_few 1 t.splits (omega arith) in
    let d = lines_few t.nodes (share_of t xs) (share_few (is_leaf_of t.nodes) xs) (node_count t.splits) (omega arith) in
    omega (arith, first_count t.splits, lines_length t xs)
