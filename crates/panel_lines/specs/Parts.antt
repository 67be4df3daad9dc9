-- What the private functions of the code are held to: parts of the lines, and of what the panel answers.
use Rattle.std.specs.Prelude.{◌≡◌, true, cond, List, [], ◌∷◌, ◌++◌, ℕ, ◌+◌, ◌*◌, ◌≤◌, length, get_or, drop, eqb, leb, Result, Ok, Err}
use Rattle.std.proofs.lemmas.List.Edits.{sets}
use Rattle.refusal.specs.declared.Refusal.{Refusal}
use Rattle.refusal.specs.declared.Refusal.TheVariants.{BadCounts, ShortBuffer}
use Rattle.refusal.specs.Guards.{check, checked, and_then}
use Rattle.rule_tree.specs.declared.Node.{Node}
use Rattle.rule_tree.specs.declared.RuleTree.{RuleTree}
use Rattle.rule_tree.specs.Lists.{total}
use Rattle.rule_tree.specs.Nodes.{node_count}
use Rattle.rule_tree.specs.Counts.{counts_hold}
use Rattle.trainer.specs.declared.Trainer.{Trainer}
use Rattle.panel_lines.specs.Panel.{leaf_line, leaf_lines, lines_of, counts_in}

-- m is l with xs stored from place at on, and k is the place after them
pub record Wrote (l : List ℕ) (at : ℕ) (m : List ℕ) (k : ℕ) (xs : List ℕ) : Type 0 where
  pub place : k ≡ at + length xs
  pub stored : m ≡ sets l at xs

-- what node i adds to the lines
abbrev pub node_line : Node → ℕ → ℕ → List ℕ
node_line x i share = cond (eqb x.children 0) (leaf_line i share) []

-- shares, one a node, in a list
abbrev pub listed : List ℕ → ℕ → ℕ
listed shares i = get_or shares i 0

-- the shares are one a node, and there is room for the leaves' lines from place at on
pub record Leaves (buf : List ℕ) (at : ℕ) (t : RuleTree) (shares : List ℕ) : Type 0 where
  pub few : t.splits ≤ 64
  pub one_a_node : length shares ≡ node_count t.splits
  pub room : at + length (leaf_lines t.nodes (listed shares) (node_count t.splits)) ≤ length buf

-- the tree's test takes the counts, whose total is all, and there is room for all the lines
pub record Lines (buf : List ℕ) (t : RuleTree) (xs : List ℕ) (all : ℕ) : Type 0 where
  pub few : t.splits ≤ 64
  pub taken : counts_hold t xs ≡ true
  pub sum : all ≡ total xs
  pub room : length (lines_of t xs) ≤ length buf

-- what a tree and its counts are shown as, and the buffer after
abbrev pub fitted : List ℕ → List ℕ → Result ℕ Refusal
fitted text out = checked (check (leb (length text) (length out)) ShortBuffer ∷ []) (Ok (length text))

abbrev pub lines_shown : RuleTree → List ℕ → List ℕ → Result ℕ Refusal
lines_shown t xs out = checked (check (counts_hold t xs) BadCounts ∷ []) (fitted (lines_of t xs) out)

unfoldable pub lines_after : RuleTree → List ℕ → List ℕ → Result ℕ Refusal → List ℕ
lines_after t xs out (Ok n) = lines_of t xs ++ drop n out
lines_after t xs out (Err r) = out

-- a tree and the bytes of its counts
unfoldable pub counts_shown : RuleTree → List ℕ → List ℕ → Result ℕ Refusal
counts_shown t bytes out =
    checked (check (eqb (length bytes) (8 * node_count t.splits)) BadCounts ∷ []) (lines_shown t (counts_in bytes (node_count t.splits)) out)

abbrev pub counts_after : RuleTree → List ℕ → List ℕ → Result ℕ Refusal → List ℕ
counts_after t bytes out r = lines_after t (counts_in bytes (node_count t.splits)) out r

-- what was loaded, and the bytes after it
abbrev pub record_shown : Result Trainer Refusal → List ℕ → List ℕ → Result ℕ Refusal
record_shown loaded bytes out = and_then loaded (λ t. counts_shown t.tree bytes out)
