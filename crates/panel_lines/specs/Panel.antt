-- 01, "Panel": the lines that a record and its counts are shown as.
use Rattle.std.specs.Prelude.{Bool, ◌&&◌, cond, List, [], ◌∷◌, ◌++◌, ℕ, zero, suc, ◌+◌, ◌-◌, ◌*◌, ◌/◌, ◌%◌, length, take, drop, eqb, leb, ltb, Result, Ok, Err}
use Rattle.refusal.specs.declared.Refusal.{Refusal}
use Rattle.refusal.specs.declared.Refusal.TheVariants.{BadCounts, BadField, BadLength, ShortBuffer, UnknownVersion}
use Rattle.refusal.specs.Guards.{Check, check, checked}
use Rattle.rule_tree.specs.declared.Node.{Node}
use Rattle.rule_tree.specs.declared.RuleTree.{RuleTree}
use Rattle.rule_tree.specs.Lists.{tabulate}
use Rattle.rule_tree.specs.Nodes.{is_leaf_of, node_count}
use Rattle.rule_tree.specs.Counts.{counts_hold}
use Rattle.wire.specs.Bytes.{number_at}
use Rattle.record.specs.Layout.{most_length}
use Rattle.record.specs.Read.{read_of}
use Rattle.record.specs.Calls.{version_holds, body_holds}
use Rattle.panel_lines.specs.Shares.{share_among}

-- a number in decimal, of at most n digits
unfoldable pub digits : ℕ → ℕ → List ℕ
digits zero x = []
digits (suc n) x = cond (ltb x 10) ((48 + x) ∷ []) (digits n (x / 10) ++ ((48 + x % 10) ∷ []))

abbrev pub decimal : ℕ → List ℕ
decimal x = digits 20 x

-- "node share", a line each
abbrev pub leaf_line : ℕ → ℕ → List ℕ
leaf_line i share = decimal i ++ (32 ∷ (decimal share ++ (10 ∷ [])))

-- "per leaf by rising node": the first n nodes
unfoldable pub leaf_lines : List Node → (ℕ → ℕ) → ℕ → List ℕ
unfolding digits
leaf_lines nodes share zero = []
leaf_lines nodes share (suc n) = leaf_lines nodes share n ++ cond (is_leaf_of nodes n) (leaf_line n (share n)) []

-- "leaves L splits S": the bytes of "leaves ", " splits " and a line's end
abbrev pub first_line : ℕ → List ℕ
first_line s =
    (108 ∷ 101 ∷ 97 ∷ 118 ∷ 101 ∷ 115 ∷ 32 ∷ []) ++ (decimal (1 + 7 * s)
    ++ ((32 ∷ 115 ∷ 112 ∷ 108 ∷ 105 ∷ 116 ∷ 115 ∷ 32 ∷ []) ++ (decimal s ++ (10 ∷ []))))

-- 02, request 5: "The panel's rule in 01 is read this way from now on"
abbrev pub share_of : RuleTree → List ℕ → ℕ → ℕ
share_of t counts i = share_among (is_leaf_of t.nodes) counts i

unfoldable pub lines_of : RuleTree → List ℕ → List ℕ
unfolding leaf_lines
lines_of t counts = first_line t.splits ++ leaf_lines t.nodes (share_of t counts) (node_count t.splits)

-- "standard input is a record, then 8 bytes big-endian per node, the counts"
abbrev pub record_part : List ℕ → List ℕ
record_part input = take (4 + number_at input 0 4) input

abbrev pub counts_part : List ℕ → List ℕ
counts_part input = drop (4 + number_at input 0 4) input

abbrev pub counts_in : List ℕ → ℕ → List ℕ
counts_in bytes n = tabulate n (λ i. number_at bytes (8 * i) 8)

-- "6 fewer than 4 bytes, or the u32 over 16,384 or .. (panel: more than follow)"
unfoldable pub start_holds : List ℕ → Bool
start_holds input = leb 4 (length input) && (leb (number_at input 0 4) most_length && leb (number_at input 0 4) (length input - 4))

-- the tree of the record, the counts of its nodes, and its lines
abbrev pub tree_in : List ℕ → RuleTree
tree_in input = (read_of (record_part input)).tree

abbrev pub counts_of : List ℕ → List ℕ
counts_of input = counts_in (counts_part input) (node_count (tree_in input).splits)

abbrev pub text_of : List ℕ → List ℕ
text_of input = lines_of (tree_in input) (counts_of input)

-- "6, 7, 8, in the panel then 4", and 9 for a buffer that is too short
abbrev pub panel_order : List ℕ → List ℕ → List Check
panel_order input out =
    check (start_holds input) BadLength ∷ check (version_holds (record_part input)) UnknownVersion ∷ check (body_holds (record_part input)) BadField
    ∷ check (eqb (length (counts_part input)) (8 * node_count (tree_in input).splits) && counts_hold (tree_in input) (counts_of input)) BadCounts
    ∷ check (leb (length (text_of input)) (length out)) ShortBuffer ∷ []

unfoldable pub panel_of : List ℕ → List ℕ → Result ℕ Refusal
unfolding start_holds
panel_of input out = checked (panel_order input out) (Ok (length (text_of input)))

-- the buffer after: the lines, and then what it held; a refused panel changes no byte
unfoldable pub out_after : List ℕ → List ℕ → Result ℕ Refusal → List ℕ
out_after input out (Ok n) = text_of input ++ drop n out
out_after input out (Err r) = out
