-- Document 01's tree, in its own words: a list of the nodes that were split, one rule a node, and the upper ends of its root.
use Rattle.std.specs.Prelude.{Bool, true, false, not, ◌&&◌, ◌||◌, cond, List, [], ◌∷◌, ◌++◌, map, ℕ, zero, suc, ◌+◌, ◌*◌, length, get_or, set, replicate, eqb, ltb, leb, pos, Option, Some, None}
use Rattle.remy.specs.declared.action.Action.{Action}
use Rattle.remy.specs.declared.point.Point.{Point}
use Rattle.remy.specs.Action.{action_of}
use Rattle.remy.specs.Cube as cube

-- an action and its mark
pub record Rule : Type 0 where
  pub action : Action
  pub marked : Bool

pub record Tree : Type 0 where
  pub splits : List ℕ
  pub rules : List Rule
  pub ends : Point

abbrev pub unmarked : Action → Rule
unmarked a = record { action = a; marked = false }

-- "Node 0 is the root leaf"
abbrev pub root_leaf : Point → Action → Tree
root_leaf ends a = record { splits = []; rules = unmarked a ∷ []; ends = ends }

-- "Split k (from 1) .. adds nodes 8k-7 to 8k"
abbrev pub nodes : Tree → ℕ
nodes t = 1 + 8 * length t.splits

unfoldable pub member : ℕ → List ℕ → Bool
member x [] = false
member x (y ∷ ys) = eqb y x || member x ys

-- a node that was not split
abbrev pub is_leaf_of : Tree → ℕ → Bool
is_leaf_of t i = ltb i (nodes t) && not (member i t.splits)

abbrev pub rule_at : Tree → ℕ → Rule
rule_at t i = get_or t.rules i (unmarked (action_of cube.zero (pos 0) cube.zero))

-- "makes one leaf a parent and adds nodes .. in child order, each with the parent's action, unmarked"; "parents keep action and mark"
abbrev pub split : Tree → ℕ → Tree
split t i =
    record { splits = t.splits ++ (i ∷ []); rules = t.rules ++ replicate 8 (unmarked (rule_at t i).action); ends = t.ends }

-- the tree with other rules
abbrev pub with_rules : Tree → List Rule → Tree
with_rules t rules = record { splits = t.splits; rules = rules; ends = t.ends }

abbrev pub set_action : Tree → ℕ → Action → Tree
set_action t i a = with_rules t (set t.rules i (record { action = a; marked = (rule_at t i).marked }))

abbrev pub mark : Tree → ℕ → Tree
mark t i = with_rules t (set t.rules i (record { action = (rule_at t i).action; marked = true }))

-- i, i + 1, .. of n numbers
unfoldable pub from : ℕ → ℕ → List ℕ
from i zero = []
from i (suc n) = i ∷ from (suc i) n

-- "clearing all marks is of leaves only": a parent's rule stays as it is
abbrev pub cleared_rule : Tree → ℕ → Rule
cleared_rule t i = cond (is_leaf_of t i) (unmarked (rule_at t i).action) (rule_at t i)

abbrev pub clear_marks : Tree → Tree
clear_marks t = with_rules t (map (cleared_rule t) (from 0 (nodes t)))

unfoldable pub those : (ℕ → Bool) → List ℕ → List ℕ
those keep [] = []
those keep (x ∷ xs) = cond (keep x) (x ∷ those keep xs) (those keep xs)

-- the leaves by rising node
abbrev pub leaves : Tree → List ℕ
leaves t = those (is_leaf_of t) (from 0 (nodes t))

-- the more used of i and what the later nodes gave, if any
unfoldable pub or_later : List ℕ → ℕ → Option ℕ → Option ℕ
or_later counts i None = Some i
or_later counts i (Some j) = cond (ltb (get_or counts j 0) (get_or counts i 0)) (Some i) (Some j)

-- "Most used: greatest count, ties to the highest node"
unfoldable pub most_used : List ℕ → List ℕ → Option ℕ
unfolding or_later
most_used counts [] = None
most_used counts (i ∷ is) = or_later counts i (most_used counts is)

-- "the same among unmarked leaves, or none if all are marked"
abbrev pub unmarked_leaves : Tree → List ℕ
unmarked_leaves t = those (λ i. not (rule_at t i).marked) (leaves t)

unfoldable pub sum : List ℕ → ℕ
sum [] = 0
sum (x ∷ xs) = x + sum xs

-- how many entries are above 0
unfoldable pub used : List ℕ → ℕ
used [] = 0
used (x ∷ xs) = cond (ltb 0 x) 1 0 + used xs

-- some parent's entry is above 0
unfoldable pub parent_counted : List ℕ → List ℕ → Bool
parent_counted counts [] = false
parent_counted counts (p ∷ ps) = ltb 0 (get_or counts p 0) || parent_counted counts ps

-- "4 counts: not one per node, above 0 at a parent, or total over 2^53"
unfoldable pub counts_taken : Tree → List ℕ → Bool
unfolding parent_counted sum
counts_taken t counts =
    eqb (length counts) (nodes t) && (not (parent_counted counts t.splits) && leb (sum counts) 9007199254740992)
