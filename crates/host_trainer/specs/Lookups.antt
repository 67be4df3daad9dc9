-- Lookups of many points in the tree of a record's trainer, with or without one leaf's action replaced.
use Rattle.std.specs.Prelude.{cond, List, [], ◌∷◌, ◌++◌, ℕ, zero, suc, ◌*◌, ◌/◌, ◌%◌, length, replicate, eqb, leb, Option, Some, None, Result, Ok, Err}
use Rattle.std.proofs.lemmas.List.Edits.{sets}
use Rattle.refusal.specs.declared.Refusal.{Refusal}
use Rattle.refusal.specs.declared.Refusal.TheVariants.{BadLength, NoLeaf, NotAdmitted, ShortBuffer}
use Rattle.refusal.specs.Guards.{Check, check, checked, and_then, lent_after, pass}
use Rattle.remy.specs.declared.action.Action.{Action}
use Rattle.remy.specs.declared.point.Point.{Point}
use Rattle.remy.specs.Action.{valid_of}
use Rattle.rule_tree.specs.declared.RuleTree.{RuleTree}
use Rattle.rule_tree.specs.Calls.{leaf_in, lookup_of, replaced_of}
use Rattle.wire.specs.Fields.{action_bytes, action_at, point_at}
use Rattle.record.specs.Calls.{load_of}

-- ---- a row for each point
abbrev pub point_count : List ℕ → ℕ
point_count points = length points / 24

-- the rows of the first n points, which stand in 24 bytes each
unfoldable pub rows_bytes : (Point → List ℕ) → List ℕ → ℕ → List ℕ
rows_bytes row points zero = []
rows_bytes row points (suc n) = rows_bytes row points n ++ row (point_at points (24 * n))

-- points that are cut: 6; a buffer too short for a row of so many bytes each: 9
abbrev pub rows_order : ℕ → List ℕ → List ℕ → List Check
rows_order width points out =
    check (eqb (length points % 24) 0) BadLength ∷ check (leb (width * point_count points) (length out)) ShortBuffer ∷ []

unfoldable pub rows_in : ℕ → List ℕ → List ℕ → Result ℕ Refusal
rows_in width points out = checked (rows_order width points out) (Ok (width * point_count points))

unfoldable pub rows_after : ℕ → (Point → List ℕ) → List ℕ → List ℕ → List ℕ
unfolding rows_bytes
rows_after width row points out =
    cond (pass (rows_order width points out)) (sets out 0 (rows_bytes row points (point_count points))) out

-- ---- what a point finds
-- 21 bytes a point: 1 and the action that it finds, or zeros where it finds none
unfoldable pub found_bytes : Result (Option Action) Refusal → List ℕ
found_bytes (Ok (Some a)) = 1 ∷ action_bytes a
found_bytes (Ok None) = replicate 21 0
found_bytes (Err r) = replicate 21 0

-- lookup: 6, 7, 8 of the record, then 6, 9
abbrev pub lookups : List ℕ → List ℕ → List ℕ → Result ℕ Refusal
lookups held points out = and_then (load_of held) (λ t. rows_in 21 points out)

abbrev pub lookups_after : List ℕ → List ℕ → List ℕ → List ℕ
lookups_after held points out =
    lent_after (load_of held) out (λ t. rows_after 21 (λ p. found_bytes (lookup_of t.tree p)) points out)

-- lookup with one leaf's action replaced, the action in 20 bytes: 3, 6 for another length of the action, 1, then 6, 9
abbrev pub replaced_order : RuleTree → ℕ → List ℕ → List Check
replaced_order t leaf action =
    check (leaf_in t leaf) NoLeaf ∷ check (eqb (length action) 20) BadLength ∷ check (valid_of (action_at action 0)) NotAdmitted ∷ []

abbrev pub replaced_look : RuleTree → ℕ → List ℕ → Point → Result (Option Action) Refusal
replaced_look t leaf action p = replaced_of (record { tree = t; leaf = leaf; action = action_at action 0 }) p

unfoldable pub replaced_in : RuleTree → ℕ → List ℕ → List ℕ → List ℕ → Result ℕ Refusal
replaced_in t leaf action points out = checked (replaced_order t leaf action) (rows_in 21 points out)

unfoldable pub replaced_in_after : RuleTree → ℕ → List ℕ → List ℕ → List ℕ → List ℕ
replaced_in_after t leaf action points out =
    cond (pass (replaced_order t leaf action)) (rows_after 21 (λ p. found_bytes (replaced_look t leaf action p)) points out) out

-- of a record's tree: 6, 7, 8 first
abbrev pub replaced : List ℕ → ℕ → List ℕ → List ℕ → List ℕ → Result ℕ Refusal
replaced held leaf action points out = and_then (load_of held) (λ t. replaced_in t.tree leaf action points out)

abbrev pub replaced_after : List ℕ → ℕ → List ℕ → List ℕ → List ℕ → List ℕ
replaced_after held leaf action points out =
    lent_after (load_of held) out (λ t. replaced_in_after t.tree leaf action points out)
