-- Candidates of an action, the actions that a trainer asks for in a row, and equality of two trainers' trees, over the bytes that hosts hold.
use Rattle.std.specs.Prelude.{◌&&◌, cond, List, [], ◌∷◌, ◌++◌, ℕ, ◌*◌, length, drop, eqb, leb, Result, Ok}
use Rattle.refusal.specs.declared.Refusal.{Refusal}
use Rattle.refusal.specs.declared.Refusal.TheVariants.{BadLength, BadSettings, NotAdmitted, ShortBuffer}
use Rattle.refusal.specs.Guards.{Check, check, checked, and_then, lent_after, pass}
use Rattle.remy.specs.declared.action.Action.{Action}
use Rattle.remy.specs.Action.{valid_of}
use Rattle.rule_tree.specs.Equal.{trees_equal}
use Rattle.trainer.specs.declared.Trainer.{Trainer}
use Rattle.trainer.specs.Settings.{settings_hold}
use Rattle.trainer.specs.Candidates.{candidates_of}
use Rattle.trainer.specs.State.{leaf_action}
use Rattle.wire.specs.Fields.{action_bytes}
use Rattle.wire.specs.Fields.{action_at}
use Rattle.host_trainer.specs.Records.{settings_whole, settings_in}

-- 20 bytes an action
unfoldable pub list_bytes : List Action → List ℕ
list_bytes [] = []
list_bytes (a ∷ xs) = action_bytes a ++ list_bytes xs

-- a buffer too short for 20 bytes an action: 9
unfoldable pub list_fits : List Action → List ℕ → Result ℕ Refusal
list_fits xs out = checked (check (leb (20 * length xs) (length out)) ShortBuffer ∷ []) (Ok (20 * length xs))

-- the buffer after it; a refused call changes no byte
unfoldable pub list_after : List Action → List ℕ → List ℕ
unfolding list_fits
list_after xs out = lent_after (list_fits xs out) out (λ n. list_bytes xs ++ drop n out)

abbrev pub candidates_for : List ℕ → List ℕ → List Action
candidates_for settings action = candidates_of (settings_in settings) (action_at action 0)

-- settings as a start takes them: 2; an action of another length than 20: 6; an action that is not valid: 1; 9
abbrev pub candidates_order : List ℕ → List ℕ → List Check
candidates_order settings action =
    check (settings_whole settings && settings_hold (settings_in settings)) BadSettings
    ∷ check (eqb (length action) 20) BadLength ∷ check (valid_of (action_at action 0)) NotAdmitted ∷ []

unfoldable pub candidates_in : List ℕ → List ℕ → List ℕ → Result ℕ Refusal
candidates_in settings action out = checked (candidates_order settings action) (list_fits (candidates_for settings action) out)

unfoldable pub candidates_after : List ℕ → List ℕ → List ℕ → List ℕ
candidates_after settings action out =
    cond (pass (candidates_order settings action)) (list_after (candidates_for settings action) out) out

-- what is asked for in a row, whatever the scores: in phase 4 the leaf's own action and its candidates, in phase 5 the candidates from k on, else nothing
unfoldable pub asked_in_a_row : Trainer → List Action
asked_in_a_row t =
    cond (eqb t.phase 4) (leaf_action t ∷ candidates_of t.settings (leaf_action t))
    (cond (eqb t.phase 5) (drop t.k (candidates_of t.settings (leaf_action t))) [])

-- 6, 7, 8 of the record, then 9
unfoldable pub row_in : Result Trainer Refusal → List ℕ → Result ℕ Refusal
row_in a out = and_then a (λ t. list_fits (asked_in_a_row t) out)

unfoldable pub row_after : Result Trainer Refusal → List ℕ → List ℕ
row_after a out = lent_after a out (λ t. list_after (asked_in_a_row t) out)

-- 6, 7, 8 of the first record, then of the second
unfoldable pub equal_in : Result Trainer Refusal → Result Trainer Refusal → Result ℕ Refusal
equal_in a b = and_then a (λ t. and_then b (λ u. Ok (cond (trees_equal t.tree u.tree) 1 0)))
