-- What each public call on a trainer answers, refusals first and in 01's order.
use Rattle.std.specs.Prelude.{Bool, ◌||◌, cond, List, [], ◌∷◌, ℕ, ◌+◌, get_or, eqb, pos, Float, Result, Ok}
use Rattle.std.specs.Float.{binary64}
use Rattle.std.specs.Float.Ieee.{div, of_int}
use Rattle.refusal.specs.declared.Refusal.{Refusal}
use Rattle.refusal.specs.declared.Refusal.TheVariants.{BadCounts, BadSettings, NotAsked, NotGrown}
use Rattle.refusal.specs.Guards.{Check, check, checked}
use Rattle.rule_tree.specs.Change.{fresh_tree}
use Rattle.rule_tree.specs.Counts.{counts_hold}
use Rattle.trainer.specs.declared.settings.Settings.{Settings}
use Rattle.trainer.specs.declared.Trainer.{Trainer}
use Rattle.trainer.specs.declared.Question.{Question}
use Rattle.trainer.specs.declared.Question.TheVariants as question
use Rattle.trainer.specs.Settings.{settings_hold}
use Rattle.trainer.specs.Candidates.{candidates_of, no_candidate}
use Rattle.trainer.specs.State.{accepted_of, leaf_action}
use Rattle.trainer.specs.Phases.{begin_round, phase1, phase2, phase3, phase4, phase5, phase6}

-- "Start: default leaf, then begin stage 0"
abbrev pub started : Settings → Trainer
started s = begin_round s (fresh_tree s.ends s.default_action) 0 0

abbrev pub start_order : Settings → List Check
start_order s = check (settings_hold s) BadSettings ∷ []

unfoldable pub start_of : Settings → Result Trainer Refusal
start_of s = checked (start_order s) (Ok (started s))

-- "progress stage / (rule_splits + 1) in floats"
abbrev pub progress_of : Trainer → Float
progress_of t = div binary64 (of_int binary64 (pos t.stage)) (of_int binary64 (pos (t.settings.rule_splits + 1)))

-- "The question is the phase's kind, with leaf and action in 4 and 5, and progress"
unfoldable pub asked_of : Trainer → Question
asked_of t =
    cond (eqb t.phase 4) (question.Score t.leaf (leaf_action t) (progress_of t))
    (cond (eqb t.phase 5)
    (question.Score t.leaf (get_or (candidates_of t.settings (leaf_action t)) t.k no_candidate) (progress_of t))
    (cond (eqb t.phase 7) (question.Done (progress_of t)) (question.Counts (progress_of t))))

abbrev pub question_order : Trainer → List Check
question_order t = check (accepted_of t) NotGrown ∷ []

unfoldable pub question_of : Trainer → Result Question Refusal
unfolding asked_of
question_of t = checked (question_order t) (Ok (asked_of t))

abbrev pub wants_counts : ℕ → Bool
wants_counts phase = eqb phase 1 || (eqb phase 2 || (eqb phase 3 || eqb phase 6))

abbrev pub wants_score : ℕ → Bool
wants_score phase = eqb phase 4 || eqb phase 5

unfoldable pub counts_step_of : Trainer → List ℕ → Result Trainer Refusal
counts_step_of t xs =
    cond (eqb t.phase 1) (phase1 t xs)
    (cond (eqb t.phase 2) (phase2 t xs) (cond (eqb t.phase 3) (Ok (phase3 t xs)) (Ok (phase6 t))))

-- "21, 4"; 20 is the step's own
abbrev pub counts_order : Trainer → List ℕ → List Check
counts_order t xs =
    check (accepted_of t) NotGrown ∷ check (wants_counts t.phase) NotAsked ∷ check (counts_hold t.tree xs) BadCounts ∷ []

-- answer with counts
unfoldable pub answer_counts_of : Trainer → List ℕ → Result Trainer Refusal
unfolding counts_step_of
answer_counts_of t xs = checked (counts_order t xs) (counts_step_of t xs)

unfoldable pub score_step : Trainer → Float → Trainer
score_step t x = cond (eqb t.phase 4) (phase4 t x) (phase5 t x)

-- "10 before all; 21"
abbrev pub score_order : Trainer → List Check
score_order t = check (accepted_of t) NotGrown ∷ check (wants_score t.phase) NotAsked ∷ []

-- answer with a score
unfoldable pub answer_score_of : Trainer → Float → Result Trainer Refusal
unfolding score_step
answer_score_of t x = checked (score_order t) (Ok (score_step t x))
