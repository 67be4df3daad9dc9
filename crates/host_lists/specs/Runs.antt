-- Scores answered one by one.
use Rattle.std.specs.Prelude.{List, [], ◌∷◌, Float, Result, Ok}
use Rattle.refusal.specs.declared.Refusal.{Refusal}
use Rattle.refusal.specs.Guards.{and_then}
use Rattle.trainer.specs.declared.Trainer.{Trainer}
use Rattle.trainer.specs.Calls.{answer_score_of}

-- the trainer after all of them, or the first refusal
unfoldable pub scores_of : Trainer → List Float → Result Trainer Refusal
scores_of t [] = Ok t
scores_of t (x ∷ xs) = and_then (answer_score_of t x) (λ u. scores_of u xs)
