-- The same words by the contracts of the calls that are made; only private functions and proofs cite these.
use Rattle.std.specs.Prelude.{cond, List, [], ◌∷◌, ◌++◌, ℕ, take, replicate, Option, Some, None, Result, Ok, Err}
use Rattle.std.specs.Option.{option_map_or}
use Rattle.refusal.specs.declared.Refusal.{Refusal}
use Rattle.refusal.specs.Numbers.{number_of}
use Rattle.refusal.specs.Guards.{and_then}
use Rattle.remy.specs.declared.action.Action.{Action}
use Rattle.rule_tree.specs.Calls.{lookup_of}
use Rattle.trainer.specs.declared.Trainer.{Trainer}
use Rattle.trainer.specs.declared.Question.{Question}
use Rattle.trainer.specs.declared.Question.TheVariants as question
use Rattle.trainer.specs.Calls.{start_of, question_of}
use Rattle.wire.specs.Bytes.{flag_byte}
use Rattle.record.specs.Calls.{save_of, buffer_after}
use Rattle.sender.specs.declared.Sender.{Sender}
use Rattle.sender.specs.Sender.{new_of}
use Rattle.promise.specs.Demand3.{Step, step_of}
use Rattle.promise.specs.SenderRuns.{SenderStep, sender_step}
use Rattle.sender.specs.SenderCall as runs
use Rattle.runs.specs.declared.State.{State}
use Rattle.runs.specs.Script.{Item, train, ack, send, tick, lookup, settings, fresh, mode, handed_in, calls_of}
use Rattle.runs.specs.SenderWords.{bits, action_words, sender_words}

-- a refusal's number, or 0
abbrev pub number_or_0 : Option Refusal → ℕ
number_or_0 r = option_map_or number_of r 0

unfoldable pub question_words : Result Question Refusal → List ℕ
question_words (Ok (question.Counts x)) = 1 ∷ (bits x ∷ [])
question_words (Ok (question.Score i a x)) = 2 ∷ (i ∷ (action_words a ++ (bits x ∷ [])))
question_words (Ok (question.Done x)) = 3 ∷ (bits x ∷ [])
question_words (Err r) = []

abbrev pub step_words : Step → List ℕ
step_words o = o.refused ∷ (o.size ∷ (o.saved ++ question_words (question_of o.trainer)))

abbrev pub move_words : SenderStep → List ℕ
move_words o = o.event.refused ∷ (o.event.window ∷ (flag_byte o.event.clipped ∷ (bits o.sender.intersend_delay.0 ∷ [])))

unfoldable pub looked_words : Result (Option Action) Refusal → List ℕ
looked_words (Ok (Some a)) = 1 ∷ action_words a
looked_words (Ok None) = 0 ∷ []
looked_words (Err r) = 0 ∷ []

-- the record at the end, saved into a buffer of 16,388 bytes
unfoldable pub end_words : Trainer → Result ℕ Refusal → List ℕ
end_words t (Ok n) = n ∷ take n (buffer_after t (replicate 16388 0) (Ok n))
end_words t (Err r) = []

unfoldable pub ran_from : Trainer → Sender → List Item → List ℕ
unfolding question_words looked_words end_words
ran_from t s [] = end_words t (save_of t (replicate 16388 0)) ++ sender_words s
ran_from t s (train c ∷ is) = let o = step_of t c in step_words o ++ ran_from o.trainer s is
ran_from t s (ack sent received draw ∷ is) =
    let o = sender_step s (runs.ack t.tree sent received draw) in move_words o ++ ran_from t o.sender is
ran_from t s (send at ∷ is) = let o = sender_step s (runs.send at) in move_words o ++ ran_from t o.sender is
ran_from t s (tick ∷ is) = let o = sender_step s runs.tick in move_words o ++ ran_from t o.sender is
ran_from t s (lookup p ∷ is) = looked_words (lookup_of t.tree p) ++ ran_from t s is

-- the sender of the start
unfoldable pub made_of : List ℕ → Result Sender Refusal
unfolding new_of
made_of script = cond (fresh script) (new_of (mode script)) (Ok (handed_in script))

-- a fresh trainer and that sender
unfoldable pub begun_of : List ℕ → Result State Refusal
unfolding made_of start_of
begun_of script =
    and_then (start_of (settings script)) (λ t. and_then (made_of script) (λ s. Ok (record { trainer = t; sender = s })))

-- all that follows the start, or its refusal's number
unfoldable pub ran_begun : Result State Refusal → List Item → List ℕ
unfolding ran_from
ran_begun (Ok r) is = 0 ∷ (question_words (question_of r.trainer) ++ ran_from r.trainer r.sender is)
ran_begun (Err r) is = number_of r ∷ []

abbrev pub ran_of : List ℕ → List ℕ
ran_of script = ran_begun (begun_of script) (calls_of script)
