-- 01, "The runs of demand 3", the trainer's part: whatever list of answers, reloads and new settings it is given, the trainer shows at each call
-- what the plain trainer shows, and ends as the trainer that the plain one stands for. Assumes nothing.
use mathlib.Core.Path.{◌≡◌, refl, sym, ap, ◌∙◌}
use mathlib.Core.Bool.{true, cond}
use mathlib.Core.List.{List, [], ◌∷◌}
use Prim.Native.Nat.{ℕ}
use lib.Dec.{leb}
use lib.ListN.{length, take, drop}
use lib.Seq.{take_at}
use Rattle.std.specs.Prelude.{Result, Ok}
use Rattle.refusal.specs.declared.Refusal.{Refusal}
use Rattle.refusal.specs.Numbers.{number_of}
use Rattle.refusal.proofs.Guards.{both}
use Rattle.trainer.specs.declared.settings.Settings.{Settings}
use Rattle.trainer.specs.declared.Trainer.{Trainer}
use Rattle.trainer.specs.declared.Question.{Question}
use Rattle.trainer.specs.Settings.{settings_hold}
use Rattle.trainer.specs.Calls.{started, start_of, question_of}
use Rattle.record.specs.Calls.{save_of, buffer_after, load_of}
use Rattle.promise.specs.PlainTrainer.{State, Outcome, start, refuse, record_bytes, Call, counts, score, reload, change, step, question}
use Rattle.promise.specs.Values.{Every, FitCall}
use Rattle.promise.specs.Demand3.{Step, after_call, reloaded, step_of, Event, events_of, end_of, shown_as, plain_events, plain_end_of}
use Rattle.promise.proofs.States.{embed, plain_step, ValidState}
use Rattle.promise.proofs.Begins.{start_embeds}
use Rattle.promise.proofs.AnswerCounts.{answer_counts_embeds}
use Rattle.promise.proofs.AnswerScore.{answer_score_embeds}
use Rattle.promise.proofs.AnswerChange.{change_embeds}
use Rattle.promise.proofs.Questions.{question_embeds}
use Rattle.promise.proofs.StepsKeep.{step_valid}
use Rattle.promise.proofs.Fitting.{FitState, step_fits}
use Rattle.promise.proofs.Reload.{save_embeds, saved_embeds, load_embeds}

-- ---- each call
module _ (st : State) (v : ValidState st) (f : FitState st) (buffer : List ℕ) where
  written : take (length (record_bytes st)) (buffer_after (embed st) buffer (Ok (length (record_bytes st)))) ≡ record_bytes st
  written =
      ap (take (length (record_bytes st))) (saved_embeds st v buffer)
      ∙ take_at (record_bytes st) (drop (length (record_bytes st)) buffer) (length (record_bytes st)) refl

  reload-step :
      reloaded (embed st) buffer (save_of (embed st) buffer)
      ≡ plain_step (cond (leb (length (record_bytes st)) (length buffer)) (record { state = st; refused = 0; saved = record_bytes st }) (refuse 9 st))
  unfolding reloaded after_call number_of
  reload-step =
      let n = length (record_bytes st) in
      ap (reloaded (embed st) buffer) (save_embeds st v buffer)
      ∙ both (λ (r : Result ℕ Refusal) (o : Outcome). reloaded (embed st) buffer r ≡ plain_step o) (leb n (length buffer))
      {m = record { state = st; refused = 0; saved = record_bytes st }} {k = refuse 9 st}
      (ap (λ (bs : List ℕ). after_call (embed st) (load_of bs) n bs) written
      ∙ ap (λ (a : Result Trainer Refusal). after_call (embed st) a n (record_bytes st)) (load_embeds st v f))
      refl

pub step_embeds : (st : State) → ValidState st → FitState st → (c : Call) → step_of (embed st) c ≡ plain_step (step st c)
unfolding step_of step
step_embeds st v f (counts xs) = answer_counts_embeds st v xs
step_embeds st v f (score x) = answer_score_embeds st v x
step_embeds st v f (reload buffer) = reload-step st v f buffer
step_embeds st v f (change s) = change_embeds st v s

-- ---- lists of calls
abbrev event_of : Outcome → Result Question Refusal → Event
event_of o q = record { refused = o.refused; size = length o.saved; saved = o.saved; asks = q }

pub events_embed : (st : State) (cs : List Call) → ValidState st → FitState st → Every FitCall cs → events_of (embed st) cs ≡ plain_events st cs
unfolding events_of plain_events
events_embed st [] v f h = refl
events_embed st (c ∷ cs) v f h =
    let w = step_valid st v c h.0 in
    ap (λ (o : Step). record { refused = o.refused; size = o.size; saved = o.saved; asks = question_of o.trainer } ∷ events_of o.trainer cs) (step_embeds st v f c)
    ∙ ap (λ (q : Result Question Refusal). event_of (step st c) q ∷ events_of (embed (step st c).state) cs) (question_embeds (step st c).state w)
    ∙ ap (λ (es : List Event). event_of (step st c) (Ok (shown_as (question (step st c).state))) ∷ es)
    (events_embed (step st c).state cs w (step_fits st v f c h.0) h.1)

pub end_embeds : (st : State) (cs : List Call) → ValidState st → FitState st → Every FitCall cs → end_of (embed st) cs ≡ embed (plain_end_of st cs)
unfolding end_of plain_end_of
end_embeds st [] v f h = refl
end_embeds st (c ∷ cs) v f h =
    ap (λ (o : Step). end_of o.trainer cs) (step_embeds st v f c)
    ∙ end_embeds (step st c).state cs (step_valid st v c h.0) (step_fits st v f c h.0) h.1

pub end_valid : (st : State) (cs : List Call) → ValidState st → Every FitCall cs → ValidState (plain_end_of st cs)
unfolding plain_end_of
end_valid st [] v h = v
end_valid st (c ∷ cs) v h = end_valid (step st c).state cs (step_valid st v c h.0) h.1

-- ---- from the start on
module _ (s : Settings) (h : settings_hold s ≡ true) where
  pub starts_taken : start_of s ≡ Ok (started s)
  unfolding start_of
  starts_taken = rw h

  pub starts_alike : start_of s ≡ Ok (embed (start s))
  starts_alike = starts_taken ∙ ap Ok (sym (start_embeds s))
