-- Every accepted trainer answers, asks and records as the plain trainer does, is read back from its record, and stays accepted. Assumes nothing.
use mathlib.Core.Path.{◌≡◌, refl, sym, ap, subst, subst⁻¹, ◌∙◌}
use mathlib.Core.Bool.{Bool, true, cond}
use mathlib.Core.List.{List, [], ◌++◌}
use Prim.Native.Nat.{ℕ, ◌+◌, ◌*◌, ◌≤◌}
use native.Mathlib.Omega.{arith}
use borrow.Author.Tests.{le-leb}
use lib.Dec.{T, leb}
use lib.ListN.{length, take, drop}
use lib.Seq.{take_at}
use lib.Ieee.{Float, binary64, fits}
use Rattle.std.specs.Prelude.{Result, Ok, Err, IfOk}
use Rattle.refusal.specs.declared.Refusal.{Refusal}
use Rattle.refusal.specs.declared.Refusal.TheVariants.{ShortBuffer}
use Rattle.trainer.specs.declared.settings.Settings.{Settings}
use Rattle.trainer.specs.declared.Trainer.{Trainer}
use Rattle.trainer.specs.Settings.{settings_hold}
use Rattle.trainer.specs.State.{accepted_of}
use Rattle.trainer.specs.Change.{change_of}
use Rattle.trainer.specs.Calls.{started, question_of, answer_counts_of, answer_score_of}
use Rattle.record.specs.Write.{record_of}
use Rattle.record.specs.Calls.{save_of, buffer_after, load_of}
use Rattle.promise.specs.PlainTrainer.{State, start, record_bytes, Call, counts, score, change, step, question}
use Rattle.promise.specs.Values.{Every, FitSettings, FitCall}
use Rattle.promise.specs.Demand3.{Step, after_call, step_of, shown_as, events_of, end_of, plain_events, plain_end_of}
use Rattle.promise.proofs.States.{embed, plain_step, ValidState}
use Rattle.promise.proofs.Accepted.{accepted_embeds}
use Rattle.promise.proofs.Begins.{start_embeds, start_valid}
use Rattle.promise.proofs.Questions.{question_embeds}
use Rattle.promise.proofs.StepsKeep.{scored_valid, step_valid}
use Rattle.promise.proofs.Records.{record_embeds}
use Rattle.promise.proofs.Fitting.{FitState, point-fits, settings_floats, start_fits, step_fits}
use Rattle.promise.proofs.Reload.{record_length, save_embeds, load_embeds}
use Rattle.promise.proofs.Runs.{step_embeds, events_embed, end_embeds, end_valid}
use Rattle.promise.proofs.UnembedTree.{nodes_count}
use Rattle.promise.proofs.Unembed.{TrainerFits, plain_of, accepted_grown, plain_embeds, plain_valid, plain_fits}

-- ---- the trainer that a valid state stands for is of its types
pub embed_fits : (st : State) → FitState st → TrainerFits (embed st)
embed_fits st f =
    record {
      sized = f.tree.full;
      nodes = f.tree.actions;
      ends = f.tree.ends;
      settings = settings_floats (embed st).settings f.settings;
      best = f.best;
      score = f.score;
    }

-- ---- the start
module _ (s : Settings) (h : settings_hold s ≡ true) where
  pub start_accepted : FitSettings s → accepted_of (started s) ≡ true
  start_accepted f = ap accepted_of (sym (start_embeds s)) ∙ accepted_embeds (start s) (start_valid s h (point-fits f.ends))

  pub start_typed : FitSettings s → TrainerFits (started s)
  start_typed f = subst TrainerFits (start_embeds s) (embed_fits (start s) (start_fits s h f))

buffer_is : (t : Trainer) (buf : List ℕ) (n : ℕ) → buffer_after t buf (Ok n) ≡ record_of t ++ drop n buf
unfolding buffer_after
buffer_is t buf n = refl

-- what is true of the trainer that a call leaves is true of its answer, where that is none of the refusals
if_ok : (P : Trainer → Type 0) (t : Trainer) (r : Result Trainer Refusal) → P (after_call t r 0 []).trainer → IfOk r P
unfolding after_call
if_ok P t (Ok u) p = p
if_ok P t (Err k) p = tt

-- ---- the calls
module _ (t : Trainer) (a : accepted_of t ≡ true) (f : TrainerFits t) where
  back : t ≡ embed (plain_of t)
  back = sym (plain_embeds t a f)

  valid : ValidState (plain_of t)
  valid = plain_valid t a f

  fitting : FitState (plain_of t)
  fitting = plain_fits t a f

  pub every_step : (c : Call) → step_of t c ≡ plain_step (step (plain_of t) c)
  every_step c = ap (λ (u : Trainer). step_of u c) back ∙ step_embeds (plain_of t) valid fitting c

  pub counts_step : (xs : List ℕ) → after_call t (answer_counts_of t xs) 0 [] ≡ plain_step (step (plain_of t) (counts xs))
  unfolding step_of
  counts_step xs = every_step (counts xs)

  pub score_step_lem : (x : Float) → after_call t (answer_score_of t x) 0 [] ≡ plain_step (step (plain_of t) (score x))
  unfolding step_of
  score_step_lem x = every_step (score x)

  pub change_step : (s : Settings) → after_call t (change_of t s) 0 [] ≡ plain_step (step (plain_of t) (change s))
  unfolding step_of
  change_step s = every_step (change s)

  pub question_asked : question_of t ≡ Ok (shown_as (question (plain_of t)))
  question_asked = ap question_of back ∙ question_embeds (plain_of t) valid

  pub record_written : record_of t ≡ record_bytes (plain_of t)
  record_written = ap record_of back ∙ record_embeds (plain_of t) valid

  -- ---- the record
  pub load_back : load_of (record_of t) ≡ Ok t
  load_back = ap load_of record_written ∙ load_embeds (plain_of t) valid fitting ∙ ap Ok (plain_embeds t a f)

  pub record_size : length (record_of t) ≡ 196 + 170 * t.tree.splits
  record_size =
      ap length record_written ∙ record_length (plain_of t) valid fitting
      ∙ (let e = nodes_count t.tree (accepted_grown t a) in omega arith)

  pub save_size : (buf : List ℕ) → save_of t buf ≡ cond (leb (length (record_of t)) (length buf)) (Ok (length (record_of t))) (Err ShortBuffer)
  save_size buf =
      ap (λ (u : Trainer). save_of u buf) back ∙ save_embeds (plain_of t) valid buf
      ∙ ap (λ (bs : List ℕ). cond (leb (length bs) (length buf)) (Ok (length bs)) (Err ShortBuffer)) (sym record_written)

  -- a save into a buffer that is long enough, then a load of exactly the bytes written
  pub saved_loads :
      (buf : List ℕ) → length (record_of t) ≤ length buf → load_of (take (length (record_of t)) (buffer_after t buf (save_of t buf))) ≡ Ok t
  saved_loads buf l =
      let n = length (record_of t) in
      ap (λ (w : Result ℕ Refusal). load_of (take n (buffer_after t buf w)))
      (save_size buf ∙ ap (λ (z : Bool). cond z (Ok n) (Err ShortBuffer)) (le-leb n (length buf) l))
      ∙ ap (λ (bs : List ℕ). load_of (take n bs)) (buffer_is t buf n)
      ∙ ap load_of (take_at (record_of t) (drop n buf) n refl)
      ∙ load_back

  -- ---- what a call leaves is accepted
  left_accepted : (c : Call) → ValidState (step (plain_of t) c).state → accepted_of (step_of t c).trainer ≡ true
  left_accepted c w = ap (λ (s : Step). accepted_of s.trainer) (every_step c) ∙ accepted_embeds _ w

  pub counts_accepted : (xs : List ℕ) → IfOk (answer_counts_of t xs) (λ u. accepted_of u ≡ true)
  unfolding step_of
  counts_accepted xs = if_ok (λ u. accepted_of u ≡ true) t (answer_counts_of t xs) (left_accepted (counts xs) (step_valid (plain_of t) valid (counts xs) tt))

  pub score_accepted : (x : Float) → IfOk (answer_score_of t x) (λ u. accepted_of u ≡ true)
  unfolding step_of step
  score_accepted x = if_ok (λ u. accepted_of u ≡ true) t (answer_score_of t x) (left_accepted (score x) (scored_valid (plain_of t) valid x))

  pub change_accepted : (s : Settings) → FitSettings s → IfOk (change_of t s) (λ u. accepted_of u ≡ true)
  unfolding step_of
  change_accepted s h = if_ok (λ u. accepted_of u ≡ true) t (change_of t s) (left_accepted (change s) (step_valid (plain_of t) valid (change s) h))

  -- and of its types
  left_typed : (c : Call) → FitCall c → TrainerFits (step_of t c).trainer
  left_typed c h =
      subst⁻¹ (λ (s : Step). TrainerFits s.trainer) (every_step c) (embed_fits (step (plain_of t) c).state (step_fits (plain_of t) valid fitting c h))

  pub counts_typed : (xs : List ℕ) → IfOk (answer_counts_of t xs) TrainerFits
  unfolding step_of
  counts_typed xs = if_ok TrainerFits t (answer_counts_of t xs) (left_typed (counts xs) tt)

  pub score_typed : (x : Float) → T (fits binary64 x) → IfOk (answer_score_of t x) TrainerFits
  unfolding step_of
  score_typed x h = if_ok TrainerFits t (answer_score_of t x) (left_typed (score x) h)

  pub change_typed : (s : Settings) → FitSettings s → IfOk (change_of t s) TrainerFits
  unfolding step_of
  change_typed s h = if_ok TrainerFits t (change_of t s) (left_typed (change s) h)

  -- ---- lists of calls
  pub run_steps : (cs : List Call) → Every FitCall cs → events_of t cs ≡ plain_events (plain_of t) cs
  run_steps cs h = ap (λ (u : Trainer). events_of u cs) back ∙ events_embed (plain_of t) cs valid fitting h

  end_steps : (cs : List Call) → Every FitCall cs → end_of t cs ≡ embed (plain_end_of (plain_of t) cs)
  end_steps cs h = ap (λ (u : Trainer). end_of u cs) back ∙ end_embeds (plain_of t) cs valid fitting h

  pub end_record : (cs : List Call) → Every FitCall cs → record_of (end_of t cs) ≡ record_bytes (plain_end_of (plain_of t) cs)
  end_record cs h = ap record_of (end_steps cs h) ∙ record_embeds (plain_end_of (plain_of t) cs) (end_valid (plain_of t) cs valid h)

  pub end_accepted : (cs : List Call) → Every FitCall cs → accepted_of (end_of t cs) ≡ true
  end_accepted cs h = ap accepted_of (end_steps cs h) ∙ accepted_embeds (plain_end_of (plain_of t) cs) (end_valid (plain_of t) cs valid h)
