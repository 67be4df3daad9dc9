-- The trainer that a valid state stands for is of its types: it starts so where the settings' floats are binary64 values, and every
-- call keeps it so. Assumes nothing.
use mathlib.Core.Path.{◌≡◌, refl, sym, ap, subst, ◌∙◌}
use mathlib.Core.Bool.{Bool, true, false}
use mathlib.Core.List.{List, [], ◌∷◌}
use Prim.Native.Nat.{ℕ, zero, suc}
use native.Mathlib.Omega.{arith}
use lib.Dec.{leb}
use lib.ListN.{length, take}
use Rattle.std.specs.Prelude.{Result, Ok, Err}
use Rattle.refusal.specs.declared.Refusal.{Refusal}
use Rattle.refusal.proofs.Guards.{either}
use Rattle.remy.specs.declared.action.Action.{Action}
use Rattle.remy.specs.declared.point.Point.{Point}
use Rattle.remy.specs.Action.{valid_of}
use Rattle.rule_tree.proofs.Plain.{ActionFits, PointFits}
use Rattle.trainer.specs.declared.settings.Settings.{Settings}
use Rattle.trainer.specs.declared.Trainer.{Trainer}
use Rattle.trainer.specs.Settings.{settings_hold}
use Rattle.trainer.specs.State.{accepted_of}
use Rattle.record.proofs.Stands.{SettingsFits}
use Rattle.record.proofs.RoundTrip.{TrainerFits}
use Rattle.record.proofs.TreesFit.{valid_increment}
use Rattle.record.proofs.StepsFit.{started_fits, counted_fits, scored_fits, changed_fits}
use Rattle.promise.specs.PlainTrainer.{State, Outcome, start, record_bytes, Call, counts, score, reload, change, changed, step}
use Rattle.promise.specs.Values.{Every, FitAction, FitPoint, FitSettings, FitCall}
use Rattle.promise.proofs.Candidates.{settings_facts}
use Rattle.promise.specs.Demand3.{Step, after_call}
use Rattle.promise.proofs.States.{embed, answer_step, plain_step, ValidState}
use Rattle.promise.proofs.Accepted.{accepted_embeds}
use Rattle.promise.proofs.Begins.{start_embeds, start_valid}
use Rattle.promise.proofs.AnswerCounts.{answer_counts_embeds}
use Rattle.promise.proofs.AnswerScore.{answer_score_embeds}
use Rattle.promise.proofs.AnswerChange.{refused_stays, change_embeds}
use Rattle.promise.proofs.PlainSettings.{settings_same}
use Rattle.promise.proofs.StepsKeep.{step_valid}

pub every_take : {A : Type 0} (P : A → Type 0) (k : ℕ) (xs : List A) → Every P xs → Every P (take k xs)
every_take P zero xs h = tt
every_take P (suc k) [] h = tt
every_take P (suc k) (x ∷ xs) h = (h.0, every_take P k xs h.1)

-- ---- settings
pub valid_fits : (a : Action) → valid_of a ≡ true → FitAction a → ActionFits a
valid_fits a v f = record { multiplier = f.multiplier; increment = valid_increment a v; delay = f.delay }

pub point-fits : {p : Point} → FitPoint p → PointFits p
point-fits f = record { acks = f.acks; sends = f.sends; ratios = f.ratios }

pub settings_fit_lem : (s : Settings) → settings_hold s ≡ true → FitSettings s → SettingsFits s
settings_fit_lem s h f =
    let w = settings_facts s h in
    record {
      splits = omega (arith, w.splits);
      rounds = omega (arith, w.rounds);
      multiplier = omega (arith, w.multiplier);
      min = valid_fits s.min_action w.least f.least;
      max = valid_fits s.max_action w.most f.most;
      initial = valid_fits s.initial_action_change w.initial f.initial;
      most = valid_fits s.max_action_change w.largest f.largest;
      default = valid_fits s.default_action w.default f.default;
      ends = point-fits f.ends;
    }

floats : (a : Action) → ActionFits a → FitAction a
floats a f = record { multiplier = f.multiplier; delay = f.delay }

pub settings_floats : (s : Settings) → SettingsFits s → FitSettings s
settings_floats s f =
    record {
      least = floats _ f.min;
      most = floats _ f.max;
      initial = floats _ f.initial;
      largest = floats _ f.most;
      default = floats _ f.default;
      ends = record { acks = f.ends.acks; sends = f.ends.sends; ratios = f.ends.ratios };
    }

-- ---- states
abbrev pub FitState : State → Type 0
FitState st = TrainerFits (embed st)

pub start_fits : (s : Settings) → settings_hold s ≡ true → FitSettings s → FitState (start s)
start_fits s h f =
    let e = start_embeds s in
    subst TrainerFits (sym e) (started_fits s (settings_fit_lem s h f) (ap accepted_of (sym e) ∙ accepted_embeds (start s) (start_valid s h (point-fits f.ends))))

module _ (st : State) (v : ValidState st) (f : FitState st) where
  -- by what the trainer's call answers
  answer_fits : (r : Result Trainer Refusal) (o : Outcome) → answer_step st r ≡ plain_step o → ValidState o.state
      → ((u : Trainer) → r ≡ Ok u → accepted_of u ≡ true → TrainerFits u) → FitState o.state
  unfolding after_call
  answer_fits (Ok u) o e w k =
      let p : u ≡ embed o.state = ap (λ (s : Step). s.trainer) e in subst TrainerFits p (k u refl (ap accepted_of p ∙ accepted_embeds o.state w))
  answer_fits (Err r) o e w k = subst TrainerFits (ap (λ (s : Step). s.trainer) e) f

  pub step_fits : (c : Call) → FitCall c → FitState (step st c).state
  unfolding step
  step_fits (counts xs) h =
      answer_fits _ _ (answer_counts_embeds st v xs) (step_valid st v (counts xs) h) (λ u e a. counted_fits (embed st) xs u f e a)
  step_fits (score x) h =
      answer_fits _ _ (answer_score_embeds st v x) (step_valid st v (score x) h)
      (λ u e a. scored_fits (embed st) x u f h (accepted_embeds st v) e a)
  step_fits (change s) h = new_settings (settings_hold s) refl
    where
      new_settings : (b : Bool) → settings_hold s ≡ b → FitState (changed st s).state
      new_settings true e =
          answer_fits _ _ (change_embeds st v s) (step_valid st v (change s) h) (λ u q a. changed_fits (embed st) s u f (settings_fit_lem s e h) q a)
      new_settings false e = subst FitState (sym (refused_stays st s (settings_same s ∙ e))) f
  step_fits (reload buffer) h = either (λ (o : Outcome). FitState o.state) (leb (length (record_bytes st)) (length buffer)) f f
