-- The small state over the scores of a group: where it begins, each turn, and the end. Assumes nothing.
use mathlib.Core.Path.{◌≡◌, refl, sym, ap, subst, ◌∙◌}
use mathlib.Core.List.{List}
use mathlib.Core.Logic.{◌⊎◌, inl, inr, ⊎_elim}
use Prim.Native.Nat.{ℕ, ◌+◌, ◌*◌, ◌<◌}
use native.Mathlib.Omega.{arith}
use lib.ListN.{length, take, drop}
use lib.Ieee.{Float}
use Rattle.remy.specs.declared.action.Action.{Action}
use Rattle.remy.specs.Action.{valid_of}
use Rattle.trainer.specs.declared.Trainer.{Trainer}
use Rattle.trainer.specs.Candidates.{candidates_of}
use Rattle.trainer.specs.State.{none, leaf_action}
use Rattle.std.specs.Prelude.{Ok, Err}
use Rattle.refusal.specs.declared.Refusal.TheVariants.{NotAsked}
use Rattle.trainer.specs.Calls.{wants_score}
use Rattle.trainer.proofs.AcceptedFacts.{accepted_settings, scoring_try, action_valid, try_holds, k_listed, kept_listed}
use Rattle.trainer.proofs.Accepting.{Held}
use Rattle.trainer.proofs.Steps.{kept_number}
use Rattle.wire.specs.Fields.{float_at}
use Rattle.host_answers.specs.declared.inner.steps.Tuned.{Tuned}
use Rattle.host_answers.specs.Answers.{scores_on}
use Rattle.host_answers.specs.Parts.{step_of, Tuning, Among, Counted, trainer_of, Ready}
use Rattle.host_answers.proofs.StepWays.{step_counted}
use Rattle.host_answers.proofs.Small.{action_is, finished_is, trying_of, trying_is, step_same}
use Rattle.host_answers.proofs.Scores.{held_from, score_read, now_held, refused_from, taken_from}

counted_some : {n m : ℕ} → (n ≡ 0) ⊎ (n ≡ m) → (n ≡ 0 → ⊥) → n ≡ m
counted_some (inl e) z = absurd (z e)
counted_some (inr e) z = e

-- a score out of its 8 bytes
pub one_score : (scores : List ℕ) (i m : ℕ) {x : Float} → m ≡ 8 → x ≡ float_at (take m (drop (8 * i) scores)) 0 → x ≡ float_at (take 8 (drop (8 * i) scores)) 0
one_score scores i m em e = e ∙ ap (λ (k : ℕ). float_at (take k (drop (8 * i) scores)) 0) em

-- ---- a turn
module _ (t : Trainer) (scores : List ℕ) (ready : Ready t) (slot : t.leaf < 513) (i : ℕ) (u : Tuned) (e : scores_on t scores i ≡ Ok (trainer_of t u)) where
  held : Held t
  held = held_from t ready

  inside : t.leaf < length t.tree.nodes
  inside = omega (arith, ready.whole)

  pub tune_refused : (n : ℕ) → u.count ≡ 0 → i < n → Err NotAsked ≡ scores_on t scores n
  tune_refused n z l =
      refused_from t scores held i (trainer_of t u) e n (ap (λ (x : Trainer). wants_score x.phase) (sym (finished_is t u z))) l

  module _ (counted : Counted t.settings u) (some : u.count ≡ 0 → ⊥) where
    listed : u.count ≡ length (candidates_of t.settings u.action)
    listed = counted_some counted some

    going : scores_on t scores i ≡ Ok (trying_of t u)
    going = e ∙ ap Ok (sym (trying_is t u some))

    going_held : Held (trying_of t u)
    going_held = now_held t scores held i (trying_of t u) going

    own : leaf_action (trying_of t u) ≡ u.action
    own = action_is t.tree t.leaf inside u.action

    own_listed : length (candidates_of t.settings (leaf_action (trying_of t u))) ≡ u.count
    own_listed = ap (λ (a : Action). length (candidates_of t.settings a)) own ∙ sym listed

    -- what a step needs
    pub tune_ready : (Tuning t.settings u) × (Among u u.kept)
    tune_ready =
        let v = trying_of t u in
        let h = going_held.accepted in
        let w = try_holds v h refl in (
          record {
            settings = accepted_settings v h;
            valid = ap valid_of (sym own) ∙ action_valid v (scoring_try v h refl);
            count = listed;
            k = subst (λ (n : ℕ). u.k < n) own_listed (k_listed v w);
          },
          λ k z.
              let n = kept_number u.kept k z in
              ⊎_elim (λ (x : u.kept ≡ none). absurd (n.0 x)) (λ x. subst (λ (j : ℕ). j < u.count) (sym n.1) (subst (λ (m : ℕ). u.kept < m) own_listed x)) (kept_listed v w),
        )

    turn : scores_on t scores (i + 1) ≡ Ok (trainer_of t (step_of t.settings u (float_at scores (8 * i))))
    turn =
        taken_from t scores held i (trying_of t u) going refl
        ∙ ap Ok (step_same t inside u some listed (float_at scores (8 * i)))

    module _ {w : Tuned} {x : Float} (ex : x ≡ float_at (take 8 (drop (8 * i) scores)) 0) (ew : w ≡ step_of t.settings u x) where
      tune_counted : Counted t.settings w
      tune_counted = subst (Counted t.settings) (sym ew) (step_counted t.settings u x counted)

      tune_turn : scores_on t scores (i + 1) ≡ Ok (trainer_of t w)
      tune_turn =
          turn
          ∙ ap (λ (y : Float). Ok (trainer_of t (step_of t.settings u y))) (sym (score_read scores (8 * i)) ∙ sym ex)
          ∙ ap (λ (y : Tuned). Ok (trainer_of t y)) (sym ew)

      pub tune_next : (Counted t.settings w) × (scores_on t scores (i + 1) ≡ Ok (trainer_of t w))
      tune_next = (tune_counted, tune_turn)
