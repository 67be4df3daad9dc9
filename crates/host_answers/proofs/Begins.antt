-- The small state at the first score of a group, and groups that have none. Assumes nothing.
use mathlib.Core.Path.{◌≡◌, refl, sym, ap, subst, ◌∙◌}
use mathlib.Core.List.{List}
use mathlib.Core.Logic.{inr}
use Prim.Native.Nat.{ℕ, ◌<◌}
use native.Mathlib.Omega.{arith}
use borrow.Author.Tests.{eq-eqb, ne_eqb}
use lib.Ieee.{Float}
use Rattle.remy.specs.declared.action.Action.{Action}
use Rattle.rule_tree.specs.declared.RuleTree.{RuleTree}
use Rattle.trainer.specs.declared.Trainer.{Trainer}
use Rattle.trainer.specs.State.{leaf_action}
use Rattle.std.specs.Prelude.{Some, None, Ok, Err}
use Rattle.trainer.specs.declared.phase.Phase.{Phase}
use Rattle.trainer.specs.declared.phase.Phase.TheVariants.{Own, Try}
use Rattle.trainer.specs.Phase.{phase_of}
use Rattle.trainer.proofs.PhaseLaws.{other_phase, no_phase}
use Rattle.refusal.specs.declared.Refusal.TheVariants.{NotAsked}
use Rattle.trainer.specs.Phases.{try_from}
use Rattle.trainer.specs.Calls.{wants_score, score_step}
use Rattle.trainer.specs.Fields.{Scoring}
use Rattle.trainer.proofs.AcceptedFacts.{scoring_ask, scoring_try, leaf_whole, try_holds, k_listed}
use Rattle.wire.specs.Fields.{float_at}
use Rattle.host_answers.specs.declared.inner.steps.Tuned.{Tuned}
use Rattle.host_answers.specs.Answers.{scores_on}
use Rattle.host_answers.specs.Parts.{begin_of, Counted, tuned_of, trainer_of, Ready}
use Rattle.host_answers.proofs.Small.{action_same, trying_is, from_is}
use Rattle.host_answers.proofs.Scores.{held_from, scores_none, refused_from, taken_from}

module _ (t : Trainer) (ready : Ready t) where
  pub leaf_asked : t.phase ≡ 4 → Scoring t
  leaf_asked p = scoring_ask t ready.accepted p

  pub leaf_tried : t.phase ≡ 5 → Scoring t
  leaf_tried p = scoring_try t ready.accepted p

  module _ (scores : List ℕ) where
    -- phase 4: the first score is the leaf's own
    four : t.phase ≡ 4 → (x : Float) → score_step t x ≡ try_from t t.tree x
    unfolding score_step
    four p x = rw (eq-eqb t.phase 4 p)

    pub own_begun : t.phase ≡ 4 → {x : Float} {u : Tuned} → x ≡ float_at scores 0 → u ≡ begin_of t.settings (leaf_action t) x
        → scores_on t scores 1 ≡ Ok (trainer_of t u)
    own_begun p {x} {u} ex eu =
        taken_from t scores (held_from t ready) 0 t (scores_none t scores) (ap wants_score p)
        ∙ ap Ok
        (four p (float_at scores 0)
        ∙ ap (λ (y : RuleTree). try_from t y (float_at scores 0)) (sym (action_same t.tree t.leaf))
        ∙ from_is t t (leaf_action t) (float_at scores 0) refl refl refl refl (leaf_whole t (leaf_asked p))
        ∙ ap (λ (y : Float). trainer_of t (begin_of t.settings (leaf_action t) y)) (sym ex)
        ∙ ap (trainer_of t) (sym eu))

    pub own_counted : {a : Action} {x : Float} {u : Tuned} → u ≡ begin_of t.settings a x → Counted t.settings u
    own_counted eu = subst (Counted t.settings) (sym eu) (inr refl)

    -- phase 5: the small state is the trainer's own
    with : ℕ → RuleTree → Trainer
    with p tree =
        record {
          settings = t.settings;
          tree = tree;
          phase = p;
          stage = t.stage;
          round = t.round;
          leaf = t.leaf;
          best = t.best;
          k = t.k;
          kept = t.kept;
          kept_score = t.kept_score;
        }

    pub tried_begun : t.phase ≡ 5 → {u : Tuned} → u ≡ tuned_of t → scores_on t scores 0 ≡ Ok (trainer_of t u)
    unfolding with
    tried_begun p {u} eu =
        scores_none t scores
        ∙ ap Ok
        (ap (λ (q : ℕ). with q t.tree) p
        ∙ ap (with 5) (sym (action_same t.tree t.leaf))
        ∙ trying_is t (tuned_of t) (λ z. let l = k_listed t (try_holds t ready.accepted p) in absurd (omega arith))
        ∙ ap (trainer_of t) (sym eu))

    pub tried_counted : {u : Tuned} → u ≡ tuned_of t → Counted t.settings u
    tried_counted eu = subst (Counted t.settings) (sym eu) (inr refl)

    -- ---- no scores, and scores that are not asked for
    pub no_scores : (n : ℕ) → n ≡ 0 → Ok t ≡ scores_on t scores n
    no_scores n e = sym (scores_none t scores) ∙ ap (scores_on t scores) (sym e)

    pub unwanted : (n : ℕ) → (n ≡ 0 → ⊥) → (t.phase ≡ 4 → ⊥) → (t.phase ≡ 5 → ⊥) → Err NotAsked ≡ scores_on t scores n
    unwanted n z f g =
        refused_from t scores (held_from t ready) 0 t (scores_none t scores) n (rw (ne_eqb t.phase 4 f, ne_eqb t.phase 5 g)) (above n z)
      where
        above : (m : ℕ) → (m ≡ 0 → ⊥) → 0 < m
        above m h = omega (arith, h)

    -- by the phase that the number names
    pub unwanted_else : (n : ℕ) → 0 < n → (p : Phase) → phase_of t.phase ≡ Some p → (p ≡ Own → ⊥) → (p ≡ Try → ⊥) → Err NotAsked ≡ scores_on t scores n
    unwanted_else n l p e a b =
        unwanted n (λ z. absurd (omega arith)) (other_phase t.phase p Own e a) (other_phase t.phase p Try e b)

    pub unwanted_nowhere : (n : ℕ) → 0 < n → phase_of t.phase ≡ None → Err NotAsked ≡ scores_on t scores n
    unwanted_nowhere n l e =
        unwanted n (λ z. absurd (omega arith)) (λ z. no_phase t.phase e Own z) (λ z. no_phase t.phase e Try z)
