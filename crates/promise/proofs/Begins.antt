-- Stages and rounds begin alike, and begin in valid states. Assumes nothing.
use mathlib.Core.Path.{◌≡◌, refl, sym, ap, ◌∙◌}
use mathlib.Core.Bool.{true}
use Prim.Native.Nat.{ℕ, ◌+◌, ◌≤◌}
use native.Mathlib.Omega.{arith}
use borrow.Author.Tests.{ltb-true, ltb-false}
use lib.Dec.{ltb}
use Rattle.std.proofs.lemmas.Bool.{cond_both}
use Rattle.refusal.proofs.Guards.{both}
use Rattle.rule_tree.specs.declared.RuleTree.{RuleTree}
use Rattle.rule_tree.proofs.Plain.{PointFits}
use Rattle.trainer.specs.declared.settings.Settings.{Settings}
use Rattle.trainer.specs.Settings.{settings_hold}
use Rattle.trainer.specs.Phases as layer
use Rattle.trainer.specs.Calls.{started}
use Rattle.trainer.proofs.Holds.{parts}
use Rattle.promise.specs.PlainTree.{Tree, root_leaf}
use Rattle.promise.specs.PlainTrainer.{phase1, phase3, phase6, at, begin_later_stage, begin_round, start}
use Rattle.promise.proofs.Embed.{embed_tree, ValidTree}
use Rattle.promise.proofs.TreeSteps.{root_embeds}
use Rattle.promise.proofs.TreeKeeps.{root_valid}
use Rattle.promise.proofs.Candidates.{default_valid}
use Rattle.promise.proofs.States.{embed, Embeds, ValidState}

stage_embeds : (s : Settings) (t : Tree) (i : ℕ) → layer.begin_stage s (embed_tree t) i ≡ embed (begin_later_stage s t i)
unfolding layer.begin_stage begin_later_stage
stage_embeds s t i = both Embeds (ltb s.rule_splits i) {m = at s t i 0 phase6} {k = at s t i 0 phase1} refl refl

pub round_embeds : (s : Settings) (t : Tree) (i r : ℕ) → layer.begin_round s (embed_tree t) i r ≡ embed (begin_round s t i r)
unfolding layer.begin_round begin_round
round_embeds s t i r = both Embeds (ltb r s.optimization_rounds_per_split) {m = at s t i r phase3} refl (stage_embeds s t (i + 1))

pub start_embeds : (s : Settings) → embed (start s) ≡ started s
start_embeds s =
    sym (round_embeds s (root_leaf s.ends s.default_action) 0 0)
    ∙ ap (λ (q : RuleTree). layer.begin_round s q 0 0) (root_embeds s.ends s.default_action)

module _ (s : Settings) (h : settings_hold s ≡ true) (t : Tree) (v : ValidTree t) (b : t.ends ≡ s.ends) where
  stage_valid : (i : ℕ) → i ≤ s.rule_splits → ValidState (begin_later_stage s t (i + 1))
  unfolding begin_later_stage
  stage_valid i l =
      cond_both (ltb s.rule_splits (i + 1)) _ _ ValidState
      (λ e. record { settings = h; tree = v; box = b; phase = record { stage = omega (arith, ltb-true s.rule_splits (i + 1) e); round = refl } })
      (λ e. record { settings = h; tree = v; box = b; phase = record { later = omega arith; stage = omega (arith, ltb-false s.rule_splits (i + 1) e); round = refl } })

  pub round_valid : (i r : ℕ) → i ≤ s.rule_splits → ValidState (begin_round s t i r)
  unfolding begin_round
  round_valid i r l =
      cond_both (ltb r s.optimization_rounds_per_split) _ _ ValidState
      (λ e. record { settings = h; tree = v; box = b; phase = record { stage = l; round = ltb-true r s.optimization_rounds_per_split e } })
      (λ e. stage_valid i l)

-- ---- the start
pub start_valid : (s : Settings) → settings_hold s ≡ true → PointFits s.ends → ValidState (start s)
start_valid s h f =
    round_valid s h (root_leaf s.ends s.default_action)
    (root_valid s.ends s.default_action (parts s h).4 f (default_valid s h)) refl 0 0 (omega arith)
