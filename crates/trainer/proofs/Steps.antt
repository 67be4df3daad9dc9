-- The steps of a trainer, by its phase and by what the code found. Assumes nothing.
use mathlib.Core.Path.{◌≡◌, refl, sym, ap, ◌∙◌}
use mathlib.Core.Bool.{Bool, true, false, cond}
use mathlib.Core.Logic.{inl, inr}
use mathlib.Core.List.{List}
use Prim.Native.Nat.{ℕ, ◌<◌}
use native.Mathlib.Omega.{arith}
use Rattle.std.specs.Prelude.{Option, Some, None, Ok, Err}
use borrow.Author.Tests.{eqb-true, eqb-false}
use lib.Dec.{eqb}
use lib.ListN.{length, get_or}
use lib.Ieee.{Float}
use Rattle.refusal.specs.declared.Refusal.TheVariants.{NotAsked}
use Rattle.remy.specs.declared.action.Action.{Action}
use Rattle.remy.specs.Action.{valid_of}
use Rattle.rule_tree.specs.declared.Node.{Node}
use Rattle.rule_tree.specs.declared.RuleTree.{RuleTree}
use Rattle.rule_tree.specs.Nodes.{action_in}
use Rattle.rule_tree.specs.Counts.{counts_hold}
use Rattle.rule_tree.specs.Change.{with_action}
use Rattle.rule_tree.specs.Grown.{grown_of}
use Rattle.rule_tree.proofs.GrownTree.{grown_facts, chosen_leaf_lem, leaf_below}
use Rattle.rule_tree.proofs.Changing.{action_at_lem}
use Rattle.trainer.specs.declared.Trainer.{Trainer}
use Rattle.trainer.specs.Candidates.{candidates_of, no_candidate}
use Rattle.trainer.specs.State.{none, kept_of, leaf_action, accepted_of}
use Rattle.trainer.specs.Phases.{most_used_in}
use Rattle.trainer.specs.Calls.{wants_score, score_step, answer_score_of}
use Rattle.trainer.specs.Fields.{action_at, Scoring, Kept}
use Rattle.trainer.proofs.AcceptedFacts.{leaf_whole}
use Rattle.trainer.proofs.CandidateLaws.{candidate_valid}

-- ---- the calls
module _ (t : Trainer) (h : accepted_of t ≡ true) where
  pub score_unwanted : (x : Float) → wants_score t.phase ≡ false → Err NotAsked ≡ answer_score_of t x
  unfolding answer_score_of
  score_unwanted x w = rw (h, w)

  pub score_taken : (x : Float) → wants_score t.phase ≡ true → Ok (score_step t x) ≡ answer_score_of t x
  unfolding answer_score_of
  score_taken x w = rw (h, w)

-- ---- the most used leaf
module _ (t : RuleTree) (xs : List ℕ) (g : grown_of t ≡ true) (c : counts_hold t xs ≡ true) where
  pub chosen_slot : (u : Bool) (i : ℕ) → most_used_in t xs u ≡ Some i → i < 513
  chosen_slot u i e = omega (arith, leaf_below t i (chosen_leaf_lem t xs c u i e), (grown_facts t g).few)

-- ---- a number that is kept
pub kept_none : (kept : ℕ) → kept_of kept ≡ None → kept ≡ none
unfolding kept_of
kept_none kept e = go (eqb kept none) refl e
  where
    go : (b : Bool) → eqb kept none ≡ b → ◌≡◌ {A = Option ℕ} (cond b None (Some kept)) None → kept ≡ none
    go true h e = eqb-true kept none h
    go false h e = cc

pub kept_number : (kept k : ℕ) → kept_of kept ≡ Some k → (kept ≡ none → ⊥) × (k ≡ kept)
unfolding kept_of
kept_number kept k e = go (eqb kept none) refl e
  where
    go : (b : Bool) → eqb kept none ≡ b → ◌≡◌ {A = Option ℕ} (cond b None (Some kept)) (Some k) → (kept ≡ none → ⊥) × (k ≡ kept)
    go true h e = cc
    go false h e = (eqb-false kept none h, cc)

module _ (t : Trainer) (kept : ℕ) (score : Float) where
  -- what is kept is in the list
  pub kept_within : (k : ℕ) → Kept t kept → Some k ≡ kept_of kept → k < length (candidates_of t.settings (leaf_action t))
  kept_within k h e = let n = kept_number kept k (sym e) in rw n.1 (kept_some h n.0)
    where
      kept_some : Kept t kept → (kept ≡ none → ⊥) → kept < length (candidates_of t.settings (leaf_action t))
      kept_some (inl e) n = absurd (n e)
      kept_some (inr l) n = l

module _ (t : Trainer) where
  pub kept_some : (kept : ℕ) → Kept t kept → (kept ≡ none → ⊥) → kept < length (candidates_of t.settings (leaf_action t))
  kept_some kept (inl e) n = absurd (n e)
  kept_some kept (inr l) n = l

  pub adopted_valid : (k : ℕ) (c : Action) → Scoring t → k < length (candidates_of t.settings (leaf_action t))
      → c ≡ get_or (candidates_of t.settings (leaf_action t)) k no_candidate → valid_of (action_at (with_action t.tree t.leaf c) t.leaf) ≡ true
  adopted_valid k c s l e =
      ap (λ (x : Node). valid_of (action_in x)) (action_at_lem t.tree t.leaf c (leaf_whole t s))
      ∙ ap valid_of e
      ∙ candidate_valid t.settings (leaf_action t) k no_candidate s.settings l
