-- The trainer that asks for another candidate of the same leaf is accepted, and asks for the candidates from there on. Assumes nothing.
use mathlib.Core.Path.{◌≡◌, refl, ◌∙◌}
use mathlib.Core.Bool.{true, ◌&&◌}
use Prim.Native.Nat.{ℕ, ◌<◌}
use native.Mathlib.Omega.{arith}
use borrow.Author.Tests.{lt-ltb}
use lib.Dec.{ltb}
use lib.ListN.{length, drop}
use lib.Ieee.{Float}
use Rattle.rule_tree.specs.Grown.{grown_of}
use Rattle.trainer.specs.declared.Trainer.{Trainer}
use Rattle.trainer.specs.Settings.{settings_hold}
use Rattle.trainer.specs.Candidates.{candidates_of}
use Rattle.trainer.specs.State.{trying, kept_in, leaf_action, leaf_holds, try_holds_of, tuning, box_holds, phase_holds, accepted_of}
use Rattle.rule_tree.proofs.Counting.{and_both}
use Rattle.trainer.proofs.AcceptWays.{accepted_is, phase_is}
use Rattle.trainer.proofs.AcceptedFacts.{accepted_settings, accepted_grown, accepted_box}
use Rattle.host_lists.specs.Lists.{asked_in_a_row}
use Rattle.host_lists.proofs.Rows.{asked_five}

-- ---- the trainer that asks for candidate k of the same leaf
module _ (t : Trainer) (best : Float) (k kept : ℕ) (score : Float) where
  abbrev pub next : Trainer
  next = trying t.settings t.tree t.stage t.round t.leaf best k kept score

  next_box : box_holds t ≡ true → box_holds next ≡ true
  unfolding box_holds
  next_box h = h

  next_tunes : tuning t ≡ true → tuning next ≡ true
  unfolding tuning
  next_tunes h = h

  next_leaf : leaf_holds t ≡ true → leaf_holds next ≡ true
  unfolding leaf_holds
  next_leaf h = h

  next_tries : k < length (candidates_of t.settings (leaf_action t)) → kept_in best k kept score ≡ true → try_holds_of next ≡ true
  unfolding try_holds_of
  next_tries l q =
      and_both (ltb k (length (candidates_of t.settings (leaf_action t)))) (kept_in best k kept score)
      (lt-ltb k (length (candidates_of t.settings (leaf_action t))) l) q

  pub next_accepted : accepted_of t ≡ true → tuning t ≡ true → leaf_holds t ≡ true → k < length (candidates_of t.settings (leaf_action t))
      → kept_in best k kept score ≡ true → accepted_of next ≡ true
  next_accepted h u v l q =
      accepted_is next
      ∙ and_both (settings_hold t.settings) (grown_of t.tree && (box_holds next && phase_holds next)) (accepted_settings t h)
      (and_both (grown_of t.tree) (box_holds next && phase_holds next) (accepted_grown t h)
      (and_both (box_holds next) (phase_holds next) (next_box (accepted_box t h))
      (phase_is next ∙ and_both (tuning next) (leaf_holds next && try_holds_of next) (next_tunes u) (and_both (leaf_holds next) (try_holds_of next) (next_leaf v) (next_tries l q)))))

  pub next_row : asked_in_a_row next ≡ drop k (candidates_of t.settings (leaf_action t))
  next_row = asked_five next (λ e. absurd (let q : ◌≡◌ {A = ℕ} 5 4 = e in omega arith)) refl
