-- The state's fields are accepted, one by one, exactly where the trainer that is read holds what its phase asks, and best is no other NaN.
-- Assumes nothing.
use mathlib.Core.Path.{◌≡◌, refl, sym, ap, ◌∙◌}
use mathlib.Core.Bool.{Bool, true, false, not, ◌&&◌, cond}
use mathlib.Core.List.{List}
use mathlib.Core.Logic.{⊎_elim}
use Prim.Native.Nat.{ℕ, ◌+◌, ◌<◌, ◌≤◌}
use borrow.Author.Tests.{eqb-true, lt-ltb, le-ltb, ltb-true}
use lib.Dec.{eqb, ltb, leb}
use lib.Ieee.{lt}
use lib.ListN.{length, get_or}
use Rattle.remy.specs.declared.action.Action.{Action}
use Rattle.rule_tree.specs.declared.Node.{Node}
use Rattle.rule_tree.specs.Lists.{tabulate}
use Rattle.rule_tree.specs.Nodes.{node_at_of, node_count, is_leaf_of, action_in}
use Rattle.rule_tree.specs.Calls.{leaf_in}
use Rattle.rule_tree.proofs.Owners.{below_or_not}
use Rattle.rule_tree.proofs.Plain.{and_l, and_r}
use Rattle.trainer.specs.declared.Trainer.{Trainer}
use Rattle.trainer.specs.Candidates.{candidates_of}
use Rattle.trainer.specs.State.{none, zero_bits_of, untried_in, leaf_action, leaf_holds, kept_in, try_holds_of, splitting, tuning, ending, phase_holds}
use Rattle.record.specs.declared.inner.layout.Layout.{Layout}
use Rattle.wire.specs.Bytes.{number_at}
use Rattle.record.specs.Layout.{list_place}
use Rattle.wire.specs.Fields.{action_at, flag_at}
use Rattle.record.specs.Read.{settings_at, link_of, payload_place, node_at_place, tree_at, state_at}
use Rattle.record.specs.Accepted.{phase_accepted, stage_accepted, unmarked_leaf, leaf_accepted, best_accepted, tried_accepted, kept_accepted, list_length, state_accepted, nan_accepted}
use Rattle.record.proofs.NumbersAgain.{Bytes, zero_same, number_below}
use Rattle.record.proofs.TreeRead.{leaf_carried, used_link, carried_read}
use Rattle.record.proofs.PhaseTest.{phase_by, fields_by, by_phase}

-- ---- a leaf that is read
module _ (lay : Layout) (a : Action) (bytes : List ℕ) (s : ℕ) (few : s ≤ 64) where
  abbrev nodes : List Node
  nodes = tabulate 513 (node_at_place lay a bytes s)

  unmarked_used : (i : ℕ) → i < node_count s → (b : Bool) → eqb (link_of bytes (list_place lay) s i) 0 ≡ b
      → is_leaf_of nodes i && not (node_at_of nodes i).optimized ≡ b && not (flag_at bytes (payload_place lay bytes s i + 20))
  unmarked_used i l true e =
      let z = eqb-true (link_of bytes (list_place lay) s i) 0 e in
      let q = carried_read lay a bytes s few i l (leaf_carried lay (link_of bytes (list_place lay) s i) z) in
      ap (λ (x : Node). eqb x.children 0 && not x.optimized) q
      ∙ ap (λ (b : Bool). b && not (flag_at bytes (payload_place lay bytes s i + 20))) e
  unmarked_used i l false e =
      ap (λ (k : ℕ). eqb k 0 && not (node_at_of nodes i).optimized) (used_link lay a bytes s few i l)
      ∙ ap (λ (b : Bool). b && not (node_at_of nodes i).optimized) e

  unmarked_is : (i : ℕ) → leaf_in (tree_at lay a bytes s) i && not (node_at_of nodes i).optimized ≡ unmarked_leaf lay bytes s i
  unfolding unmarked_leaf
  unmarked_is i =
      ⊎_elim
      (λ (l : i < node_count s). rw (lt-ltb i (node_count s) l) (unmarked_used i l (eqb (link_of bytes (list_place lay) s i) 0) refl))
      (λ (l : node_count s ≤ i). rw (le-ltb i (node_count s) l))
      (below_or_not i (node_count s))

  unmarked_action : (i : ℕ) → unmarked_leaf lay bytes s i ≡ true → action_in (node_at_of nodes i) ≡ action_at bytes (payload_place lay bytes s i)
  unfolding unmarked_leaf
  unmarked_action i h =
      let l = ltb-true i (node_count s) (and_l (ltb i (node_count s)) _ h) in
      let z = eqb-true _ 0 (and_l (eqb (link_of bytes (list_place lay) s i) 0) _ (and_r (ltb i (node_count s)) _ h)) in
      ap action_in (carried_read lay a bytes s few i l (leaf_carried lay (link_of bytes (list_place lay) s i) z))

-- ---- the state that stands at a place
-- what the phase does not ask: in 5, that best is no other NaN
abbrev pub best_number : List ℕ → ℕ → Bool
best_number bytes at =
    cond (eqb (get_or bytes at 0) 5) (nan_accepted (number_at bytes (at + 11) 8)) true

module _ (lay : Layout) (a : Action) (bytes : List ℕ) (s at : ℕ) (few : s ≤ 64) (all : Bytes bytes) where
  abbrev t : Trainer
  t = state_at (settings_at lay bytes 5) (tree_at lay a bytes s) bytes at

  abbrev leaf : ℕ
  leaf = number_at bytes (at + 9) 2

  fields_are : state_accepted lay bytes s at
      ≡ fields_by t.phase (leb 1 t.stage) (leb t.stage t.settings.rule_splits) (eqb t.stage (t.settings.rule_splits + 1))
      (eqb t.round 0) (ltb t.round t.settings.optimization_rounds_per_split) (eqb leaf 0) (unmarked_leaf lay bytes s leaf)
      (eqb (number_at bytes (at + 11) 8) 0)
      (nan_accepted (number_at bytes (at + 11) 8))
      (eqb t.k 0) (ltb t.k (list_length lay bytes s leaf)) (eqb t.kept none) (eqb (number_at bytes (at + 23) 8) 0)
      (ltb t.kept t.k && lt t.best t.kept_score)
  unfolding state_accepted phase_accepted stage_accepted leaf_accepted best_accepted tried_accepted kept_accepted
  fields_are = refl

  phase_is : phase_holds t
      ≡ phase_by t.phase (leb 1 t.stage) (leb t.stage t.settings.rule_splits) (eqb t.stage (t.settings.rule_splits + 1))
      (eqb t.round 0) (ltb t.round t.settings.optimization_rounds_per_split) (eqb leaf 0) (leaf_in t.tree leaf && not (node_at_of t.tree.nodes leaf).optimized)
      (zero_bits_of t.best) (eqb t.k 0) (ltb t.k (length (candidates_of t.settings (leaf_action t)))) (eqb t.kept none)
      (zero_bits_of t.kept_score) (ltb t.kept t.k && lt t.best t.kept_score)
  unfolding phase_holds splitting tuning ending leaf_holds try_holds_of untried_in kept_in
  phase_is = refl

  -- the phase's rules, with the tests of leaf, best and score as they are made
  abbrev phase_with : Bool → Bool → Bool → Bool
  phase_with unmarked best0 score0 =
      phase_by t.phase (leb 1 t.stage) (leb t.stage t.settings.rule_splits) (eqb t.stage (t.settings.rule_splits + 1))
      (eqb t.round 0) (ltb t.round t.settings.optimization_rounds_per_split) (eqb leaf 0) unmarked best0 (eqb t.k 0)
      (ltb t.k (length (candidates_of t.settings (leaf_action t)))) (eqb t.kept none) score0
      (ltb t.kept t.k && lt t.best t.kept_score)

  phase_same : phase_holds t ≡ phase_with (unmarked_leaf lay bytes s leaf) (eqb (number_at bytes (at + 11) 8) 0) (eqb (number_at bytes (at + 23) 8) 0)
  phase_same =
      phase_is
      ∙ ap (λ (b : Bool). phase_with b (zero_bits_of t.best) (zero_bits_of t.kept_score)) (unmarked_is lay a bytes s few leaf)
      ∙ ap (λ (b : Bool). phase_with (unmarked_leaf lay bytes s leaf) b (zero_bits_of t.kept_score))
      (zero_same (number_at bytes (at + 11) 8) (number_below bytes (at + 11) 8 all))
      ∙ ap (λ (b : Bool). phase_with (unmarked_leaf lay bytes s leaf) (eqb (number_at bytes (at + 11) 8) 0) b)
      (zero_same (number_at bytes (at + 23) 8) (number_below bytes (at + 23) 8 all))

  list_same : unmarked_leaf lay bytes s leaf ≡ true → ltb t.k (list_length lay bytes s leaf) ≡ ltb t.k (length (candidates_of t.settings (leaf_action t)))
  list_same h = ap (λ (x : Action). ltb t.k (length (candidates_of t.settings x))) (sym (unmarked_action lay a bytes s few leaf h))

  pub state_is : state_accepted lay bytes s at ≡ phase_holds t && best_number bytes at
  state_is =
      fields_are
      ∙ by_phase (leb 1 t.stage) (leb t.stage t.settings.rule_splits) (eqb t.stage (t.settings.rule_splits + 1))
      (eqb t.round 0) (ltb t.round t.settings.optimization_rounds_per_split) (eqb leaf 0) (unmarked_leaf lay bytes s leaf)
      (eqb (number_at bytes (at + 11) 8) 0)
      (nan_accepted (number_at bytes (at + 11) 8))
      (eqb t.k 0) (ltb t.k (list_length lay bytes s leaf)) (ltb t.k (length (candidates_of t.settings (leaf_action t))))
      (eqb t.kept none) (eqb (number_at bytes (at + 23) 8) 0) (ltb t.kept t.k && lt t.best t.kept_score)
      list_same t.phase
      ∙ ap (λ (b : Bool). b && best_number bytes at) (sym phase_same)
