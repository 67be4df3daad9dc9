-- A trainer that starts from fitting settings fits its types, and so does each trainer that an answer or new settings make of it. Assumes nothing.
use mathlib.Core.Path.{◌≡◌}
use mathlib.Core.Bool.{Bool, true, false, not, ◌&&◌, cond}
use mathlib.Core.List.{List}
use mathlib.Core.Logic.{⊎_elim}
use Prim.Native.Nat.{ℕ, ◌+◌, ◌<◌}
use native.Mathlib.Omega.{arith}
use borrow.Author.Tests.{eqb-true}
use lib.Dec.{T, eqb, ltb, leb}
use lib.ListN.{length, get_or}
use lib.Ieee.{Float, binary64, fits}
use Rattle.std.specs.Prelude.{Option, Some, None, Result, Ok, IfOk}
use Rattle.std.proofs.lemmas.Result.{IfOk-at_ok}
use Rattle.refusal.specs.declared.Refusal.{Refusal}
use Rattle.refusal.specs.Guards.{Check, checked}
use Rattle.refusal.proofs.Guards.{in_each}
use Rattle.rule_tree.specs.declared.RuleTree.{RuleTree}
use Rattle.rule_tree.specs.Lists.{total}
use Rattle.rule_tree.specs.Nodes.{node_at_of, action_in}
use Rattle.rule_tree.specs.Counts.{used_in}
use Rattle.rule_tree.specs.Change.{fresh_tree, with_action, with_mark, without_marks}
use Rattle.rule_tree.proofs.GrownTree.{leaf_below}
use Rattle.rule_tree_laws.proofs.Sound.{TreeFits}
use Rattle.trainer.specs.declared.settings.Settings.{Settings}
use Rattle.trainer.specs.declared.Trainer.{Trainer}
use Rattle.trainer.specs.Settings.{settings_hold}
use Rattle.trainer.specs.Candidates.{candidates_of, no_candidate}
use Rattle.trainer.specs.State.{none, stand, at_leaf_of, zero_bits_of, untried_in, untried, idle, leaf_action, leaf_holds, try_holds_of, splitting, tuning, ending, accepted_of}
use Rattle.trainer.specs.Phases.{begin_stage, begin_round, most_used_in, split_most_used, room_order, phase1, phase2, next_round, tune_next, marked, try_from, keeps, after_last, tried, phase5}
use Rattle.trainer.specs.Change.{changed_to, change_order, change_of}
use Rattle.trainer.specs.Calls.{started, wants_score, counts_step_of, counts_order, answer_counts_of, score_step, score_order, answer_score_of}
use Rattle.trainer.proofs.Holds.{and_left, and_right}
use Rattle.trainer.proofs.CandidateLaws.{candidates_few}
use Rattle.trainer.proofs.AcceptedFacts.{phase_cases, accepted_settings, accepted_phase, accepted_few, accepted_bounds, leaf_named, k_listed, kept_listed}
use Rattle.record.proofs.Stands.{SettingsFits}
use Rattle.record.proofs.RoundTrip.{TrainerFits}
use Rattle.record.proofs.BytesFit.{zero-fits}
use Rattle.record.proofs.TreesFit.{candidate_fits, split_fits, act_fits, mark_fits, clear_fits, fresh_fits}

-- ---- trainers: what a call can change
pub record Fit (t : Trainer) : Type 0 where
  pub settings : SettingsFits t.settings
  pub tree : TreeFits t.tree
  pub best : T (fits binary64 t.best)
  pub score : T (fits binary64 t.kept_score)

either : (b : Bool) (x y : Trainer) → Fit x → Fit y → Fit (cond b x y)
either true x y f g = f
either false x y f g = g

-- an answer whose trainer fits, if it has one
abbrev Fits : Result Trainer Refusal → Type 0
Fits r = IfOk r Fit

answered : (ts : List Check) (r : Result Trainer Refusal) → Fits r → Fits (checked ts r)
answered ts r f = in_each r Fits (λ e. tt) f ts

choice : (b : Bool) (x y : Result Trainer Refusal) → Fits x → Fits y → Fits (cond b x y)
choice true x y f g = f
choice false x y f g = g

module _ (s : Settings) (f : SettingsFits s) (t : RuleTree) (g : TreeFits t) where
  stand_fits : (p i r : ℕ) → Fit (stand s t p i r)
  stand_fits p i r = record { settings = f; tree = g; best = zero-fits; score = zero-fits }

  stage_fits : (i : ℕ) → Fit (begin_stage s t i)
  unfolding begin_stage
  stage_fits i = either (ltb s.rule_splits i) _ _ (stand_fits 6 i 0) (stand_fits 1 i 0)

  round-fits : (i r : ℕ) → Fit (begin_round s t i r)
  unfolding begin_round
  round-fits i r = either (ltb r s.optimization_rounds_per_split) _ _ (stand_fits 3 i r) (stage_fits (i + 1))

module _ (t : Trainer) (f : Fit t) where
  -- ---- counts
  module _ (xs : List ℕ) where
    one_fits : Fits (phase1 t xs)
    unfolding phase1
    one_fits =
        let tree = split_most_used t.tree xs in
        let g = split_fits t.tree f.tree _ in
        answered (room_order t) _
        (either (t.settings.drill_down && leb (used_in xs) 1) _ _ (stand_fits t.settings f.settings tree g 2 t.stage 0)
        (round-fits t.settings f.settings tree g t.stage 0))

    two_fits : Fits (phase2 t xs)
    unfolding phase2
    two_fits =
        choice (ltb 1 (used_in xs)) _ _ (round-fits t.settings f.settings t.tree f.tree t.stage 0)
        (answered (room_order t) _
        (stand_fits t.settings f.settings (split_most_used t.tree xs) (split_fits t.tree f.tree _) 2 t.stage 0))

    next_fits : Fit (next_round t)
    next_fits = round-fits t.settings f.settings (without_marks t.tree) (clear_fits t.tree f.tree) t.stage (t.round + 1)

    tune_fits : (m : Option ℕ) → Fit (tune_next t xs m)
    unfolding tune_next
    tune_fits (Some i) =
        either (eqb (get_or xs i 0) 0 && not (eqb (total xs) 0)) _ _ next_fits
        (record { settings = f.settings; tree = f.tree; best = zero-fits; score = zero-fits })
    tune_fits None = next_fits

    step_fits : Fits (counts_step_of t xs)
    unfolding counts_step_of
    step_fits =
        choice (eqb t.phase 1) _ _ one_fits
        (choice (eqb t.phase 2) _ _ two_fits
        (choice (eqb t.phase 3) _ _ (tune_fits (most_used_in t.tree xs true)) (stand_fits t.settings f.settings t.tree f.tree 7 t.stage 0)))

    counts_fit : Fits (answer_counts_of t xs)
    unfolding answer_counts_of
    counts_fit = answered (counts_order t xs) _ step_fits

  -- ---- a score
  module _ (h : settings_hold t.settings ≡ true) where
    marked_fits : (tree : RuleTree) → TreeFits tree → Fit (marked t tree)
    marked_fits tree g = stand_fits t.settings f.settings (with_mark tree t.leaf) (mark_fits tree g t.leaf) 3 t.stage t.round

    from_fits : (tree : RuleTree) (best : Float) → TreeFits tree → T (fits binary64 best) → Fit (try_from t tree best)
    unfolding try_from
    from_fits tree best g b =
        either (eqb (length (candidates_of t.settings (action_in (node_at_of tree.nodes t.leaf)))) 0) _ _ (marked_fits tree g)
        (record { settings = f.settings; tree = g; best = b; score = zero-fits })

    last_fits : (kept : ℕ) (score : Float) → T (fits binary64 score) → Fit (after_last t kept score)
    unfolding after_last
    last_fits kept score b =
        let c = get_or (candidates_of t.settings (leaf_action t)) kept no_candidate in
        either (eqb kept none) _ _ (marked_fits t.tree f.tree)
        (from_fits (with_action t.tree t.leaf c) score
        (act_fits t.tree f.tree t.leaf c (candidate_fits t.settings (leaf_action t) kept h)) b)

    tried_fits : (kept : ℕ) (score : Float) → T (fits binary64 score) → Fit (tried t kept score)
    unfolding tried
    tried_fits kept score b =
        either (ltb (t.k + 1) (length (candidates_of t.settings (leaf_action t)))) _ _
        (record { settings = f.settings; tree = f.tree; best = f.best; score = b })
        (last_fits kept score b)

    module _ (x : Float) (b : T (fits binary64 x)) where
      five_fits : Fit (phase5 t x)
      unfolding phase5
      five_fits = either (keeps t x) _ _ (tried_fits t.k x b) (tried_fits t.kept t.kept_score f.score)

      tries_fit : Fit (score_step t x)
      unfolding score_step
      tries_fit = either (eqb t.phase 4) _ _ (from_fits t.tree x f.tree b) five_fits

      score_fit : Fits (answer_score_of t x)
      unfolding answer_score_of
      score_fit = answered (score_order t) _ tries_fit

  -- ---- new settings
  module _ (s : Settings) (g : SettingsFits s) where
    new_fits : Fit (changed_to t s)
    unfolding changed_to
    new_fits =
        either (wants_score t.phase) (at_leaf_of s t.tree t.stage t.round t.leaf) (stand s t.tree t.phase t.stage t.round)
        (record { settings = g; tree = f.tree; best = zero-fits; score = zero-fits }) (stand_fits s g t.tree f.tree t.phase t.stage t.round)

    change_fit : Fits (change_of t s)
    unfolding change_of
    change_fit = answered (change_order t s) _ new_fits

-- ---- the numbers of an accepted trainer
abbrev Small : Trainer → Type 0
Small t = (t.leaf < 513) × (t.k < 4096) × (t.kept < 65536)

untried_small : (t : Trainer) → untried t ≡ true → (t.k < 4096) × (t.kept < 65536)
unfolding untried_in
untried_small t h =
    let i = and_right (zero_bits_of t.best) _ h in
    let j = and_right (eqb t.k 0) _ i in
    let k = eqb-true t.k 0 (and_left (eqb t.k 0) _ i) in
    let n = eqb-true t.kept none (and_left (eqb t.kept none) _ j) in
    (omega arith, omega arith)

idle_small : (t : Trainer) → idle t ≡ true → Small t
idle_small t h =
    let l = eqb-true t.leaf 0 (and_left (eqb t.leaf 0) (untried t) h) in
    let u = untried_small t (and_right (eqb t.leaf 0) (untried t) h) in
    (omega arith, u.0, u.1)

module _ (t : Trainer) (a : accepted_of t ≡ true) where
  leaf_small : leaf_holds t ≡ true → t.leaf < 513
  leaf_small h = omega (arith, leaf_below t.tree t.leaf (leaf_named t h), accepted_few t a)

  splitting_small : splitting t ≡ true → Small t
  unfolding splitting
  splitting_small h =
      idle_small t (and_right (eqb t.round 0) (idle t) (and_right (leb t.stage t.settings.rule_splits) _ (and_right (leb 1 t.stage) _ h)))

  ending_small : ending t ≡ true → Small t
  unfolding ending
  ending_small h = idle_small t (and_right (eqb t.round 0) (idle t) (and_right (eqb t.stage (t.settings.rule_splits + 1)) _ h))

  asking_small : tuning t && (leaf_holds t && untried t) ≡ true → Small t
  asking_small h =
      let q = and_right (tuning t) (leaf_holds t && untried t) h in
      let u = untried_small t (and_right (leaf_holds t) (untried t) q) in
      (leaf_small (and_left (leaf_holds t) (untried t) q), u.0, u.1)

  trying_small : tuning t && (leaf_holds t && try_holds_of t) ≡ true → Small t
  trying_small h =
      let q = and_right (tuning t) (leaf_holds t && try_holds_of t) h in
      let w = and_right (leaf_holds t) (try_holds_of t) q in
      let few = candidates_few t.settings (leaf_action t) in (
        leaf_small (and_left (leaf_holds t) (try_holds_of t) q),
        omega (arith, k_listed t w),
        ⊎_elim (λ (e : t.kept ≡ none). omega arith) (λ (l : t.kept < length (candidates_of t.settings (leaf_action t))). omega arith) (kept_listed t w),
      )

  accepted_small : Small t
  accepted_small =
      phase_cases t.phase (splitting t) (tuning t && idle t) (tuning t && (leaf_holds t && untried t)) (tuning t && (leaf_holds t && try_holds_of t)) (ending t)
      (accepted_phase t a) splitting_small (λ q. idle_small t (and_right (tuning t) (idle t) q)) asking_small trying_small ending_small

  pub whole_fits : Fit t → TrainerFits t
  whole_fits f =
      let b = accepted_bounds t a in
      let n = accepted_small in
      record {
        settings = f.settings;
        tree = f.tree;
        stage = omega arith;
        round = omega arith;
        leaf = omega arith;
        best = f.best;
        k = omega arith;
        kept = omega arith;
        score = f.score;
      }

-- ---- a start, the answers, and new settings
part : (t : Trainer) → TrainerFits t → Fit t
part t f = record { settings = f.settings; tree = f.tree; best = f.best; score = f.score }

pub started_fits : (s : Settings) → SettingsFits s → accepted_of (started s) ≡ true → TrainerFits (started s)
started_fits s f a =
    whole_fits (started s) a (round-fits s f (fresh_tree s.ends s.default_action) (fresh_fits s.ends s.default_action f.ends f.default) 0 0)

pub counted_fits : (t : Trainer) (xs : List ℕ) (u : Trainer) → TrainerFits t → answer_counts_of t xs ≡ Ok u → accepted_of u ≡ true → TrainerFits u
counted_fits t xs u f e a = whole_fits u a (IfOk-at_ok Fit e (counts_fit t (part t f) xs))

pub scored_fits : (t : Trainer) (x : Float) (u : Trainer) → TrainerFits t → T (fits binary64 x) → accepted_of t ≡ true → answer_score_of t x ≡ Ok u
    → accepted_of u ≡ true → TrainerFits u
scored_fits t x u f b h e a = whole_fits u a (IfOk-at_ok Fit e (score_fit t (part t f) (accepted_settings t h) x b))

pub changed_fits : (t : Trainer) (s : Settings) (u : Trainer) → TrainerFits t → SettingsFits s → change_of t s ≡ Ok u → accepted_of u ≡ true → TrainerFits u
changed_fits t s u f g e a = whole_fits u a (IfOk-at_ok Fit e (change_fit t (part t f) s g))
