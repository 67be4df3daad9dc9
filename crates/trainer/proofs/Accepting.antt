-- A trainer never leaves the accepted states: a start is accepted, and so is what each answer leaves. Assumes nothing.
use mathlib.Core.Path.{◌≡◌, refl, sym, ap, ◌∙◌}
use mathlib.Core.Bool.{Bool, true, false, not, ◌&&◌, ◌||◌, cond}
use mathlib.Core.Logic.{inr}
use mathlib.Core.List.{List}
use Prim.Native.Nat.{ℕ, ◌+◌, ◌<◌, ◌≤◌}
use Rattle.std.specs.Prelude.{Option, Some, None, Ok, Err, IfOk}
use Rattle.refusal.specs.declared.Refusal.{Refusal}
use Rattle.refusal.specs.declared.Refusal.TheVariants.{BadCounts, FullTree, NotAsked, NotGrown}
use native.Mathlib.Omega.{arith}
use borrow.Author.Tests.{lt-ltb, le-leb, eq-eqb, ne_eqb, eqb-true, eqb-false, ltb-true, ltb-false, leb-true}
use lib.Dec.{eqb, leb, ltb}
use lib.ListN.{length, get_or}
use lib.Ieee.{Float, to_bits, lt, le}
use Rattle.remy.specs.declared.action.Action.{Action}
use Rattle.remy.specs.Action.{valid_of}
use Rattle.remy.specs.Cube as cube
use Rattle.remy.proofs.Ends.{ends_themselves}
use Rattle.rule_tree.proofs.Plain.{ends_admitted_lem}
use Rattle.rule_tree.specs.declared.Node.{Node}
use Rattle.rule_tree.specs.declared.RuleTree.{RuleTree}
use Rattle.rule_tree.specs.Lists.{total}
use Rattle.rule_tree.specs.Nodes.{node_at_of}
use Rattle.rule_tree.specs.Change.{fresh_tree, with_action, with_mark, without_marks, split_at_of}
use Rattle.rule_tree.specs.Counts.{counts_hold, used_in}
use Rattle.rule_tree.specs.Grown.{grown_of}
use Rattle.rule_tree.specs.Calls.{leaf_in}
use Rattle.rule_tree.proofs.Counting.{and_both, most_used_leaf, eligible_plain}
use Rattle.rule_tree.proofs.GrownTree.{chosen_leaf_lem, chosen_found}
use Rattle.rule_tree.proofs.Changing.{action_length, action_at_lem, action_leaves, action_grown, mark_length, mark_grown, clear_length, clear_grown, fresh_length, fresh_grown, split_length, split_grown}
use Rattle.trainer.specs.declared.settings.Settings.{Settings}
use Rattle.trainer.specs.declared.Trainer.{Trainer}
use Rattle.trainer.specs.Settings.{actions_hold, settings_hold}
use Rattle.trainer.specs.Candidates.{candidates_of, no_candidate}
use Rattle.trainer.specs.State.{none, stand, at_leaf_of, trying, zero_bits_of, untried_in, untried, idle, kept_in, kept_holds, leaf_action, leaf_holds, try_holds_of, splitting, tuning, ending, box_holds, phase_holds, accepted_of}
use Rattle.trainer.specs.Phases.{begin_stage, begin_round, most_used_in, chosen_leaf, split_most_used, phase1, phase2, next_round, tune_next, phase3, phase6, marked, try_from, keeps, after_last, tried, phase5}
use Rattle.trainer.specs.Calls.{started, wants_counts, wants_score, counts_step_of, answer_counts_of, score_step, answer_score_of}
use Rattle.trainer.specs.Fields.{action_at, leaf_holds_in, Kept, Scoring}
use Rattle.trainer.proofs.Holds.{and_left, and_right, parts}
use Rattle.trainer.proofs.CandidateLaws.{candidate_valid, candidates_few}
use Rattle.trainer.proofs.AcceptWays.{above, accepted_is, phase_is, phase_split, phase_choose, phase_end, leaf_is}
use Rattle.trainer.proofs.AcceptedFacts.{accepted_settings, accepted_grown, accepted_box, accepted_phase, asking_tunes, trying_tunes, asking_leaf, trying_leaf, try_holds, scoring_try, leaf_whole, k_listed, kept_holds_lem, kept_listed, score_five}
use Rattle.trainer.proofs.Steps.{kept_some}

-- a tree of 513 slots, as every tree of the code is, with the settings' upper ends
pub record Sound (s : Settings) (t : RuleTree) : Type 0 where
  pub grown : grown_of t ≡ true
  pub box : cube.point_equal t.ends s.ends ≡ true
  pub whole : length t.nodes ≡ 513

pub record Held (t : Trainer) : Type 0 where
  pub accepted : accepted_of t ≡ true
  pub whole : length t.tree.nodes ≡ 513

made : (t : Trainer) → settings_hold t.settings ≡ true → Sound t.settings t.tree → phase_holds t ≡ true → Held t
unfolding box_holds
made t s g p =
    record {
      accepted =
          accepted_is t
          ∙ and_both (settings_hold t.settings) (grown_of t.tree && (box_holds t && phase_holds t)) s
          (and_both (grown_of t.tree) (box_holds t && phase_holds t) g.grown (and_both (box_holds t) (phase_holds t) g.box p));
      whole = g.whole;
    }

pub held_sound : (t : Trainer) → Held t → Sound t.settings t.tree
unfolding box_holds
held_sound t a = record { grown = accepted_grown t a.accepted; box = accepted_box t a.accepted; whole = a.whole }

-- ---- stage and round
tuning_from : (t : Trainer) → t.stage ≤ t.settings.rule_splits → t.round < t.settings.optimization_rounds_per_split → tuning t ≡ true
unfolding tuning
tuning_from t a b = rw (le-leb t.stage t.settings.rule_splits a, lt-ltb t.round t.settings.optimization_rounds_per_split b)

pub tuning_parts : (t : Trainer) → tuning t ≡ true → (t.stage ≤ t.settings.rule_splits) × (t.round < t.settings.optimization_rounds_per_split)
unfolding tuning
tuning_parts t h = (
  leb-true t.stage t.settings.rule_splits (and_left (leb t.stage t.settings.rule_splits) _ h),
  ltb-true t.round t.settings.optimization_rounds_per_split (and_right (leb t.stage t.settings.rule_splits) _ h),
)

splitting_from : (t : Trainer) → 1 ≤ t.stage → t.stage ≤ t.settings.rule_splits → t.round ≡ 0 → idle t ≡ true → splitting t ≡ true
unfolding splitting
splitting_from t a b e i = rw (le-leb 1 t.stage a, le-leb t.stage t.settings.rule_splits b, eq-eqb t.round 0 e) i

pub splitting_parts : (t : Trainer) → splitting t ≡ true → (1 ≤ t.stage) × (t.stage ≤ t.settings.rule_splits)
unfolding splitting
splitting_parts t h =
    let i = and_right (leb 1 t.stage) _ h in (
      leb-true 1 t.stage (and_left (leb 1 t.stage) _ h),
      leb-true t.stage t.settings.rule_splits (and_left (leb t.stage t.settings.rule_splits) _ i),
    )

ending_from : (t : Trainer) → t.stage ≡ t.settings.rule_splits + 1 → t.round ≡ 0 → idle t ≡ true → ending t ≡ true
unfolding ending
ending_from t a e i = rw (eq-eqb t.stage (t.settings.rule_splits + 1) a, eq-eqb t.round 0 e) i

pub ending_parts : (t : Trainer) → ending t ≡ true → t.stage ≡ t.settings.rule_splits + 1
unfolding ending
ending_parts t h = eqb-true t.stage (t.settings.rule_splits + 1) (and_left (eqb t.stage (t.settings.rule_splits + 1)) _ h)

-- ---- what the steps make is accepted
pub nothing_kept : (best : Float) → kept_in best 0 none cube.zero ≡ true
unfolding kept_in to_bits
nothing_kept best = refl

module _ (s : Settings) (t : RuleTree) (h : settings_hold s ≡ true) (g : Sound s t) where
  stand_idle : (p i r : ℕ) → idle (stand s t p i r) ≡ true
  unfolding untried_in to_bits
  stand_idle p i r = refl

  leaf_untried : (i r l : ℕ) → untried (at_leaf_of s t i r l) ≡ true
  unfolding untried_in to_bits
  leaf_untried i r l = refl

  pub stand_one : (i : ℕ) → 1 ≤ i → i ≤ s.rule_splits → Held (stand s t 1 i 0)
  stand_one i a b = made (stand s t 1 i 0) h g (phase_is (stand s t 1 i 0) ∙ splitting_from (stand s t 1 i 0) a b refl (stand_idle 1 i 0))

  pub stand_two : (i : ℕ) → 1 ≤ i → i ≤ s.rule_splits → Held (stand s t 2 i 0)
  stand_two i a b = made (stand s t 2 i 0) h g (phase_is (stand s t 2 i 0) ∙ splitting_from (stand s t 2 i 0) a b refl (stand_idle 2 i 0))

  pub stand_three : (i r : ℕ) → i ≤ s.rule_splits → r < s.optimization_rounds_per_split → Held (stand s t 3 i r)
  stand_three i r a b =
      made (stand s t 3 i r) h g
      (phase_is (stand s t 3 i r)
      ∙ and_both (tuning (stand s t 3 i r)) (idle (stand s t 3 i r)) (tuning_from (stand s t 3 i r) a b) (stand_idle 3 i r))

  stand_six : (i : ℕ) → i ≡ s.rule_splits + 1 → Held (stand s t 6 i 0)
  stand_six i a = made (stand s t 6 i 0) h g (phase_is (stand s t 6 i 0) ∙ ending_from (stand s t 6 i 0) a refl (stand_idle 6 i 0))

  stand_seven : (i : ℕ) → i ≡ s.rule_splits + 1 → Held (stand s t 7 i 0)
  stand_seven i a = made (stand s t 7 i 0) h g (phase_is (stand s t 7 i 0) ∙ ending_from (stand s t 7 i 0) a refl (stand_idle 7 i 0))

  pub leaf_held : (i r l : ℕ) → i ≤ s.rule_splits → r < s.optimization_rounds_per_split → leaf_holds_in t l ≡ true → Held (at_leaf_of s t i r l)
  leaf_held i r l a b u =
      let x = at_leaf_of s t i r l in
      made x h g
      (phase_is x
      ∙ and_both (tuning x) (leaf_holds x && untried x) (tuning_from x a b)
      (and_both (leaf_holds x) (untried x) (sym (leaf_is x) ∙ u) (leaf_untried i r l)))

  try-held :
      (i r l : ℕ) (best : Float) (k kept : ℕ) (score : Float) → i ≤ s.rule_splits → r < s.optimization_rounds_per_split → leaf_holds_in t l ≡ true
      → k < length (candidates_of s (action_at t l)) → kept_in best k kept score ≡ true → Held (trying s t i r l best k kept score)
  unfolding try_holds_of
  try-held i r l best k kept score a b u n m =
      let x = trying s t i r l best k kept score in
      made x h g
      (phase_is x
      ∙ and_both (tuning x) (leaf_holds x && try_holds_of x) (tuning_from x a b)
      (and_both (leaf_holds x) (try_holds_of x) (sym (leaf_is x) ∙ u)
      (and_both (ltb k (length (candidates_of s (action_at t l)))) (kept_holds x) (lt-ltb k (length (candidates_of s (action_at t l))) n) m)))

  stage_held : (i : ℕ) → 1 ≤ i → i ≤ s.rule_splits + 1 → Held (begin_stage s t i)
  unfolding begin_stage
  stage_held i a b = go (ltb s.rule_splits i) refl
    where
      go : (c : Bool) → ltb s.rule_splits i ≡ c → Held (cond c (stand s t 6 i 0) (stand s t 1 i 0))
      go true e = stand_six i (omega (arith, ltb-true s.rule_splits i e))
      go false e = stand_one i a (ltb-false s.rule_splits i e)

  round_held : (i r : ℕ) → i ≤ s.rule_splits → Held (begin_round s t i r)
  unfolding begin_round
  round_held i r a = go (ltb r s.optimization_rounds_per_split) refl
    where
      go : (c : Bool) → ltb r s.optimization_rounds_per_split ≡ c → Held (cond c (stand s t 3 i r) (begin_stage s t (i + 1)))
      go true e = stand_three i r a (ltb-true r s.optimization_rounds_per_split e)
      go false e = stage_held (i + 1) (omega arith) (omega arith)

-- ---- a start
default_valid : (s : Settings) → actions_hold s ≡ true → valid_of s.default_action ≡ true
unfolding actions_hold
default_valid s h =
    let i = and_right (valid_of s.min_action) _ h in
    let j = and_right (valid_of s.max_action) _ i in
    let k = and_right (valid_of s.initial_action_change) _ j in
    and_right (valid_of s.max_action_change) (valid_of s.default_action) k

pub start_held : (s : Settings) → settings_hold s ≡ true → Held (started s)
start_held s h =
    round_held s (fresh_tree s.ends s.default_action) h
    (record {
      grown = fresh_grown s.ends s.default_action (default_valid s (parts s h).1) (parts s h).4;
      box = ends_themselves s.ends (ends_admitted_lem s.ends (parts s h).4);
      whole = fresh_length s.ends s.default_action;
    })
    0 0 (omega arith)

-- ---- an answer with counts
module _ (t : Trainer) (a : Held t) (xs : List ℕ) (c : counts_hold t.tree xs ≡ true) where
  set : settings_hold t.settings ≡ true
  set = accepted_settings t a.accepted

  most_leaf : leaf_in t.tree (chosen_leaf (most_used_in t.tree xs false)) ≡ true
  most_leaf =
      let m = chosen_found t.tree xs c (accepted_grown t a.accepted) in
      ap (λ (w : Option ℕ). leaf_in t.tree (chosen_leaf w)) m.1 ∙ chosen_leaf_lem t.tree xs c false m.0 m.1

  split_sound : t.tree.splits < 64 → Sound t.settings (split_most_used t.tree xs)
  unfolding split_at_of
  split_sound l =
      let i = chosen_leaf (most_used_in t.tree xs false) in
      record {
        grown = split_grown t.tree i a.whole (accepted_grown t a.accepted) most_leaf l;
        box = (held_sound t a).box;
        whole = split_length t.tree i ∙ a.whole;
      }

  module _ (p : 1 ≤ t.phase) (q : t.phase < 3) where
    stages : (1 ≤ t.stage) × (t.stage ≤ t.settings.rule_splits)
    stages = splitting_parts t (phase_split t.phase _ _ _ _ _ p q ∙ accepted_phase t a.accepted)

    once : (d : Bool) → t.tree.splits < 64
        → Held (cond d (stand t.settings (split_most_used t.tree xs) 2 t.stage 0) (begin_round t.settings (split_most_used t.tree xs) t.stage 0))
    once true l = stand_two t.settings (split_most_used t.tree xs) set (split_sound l) t.stage stages.0 stages.1
    once false l = round_held t.settings (split_most_used t.tree xs) set (split_sound l) t.stage 0 stages.1

    one_held : IfOk (phase1 t xs) Held
    unfolding phase1
    one_held = go (ltb t.tree.splits 64) refl
      where
        go : (b : Bool) → ltb t.tree.splits 64 ≡ b
            → IfOk
            (cond b
            (Ok
            (cond (t.settings.drill_down && leb (used_in xs) 1) (stand t.settings (split_most_used t.tree xs) 2 t.stage 0)
            (begin_round t.settings (split_most_used t.tree xs) t.stage 0)))
            (Err FullTree)) Held
        go true e = once (t.settings.drill_down && leb (used_in xs) 1) (ltb-true t.tree.splits 64 e)
        go false e = tt

    two-held : IfOk (phase2 t xs) Held
    unfolding phase2
    two-held = go (ltb 1 (used_in xs)) (ltb t.tree.splits 64) refl
      where
        go : (u b : Bool) → ltb t.tree.splits 64 ≡ b
            → IfOk
            (cond u (Ok (begin_round t.settings t.tree t.stage 0))
            (cond b (Ok (stand t.settings (split_most_used t.tree xs) 2 t.stage 0)) (Err FullTree))) Held
        go true b e = round_held t.settings t.tree set (held_sound t a) t.stage 0 stages.1
        go false true e =
            stand_two t.settings (split_most_used t.tree xs) set (split_sound (ltb-true t.tree.splits 64 e)) t.stage stages.0 stages.1
        go false false e = tt

  module _ (p : t.phase ≡ 3) where
    tunes : (t.stage ≤ t.settings.rule_splits) × (t.round < t.settings.optimization_rounds_per_split)
    tunes = tuning_parts t (and_left (tuning t) (idle t) (phase_choose t.phase _ _ _ _ _ p ∙ accepted_phase t a.accepted))

    next_held : Held (next_round t)
    next_held =
        round_held t.settings (without_marks t.tree) set
        (record { grown = clear_grown t.tree (accepted_grown t a.accepted); box = (held_sound t a).box; whole = clear_length t.tree ∙ a.whole })
        t.stage (t.round + 1) tunes.0

    leaf_unmarked : (i : ℕ) → most_used_in t.tree xs true ≡ Some i → leaf_holds_in t.tree i ≡ true
    unfolding leaf_holds_in
    leaf_unmarked i e =
        and_both (leaf_in t.tree i) (not (node_at_of t.tree.nodes i).optimized) (chosen_leaf_lem t.tree xs c true i e)
        (ap not (eligible_plain (node_at_of t.tree.nodes i) (most_used_leaf t.tree.nodes xs true (length xs) i e).asked))

    three_held : Held (phase3 t xs)
    unfolding tune_next
    three_held = go (most_used_in t.tree xs true) refl
      where
        at : (i : ℕ) → most_used_in t.tree xs true ≡ Some i → (b : Bool)
            → Held (cond b (next_round t) (at_leaf_of t.settings t.tree t.stage t.round i))
        at i e true = next_held
        at i e false = leaf_held t.settings t.tree set (held_sound t a) t.stage t.round i tunes.0 tunes.1 (leaf_unmarked i e)

        go : (m : Option ℕ) → most_used_in t.tree xs true ≡ m → Held (tune_next t xs m)
        go (Some i) e = at i e (eqb (get_or xs i 0) 0 && not (eqb (total xs) 0))
        go None e = next_held

  six_held : 3 ≤ t.phase → t.phase < 8 → (t.phase ≡ 3 → ⊥) → (t.phase ≡ 4 → ⊥) → (t.phase ≡ 5 → ⊥) → Held (phase6 t)
  six_held l m x y z =
      stand_seven t.settings t.tree set (held_sound t a) t.stage
      (ending_parts t (phase_end t.phase _ _ _ _ _ l m x y z ∙ accepted_phase t a.accepted))

  step_held : wants_counts t.phase ≡ true → IfOk (counts_step_of t xs) Held
  unfolding counts_step_of
  step_held w = one (eqb t.phase 1) refl
    where
      three : (b : Bool) → eqb t.phase 3 ≡ b → eqb t.phase 1 ≡ false → eqb t.phase 2 ≡ false → IfOk {E = Refusal} (cond b (Ok (phase3 t xs)) (Ok (phase6 t))) Held
      three true e f g = three_held (eqb-true t.phase 3 e)
      three false e f g =
          let p : t.phase ≡ 6 = eqb-true t.phase 6 (rw (f, g, e) at w) in
          six_held (omega arith) (omega arith) (λ z. absurd (omega arith)) (λ z. absurd (omega arith)) (λ z. absurd (omega arith))

      two : (b : Bool) → eqb t.phase 2 ≡ b → eqb t.phase 1 ≡ false → IfOk (cond b (phase2 t xs) (cond (eqb t.phase 3) (Ok (phase3 t xs)) (Ok (phase6 t)))) Held
      two true e f = let p = eqb-true t.phase 2 e in two-held (omega arith) (omega arith)
      two false e f = three (eqb t.phase 3) refl f e

      one : (b : Bool) → eqb t.phase 1 ≡ b
          → IfOk (cond b (phase1 t xs) (cond (eqb t.phase 2) (phase2 t xs) (cond (eqb t.phase 3) (Ok (phase3 t xs)) (Ok (phase6 t))))) Held
      one true e = let p = eqb-true t.phase 1 e in one_held (omega arith) (omega arith)
      one false e = two (eqb t.phase 2) refl e

pub counts_held : (t : Trainer) (xs : List ℕ) → Held t → IfOk (answer_counts_of t xs) Held
unfolding answer_counts_of
counts_held t xs a = go (accepted_of t) (wants_counts t.phase) (counts_hold t.tree xs) refl refl
  where
    go : (b w c : Bool) → wants_counts t.phase ≡ w → counts_hold t.tree xs ≡ c
        → IfOk (cond b (cond w (cond c (counts_step_of t xs) (Err BadCounts)) (Err NotAsked)) (Err NotGrown)) Held
    go true true true e f = step_held t a xs f e
    go true true false e f = tt
    go true false c e f = tt
    go false w c e f = tt

-- ---- an answer with a score
-- what a trainer at a leaf has
record AtLeaf (t : Trainer) : Type 0 where
  set : settings_hold t.settings ≡ true
  stage : t.stage ≤ t.settings.rule_splits
  round : t.round < t.settings.optimization_rounds_per_split

module _ (t : Trainer) (x : AtLeaf t) where
  marked_held : (tree : RuleTree) → Sound t.settings tree → leaf_holds_in tree t.leaf ≡ true → Held (marked t tree)
  unfolding leaf_holds_in
  marked_held tree g u =
      stand_three t.settings (with_mark tree t.leaf) x.set
      (record {
        grown = mark_grown tree t.leaf g.grown (and_left (leaf_in tree t.leaf) (not (node_at_of tree.nodes t.leaf).optimized) u);
        box = g.box;
        whole = mark_length tree t.leaf ∙ g.whole;
      })
      t.stage t.round x.stage x.round

  from_held : (tree : RuleTree) (best : Float) → Sound t.settings tree → leaf_holds_in tree t.leaf ≡ true → Held (try_from t tree best)
  unfolding try_from
  from_held tree best g u = go (eqb (length (candidates_of t.settings (action_at tree t.leaf))) 0) refl
    where
      go : (b : Bool) → eqb (length (candidates_of t.settings (action_at tree t.leaf))) 0 ≡ b
          → Held (cond b (marked t tree) (trying t.settings tree t.stage t.round t.leaf best 0 none cube.zero))
      go true e = marked_held tree g u
      go false e =
          try-held t.settings tree x.set g t.stage t.round t.leaf best 0 none cube.zero x.stage x.round u
          (above 0 (length (candidates_of t.settings (action_at tree t.leaf))) (omega arith)
          (eqb-false (length (candidates_of t.settings (action_at tree t.leaf))) 0 e))
          (nothing_kept best)

  module _ (a : Held t) (u : leaf_holds_in t.tree t.leaf ≡ true) (r : Scoring t) where
    adopted_unmarked : (c : Action) → leaf_holds_in (with_action t.tree t.leaf c) t.leaf ≡ true
    unfolding leaf_holds_in
    adopted_unmarked c =
        and_both (leaf_in (with_action t.tree t.leaf c) t.leaf) (not (node_at_of (with_action t.tree t.leaf c).nodes t.leaf).optimized)
        (action_leaves t.tree t.leaf c t.leaf ∙ r.leaf)
        (ap (λ (n : Node). not n.optimized) (action_at_lem t.tree t.leaf c (leaf_whole t r))
        ∙ and_right (leaf_in t.tree t.leaf) (not (node_at_of t.tree.nodes t.leaf).optimized) u)

    last_held : (kept : ℕ) (score : Float) → Kept t kept → Held (after_last t kept score)
    unfolding after_last
    last_held kept score k = go (eqb kept none) refl
      where
        go : (b : Bool) → eqb kept none ≡ b
            → Held
            (cond b (marked t t.tree)
            (try_from t (with_action t.tree t.leaf (get_or (candidates_of t.settings (leaf_action t)) kept no_candidate)) score))
        go true e = marked_held t.tree (held_sound t a) u
        go false e =
            let c = get_or (candidates_of t.settings (leaf_action t)) kept no_candidate in
            let v = candidate_valid t.settings (leaf_action t) kept no_candidate x.set (kept_some t kept k (eqb-false kept none e)) in
            from_held (with_action t.tree t.leaf c) score
            (record {
              grown = action_grown t.tree t.leaf c r.grown r.leaf v;
              box = (held_sound t a).box;
              whole = action_length t.tree t.leaf c ∙ a.whole;
            })
            (adopted_unmarked c)

    tried_held : (kept : ℕ) (score : Float) → Kept t kept → kept_in t.best (t.k + 1) kept score ≡ true → Held (tried t kept score)
    unfolding tried
    tried_held kept score k m = go (ltb (t.k + 1) (length (candidates_of t.settings (leaf_action t)))) refl
      where
        go : (b : Bool) → ltb (t.k + 1) (length (candidates_of t.settings (leaf_action t))) ≡ b
            → Held
            (cond b (trying t.settings t.tree t.stage t.round t.leaf t.best (t.k + 1) kept score) (after_last t kept score))
        go true e =
            try-held t.settings t.tree x.set (held_sound t a) t.stage t.round t.leaf t.best (t.k + 1) kept score x.stage x.round u
            (ltb-true (t.k + 1) (length (candidates_of t.settings (leaf_action t))) e) m
        go false e = last_held kept score k

pub kept_new : (best : Float) (k : ℕ) (x : Float) → k ≤ 4096 → lt best x ≡ true → kept_in best (k + 1) k x ≡ true
unfolding kept_in
kept_new best k x l h = rw (ne_eqb k none (λ e. absurd (omega arith)), lt-ltb k (k + 1) (omega arith)) h

pub kept_still : (best : Float) (k kept : ℕ) (score : Float) → kept_in best k kept score ≡ true → kept_in best (k + 1) kept score ≡ true
unfolding kept_in
kept_still best k kept score h = go (eqb kept none) refl h
  where
    go : (b : Bool) → eqb kept none ≡ b → cond b (zero_bits_of score) (ltb kept k && lt best score) ≡ true
        → cond b (zero_bits_of score) (ltb kept (k + 1) && lt best score) ≡ true
    go true e q = q
    go false e q =
        let l = ltb-true kept k (and_left (ltb kept k) (lt best score) q) in
        and_both (ltb kept (k + 1)) (lt best score) (lt-ltb kept (k + 1) (omega arith)) (and_right (ltb kept k) (lt best score) q)

module _ (t : Trainer) (a : Held t) where
  four_held : t.phase ≡ 4 → (x : Float) → Held (try_from t t.tree x)
  four_held p x =
      let w = tuning_parts t (asking_tunes t a.accepted p) in
      from_held t (record { set = accepted_settings t a.accepted; stage = w.0; round = w.1 }) t.tree x (held_sound t a)
      (leaf_is t ∙ and_left (leaf_holds t) (untried t) (asking_leaf t a.accepted p))

  five_held : t.phase ≡ 5 → (x : Float) → Held (phase5 t x)
  unfolding phase5
  five_held p x = go (keeps t x) refl
    where
      at : AtLeaf t
      at =
          let w = tuning_parts t (trying_tunes t a.accepted p) in
          record { set = accepted_settings t a.accepted; stage = w.0; round = w.1 }

      unmarked : leaf_holds_in t.tree t.leaf ≡ true
      unmarked = leaf_is t ∙ and_left (leaf_holds t) (try_holds_of t) (trying_leaf t a.accepted p)

      listed : t.k < length (candidates_of t.settings (leaf_action t))
      listed = k_listed t (try_holds t a.accepted p)

      go : (b : Bool) → keeps t x ≡ b → Held (cond b (tried t t.k x) (tried t t.kept t.kept_score))
      go true e =
          tried_held t at a unmarked (scoring_try t a.accepted p) t.k x (inr listed)
          (kept_new t.best t.k x (omega (arith, listed, candidates_few t.settings (leaf_action t)))
          (and_left (lt t.best x) (eqb t.kept none || le t.kept_score x) e))
      go false e =
          tried_held t at a unmarked (scoring_try t a.accepted p) t.kept t.kept_score (kept_listed t (try_holds t a.accepted p))
          (kept_still t.best t.k t.kept t.kept_score (kept_holds_lem t (try_holds t a.accepted p)))

  scored_held : (x : Float) → wants_score t.phase ≡ true → Held (score_step t x)
  unfolding score_step
  scored_held x w = go (eqb t.phase 4) refl
    where
      go : (b : Bool) → eqb t.phase 4 ≡ b → Held (cond b (try_from t t.tree x) (phase5 t x))
      go true e = four_held (eqb-true t.phase 4 e) x
      go false e = five_held (score_five t.phase w (eqb-false t.phase 4 e)) x

pub score_held : (t : Trainer) (x : Float) → Held t → IfOk (answer_score_of t x) Held
unfolding answer_score_of
score_held t x a = go (accepted_of t) (wants_score t.phase) refl
  where
    go : (b w : Bool) → wants_score t.phase ≡ w → IfOk (cond b (cond w (Ok (score_step t x)) (Err NotAsked)) (Err NotGrown)) Held
    go true true e = scored_held t a x e
    go true false e = tt
    go false w e = tt
