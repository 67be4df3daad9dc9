-- The plain trainer never leaves its valid states. Assumes nothing.
use mathlib.Core.Path.{◌≡◌, refl, ap, ◌∙◌}
use mathlib.Core.Bool.{true, not, ◌&&◌, cond}
use mathlib.Core.List.{List}
use Prim.Native.Nat.{ℕ, ◌+◌, ◌<◌}
use native.Mathlib.Omega.{arith}
use borrow.Author.Tests.{ltb-true, eqb-false, not-true}
use lib.Dec.{eqb, ltb, leb}
use lib.ListN.{length, get_or}
use lib.Seq.{get_or-set_same}
use lib.Ieee.{Float, lt, le}
use Rattle.std.specs.Prelude.{Option, Some, None}
use Rattle.std.proofs.lemmas.Bool.{and_parts, cond_both}
use Rattle.refusal.proofs.Guards.{either}
use Rattle.remy.specs.declared.action.Action.{Action}
use Rattle.trainer.specs.declared.settings.Settings.{Settings}
use Rattle.trainer.specs.Settings.{settings_hold}
use Rattle.promise.specs.PlainCandidates.{improvements, no_candidate}
use Rattle.promise.specs.PlainTree.{Tree, Rule, is_leaf_of, rule_at, leaves, unmarked_leaves, most_used, used, sum, counts_taken, split, set_action, clear_marks}
use Rattle.promise.specs.PlainTrainer.{State, Phase, Kept, phase1, phase2, phase3, phase4, phase5, phase6, phase7, Outcome, at, begin_round, split_chosen, answer1, answer2, answer3, try_all, keep, after_last, answer5, counted, scored, record_bytes, Call, counts, score, reload, change, step}
use Rattle.promise.specs.Values.{FitCall}
use Rattle.promise.proofs.Embed.{ValidTree, leaf_below}
use Rattle.promise.proofs.TreeSteps.{no_rule}
use Rattle.promise.proofs.TreeKeeps.{split_valid, action_valid, mark_valid, clear_valid}
use Rattle.promise.proofs.MostUsed.{chosen_leaf_lem, chosen_unmarked}
use Rattle.promise.proofs.Candidates.{candidate_valid}
use Rattle.promise.proofs.Begins.{round_valid}
use Rattle.promise.proofs.AnswerChange.{changed_valid}
use Rattle.promise.proofs.States.{Splitting, Tuning, AtLeaf, KeptHolds, ValidState}

-- a call leaves a valid state
abbrev Stays : Outcome → Type 0
Stays o = ValidState o.state

-- ---- counts
split_keeps :
    (st : State) → ValidState st → (xs : List ℕ) (then : Tree → State) → ((u : Tree) → ValidTree u → u.ends ≡ st.tree.ends → ValidState (then u)) → (c : Option ℕ)
    → most_used xs (leaves st.tree) ≡ c → ValidState (split_chosen st c then).state
unfolding split_chosen
split_keeps st v xs then h None e = v
split_keeps st v xs then h (Some b) e =
    cond_both (ltb (length st.tree.splits) 64) _ _ Stays
    (λ p. h (split st.tree b) (split_valid st.tree v.tree b (chosen_leaf_lem st.tree xs b e) (ltb-true (length st.tree.splits) 64 p)) refl) (λ p. v)

module _ (s : Settings) (g : settings_hold s ≡ true) (t : Tree) (v : ValidTree t) (b : t.ends ≡ s.ends) (i r : ℕ) (xs : List ℕ) where
  keeps1 : Splitting s i r → ValidState (answer1 (at s t i r phase1) xs).state
  keeps1 h =
      split_keeps (at s t i r phase1) (record { settings = g; tree = v; box = b; phase = h }) xs
      (λ u. cond (s.drill_down && leb (used xs) 1) (at s u i r phase2) (begin_round s u i r))
      (λ u w e. either ValidState (s.drill_down && leb (used xs) 1) (record { settings = g; tree = w; box = e ∙ b; phase = h })
      (round_valid s g u w (e ∙ b) i r h.stage)) (most_used xs (leaves t)) refl

  keeps2 : Splitting s i r → ValidState (answer2 (at s t i r phase2) xs).state
  keeps2 h =
      either Stays (ltb 1 (used xs)) (round_valid s g t v b i r h.stage)
      (split_keeps (at s t i r phase2) (record { settings = g; tree = v; box = b; phase = h }) xs (λ u. at s u i r phase2)
      (λ u w e. record { settings = g; tree = w; box = e ∙ b; phase = h }) (most_used xs (leaves t)) refl)

  keeps3 : Tuning s i r → (c : Option ℕ) → most_used xs (unmarked_leaves t) ≡ c → ValidState (answer3 (at s t i r phase3) xs c)
  unfolding answer3
  keeps3 h None e = round_valid s g (clear_marks t) (clear_valid t v) b i (r + 1) h.stage
  keeps3 h (Some l) e =
      let found = and_parts (is_leaf_of t l) _ (chosen_unmarked t xs l e) in
      either ValidState (eqb (get_or xs l 0) 0 && not (eqb (sum xs) 0))
      (round_valid s g (clear_marks t) (clear_valid t v) b i (r + 1) h.stage)
      (record {
        settings = g;
        tree = v;
        box = b;
        phase = (h, record { leaf = found.0; unmarked = not-true (rule_at t l).marked found.1 });
      })

counted_in_lem :
    (s : Settings) (t : Tree) (i r : ℕ) (p : Phase) → ValidState (at s t i r p) → (xs : List ℕ) → ValidState (counted (at s t i r p) xs p).state
unfolding counted
counted_in_lem s t i r phase1 v xs =
    either Stays (counts_taken t xs) (keeps1 s v.settings t v.tree v.box i r xs v.phase) v
counted_in_lem s t i r phase2 v xs =
    either Stays (counts_taken t xs) (keeps2 s v.settings t v.tree v.box i r xs v.phase) v
counted_in_lem s t i r phase3 v xs =
    either Stays (counts_taken t xs) (keeps3 s v.settings t v.tree v.box i r xs v.phase (most_used xs (unmarked_leaves t)) refl) v
counted_in_lem s t i r (phase4 l) v xs = v
counted_in_lem s t i r (phase5 l best k kept) v xs = v
counted_in_lem s t i r phase6 v xs =
    either Stays (counts_taken t xs) (record { settings = v.settings; tree = v.tree; box = v.box; phase = v.phase }) v
counted_in_lem s t i r phase7 v xs = v

pub counted_valid : (st : State) → ValidState st → (xs : List ℕ) → ValidState (counted st xs st.phase).state
counted_valid st v xs = counted_in_lem st.settings st.tree st.stage st.round st.phase v xs

-- ---- scores
module _ (s : Settings) (g : settings_hold s ≡ true) (i r : ℕ) (h : Tuning s i r) (u : Tree) (p : Phase) where
  try_keeps : (t : Tree) → ValidTree t → t.ends ≡ s.ends → (l : ℕ) → AtLeaf t l → (best : Float) → ValidState (try_all (at s u i r p) t l best)
  unfolding try_all
  try_keeps t v d l a best =
      let n = length (improvements s (rule_at t l).action) in
      cond_both (eqb n 0) _ _ ValidState (λ e. record { settings = g; tree = mark_valid t v l a.leaf; box = d; phase = h })
      (λ e. record { settings = g; tree = v; box = d; phase = (h, (a, record { below = omega (arith, eqb-false n 0 e); held = omega arith })) })

keep_holds : (best : Float) (k : ℕ) (x : Float) (kept : Kept) → KeptHolds best k kept → KeptHolds best (k + 1) (keep best k x kept)
unfolding keep
keep_holds best k x None h = cond_both (lt best x) (Some (k, x)) None (KeptHolds best (k + 1)) (λ e. (omega arith, e)) (λ e. omega arith)
keep_holds best k x (Some (j, y)) h =
    cond_both (lt best x && le y x) (Some (k, x)) (Some (j, y)) (KeptHolds best (k + 1)) (λ e. (omega arith, (and_parts (lt best x) (le y x) e).0))
    (λ e. (omega (arith, h.0), h.1))

module _
    (s : Settings) (g : settings_hold s ≡ true) (t : Tree) (v : ValidTree t) (d : t.ends ≡ s.ends) (i r : ℕ) (h : Tuning s i r) (l : ℕ) (a : AtLeaf t l)
    (best : Float) (k : ℕ) (b : k < length (improvements s (rule_at t l).action)) (p : Phase) where
  rule_set : (c : Action) → rule_at (set_action t l c) l ≡ record { action = c; marked = (rule_at t l).marked }
  rule_set c = get_or-set_same t.rules l _ no_rule (omega (arith, leaf_below t l a.leaf, v.sized))

  last_keeps : (m : Kept) → KeptHolds best (k + 1) m → ValidState (after_last (at s t i r p) l m)
  unfolding after_last
  last_keeps None q = record { settings = g; tree = mark_valid t v l a.leaf; box = d; phase = h }
  last_keeps (Some (j, y)) q =
      let c = get_or (improvements s (rule_at t l).action) j no_candidate in
      try_keeps s g i r h t p (set_action t l c)
      (action_valid t v l a.leaf c (candidate_valid s (rule_at t l).action j (omega (arith, q.0)) g)) d
      l (record { leaf = a.leaf; unmarked = ap (λ (x : Rule). x.marked) (rule_set c) ∙ a.unmarked }) y

  tried_keeps : (m : Kept) → KeptHolds best (k + 1) m → ValidState (answer5 (at s t i r p) l best k m)
  unfolding answer5
  tried_keeps m q =
      let n = length (improvements s (rule_at t l).action) in
      cond_both (ltb (k + 1) n) _ _ ValidState
      (λ e. record { settings = g; tree = v; box = d; phase = (h, (a, record { below = ltb-true (k + 1) n e; held = q })) }) (λ e. last_keeps m q)

scored_in :
    (s : Settings) (t : Tree) (i r : ℕ) (p : Phase) → ValidState (at s t i r p) → (x : Float) → ValidState (scored (at s t i r p) x p).state
unfolding scored
scored_in s t i r phase1 v x = v
scored_in s t i r phase2 v x = v
scored_in s t i r phase3 v x = v
scored_in s t i r (phase4 l) v x = try_keeps s v.settings i r v.phase.0 t (phase4 l) t v.tree v.box l v.phase.1 x
scored_in s t i r (phase5 l best k kept) v x =
    let q = v.phase in
    tried_keeps s v.settings t v.tree v.box i r q.0 l q.1.0 best k q.1.1.below (phase5 l best k kept)
    (keep best k x kept) (keep_holds best k x kept q.1.1.held)
scored_in s t i r phase6 v x = v
scored_in s t i r phase7 v x = v

pub scored_valid : (st : State) → ValidState st → (x : Float) → ValidState (scored st x st.phase).state
scored_valid st v x = scored_in st.settings st.tree st.stage st.round st.phase v x

-- ---- any call
pub step_valid : (st : State) → ValidState st → (c : Call) → FitCall c → ValidState (step st c).state
unfolding step
step_valid st v (counts xs) h = counted_valid st v xs
step_valid st v (score x) h = scored_valid st v x
step_valid st v (change s) h = changed_valid st v s (record { acks = h.ends.acks; sends = h.ends.sends; ratios = h.ends.ratios })
step_valid st v (reload buffer) h = either Stays (leb (length (record_bytes st)) (length buffer)) v v
