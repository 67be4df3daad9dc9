-- What an accepted trainer holds, fact by fact. Assumes nothing.
use mathlib.Core.Path.{◌≡◌, refl, sym, ◌∙◌}
use mathlib.Core.Bool.{Bool, true, false, not, ◌&&◌, ◌||◌, cond, false≢true}
use mathlib.Core.Logic.{◌⊎◌, inl, inr, ⊎_elim}
use mathlib.Core.List.{List}
use Prim.Native.Nat.{ℕ, ◌+◌, ◌<◌, ◌≤◌}
use native.Mathlib.Omega.{arith}
use borrow.Author.Tests.{ne_eqb, eqb-true, leb-true, ltb-true}
use Rattle.std.specs.Prelude.{Some}
use lib.Dec.{eqb, leb, ltb}
use lib.ListN.{length}
use lib.Ieee.{lt}
use Rattle.remy.specs.Action.{valid_of}
use Rattle.rule_tree.specs.declared.RuleTree.{RuleTree}
use Rattle.rule_tree.specs.Nodes.{node_at_of}
use Rattle.rule_tree.specs.Counts.{counts_hold}
use Rattle.rule_tree.specs.Grown.{grown_of}
use Rattle.rule_tree.specs.Calls.{leaf_in}
use Rattle.rule_tree.proofs.Ways.{few_counts}
use Rattle.rule_tree.proofs.Counting.{most_used_leaf}
use Rattle.rule_tree.proofs.GrownTree.{grown_facts, grown_long, leaf_below, leaf_valid}
use Rattle.trainer.specs.declared.settings.Settings.{Settings}
use Rattle.trainer.specs.declared.Trainer.{Trainer}
use Rattle.trainer.specs.Settings.{numbers_hold, settings_hold}
use Rattle.trainer.specs.Candidates.{candidates_of}
use Rattle.trainer.specs.State.{none, zero_bits_of, kept_in, kept_holds, untried, idle, leaf_action, leaf_holds, try_holds_of, splitting, tuning, ending, box_holds, phase_holds, accepted_of}
use Rattle.trainer.specs.Phases.{most_used_in}
use Rattle.trainer.specs.Calls.{wants_score}
use Rattle.trainer.specs.Fields.{action_at, Scoring, Kept}
use Rattle.trainer.proofs.Holds.{and_left, and_right, parts}
use Rattle.trainer.proofs.AcceptWays.{by_phase_lem, phase_is, accepted_is, phase_ask, phase_try}

-- ---- settings
numbers_parts : (s : Settings) → numbers_hold s ≡ true → (s.rule_splits ≤ 64) × (s.optimization_rounds_per_split ≤ 1000)
unfolding numbers_hold
numbers_parts s h =
    let r = and_right (leb s.rule_splits 64) _ h in
    (leb-true s.rule_splits 64 (and_left (leb s.rule_splits 64) _ h), leb-true s.optimization_rounds_per_split 1000 (and_left (leb s.optimization_rounds_per_split 1000) _ r))

pub few_splits : (s : Settings) → settings_hold s ≡ true → s.rule_splits ≤ 64
few_splits s h = (numbers_parts s (parts s h).0).0

pub few_rounds : (s : Settings) → settings_hold s ≡ true → s.optimization_rounds_per_split ≤ 1000
few_rounds s h = (numbers_parts s (parts s h).0).1

-- ---- stage and round, phase by phase
abbrev Bounded : Trainer → Type 0
Bounded t = (t.stage ≤ 65) × (t.round ≤ 1000)

module _ (t : Trainer) (s : settings_hold t.settings ≡ true) where
  splitting_bounded : splitting t ≡ true → Bounded t
  unfolding splitting
  splitting_bounded h =
      let i = and_right (leb 1 t.stage) _ h in
      let j = and_right (leb t.stage t.settings.rule_splits) _ i in
      let l = leb-true t.stage t.settings.rule_splits (and_left (leb t.stage t.settings.rule_splits) _ i) in
      let r = eqb-true t.round 0 (and_left (eqb t.round 0) _ j) in
      (omega (arith, few_splits t.settings s), omega arith)

  tuning_bounded : tuning t ≡ true → Bounded t
  unfolding tuning
  tuning_bounded h =
      let l = leb-true t.stage t.settings.rule_splits (and_left (leb t.stage t.settings.rule_splits) _ h) in
      let r = ltb-true t.round t.settings.optimization_rounds_per_split (and_right (leb t.stage t.settings.rule_splits) _ h) in
      (omega (arith, few_splits t.settings s), omega (arith, few_rounds t.settings s))

  ending_bounded : ending t ≡ true → Bounded t
  unfolding ending
  ending_bounded h =
      let j = and_right (eqb t.stage (t.settings.rule_splits + 1)) _ h in
      let l = eqb-true t.stage (t.settings.rule_splits + 1) (and_left (eqb t.stage (t.settings.rule_splits + 1)) _ h) in
      let r = eqb-true t.round 0 (and_left (eqb t.round 0) _ j) in
      (omega (arith, few_splits t.settings s), omega arith)

picked : {R : Type 0} (b x y : Bool) → cond b x y ≡ true → (x ≡ true → R) → (y ≡ true → R) → R
picked true x y h f g = f h
picked false x y h f g = g h

pub phase_cases :
    {R : Type 0} (p : ℕ) (a b c d e : Bool) → by_phase_lem p a b c d e ≡ true → (a ≡ true → R) → (b ≡ true → R) → (c ≡ true → R) → (d ≡ true → R)
    → (e ≡ true → R) → R
phase_cases p a b c d e h i j k l m =
    picked (eqb p 1 || eqb p 2) a _ h i
    (λ q. picked (eqb p 3) b _ q j
    (λ q. picked (eqb p 4) c _ q k
    (λ q. picked (eqb p 5) d _ q l
    (λ q. picked (eqb p 6 || eqb p 7) e false q m (λ z. absurd (false≢true z))))))

-- ---- an accepted trainer
module _ (t : Trainer) (h : accepted_of t ≡ true) where
  all : settings_hold t.settings && (grown_of t.tree && (box_holds t && phase_holds t)) ≡ true
  all = sym (accepted_is t) ∙ h

  pub accepted_settings : settings_hold t.settings ≡ true
  accepted_settings = and_left (settings_hold t.settings) (grown_of t.tree && (box_holds t && phase_holds t)) all

  rest : grown_of t.tree && (box_holds t && phase_holds t) ≡ true
  rest = and_right (settings_hold t.settings) (grown_of t.tree && (box_holds t && phase_holds t)) all

  boxed : box_holds t && phase_holds t ≡ true
  boxed = and_right (grown_of t.tree) (box_holds t && phase_holds t) rest

  pub accepted_grown : grown_of t.tree ≡ true
  accepted_grown = and_left (grown_of t.tree) (box_holds t && phase_holds t) rest

  pub accepted_box : box_holds t ≡ true
  accepted_box = and_left (box_holds t) (phase_holds t) boxed

  pub accepted_phase :
      by_phase_lem t.phase (splitting t) (tuning t && idle t) (tuning t && (leaf_holds t && untried t)) (tuning t && (leaf_holds t && try_holds_of t)) (ending t)
      ≡ true
  accepted_phase = sym (phase_is t) ∙ and_right (box_holds t) (phase_holds t) boxed

  pub accepted_few : t.tree.splits ≤ 64
  accepted_few = (grown_facts t.tree accepted_grown).few

  pub accepted_splits : t.settings.rule_splits ≤ 64
  accepted_splits = few_splits t.settings accepted_settings

  pub accepted_counts : (xs : List ℕ) → counts_hold t.tree xs ≡ true → length xs ≤ 513
  accepted_counts xs c = few_counts t.tree xs accepted_grown c

  pub accepted_bounds : (t.stage ≤ 65) × (t.round ≤ 1000)
  accepted_bounds =
      let s = accepted_settings in
      phase_cases t.phase (splitting t) (tuning t && idle t) (tuning t && (leaf_holds t && untried t)) (tuning t && (leaf_holds t && try_holds_of t)) (ending t)
      accepted_phase (splitting_bounded t s)
      (λ q. tuning_bounded t s (and_left (tuning t) (idle t) q))
      (λ q. tuning_bounded t s (and_left (tuning t) (leaf_holds t && untried t) q))
      (λ q. tuning_bounded t s (and_left (tuning t) (leaf_holds t && try_holds_of t) q))
      (ending_bounded t s)

  pub accepted_stage : t.stage ≤ 65
  accepted_stage = accepted_bounds.0

  pub accepted_round : t.round ≤ 1000
  accepted_round = accepted_bounds.1

  -- phases 4 and 5
  asking : t.phase ≡ 4 → tuning t && (leaf_holds t && untried t) ≡ true
  asking q = phase_ask t.phase _ _ (tuning t && (leaf_holds t && untried t)) _ _ q ∙ accepted_phase

  trying : t.phase ≡ 5 → tuning t && (leaf_holds t && try_holds_of t) ≡ true
  trying q = phase_try t.phase _ _ _ (tuning t && (leaf_holds t && try_holds_of t)) _ q ∙ accepted_phase

  pub asking_tunes : t.phase ≡ 4 → tuning t ≡ true
  asking_tunes q = and_left (tuning t) (leaf_holds t && untried t) (asking q)

  pub trying_tunes : t.phase ≡ 5 → tuning t ≡ true
  trying_tunes q = and_left (tuning t) (leaf_holds t && try_holds_of t) (trying q)

  pub asking_leaf : t.phase ≡ 4 → leaf_holds t && untried t ≡ true
  asking_leaf q = and_right (tuning t) (leaf_holds t && untried t) (asking q)

  pub trying_leaf : t.phase ≡ 5 → leaf_holds t && try_holds_of t ≡ true
  trying_leaf q = and_right (tuning t) (leaf_holds t && try_holds_of t) (trying q)

pub leaf_named : (t : Trainer) → leaf_holds t ≡ true → leaf_in t.tree t.leaf ≡ true
unfolding leaf_holds
leaf_named t h = and_left (leaf_in t.tree t.leaf) (not (node_at_of t.tree.nodes t.leaf).optimized) h

pub scoring_ask : (t : Trainer) → accepted_of t ≡ true → t.phase ≡ 4 → Scoring t
scoring_ask t h q =
    record {
      settings = accepted_settings t h;
      grown = accepted_grown t h;
      leaf = leaf_named t (and_left (leaf_holds t) (untried t) (asking_leaf t h q));
    }

pub scoring_try : (t : Trainer) → accepted_of t ≡ true → t.phase ≡ 5 → Scoring t
scoring_try t h q =
    record {
      settings = accepted_settings t h;
      grown = accepted_grown t h;
      leaf = leaf_named t (and_left (leaf_holds t) (try_holds_of t) (trying_leaf t h q));
    }

-- ---- at a leaf of a grown tree
pub valid_here : (t : RuleTree) (i : ℕ) → grown_of t ≡ true → leaf_in t i ≡ true → valid_of (action_at t i) ≡ true
valid_here t i g l = leaf_valid t (grown_facts t g) i l

pub leaf_slot : (t : Trainer) → Scoring t → t.leaf < 513
leaf_slot t s = omega (arith, leaf_below t.tree t.leaf s.leaf, (grown_facts t.tree s.grown).few)

pub leaf_whole : (t : Trainer) → Scoring t → t.leaf < length t.tree.nodes
leaf_whole t s = omega (arith, leaf_slot t s, grown_long t.tree (grown_facts t.tree s.grown))

pub action_valid : (t : Trainer) → Scoring t → valid_of (leaf_action t) ≡ true
action_valid t s = leaf_valid t.tree (grown_facts t.tree s.grown) t.leaf s.leaf

-- ---- phase 5
pub k_listed : (t : Trainer) → try_holds_of t ≡ true → t.k < length (candidates_of t.settings (leaf_action t))
unfolding try_holds_of
k_listed t h = ltb-true t.k (length (candidates_of t.settings (leaf_action t))) (and_left (ltb t.k (length (candidates_of t.settings (leaf_action t)))) (kept_holds t) h)

pub kept_holds_lem : (t : Trainer) → try_holds_of t ≡ true → kept_holds t ≡ true
unfolding try_holds_of
kept_holds_lem t h = and_right (ltb t.k (length (candidates_of t.settings (leaf_action t)))) (kept_holds t) h

kept_below : (t : Trainer) → kept_holds t ≡ true → (t.kept ≡ none) ⊎ (t.kept < t.k)
unfolding kept_in
kept_below t h = go (eqb t.kept none) refl h
  where
    go :
        (b : Bool) → eqb t.kept none ≡ b → cond b (zero_bits_of t.kept_score) (ltb t.kept t.k && lt t.best t.kept_score) ≡ true
        → (t.kept ≡ none) ⊎ (t.kept < t.k)
    go true e q = inl (eqb-true t.kept none e)
    go false e q = inr (ltb-true t.kept t.k (and_left (ltb t.kept t.k) (lt t.best t.kept_score) q))

pub kept_listed : (t : Trainer) → try_holds_of t ≡ true → Kept t t.kept
kept_listed t h =
    ⊎_elim (λ (e : t.kept ≡ none). inl e)
    (λ (l : t.kept < t.k). inr (omega (arith, k_listed t h)))
    (kept_below t (kept_holds_lem t h))

pub try_holds : (t : Trainer) → accepted_of t ≡ true → t.phase ≡ 5 → try_holds_of t ≡ true
try_holds t h q = and_right (leaf_holds t) (try_holds_of t) (trying_leaf t h q)

-- in the phases that want a score
pub scoring_wanted : (t : Trainer) → accepted_of t ≡ true → wants_score t.phase ≡ true → Scoring t
scoring_wanted t h w = go (eqb t.phase 4) refl
  where
    go : (b : Bool) → eqb t.phase 4 ≡ b → Scoring t
    go true e = scoring_ask t h (eqb-true t.phase 4 e)
    go false e = scoring_try t h (eqb-true t.phase 5 (rw e at w))

pub score_five : (p : ℕ) → wants_score p ≡ true → (p ≡ 4 → ⊥) → p ≡ 5
score_five p h n = eqb-true p 5 (rw (ne_eqb p 4 n) at h)

-- ---- as the code has them
module _ (t : Trainer) (h : accepted_of t ≡ true) where
  pub wanted_leaf : wants_score t.phase ≡ true → leaf_in t.tree t.leaf ≡ true
  wanted_leaf w = (scoring_wanted t h w).leaf

  pub wanted_valid : wants_score t.phase ≡ true → valid_of (leaf_action t) ≡ true
  wanted_valid w = action_valid t (scoring_wanted t h w)

  pub try_listed : t.phase ≡ 5 → t.k < length (candidates_of t.settings (leaf_action t))
  try_listed q = k_listed t (try_holds t h q)

  pub try_kept : t.phase ≡ 5 → Kept t t.kept
  try_kept q = kept_listed t (try_holds t h q)

  pub counted_leaf : (xs : List ℕ) (u : Bool) (i : ℕ) → counts_hold t.tree xs ≡ true → Some i ≡ most_used_in t.tree xs u → i < length xs
  counted_leaf xs u i c e = (most_used_leaf t.tree.nodes xs u (length xs) i (sym e)).below
