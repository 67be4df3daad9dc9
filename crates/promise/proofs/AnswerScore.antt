-- An answer with a score does to the trainer what it does to the plain trainer. Assumes nothing.
use mathlib.Core.Path.{◌≡◌, refl, sym, ap, ◌∙◌}
use mathlib.Core.Bool.{Bool, true, ◌&&◌, ◌||◌, cond, and-true}
use mathlib.Core.List.{List}
use Prim.Native.Nat.{ℕ, ◌+◌, ◌<◌, ◌≤◌}
use native.Mathlib.Omega.{arith}
use borrow.Author.Tests.{ne_eqb}
use lib.Dec.{eqb, ltb}
use lib.ListN.{length, get_or}
use lib.Ieee.{Float, lt, le}
use Rattle.std.specs.Prelude.{Some, None, Ok, Err}
use Rattle.refusal.specs.declared.Refusal.TheVariants.{NotAsked}
use Rattle.refusal.specs.Numbers.{number_of}
use Rattle.refusal.proofs.Guards.{both}
use Rattle.remy.specs.declared.action.Action.{Action}
use Rattle.remy.specs.Cube as cube
use Rattle.rule_tree.specs.declared.Node.{Node}
use Rattle.rule_tree.specs.declared.RuleTree.{RuleTree}
use Rattle.rule_tree.specs.Nodes.{action_in}
use Rattle.rule_tree.specs.Change.{with_action}
use Rattle.trainer.specs.declared.settings.Settings.{Settings}
use Rattle.trainer.specs.declared.Trainer.{Trainer}
use Rattle.trainer.specs.Settings.{settings_hold}
use Rattle.trainer.specs.Candidates.{candidates_of}
use Rattle.trainer.specs.Candidates as theirs
use Rattle.trainer.specs.State.{none, stand, trying, leaf_action, accepted_of}
use Rattle.trainer.specs.Phases as layer
use Rattle.trainer.specs.Calls.{score_step, wants_score, answer_score_of}
use Rattle.promise.specs.PlainCandidates.{improvements, no_candidate}
use Rattle.promise.specs.PlainTree.{Tree, is_leaf_of, rule_at, set_action}
use Rattle.promise.specs.PlainTrainer.{State, Phase, Kept, phase1, phase2, phase3, phase4, phase5, phase6, phase7, at, candidates, mark_and_go_on, try_all, keep, after_last, answer5, scored, kept_number, kept_score_of}
use Rattle.promise.specs.Demand3.{after_call}
use Rattle.promise.proofs.Embed.{embed_tree, ValidTree}
use Rattle.promise.proofs.TreeSteps.{action_embeds, mark_embeds}
use Rattle.promise.proofs.TreeKeeps.{leaf_node_lem, action_valid}
use Rattle.promise.proofs.Candidates.{candidates_same, candidates_few, candidate_same, candidate_valid}
use Rattle.promise.proofs.Accepted.{accepted_embeds}
use Rattle.promise.proofs.States.{embed_in, embed, Embeds, answer_step, plain_step, KeptHolds, ValidPhase, ValidState}

-- ---- a call on an accepted trainer
answer-is : (t : Trainer) (x : Float) → accepted_of t ≡ true → answer_score_of t x ≡ cond (wants_score t.phase) (Ok (score_step t x)) (Err NotAsked)
unfolding answer_score_of
answer-is t x a = rw a

-- ---- from the first candidate on
module _ (x : Trainer) (u t : Tree) (p : Phase) (v : ValidTree t) (l : is_leaf_of t x.leaf ≡ true) where
  abbrev held : State
  held = at x.settings u x.stage x.round p

  marked_embeds : layer.marked x (embed_tree t) ≡ embed (mark_and_go_on held t x.leaf)
  marked_embeds = ap (λ (q : RuleTree). stand x.settings q 3 x.stage x.round) (sym (mark_embeds t x.leaf v l))

  try_embeds : (best : Float) → layer.try_from x (embed_tree t) best ≡ embed (try_all held t x.leaf best)
  unfolding layer.try_from try_all kept_number kept_score_of
  try_embeds best =
      ap (λ (y : Node). cond (eqb (length (candidates_of x.settings (action_in y))) 0) (layer.marked x (embed_tree t)) (trying x.settings (embed_tree t) x.stage x.round x.leaf best 0 none cube.zero)) (leaf_node_lem t v x.leaf l)
      ∙ ap (λ (xs : List Action). cond (eqb (length xs) 0) (layer.marked x (embed_tree t)) (trying x.settings (embed_tree t) x.stage x.round x.leaf best 0 none cube.zero))
      (sym (candidates_same x.settings (rule_at t x.leaf).action))
      ∙ both Embeds (eqb (length (candidates held t x.leaf)) 0) {k = at x.settings t x.stage x.round (phase5 x.leaf best 0 None)} marked_embeds refl

-- ---- one kept, or none, of the candidates up to k
abbrev pub Among : ℕ → Kept → Type 0
Among n None = 0 ≤ n
Among n (Some (j, y)) = j < n

abbrev its : Settings → Tree → ℕ → ℕ → ℕ → Float → ℕ → Kept → Trainer
its s t i r leaf best k kept = embed_in s (embed_tree t) i r (phase5 leaf best k kept)

module _
    (s : Settings) (h : settings_hold s ≡ true) (t : Tree) (v : ValidTree t) (i r leaf : ℕ) (best : Float) (k : ℕ) (kept : Kept)
    (l : is_leaf_of t leaf ≡ true) (b : k < length (improvements s (rule_at t leaf).action)) where
  abbrev now : State
  now = at s t i r (phase5 leaf best k kept)

  abbrev mine : Trainer
  mine = its s t i r leaf best k kept

  action_is : leaf_action mine ≡ (rule_at t leaf).action
  action_is = ap action_in (leaf_node_lem t v leaf l)

  after_embeds : (m : Kept) → Among (k + 1) m → layer.after_last mine (kept_number m) (kept_score_of m) ≡ embed (after_last now leaf m)
  unfolding layer.after_last after_last kept_number kept_score_of
  after_embeds None q = marked_embeds mine t t (phase5 leaf best k kept) v l
  after_embeds (Some (j, y)) q =
      let few = candidates_few s (rule_at t leaf).action in
      let a = get_or (improvements s (rule_at t leaf).action) j no_candidate in
      ap (λ (z : Bool). cond z (layer.marked mine (embed_tree t)) (layer.try_from mine (with_action (embed_tree t) leaf (get_or (candidates_of s (leaf_action mine)) j theirs.no_candidate)) y))
      (ne_eqb j none (λ z. omega arith))
      ∙ ap (λ (c : Action). layer.try_from mine (with_action (embed_tree t) leaf (get_or (candidates_of s c) j theirs.no_candidate)) y) action_is
      ∙ ap (λ (c : Action). layer.try_from mine (with_action (embed_tree t) leaf c) y) (candidate_same s (rule_at t leaf).action j (omega arith))
      ∙ ap (λ (w : RuleTree). layer.try_from mine w y) (sym (action_embeds t leaf v l a))
      ∙ try_embeds mine t (set_action t leaf a) (phase5 leaf best k kept) (action_valid t v leaf l a (candidate_valid s (rule_at t leaf).action j (omega arith) h)) l y

  tried_embeds : (m : Kept) → Among (k + 1) m → layer.tried mine (kept_number m) (kept_score_of m) ≡ embed (answer5 now leaf best k m)
  unfolding layer.tried answer5
  tried_embeds m q =
      ap (λ (c : Action). cond (ltb (k + 1) (length (candidates_of s c))) (trying s (embed_tree t) i r leaf best (k + 1) (kept_number m) (kept_score_of m)) (layer.after_last mine (kept_number m) (kept_score_of m))) action_is
      ∙ ap (λ (xs : List Action). cond (ltb (k + 1) (length xs)) (trying s (embed_tree t) i r leaf best (k + 1) (kept_number m) (kept_score_of m)) (layer.after_last mine (kept_number m) (kept_score_of m)))
      (sym (candidates_same s (rule_at t leaf).action))
      ∙ both Embeds (ltb (k + 1) (length (candidates now t leaf))) {m = at s t i r (phase5 leaf best (k + 1) m)} refl (after_embeds m q)

-- ---- the score of candidate k
module _
    (s : Settings) (h : settings_hold s ≡ true) (t : Tree) (v : ValidTree t) (i r leaf : ℕ) (best : Float) (k : ℕ) (x : Float)
    (l : is_leaf_of t leaf ≡ true) (b : k < length (improvements s (rule_at t leaf).action)) where
  abbrev Tried : Kept → Trainer → Kept → Type 0
  Tried kept u m = u ≡ embed (answer5 (at s t i r (phase5 leaf best k kept)) leaf best k m)

  tries : (kept m : Kept) → Among (k + 1) m → Tried kept (layer.tried (its s t i r leaf best k kept) (kept_number m) (kept_score_of m)) m
  tries kept m q = tried_embeds s h t v i r leaf best k kept l b m q

  keep-embeds :
      (kept : Kept) → Among k kept
      → layer.phase5 (its s t i r leaf best k kept) x
      ≡ embed (answer5 (at s t i r (phase5 leaf best k kept)) leaf best k (keep best k x kept))
  unfolding layer.phase5 keep kept_number kept_score_of
  keep-embeds None q =
      ap (λ (z : Bool). cond z (layer.tried (its s t i r leaf best k None) k x) (layer.tried (its s t i r leaf best k None) none cube.zero)) (and-true (lt best x))
      ∙ both (Tried None) (lt best x) (tries None (Some (k, x)) (omega arith)) (tries None None (omega arith))
  keep-embeds (Some (j, y)) q =
      let few = candidates_few s (rule_at t leaf).action in
      ap (λ (z : Bool). cond (lt best x && (z || le y x)) (layer.tried (its s t i r leaf best k (Some (j, y))) k x) (layer.tried (its s t i r leaf best k (Some (j, y))) j y))
      (ne_eqb j none (λ z. omega arith))
      ∙ both (Tried (Some (j, y))) (lt best x && le y x) (tries (Some (j, y)) (Some (k, x)) (omega arith)) (tries (Some (j, y)) (Some (j, y)) (omega arith))

-- ---- the call
among : (best : Float) (k : ℕ) (kept : Kept) → KeptHolds best k kept → Among k kept
among best k None h = h
among best k (Some (j, y)) h = h.0

module _ (s : Settings) (g : settings_hold s ≡ true) (t : Tree) (v : ValidTree t) (i r : ℕ) (x : Float) where
  score-in :
      (p : Phase) → accepted_of (embed_in s (embed_tree t) i r p) ≡ true → ValidPhase s t i r p
      → answer_step (at s t i r p) (answer_score_of (embed_in s (embed_tree t) i r p) x) ≡ plain_step (scored (at s t i r p) x p)
  unfolding score_step scored after_call number_of
  score-in phase1 a h = let st = at s t i r phase1 in ap (answer_step st) (answer-is (embed st) x a)
  score-in phase2 a h = let st = at s t i r phase2 in ap (answer_step st) (answer-is (embed st) x a)
  score-in phase3 a h = let st = at s t i r phase3 in ap (answer_step st) (answer-is (embed st) x a)
  score-in (phase4 leaf) a h =
      let st = at s t i r (phase4 leaf) in
      ap (answer_step st) (answer-is (embed st) x a)
      ∙ ap (λ (u : Trainer). answer_step st (Ok u)) (try_embeds (embed st) t t (phase4 leaf) v h.1.leaf x)
  score-in (phase5 leaf best k kept) a h =
      let st = at s t i r (phase5 leaf best k kept) in
      ap (answer_step st) (answer-is (embed st) x a)
      ∙ ap (λ (u : Trainer). answer_step st (Ok u))
      (keep-embeds s g t v i r leaf best k x h.1.0.leaf h.1.1.below kept (among best k kept h.1.1.held))
  score-in phase6 a h = let st = at s t i r phase6 in ap (answer_step st) (answer-is (embed st) x a)
  score-in phase7 a h = let st = at s t i r phase7 in ap (answer_step st) (answer-is (embed st) x a)

pub answer_score_embeds : (st : State) → ValidState st → (x : Float) → answer_step st (answer_score_of (embed st) x) ≡ plain_step (scored st x st.phase)
answer_score_embeds st v x =
    score-in st.settings v.settings st.tree v.tree st.stage st.round x st.phase (accepted_embeds st v) v.phase
