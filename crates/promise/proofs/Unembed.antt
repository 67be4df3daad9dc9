-- The plain trainer's state that an accepted trainer stands for: it is valid, and the trainer is the one that stands for it. Assumes nothing.
use mathlib.Core.Path.{◌≡◌, refl, sym, ap, subst, subst⁻¹, ◌∙◌}
use mathlib.Core.Bool.{Bool, true, false, ◌&&◌, cond}
use Prim.Native.Nat.{ℕ, ◌+◌, ◌<◌}
use native.Mathlib.Omega.{arith}
use borrow.Author.Tests.{eqb-true, ltb-true, leb-true, not-true}
use lib.Dec.{T, eqb, ltb, leb}
use lib.ListN.{length}
use lib.Ieee.{Float, binary64, fits, lt}
use Rattle.std.specs.Prelude.{Option, Some, None}
use Rattle.std.proofs.lemmas.Bool.{and_parts}
use Rattle.remy.specs.Cube as cube
use Rattle.rule_tree.specs.declared.RuleTree.{RuleTree}
use Rattle.rule_tree.specs.Nodes.{node_at_of, action_in}
use Rattle.rule_tree.specs.Grown.{grown_of}
use Rattle.rule_tree.specs.Calls.{leaf_in}
use Rattle.rule_tree.proofs.GrownTree as tree
use Rattle.rule_tree.proofs.Plain.{ActionFits, PointFits}
use Rattle.trainer.specs.declared.phase.Phase as trainer
use Rattle.trainer.specs.declared.phase.Phase.TheVariants.{Split, Drill, Choose, Own, Try, Last, Done}
use Rattle.trainer.specs.declared.Trainer.{Trainer}
use Rattle.trainer.specs.Candidates.{candidates_of}
use Rattle.trainer.specs.Phase as numbers
use Rattle.trainer.specs.State.{none, stand, at_leaf_of, zero_bits_of, untried_in, untried, idle, leaf_action, leaf_holds, kept_in, kept_holds, try_holds_of, splitting, tuning, ending, phase_holds, accepted_of}
use Rattle.trainer.proofs.PhaseLaws.{phase_number}
use Rattle.trainer.proofs.AcceptWays.{phase_is, holds_in, named_holds, unnamed_fails}
pub use Rattle.trainer.proofs.AcceptedFacts.{accepted_settings, accepted_grown}
use Rattle.trainer.proofs.AcceptedFacts.{accepted_phase}
use Rattle.trainer.proofs.Changing.{zero_bits}
use Rattle.record.proofs.RoundTrip as stored
use Rattle.record.proofs.StepsFit.{whole_fits}
use Rattle.record.proofs.Loading.{accepted_ends}
use Rattle.promise.specs.PlainTree.{Rule}
use Rattle.promise.specs.PlainTrainer.{State, Phase, Kept, phase1, phase2, phase3, phase4, phase5, phase6, phase7, at, kept_number, kept_score_of}
use Rattle.promise.specs.Values.{FitSettings}
use Rattle.promise.proofs.Candidates.{candidates_same}
use Rattle.promise.proofs.States.{embed_in, embed, Splitting, Tuning, Ending, AtLeaf, KeptHolds, ValidPhase, ValidState}
use Rattle.promise.proofs.Fitting.{FitState, settings_fit_lem}
use Rattle.promise.proofs.UnembedTree.{plain_tree, rule_back, leaf_back, tree_valid, tree_back}

-- the trainer's values are of their types, as those of every trainer that a program holds
pub record TrainerFits (t : Trainer) : Type 0 where
  pub sized : length t.tree.nodes ≡ 513
  pub nodes : (i : ℕ) → i < 513 → ActionFits (action_in (node_at_of t.tree.nodes i))
  pub ends : PointFits t.tree.ends
  pub settings : FitSettings t.settings
  pub best : T (fits binary64 t.best)
  pub score : T (fits binary64 t.kept_score)

-- ---- the state
unfoldable pub kept_of : ℕ → Float → Kept
kept_of j y = cond (eqb j none) None (Some (j, y))

unfoldable pub phase_of : ℕ → ℕ → Float → ℕ → Kept → Phase
phase_of p leaf best k kept =
    cond (eqb p 1) phase1
    (cond (eqb p 2) phase2
    (cond (eqb p 3) phase3
    (cond (eqb p 4) (phase4 leaf) (cond (eqb p 5) (phase5 leaf best k kept) (cond (eqb p 6) phase6 phase7)))))

abbrev pub plain_phase : Trainer → Phase
plain_phase t = phase_of t.phase t.leaf t.best t.k (kept_of t.kept t.kept_score)

abbrev pub plain_of : Trainer → State
plain_of t = at t.settings (plain_tree t.tree) t.stage t.round (plain_phase t)

-- a trainer by its fields
rebuilt :
    (t : Trainer) (p l : ℕ) (b : Float) (k j : ℕ) (y : Float)
    → t.phase ≡ p → t.leaf ≡ l → t.best ≡ b → t.k ≡ k → t.kept ≡ j → t.kept_score ≡ y
    → ◌≡◌ {A = Trainer} t
    (record {
      settings = t.settings;
      tree = t.tree;
      phase = p;
      stage = t.stage;
      round = t.round;
      leaf = l;
      best = b;
      k = k;
      kept = j;
      kept_score = y;
    })
rebuilt t p l b k j y ep el eb ek ej ey =
    λ i. record {
      settings = t.settings;
      tree = t.tree;
      phase = ep i;
      stage = t.stage;
      round = t.round;
      leaf = el i;
      best = eb i;
      k = ek i;
      kept = ej i;
      kept_score = ey i;
    }

-- ---- fields that a phase does not use
record Untried (t : Trainer) : Type 0 where
  pub best : t.best ≡ cube.zero
  pub k : t.k ≡ 0
  pub kept : t.kept ≡ none
  pub score : t.kept_score ≡ cube.zero

module _ (t : Trainer) (f : TrainerFits t) where
  untried_parts : untried t ≡ true → Untried t
  unfolding untried_in
  untried_parts h =
      let b = and_parts (zero_bits_of t.best) _ h in
      let k = and_parts (eqb t.k 0) _ b.1 in
      let j = and_parts (eqb t.kept none) _ k.1 in
      record {
        best = zero_bits t.best f.best b.0;
        k = eqb-true t.k 0 k.0;
        kept = eqb-true t.kept none j.0;
        score = zero_bits t.kept_score f.score j.1;
      }

  stand_back : (n : ℕ) → t.phase ≡ n → idle t ≡ true → t ≡ stand t.settings t.tree n t.stage t.round
  stand_back n e h =
      let l = and_parts (eqb t.leaf 0) _ h in
      let u = untried_parts l.1 in
      rebuilt t n 0 cube.zero 0 none cube.zero e (eqb-true t.leaf 0 l.0) u.best u.k u.kept u.score

  asking_back : t.phase ≡ 4 → untried t ≡ true → t ≡ at_leaf_of t.settings t.tree t.stage t.round t.leaf
  asking_back e h =
      let u = untried_parts h in
      rebuilt t 4 t.leaf cube.zero 0 none cube.zero e refl u.best u.k u.kept u.score

-- ---- the tests, part by part
module _ (t : Trainer) where
  splitting_parts : splitting t ≡ true → Splitting t.settings t.stage t.round × (idle t ≡ true)
  unfolding splitting
  splitting_parts h =
      let a = and_parts (leb 1 t.stage) _ h in
      let b = and_parts (leb t.stage t.settings.rule_splits) _ a.1 in
      let c = and_parts (eqb t.round 0) _ b.1 in (
        record {
          later = leb-true 1 t.stage a.0;
          stage = leb-true t.stage t.settings.rule_splits b.0;
          round = eqb-true t.round 0 c.0;
        },
        c.1,
      )

  tuning_parts : tuning t ≡ true → Tuning t.settings t.stage t.round
  unfolding tuning
  tuning_parts h =
      let a = and_parts (leb t.stage t.settings.rule_splits) _ h in
      record {
        stage = leb-true t.stage t.settings.rule_splits a.0;
        round = ltb-true t.round t.settings.optimization_rounds_per_split a.1;
      }

  ending_parts : ending t ≡ true → Ending t.settings t.stage t.round × (idle t ≡ true)
  unfolding ending
  ending_parts h =
      let a = and_parts (eqb t.stage (t.settings.rule_splits + 1)) _ h in
      let b = and_parts (eqb t.round 0) _ a.1 in
      (record { stage = eqb-true t.stage (t.settings.rule_splits + 1) a.0; round = eqb-true t.round 0 b.0 }, b.1)

  leaf_parts : leaf_holds t ≡ true → (leaf_in t.tree t.leaf ≡ true) × ((node_at_of t.tree.nodes t.leaf).optimized ≡ false)
  unfolding leaf_holds
  leaf_parts h =
      let a = and_parts (leaf_in t.tree t.leaf) _ h in (a.0, not-true (node_at_of t.tree.nodes t.leaf).optimized a.1)

  try_parts : try_holds_of t ≡ true → (t.k < length (candidates_of t.settings (leaf_action t))) × (kept_holds t ≡ true)
  unfolding try_holds_of
  try_parts h =
      let n = length (candidates_of t.settings (leaf_action t)) in
      let a = and_parts (ltb t.k n) _ h in (ltb-true t.k n a.0, a.1)

-- ---- what is kept
record KeptBack (best : Float) (k j : ℕ) (y : Float) : Type 0 where
  pub number : j ≡ kept_number (kept_of j y)
  pub score : y ≡ kept_score_of (kept_of j y)
  pub holds : KeptHolds best k (kept_of j y)

kept_none : (j : ℕ) (y : Float) → eqb j none ≡ true → kept_of j y ≡ None
unfolding kept_of
kept_none j y e = rw e

kept_some : (j : ℕ) (y : Float) → eqb j none ≡ false → kept_of j y ≡ Some (j, y)
unfolding kept_of
kept_some j y e = rw e

none_fields : (kept_number None ≡ none) × (kept_score_of None ≡ cube.zero)
unfolding kept_number kept_score_of
none_fields = (refl, refl)

some_fields : (j : ℕ) (y : Float) → (kept_number (Some (j, y)) ≡ j) × (kept_score_of (Some (j, y)) ≡ y)
unfolding kept_number kept_score_of
some_fields j y = (refl, refl)

kept_back : (best : Float) (k j : ℕ) (y : Float) → T (fits binary64 y) → kept_in best k j y ≡ true → KeptBack best k j y
unfolding kept_in
kept_back best k j y f h = go (eqb j none) refl h
  where
    go : (b : Bool) → eqb j none ≡ b → cond b (zero_bits_of y) (ltb j k && lt best y) ≡ true → KeptBack best k j y
    go true e h =
        let q = sym (kept_none j y e) in
        record {
          number = eqb-true j none e ∙ sym none_fields.0 ∙ ap kept_number q;
          score = zero_bits y f h ∙ sym none_fields.1 ∙ ap kept_score_of q;
          holds = subst (KeptHolds best k) q (omega arith);
        }
    go false e h =
        let q = sym (kept_some j y e) in
        record {
          number = sym (some_fields j y).0 ∙ ap kept_number q;
          score = sym (some_fields j y).1 ∙ ap kept_score_of q;
          holds = let a = and_parts (ltb j k) _ h in subst (KeptHolds best k) q (ltb-true j k a.0, a.1);
        }

-- the plain phase, and the trainer that it gives
record Shape (t : Trainer) : Type 0 where
  pub phase : Phase
  pub is : plain_phase t ≡ phase
  pub same : t ≡ embed_in t.settings t.tree t.stage t.round phase
  pub valid : ValidPhase t.settings (plain_tree t.tree) t.stage t.round phase

phase_at :
    (t : Trainer) (n : ℕ) → t.phase ≡ n → plain_phase t ≡ phase_of n t.leaf t.best t.k (kept_of t.kept t.kept_score)
phase_at t n e = ap (λ (p : ℕ). phase_of p t.leaf t.best t.k (kept_of t.kept t.kept_score)) e

module _ (t : Trainer) (g : grown_of t.tree ≡ true) (f : TrainerFits t) where
  at_leaf : leaf_holds t ≡ true → AtLeaf (plain_tree t.tree) t.leaf
  at_leaf h =
      let p = leaf_parts t h in
      record {
        leaf = leaf_back t.tree g f.sized t.leaf p.0;
        unmarked = ap (λ (r : Rule). r.marked) (rule_back t.tree g t.leaf (tree.leaf_below t.tree t.leaf p.0)) ∙ p.1;
      }

  shape5 : t.phase ≡ 5 → tuning t && (leaf_holds t && try_holds_of t) ≡ true → Shape t
  unfolding phase_of
  shape5 e h =
      let a = and_parts (tuning t) _ h in
      let l = and_parts (leaf_holds t) _ a.1 in
      let p = leaf_parts t l.0 in
      let q = try_parts t l.1 in
      let b = kept_back t.best t.k t.kept t.kept_score f.score q.1 in
      let kept = kept_of t.kept t.kept_score in
      let r = rule_back t.tree g t.leaf (tree.leaf_below t.tree t.leaf p.0) in
      record {
        phase = phase5 t.leaf t.best t.k kept;
        is = phase_at t 5 e;
        same = rebuilt t 5 t.leaf t.best t.k (kept_number kept) (kept_score_of kept) e refl refl refl b.number b.score;
        valid = (
          tuning_parts t a.0,
          (
            at_leaf l.0,
            record {
              below = rw (r, candidates_same t.settings (leaf_action t)) q.0;
              held = b.holds;
            },
          ),
        );
      }

  shape_of : (p : trainer.Phase) → t.phase ≡ numbers.number_of p → holds_in t p ≡ true → Shape t
  unfolding phase_of
  shape_of Split e h =
      let p = splitting_parts t h in
      record { phase = phase1; is = phase_at t 1 e; same = stand_back t f 1 e p.1; valid = p.0 }
  shape_of Drill e h =
      let p = splitting_parts t h in
      record { phase = phase2; is = phase_at t 2 e; same = stand_back t f 2 e p.1; valid = p.0 }
  shape_of Choose e h =
      let p = and_parts (tuning t) _ h in
      record { phase = phase3; is = phase_at t 3 e; same = stand_back t f 3 e p.1; valid = tuning_parts t p.0 }
  shape_of Own e h =
      let p = and_parts (tuning t) _ h in
      let l = and_parts (leaf_holds t) _ p.1 in
      record { phase = phase4 t.leaf; is = phase_at t 4 e; same = asking_back t f e l.1; valid = (tuning_parts t p.0, at_leaf l.0) }
  shape_of Try e h = shape5 e h
  shape_of Last e h =
      let p = ending_parts t h in
      record { phase = phase6; is = phase_at t 6 e; same = stand_back t f 6 e p.1; valid = p.0 }
  shape_of Done e h =
      let p = ending_parts t h in
      record { phase = phase7; is = phase_at t 7 e; same = stand_back t f 7 e p.1; valid = p.0 }

  shape_from : phase_holds t ≡ true → Shape t
  shape_from h = go (numbers.phase_of t.phase) refl
    where
      go : (o : Option trainer.Phase) → numbers.phase_of t.phase ≡ o → Shape t
      go (Some p) e = let n = phase_number t.phase p e in shape_of p n (named_holds t p n ∙ h)
      go None e = cc (unnamed_fails t e, h)

-- ---- the accepted trainer and its plain state
module _ (t : Trainer) (a : accepted_of t ≡ true) (f : TrainerFits t) where
  shape : Shape t
  shape = shape_from t (accepted_grown t a) f (phase_is t ∙ accepted_phase t a)

  pub plain_embeds : embed (plain_of t) ≡ t
  plain_embeds =
      ap (λ (u : RuleTree). embed_in t.settings u t.stage t.round (plain_phase t))
      (tree_back t.tree (accepted_grown t a) f.sized f.nodes)
      ∙ ap (embed_in t.settings t.tree t.stage t.round) shape.is
      ∙ sym shape.same

  -- all of its values are of their types, whole numbers too
  pub whole_typed : stored.TrainerFits t
  whole_typed =
      whole_fits t a
      (record {
        settings = settings_fit_lem t.settings (accepted_settings t a) f.settings;
        tree = record { full = f.sized; ends = f.ends; actions = f.nodes };
        best = f.best;
        score = f.score;
      })

  pub plain_valid : ValidState (plain_of t)
  plain_valid =
      record {
        settings = accepted_settings t a;
        tree = tree_valid t.tree (accepted_grown t a) f.sized f.ends;
        box = accepted_ends t whole_typed a;
        phase = subst⁻¹ (ValidPhase t.settings (plain_tree t.tree) t.stage t.round) shape.is shape.valid;
      }

  pub plain_fits : FitState (plain_of t)
  plain_fits = rw plain_embeds whole_typed
