-- A valid state of the plain trainer stands for an accepted trainer. Assumes nothing.
use mathlib.Core.Path.{◌≡◌, refl, sym, ap, ◌∙◌}
use mathlib.Core.Bool.{true, false, not}
use Prim.Native.Nat.{ℕ, ◌+◌, ◌<◌}
use native.Mathlib.Omega.{arith}
use borrow.Author.Tests.{lt-ltb, le-leb, eq-eqb, ne_eqb}
use lib.Dec.{eqb, ltb, leb}
use lib.ListN.{length}
use lib.Ieee.{Float, to_bits}
use Rattle.std.specs.Prelude.{Some, None}
use Rattle.remy.specs.Cube as cube
use Rattle.remy.specs.Cube.{point_equal}
use Rattle.remy.proofs.Ends.{ends_themselves}
use Rattle.rule_tree.proofs.Plain.{ends_admitted_lem}
use Rattle.rule_tree.specs.declared.Node.{Node}
use Rattle.rule_tree.specs.declared.RuleTree.{RuleTree}
use Rattle.rule_tree.specs.Nodes.{node_at_of, action_in}
use Rattle.rule_tree.specs.Grown.{grown_of}
use Rattle.rule_tree.specs.Calls.{leaf_in}
use Rattle.rule_tree.proofs.Counting.{and_both}
use Rattle.trainer.specs.declared.settings.Settings.{Settings}
use Rattle.trainer.specs.declared.Trainer.{Trainer}
use Rattle.trainer.specs.Settings.{settings_hold}
use Rattle.trainer.specs.Candidates.{candidates_of}
use Rattle.trainer.specs.State.{none, stand, untried_in, idle, leaf_action, leaf_holds, kept_in, try_holds_of, splitting, tuning, ending, box_holds, phase_holds, accepted_of}
use Rattle.trainer.proofs.AcceptWays.{accepted_is, phase_is}
use Rattle.promise.specs.PlainTree.{Tree, rule_at}
use Rattle.promise.specs.PlainTrainer.{State, Phase, Kept, phase1, phase2, phase3, phase4, phase5, phase6, phase7, kept_number, kept_score_of}
use Rattle.promise.proofs.Embed.{embed_tree, ValidTree}
use Rattle.promise.proofs.TreeKeeps.{leaf_embeds, leaf_node_lem}
use Rattle.promise.proofs.TreeGrown.{grown_embeds}
use Rattle.promise.proofs.Candidates.{candidates_same, candidates_few}
use Rattle.promise.proofs.States.{embed_in, embed, Splitting, Tuning, Ending, AtLeaf, KeptHolds, ValidPhase, ValidState}

-- ---- the tests of a state, one by one
untried_none : untried_in cube.zero 0 none cube.zero ≡ true
unfolding untried_in to_bits
untried_none = refl

module _ (s : Settings) (t : RuleTree) (p i r : ℕ) where
  splitting_holds : Splitting s i r → splitting (stand s t p i r) ≡ true
  unfolding splitting
  splitting_holds h =
      and_both (leb 1 i) _ (le-leb 1 i h.later) (and_both (leb i s.rule_splits) _ (le-leb i s.rule_splits h.stage) (and_both (eqb r 0) _ (eq-eqb r 0 h.round) untried_none))

  ending_holds : Ending s i r → ending (stand s t p i r) ≡ true
  unfolding ending
  ending_holds h =
      and_both (eqb i (s.rule_splits + 1)) _ (eq-eqb i (s.rule_splits + 1) h.stage) (and_both (eqb r 0) _ (eq-eqb r 0 h.round) untried_none)

tuning_holds : (x : Trainer) → Tuning x.settings x.stage x.round → tuning x ≡ true
unfolding tuning
tuning_holds x h = and_both (leb x.stage x.settings.rule_splits) _ (le-leb _ _ h.stage) (lt-ltb _ _ h.round)

leaf_holds_lem : (x : Trainer) → leaf_in x.tree x.leaf ≡ true → (node_at_of x.tree.nodes x.leaf).optimized ≡ false → leaf_holds x ≡ true
unfolding leaf_holds
leaf_holds_lem x l m = and_both (leaf_in x.tree x.leaf) _ l (ap not m)

try_holds :
    (x : Trainer) → x.k < length (candidates_of x.settings (leaf_action x)) → kept_in x.best x.k x.kept x.kept_score ≡ true
    → try_holds_of x ≡ true
unfolding try_holds_of
try_holds x l h = and_both (ltb x.k (length (candidates_of x.settings (leaf_action x)))) _ (lt-ltb _ _ l) h

kept_holds_lem : (best : Float) (k : ℕ) (kept : Kept) → k < 4096 → KeptHolds best k kept → kept_in best k (kept_number kept) (kept_score_of kept) ≡ true
unfolding kept_in kept_number kept_score_of to_bits
kept_holds_lem best k None l h = refl
kept_holds_lem best k (Some (j, y)) l h =
    let e : eqb j none ≡ false = ne_eqb j none (λ z. omega (arith, h.0)) in
    rw (e, lt-ltb j k h.0) h.1

-- ---- each phase
module _ (s : Settings) (t : Tree) (v : ValidTree t) (i r : ℕ) where
  leaf_accepted_lem : (x : Trainer) → x.tree ≡ embed_tree t → AtLeaf t x.leaf → leaf_holds x ≡ true
  leaf_accepted_lem x e h =
      leaf_holds_lem x (ap (λ (q : RuleTree). leaf_in q x.leaf) e ∙ leaf_embeds t v x.leaf ∙ h.leaf)
      (ap (λ (q : RuleTree). (node_at_of q.nodes x.leaf).optimized) e ∙ ap (λ (y : Node). y.optimized) (leaf_node_lem t v x.leaf h.leaf) ∙ h.unmarked)

  phase_accepted_lem : (p : Phase) → ValidPhase s t i r p → phase_holds (embed_in s (embed_tree t) i r p) ≡ true
  phase_accepted_lem phase1 h = phase_is (embed_in s (embed_tree t) i r phase1) ∙ splitting_holds s (embed_tree t) 1 i r h
  phase_accepted_lem phase2 h = phase_is (embed_in s (embed_tree t) i r phase2) ∙ splitting_holds s (embed_tree t) 2 i r h
  phase_accepted_lem phase3 h =
      let x = embed_in s (embed_tree t) i r phase3 in
      phase_is x ∙ and_both (tuning x) (idle x) (tuning_holds x h) untried_none
  phase_accepted_lem (phase4 leaf) h =
      let x = embed_in s (embed_tree t) i r (phase4 leaf) in
      phase_is x ∙ and_both (tuning x) _ (tuning_holds x h.0) (and_both (leaf_holds x) _ (leaf_accepted_lem x refl h.1) untried_none)
  phase_accepted_lem (phase5 leaf best k kept) h =
      let x = embed_in s (embed_tree t) i r (phase5 leaf best k kept) in
      let a = (rule_at t leaf).action in
      let e =
      ap (λ (y : Node). length (candidates_of s (action_in y))) (leaf_node_lem t v leaf h.1.0.leaf) ∙ sym (ap length (candidates_same s a)) in
      let few = candidates_few s a in
      phase_is x
      ∙ and_both (tuning x) _ (tuning_holds x h.0)
      (and_both (leaf_holds x) _ (leaf_accepted_lem x refl h.1.0)
      (try_holds x (omega (arith, h.1.1.below)) (kept_holds_lem best k kept (omega (arith, h.1.1.below)) h.1.1.held)))
  phase_accepted_lem phase6 h = phase_is (embed_in s (embed_tree t) i r phase6) ∙ ending_holds s (embed_tree t) 6 i r h
  phase_accepted_lem phase7 h = phase_is (embed_in s (embed_tree t) i r phase7) ∙ ending_holds s (embed_tree t) 7 i r h

pub settings_of : (s : Settings) (t : RuleTree) (i r : ℕ) (p : Phase) → (embed_in s t i r p).settings ≡ s
settings_of s t i r phase1 = refl
settings_of s t i r phase2 = refl
settings_of s t i r phase3 = refl
settings_of s t i r (phase4 leaf) = refl
settings_of s t i r (phase5 leaf best k kept) = refl
settings_of s t i r phase6 = refl
settings_of s t i r phase7 = refl

pub tree_of : (s : Settings) (t : RuleTree) (i r : ℕ) (p : Phase) → (embed_in s t i r p).tree ≡ t
tree_of s t i r phase1 = refl
tree_of s t i r phase2 = refl
tree_of s t i r phase3 = refl
tree_of s t i r (phase4 leaf) = refl
tree_of s t i r (phase5 leaf best k kept) = refl
tree_of s t i r phase6 = refl
tree_of s t i r phase7 = refl

box_embeds : (st : State) → ValidTree st.tree → st.tree.ends ≡ st.settings.ends → box_holds (embed st) ≡ true
unfolding box_holds
box_embeds st v b =
    let e = settings_of st.settings (embed_tree st.tree) st.stage st.round st.phase in
    let q = tree_of st.settings (embed_tree st.tree) st.stage st.round st.phase in
    (λ j. point_equal (q j).ends (e j).ends) ∙ ap (point_equal st.tree.ends) (sym b)
    ∙ ends_themselves st.tree.ends (ends_admitted_lem st.tree.ends v.box)

pub accepted_embeds : (st : State) → ValidState st → accepted_of (embed st) ≡ true
accepted_embeds st v =
    let e = settings_of st.settings (embed_tree st.tree) st.stage st.round st.phase in
    let q = tree_of st.settings (embed_tree st.tree) st.stage st.round st.phase in
    accepted_is (embed st)
    ∙ and_both (settings_hold (embed st).settings) _ (ap settings_hold e ∙ v.settings)
    (and_both (grown_of (embed st).tree) _ (ap grown_of q ∙ grown_embeds st.tree v.tree)
    (and_both (box_holds (embed st)) _ (box_embeds st v.tree v.box)
    (phase_accepted_lem st.settings st.tree v.tree st.stage st.round st.phase v.phase)))
