-- A trainer whose tree has its newest split taken back is accepted wherever its leaf stays, so what the call answers is its refusals' order
-- alone, and what it writes loads as that trainer. Assumes nothing.
use mathlib.Core.Path.{◌≡◌, refl, sym, ap, ◌∙◌}
use mathlib.Core.Bool.{Bool, true, false, not, ◌&&◌, ◌||◌, cond}
use mathlib.Core.List.{List, [], ◌∷◌}
use mathlib.Core.Logic.{inl}
use Prim.Native.Nat.{ℕ, ◌+◌, ◌<◌}
use native.Mathlib.Omega.{arith}
use borrow.Author.Tests.{ltb-true}
use lib.Dec.{eqb, ltb, leb}
use lib.ListN.{length}
use Rattle.std.specs.Prelude.{Result, Ok, Err}
use Rattle.refusal.specs.declared.Refusal.{Refusal}
use Rattle.refusal.specs.declared.Refusal.TheVariants.{NoLeaf, NoSplit, ShortBuffer}
use Rattle.refusal.specs.Guards.{check, checked, and_then}
use Rattle.remy.specs.declared.point.Point.{Point}
use Rattle.remy.specs.Cube.{point_equal}
use Rattle.rule_tree.specs.declared.Node.{Node}
use Rattle.rule_tree.specs.declared.RuleTree.{RuleTree}
use Rattle.rule_tree.specs.Nodes.{node_at_of, node_count, action_in}
use Rattle.rule_tree.specs.Grown.{grown_of}
use Rattle.rule_tree.specs.Change.{undone}
use Rattle.rule_tree.specs.Calls.{leaf_in}
use Rattle.rule_tree.proofs.GrownTree.{leaf_childless, leaf_from}
use Rattle.rule_tree.proofs.Undoing.{newest_children, undo_other, undo_splits, undo_ends, undo_grown}
use Rattle.rule_tree_laws.proofs.Undone.{undo_fits}
use Rattle.trainer.specs.declared.Trainer.{Trainer}
use Rattle.trainer.specs.Settings.{settings_hold}
use Rattle.trainer.specs.Candidates.{candidates_of}
use Rattle.trainer.specs.State.{splitting, tuning, ending, idle, untried, kept_holds, leaf_holds, try_holds_of, box_holds, phase_holds, accepted_of}
use Rattle.trainer.proofs.AcceptWays.{phase_is, accepted_all}
use Rattle.trainer.proofs.AcceptedFacts.{accepted_settings, accepted_box, accepted_phase}
use Rattle.record.specs.Write.{record_of}
use Rattle.record.specs.Calls.{save_of, load_of}
use Rattle.wire.proofs.Bytes.{never}
use Rattle.record.proofs.RoundTrip.{TrainerFits}
use Rattle.record.proofs.NumbersAgain.{Bytes}
use Rattle.record.proofs.BytesFit.{loaded_fits}
use Rattle.record.proofs.Loading.{accepted_grown, load_again, load_saved}
use Rattle.host_trainer.specs.Records.{written_of}
use Rattle.host_trainer.specs.Undone.{with_tree, leaf_stays, undone_trainer, undone_in}
use Rattle.host_trainer.proofs.Runs.{save_sized}

-- ---- of the tree a state looks at the trainer's leaf alone, and only in phases 4 and 5
-- a state's test by those of its phase; leaf and node stand for whether the trainer's leaf is one, and for its node
abbrev held_with : Trainer → Bool → Node → Bool
held_with t leaf x =
    cond (eqb t.phase 1 || eqb t.phase 2) (splitting t)
    (cond (eqb t.phase 3) (tuning t && idle t)
    (cond (eqb t.phase 4) (tuning t && ((leaf && not x.optimized) && untried t))
    (cond (eqb t.phase 5)
    (tuning t && ((leaf && not x.optimized) && (ltb t.k (length (candidates_of t.settings (action_in x))) && kept_holds t)))
    (cond (eqb t.phase 6 || eqb t.phase 7) (ending t) false))))

held_is : (t : Trainer) (tree : RuleTree) → phase_holds (with_tree t tree) ≡ held_with t (leaf_in tree t.leaf) (node_at_of tree.nodes t.leaf)
unfolding phase_holds splitting tuning ending leaf_holds try_holds_of
held_is t tree = refl

-- with no leaf there the phase is neither
fails : (b c : Bool) → (b && (false && c)) ≡ true → ⊥
fails true c e = never e
fails false c e = never e

by_phase :
    (p q r s u v w tune m n f g h b : Bool)
    → cond p u (cond q v (cond r (tune && ((false && m) && f)) (cond s (tune && ((false && m) && g)) w))) ≡ true
    → cond p u (cond q v (cond r (tune && ((b && n) && f)) (cond s (tune && ((b && n) && h)) w))) ≡ true
by_phase true q r s u v w tune m n f g h b e = e
by_phase false true r s u v w tune m n f g h b e = e
by_phase false false true s u v w tune m n f g h b e = absurd (fails tune f e)
by_phase false false false true u v w tune m n f g h b e = absurd (fails tune g e)
by_phase false false false false u v w tune m n f g h b e = e

none_held : (t : Trainer) (x y : Node) (b : Bool) → held_with t false x ≡ true → held_with t b y ≡ true
none_held t x y b e =
    by_phase (eqb t.phase 1 || eqb t.phase 2) (eqb t.phase 3) (eqb t.phase 4) (eqb t.phase 5) (splitting t) (tuning t && idle t)
    (cond (eqb t.phase 6 || eqb t.phase 7) (ending t) false) (tuning t) (not x.optimized) (not y.optimized) (untried t)
    (ltb t.k (length (candidates_of t.settings (action_in x))) && kept_holds t)
    (ltb t.k (length (candidates_of t.settings (action_in y))) && kept_holds t) b e

still_held : (t : Trainer) (x y : Node) (a b : Bool) → (a ≡ true → b ≡ true) → (a ≡ true → y ≡ x) → held_with t a x ≡ true → held_with t b y ≡ true
still_held t x y true b p q e = ap (λ (z : Node). held_with t b z) (q refl) ∙ ap (λ (z : Bool). held_with t z x) (p refl) ∙ e
still_held t x y false b p q e = none_held t x y b e

-- ---- the trainer that is left
abbrev left : Trainer → Trainer
left t = with_tree t (undone t.tree)

module _ (t : Trainer) (f : TrainerFits t) (a : accepted_of t ≡ true) (s : 0 < t.tree.splits) (stays : leaf_stays t ≡ true) where
  g : grown_of t.tree ≡ true
  g = accepted_grown t a

  full : length t.tree.nodes ≡ 513
  full = f.tree.full

  before : t.leaf + 8 < node_count t.tree.splits
  before = ltb-true (t.leaf + 8) (node_count t.tree.splits) stays

  leaf_same : leaf_in t.tree t.leaf ≡ true → node_at_of (undone t.tree).nodes t.leaf ≡ node_at_of t.tree.nodes t.leaf
  leaf_same l =
      undo_other t.tree full g s t.leaf
      (λ e.
      let c = leaf_childless t.tree t.leaf l in
      let n = newest_children t.tree full g s in
      let m = ap (λ (i : ℕ). (node_at_of t.tree.nodes i).children) e in
      absurd (omega (arith, c, n, m)))
      (inl (omega (arith, before)))

  leaf_stays_lem : leaf_in t.tree t.leaf ≡ true → leaf_in (undone t.tree) t.leaf ≡ true
  leaf_stays_lem l =
      leaf_from (undone t.tree) t.leaf (omega (arith, before, undo_splits t.tree))
      (ap (λ (x : Node). x.children) (leaf_same l) ∙ leaf_childless t.tree t.leaf l)

  box_stays : box_holds (left t) ≡ true
  unfolding box_holds
  box_stays = ap (λ (e : Point). point_equal e t.settings.ends) (undo_ends t.tree) ∙ accepted_box t a

  phase_stays : phase_holds (left t) ≡ true
  phase_stays =
      held_is t (undone t.tree)
      ∙ still_held t (node_at_of t.tree.nodes t.leaf) (node_at_of (undone t.tree).nodes t.leaf) (leaf_in t.tree t.leaf) (leaf_in (undone t.tree) t.leaf)
      leaf_stays_lem leaf_same (sym (held_is t t.tree) ∙ phase_is t ∙ accepted_phase t a)

  pub undone_accepted : accepted_of (left t) ≡ true
  undone_accepted =
      sym
      (accepted_all (left t) (settings_hold t.settings) (grown_of (undone t.tree)) (box_holds (left t)) (phase_holds (left t)) refl (accepted_settings t a)
      refl (undo_grown t.tree full g s) refl box_stays refl)
      ∙ phase_stays

  undone_fits : TrainerFits (left t)
  undone_fits =
      record {
        settings = f.settings;
        tree = undo_fits t.tree f.tree g s;
        stage = f.stage;
        round = f.round;
        leaf = f.leaf;
        best = f.best;
        k = f.k;
        kept = f.kept;
        score = f.score;
      }

  -- what is written loads as the trainer with the newest split taken back
  pub undone_loads : load_of (record_of (left t)) ≡ Ok (left t)
  undone_loads = load_saved (left t) undone_fits undone_accepted

-- ---- the call: 6, 7, 8 of the record; then 24, 3, 9
module _ (held out : List ℕ) (t : Trainer) (bytes : Bytes held) (loaded : load_of held ≡ Ok t) where
  pub undo_order_lem :
      written_of (undone_in held) out
      ≡ checked (check (ltb 0 t.tree.splits) NoSplit ∷ check (leaf_stays t) NoLeaf ∷ check (leb (length (record_of (left t))) (length out)) ShortBuffer ∷ []) (Ok (length (record_of (left t))))
  unfolding undone_in written_of undone_trainer
  undo_order_lem = ap (λ (z : Result Trainer Refusal). written_of (and_then z undone_trainer) out) loaded ∙ by (ltb 0 t.tree.splits) refl (leaf_stays t) refl
    where
      a : accepted_of t ≡ true
      a = (load_again held t loaded).accepted

      by : (x : Bool) → ltb 0 t.tree.splits ≡ x → (y : Bool) → leaf_stays t ≡ y
          → written_of (undone_trainer t) out ≡ cond x (cond y (cond (leb (length (record_of (left t))) (length out)) (Ok (length (record_of (left t)))) (Err ShortBuffer)) (Err NoLeaf)) (Err NoSplit)
      by true p true q = rw (accepted_grown t a, p, q) (save_sized (left t) out (undone_accepted t (loaded_fits held t bytes loaded) a (ltb-true 0 t.tree.splits p) q))
      by true p false q = rw (accepted_grown t a, p, q)
      by false p y q = rw (accepted_grown t a, p)
