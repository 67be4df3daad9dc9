-- The plain trainer's tree keeps its upper ends, whatever the trainer is asked. Assumes nothing.
use mathlib.Core.Path.{◌≡◌}
use mathlib.Core.Bool.{not, ◌&&◌}
use mathlib.Core.List.{List, [], ◌∷◌}
use Prim.Native.Nat.{ℕ, ◌+◌}
use lib.Dec.{eqb, ltb, leb}
use lib.ListN.{length, get_or}
use lib.Ieee.{Float}
use Rattle.std.specs.Prelude.{Option, Some, None}
use Rattle.refusal.proofs.Guards.{either}
use Rattle.remy.specs.declared.point.Point.{Point}
use Rattle.trainer.specs.declared.settings.Settings.{Settings}
use Rattle.promise.specs.PlainCandidates.{no_candidate}
use Rattle.promise.specs.PlainSettings.{settings_taken}
use Rattle.promise.specs.PlainTree.{Tree, leaves, unmarked_leaves, most_used, used, sum, counts_taken, split, set_action, clear_marks}
use Rattle.promise.specs.PlainTrainer.{State, Phase, Kept, phase1, phase2, phase3, phase4, phase5, phase6, phase7, Outcome, at, begin_later_stage, begin_round, split_chosen, answer3, candidates, try_all, keep, after_last, answer5, counted, scored, taken, changed, record_bytes, Call, counts, score, reload, change, step}
use Rattle.promise.specs.Demand3.{plain_end_of}

module _ (e : Point) where
  abbrev Has : State → Type 0
  Has st = st.tree.ends ≡ e

  abbrev Leaves : Outcome → Type 0
  Leaves o = Has o.state

  pub round_has : (s : Settings) (t : Tree) (i r : ℕ) → t.ends ≡ e → Has (begin_round s t i r)
  unfolding begin_round begin_later_stage
  round_has s t i r q =
      either Has (ltb r s.optimization_rounds_per_split) q (either Has (ltb s.rule_splits (i + 1)) q q)

  chosen_has : (st : State) → Has st → (c : Option ℕ) (then : Tree → State) → ((t : Tree) → t.ends ≡ e → Has (then t)) → Leaves (split_chosen st c then)
  unfolding split_chosen
  chosen_has st h None then k = h
  chosen_has st h (Some i) then k = either Leaves (ltb (length st.tree.splits) 64) (k (split st.tree i) h) h

  module _ (s : Settings) (t : Tree) (i r : ℕ) (q : t.ends ≡ e) where
    third_has : (xs : List ℕ) (c : Option ℕ) → Has (answer3 (at s t i r phase3) xs c)
    unfolding answer3
    third_has xs None = round_has s (clear_marks t) i (r + 1) q
    third_has xs (Some l) = either Has (eqb (get_or xs l 0) 0 && not (eqb (sum xs) 0)) (round_has s (clear_marks t) i (r + 1) q) q

    counted_has : (xs : List ℕ) (p : Phase) → Leaves (counted (at s t i r p) xs p)
    unfolding counted
    counted_has xs phase1 =
        either Leaves (counts_taken t xs)
        (chosen_has (at s t i r phase1) q (most_used xs (leaves t)) _
        (λ u w. either Has (s.drill_down && leb (used xs) 1) w (round_has s u i r w)))
        q
    counted_has xs phase2 =
        either Leaves (counts_taken t xs)
        (either Leaves (ltb 1 (used xs)) (round_has s t i r q)
        (chosen_has (at s t i r phase2) q (most_used xs (leaves t)) (λ u. at s u i r phase2) (λ u w. w)))
        q
    counted_has xs phase3 = either Leaves (counts_taken t xs) (third_has xs (most_used xs (unmarked_leaves t))) q
    counted_has xs (phase4 l) = q
    counted_has xs (phase5 l best k kept) = q
    counted_has xs phase6 = either Leaves (counts_taken t xs) q q
    counted_has xs phase7 = q

    try_has : (p : Phase) (u : Tree) → u.ends ≡ e → (l : ℕ) (best : Float) → Has (try_all (at s t i r p) u l best)
    unfolding try_all
    try_has p u w l best = either Has (eqb (length (candidates (at s t i r p) u l)) 0) w w

    last_has : (p : Phase) (l : ℕ) (kept : Kept) → Has (after_last (at s t i r p) l kept)
    unfolding after_last
    last_has p l None = q
    last_has p l (Some (j, y)) = try_has p (set_action t l (get_or (candidates (at s t i r p) t l) j no_candidate)) q l y

    scored_has : (x : Float) (p : Phase) → Leaves (scored (at s t i r p) x p)
    unfolding scored answer5
    scored_has x phase1 = q
    scored_has x phase2 = q
    scored_has x phase3 = q
    scored_has x (phase4 l) = try_has (phase4 l) t q l x
    scored_has x (phase5 l best k kept) =
        either Has (ltb (k + 1) (length (candidates (at s t i r (phase5 l best k kept)) t l))) q
        (last_has (phase5 l best k kept) l (keep best k x kept))
    scored_has x phase6 = q
    scored_has x phase7 = q

  step_keeps : (st : State) (c : Call) → Has st → Leaves (step st c)
  unfolding step changed
  step_keeps st (counts xs) q = counted_has st.settings st.tree st.stage st.round q xs st.phase
  step_keeps st (score x) q = scored_has st.settings st.tree st.stage st.round q x st.phase
  step_keeps st (reload buffer) q = either Leaves (leb (length (record_bytes st)) (length buffer)) q q
  step_keeps st (change s) q = either Leaves (settings_taken s) (either Leaves (taken st s) q q) q

  pub ends_stay : (st : State) (cs : List Call) → Has st → Has (plain_end_of st cs)
  unfolding plain_end_of
  ends_stay st [] q = q
  ends_stay st (c ∷ cs) q = ends_stay (step st c).state cs (step_keeps st c q)
