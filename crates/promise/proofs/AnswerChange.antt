-- New settings do to the trainer what they do to the plain trainer, and leave it in a valid state. Assumes nothing.
use mathlib.Core.Path.{◌≡◌, refl, sym, ap, subst, ◌∙◌}
use mathlib.Core.Bool.{Bool, true, false, cond}
use Prim.Native.Nat.{ℕ, ◌≤◌}
use borrow.Author.Tests.{leb-true, ltb-true}
use lib.Dec.{leb, ltb}
use Rattle.std.specs.Prelude.{Result, Ok, Err}
use Rattle.std.proofs.lemmas.Bool.{false≢true, and_parts}
use Rattle.refusal.specs.declared.Refusal.{Refusal}
use Rattle.refusal.specs.declared.Refusal.TheVariants.{BadSettings, UnfitSettings}
use Rattle.refusal.specs.Numbers.{number_of}
use Rattle.refusal.proofs.Guards.{both}
use Rattle.remy.specs.Cube.{point_equal}
use Rattle.rule_tree.proofs.Plain.{PointFits, ends_same}
use Rattle.trainer.specs.declared.settings.Settings.{Settings}
use Rattle.trainer.specs.declared.Trainer.{Trainer}
use Rattle.trainer.specs.Settings.{settings_hold}
use Rattle.trainer.specs.State.{accepted_of}
use Rattle.trainer.specs.Change.{phase_fits, round_fits, settings_fit, changed_to, change_of}
use Rattle.trainer.proofs.Holds.{parts}
use Rattle.promise.specs.PlainSettings.{settings_taken}
use Rattle.promise.specs.PlainTree.{Tree}
use Rattle.promise.specs.PlainTrainer.{State, Outcome, Phase, phase1, phase2, phase3, phase4, phase5, phase6, phase7, at, become, refuse, same_ends_of, goes_on_of, taken, phase_after, changed}
use Rattle.promise.specs.Demand3.{after_call}
use Rattle.promise.proofs.Embed.{embed_tree}
use Rattle.promise.proofs.PlainSettings.{settings_same}
use Rattle.promise.proofs.Accepted.{accepted_embeds}
use Rattle.promise.proofs.States.{embed_in, embed, answer_step, plain_step, Tuning, ValidPhase, ValidState}

-- ---- a call on an accepted trainer
change_is : (t : Trainer) (s : Settings) → accepted_of t ≡ true
    → change_of t s ≡ cond (settings_hold s) (cond (settings_fit t s) (Ok (changed_to t s)) (Err UnfitSettings)) (Err BadSettings)
unfolding change_of
change_is t s a = rw a

plain_is : (st : State) (s : Settings)
    → changed st s
    ≡ cond (settings_taken s) (cond (taken st s) (become (at s st.tree st.stage st.round (phase_after st.phase))) (refuse 27 st)) (refuse 2 st)
unfolding changed
plain_is st s = refl

-- settings that are refused with 2 leave the plain trainer
pub refused_stays : (st : State) (s : Settings) → settings_taken s ≡ false → (changed st s).state ≡ st
unfolding changed
refused_stays st s e = rw e

-- ---- which settings fit, and what the trainer becomes
module _ (u : Settings) (t : Tree) (i r : ℕ) (s : Settings) where
  fit_in : (p : Phase) → settings_fit (embed_in u (embed_tree t) i r p) s ≡ taken (at u t i r p) s
  unfolding settings_fit phase_fits round_fits point_equal taken goes_on_of
  fit_in phase1 = refl
  fit_in phase2 = refl
  fit_in phase3 = refl
  fit_in (phase4 leaf) = refl
  fit_in (phase5 leaf best k kept) = refl
  fit_in phase6 = refl
  fit_in phase7 = refl

  becomes_in : (p : Phase) → changed_to (embed_in u (embed_tree t) i r p) s ≡ embed (at s t i r (phase_after p))
  unfolding changed_to phase_after
  becomes_in phase1 = refl
  becomes_in phase2 = refl
  becomes_in phase3 = refl
  becomes_in (phase4 leaf) = refl
  becomes_in (phase5 leaf best k kept) = refl
  becomes_in phase6 = refl
  becomes_in phase7 = refl

pub change_embeds : (st : State) → ValidState st → (s : Settings) → answer_step st (change_of (embed st) s) ≡ plain_step (changed st s)
unfolding changed after_call number_of
change_embeds st v s =
    ap (answer_step st) (change_is (embed st) s (accepted_embeds st v))
    ∙ (λ j.
    answer_step st
    (cond (sym (settings_same s) j) (cond (fit_in st.settings st.tree st.stage st.round s st.phase j) (Ok (becomes_in st.settings st.tree st.stage st.round s st.phase j)) (Err UnfitSettings)) (Err BadSettings)))
    ∙ both Shown (settings_taken s) {k = refuse 2 st}
    (both Shown (taken st s) {m = become (at s st.tree st.stage st.round (phase_after st.phase))} {k = refuse 27 st} refl refl) refl
  where
    Shown : Result Trainer Refusal → Outcome → Type 0
    Shown r o = answer_step st r ≡ plain_step o

-- ---- a valid state
tunes : (s : Settings) (i r : ℕ) → i ≤ s.rule_splits → ltb r s.optimization_rounds_per_split ≡ true → Tuning s i r
tunes s i r l g = record { stage = l; round = ltb-true r s.optimization_rounds_per_split g }

phase_kept : (u : Settings) (t : Tree) (i r : ℕ) (s : Settings) (p : Phase) → ValidPhase u t i r p → i ≤ s.rule_splits
    → goes_on_of (at u t i r p) s p ≡ true → ValidPhase s t i r (phase_after p)
unfolding goes_on_of phase_after
phase_kept u t i r s phase1 h l g = record { later = h.later; stage = l; round = h.round }
phase_kept u t i r s phase2 h l g = record { later = h.later; stage = l; round = h.round }
phase_kept u t i r s phase3 h l g = tunes s i r l g
phase_kept u t i r s (phase4 leaf) h l g = (tunes s i r l g, h.1)
phase_kept u t i r s (phase5 leaf best k kept) h l g = (tunes s i r l g, h.1.0)
phase_kept u t i r s phase6 h l g = absurd (false≢true g)
phase_kept u t i r s phase7 h l g = absurd (false≢true g)

record Taken (st : State) (s : Settings) : Type 0 where
  ends : point_equal st.settings.ends s.ends ≡ true
  stage : st.stage ≤ s.rule_splits
  goes : goes_on_of st s st.phase ≡ true

taken_parts : (st : State) (s : Settings) → taken st s ≡ true → Taken st s
unfolding taken point_equal
taken_parts st s h =
    let k = and_parts (same_ends_of st.settings s) _ h in
    let l = and_parts (leb st.stage s.rule_splits) _ k.1 in
    record { ends = k.0; stage = leb-true st.stage s.rule_splits l.0; goes = l.1 }

module _ (st : State) (v : ValidState st) (s : Settings) (f : PointFits s.ends) where
  ends_stay : settings_hold s ≡ true → point_equal st.settings.ends s.ends ≡ true → st.tree.ends ≡ s.ends
  ends_stay h e = v.box ∙ ends_same st.settings.ends s.ends (subst PointFits v.box v.tree.floats) f e (parts s h).4

  pub changed_valid : ValidState (changed st s).state
  unfolding changed
  changed_valid = go (settings_taken s) (taken st s) refl refl
    where
      new : State
      new = at s st.tree st.stage st.round (phase_after st.phase)

      go : (a b : Bool) → settings_taken s ≡ a → taken st s ≡ b → ValidState (cond a (cond b (become new) (refuse 27 st)) (refuse 2 st)).state
      go true true e k =
          let h = sym (settings_same s) ∙ e in
          let w = taken_parts st s k in
          record {
            settings = h;
            tree = v.tree;
            box = ends_stay h w.ends;
            phase = phase_kept st.settings st.tree st.stage st.round s st.phase v.phase w.stage w.goes;
          }
      go true false e k = v
      go false b e k = v
