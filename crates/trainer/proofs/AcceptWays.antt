-- The test of a trainer in its parts, and by its phase. Assumes nothing.
use mathlib.Core.Path.{◌≡◌, refl, sym, ◌∙◌}
use mathlib.Core.Bool.{Bool, true, false, ◌&&◌, ◌||◌, cond}
use Prim.Native.Nat.{ℕ, ◌<◌, ◌≤◌}
use native.Mathlib.Omega.{arith}
use borrow.Author.Tests.{ne_eqb, leb-true, leb-false}
use lib.Dec.{eqb, leb}
use Rattle.std.specs.Prelude.{None}
use Rattle.rule_tree.specs.Grown.{grown_of}
use Rattle.trainer.specs.declared.phase.Phase.{Phase}
use Rattle.trainer.specs.declared.phase.Phase.TheVariants.{Split, Drill, Choose, Own, Try, Last, Done}
use Rattle.trainer.specs.declared.Trainer.{Trainer}
use Rattle.trainer.specs.Settings.{settings_hold}
use Rattle.trainer.specs.Phase.{number_of, phase_of}
use Rattle.trainer.specs.State.{untried, idle, leaf_holds, try_holds_of, splitting, tuning, ending, box_holds, phase_holds, accepted_of}
use Rattle.trainer.specs.Fields.{leaf_holds_in}
use Rattle.trainer.proofs.PhaseLaws.{no_phase}

-- ---- two tests in turn: a is the first of them, as a call answered it
pub and_yes : (a b x y : Bool) → a ≡ x → a ≡ true → b ≡ y → b ≡ (x && y)
and_yes a b x y e h f = rw (sym e ∙ h) f

-- ---- the tests of a trainer are those of its fields
module _ (t : Trainer) where
  pub leaf_is : leaf_holds_in t.tree t.leaf ≡ leaf_holds t
  unfolding leaf_holds_in leaf_holds
  leaf_is = refl

  pub accepted_is : accepted_of t ≡ (settings_hold t.settings && (grown_of t.tree && (box_holds t && phase_holds t)))
  unfolding accepted_of
  accepted_is = refl

  pub accepted_all : (a b e c : Bool) → a ≡ settings_hold t.settings → a ≡ true → b ≡ grown_of t.tree → b ≡ true → e ≡ box_holds t → e ≡ true
      → c ≡ phase_holds t → c ≡ accepted_of t
  accepted_all a b e c ea ha eb hb ee he ec =
      and_yes a c (settings_hold t.settings) (grown_of t.tree && (box_holds t && phase_holds t)) ea ha
      (and_yes b c (grown_of t.tree) (box_holds t && phase_holds t) eb hb (and_yes e c (box_holds t) (phase_holds t) ee he ec))
      ∙ sym accepted_is

-- ---- the test of each phase, by the phase's number
abbrev pub by_phase_lem : ℕ → Bool → Bool → Bool → Bool → Bool → Bool
by_phase_lem p a b c d e =
    cond (eqb p 1 || eqb p 2) a (cond (eqb p 3) b (cond (eqb p 4) c (cond (eqb p 5) d (cond (eqb p 6 || eqb p 7) e false))))

pub phase_is : (t : Trainer)
    → phase_holds t
    ≡ by_phase_lem t.phase (splitting t) (tuning t && idle t) (tuning t && (leaf_holds t && untried t)) (tuning t && (leaf_holds t && try_holds_of t)) (ending t)
unfolding phase_holds
phase_is t = refl

pub above : (n p : ℕ) → n ≤ p → (p ≡ n → ⊥) → n < p
above n p l e = go (leb p n) refl
  where
    go : (b : Bool) → leb p n ≡ b → n < p
    go true h = let m = leb-true p n h in absurd (e (omega arith))
    go false h = leb-false p n h

module _ (p : ℕ) (a b c d e : Bool) where
  pub phase_split : 1 ≤ p → p < 3 → a ≡ by_phase_lem p a b c d e
  phase_split l m = go (leb p 1) refl
    where
      go : (t : Bool) → leb p 1 ≡ t → a ≡ by_phase_lem p a b c d e
      go true h = let n = leb-true p 1 h in let q : p ≡ 1 = omega arith in rw q
      go false h = let n = leb-false p 1 h in let q : p ≡ 2 = omega arith in rw q

  pub phase_choose : p ≡ 3 → b ≡ by_phase_lem p a b c d e
  phase_choose q = rw q

  pub phase_ask : p ≡ 4 → c ≡ by_phase_lem p a b c d e
  phase_ask q = rw q

  pub phase_try : p ≡ 5 → d ≡ by_phase_lem p a b c d e
  phase_try q = rw q

  pub phase_end : 3 ≤ p → p < 8 → (p ≡ 3 → ⊥) → (p ≡ 4 → ⊥) → (p ≡ 5 → ⊥) → e ≡ by_phase_lem p a b c d e
  phase_end l m x y z =
      let i = above 3 p l x in
      let j = above 4 p (omega arith) y in
      let k = above 5 p (omega arith) z in
      go (leb p 6) refl k
    where
      go : (t : Bool) → leb p 6 ≡ t → 5 < p → e ≡ by_phase_lem p a b c d e
      go true h k = let n = leb-true p 6 h in let q : p ≡ 6 = omega arith in rw q
      go false h k = let n = leb-false p 6 h in let q : p ≡ 7 = omega arith in rw q

-- ---- the test of a phase by its name
abbrev pub holds_in : Trainer → Phase → Bool
holds_in t Split = splitting t
holds_in t Drill = splitting t
holds_in t Choose = tuning t && idle t
holds_in t Own = tuning t && (leaf_holds t && untried t)
holds_in t Try = tuning t && (leaf_holds t && try_holds_of t)
holds_in t Last = ending t
holds_in t Done = ending t

pub named_holds : (t : Trainer) (p : Phase) → t.phase ≡ number_of p → holds_in t p ≡ phase_holds t
unfolding phase_holds
named_holds t Split e = rw e
named_holds t Drill e = rw e
named_holds t Choose e = rw e
named_holds t Own e = rw e
named_holds t Try e = rw e
named_holds t Last e = rw e
named_holds t Done e = rw e

pub unnamed_fails : (t : Trainer) → phase_of t.phase ≡ None → phase_holds t ≡ false
unfolding phase_holds
unnamed_fails t h =
    let n = no_phase t.phase h in
    rw (ne_eqb t.phase 1 (n Split), ne_eqb t.phase 2 (n Drill), ne_eqb t.phase 3 (n Choose), ne_eqb t.phase 4 (n Own), ne_eqb t.phase 5 (n Try), ne_eqb t.phase 6 (n Last), ne_eqb t.phase 7 (n Done))
