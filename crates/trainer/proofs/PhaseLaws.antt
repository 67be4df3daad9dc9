-- A phase and its number. Assumes nothing.
use Rattle.std.proofs.Common.{◌≡◌, ℕ, Bool, true, false, cond, eqb, refl, sym, ap, ◌∙◌}
use Rattle.std.specs.Prelude.{Option, Some, None}
use borrow.Author.Tests.{eqb-true}
use Rattle.trainer.specs.declared.phase.Phase.{Phase}
use Rattle.trainer.specs.declared.phase.Phase.TheVariants.{Split, Drill, Choose, Own, Try, Last, Done}
use Rattle.trainer.specs.Phase.{number_of, phase_of}

clash : {A : Type 0} (p : Phase) → ◌≡◌ {A = Option Phase} None (Some p) → A
clash p e = cc

step : {R : Type 0} (n m : ℕ) (x p : Phase) (rest : Option Phase) → cond (eqb n m) (Some x) rest ≡ Some p → (n ≡ m → x ≡ p → R) → (rest ≡ Some p → R) → R
step {R} n m x p rest h f g = go (eqb n m) refl h
  where
    go : (b : Bool) → eqb n m ≡ b → cond b (Some x) rest ≡ Some p → R
    go true e h = f (eqb-true n m e) cc
    go false e h = g h

pub phase_number : (n : ℕ) (p : Phase) → phase_of n ≡ Some p → n ≡ number_of p
unfolding phase_of
phase_number n p h =
    let same : (m : ℕ) (x : Phase) → number_of x ≡ m → n ≡ m → x ≡ p → n ≡ number_of p = λ m x a e q. e ∙ sym a ∙ ap number_of q in
    step n 1 _ p _ h (same 1 Split refl)
    (λ h. step n 2 _ p _ h (same 2 Drill refl)
    (λ h. step n 3 _ p _ h (same 3 Choose refl)
    (λ h. step n 4 _ p _ h (same 4 Own refl)
    (λ h. step n 5 _ p _ h (same 5 Try refl)
    (λ h. step n 6 _ p _ h (same 6 Last refl) (λ h. step n 7 _ p _ h (same 7 Done refl) (λ h. clash p h)))))))

-- as a match on the phase has it
pub number_at : (n : ℕ) (p q : Phase) → phase_of n ≡ Some p → p ≡ q → n ≡ number_of q
number_at n p q e h = phase_number n p e ∙ ap number_of h

-- what is asked of the phase is asked of its number
pub named : (p : Phase) → phase_of (number_of p) ≡ Some p
unfolding phase_of
named Split = refl
named Drill = refl
named Choose = refl
named Own = refl
named Try = refl
named Last = refl
named Done = refl

-- another phase has another number
pub other_phase : (n : ℕ) (p q : Phase) → phase_of n ≡ Some p → (p ≡ q → ⊥) → n ≡ number_of q → ⊥
other_phase n p q e other h = let z : ◌≡◌ {A = Option Phase} (Some p) (Some q) = sym e ∙ ap phase_of h ∙ named q in other cc

-- a number that names no phase is that of none
pub no_phase : (n : ℕ) → phase_of n ≡ None → (p : Phase) → n ≡ number_of p → ⊥
no_phase n h p e = clash p (sym h ∙ ap phase_of e ∙ named p)
