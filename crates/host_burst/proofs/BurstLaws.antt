-- A refused burst over bytes has the number of the first test that fails, and changes no byte. Assumes nothing.
use mathlib.Core.Path.{◌≡◌, refl, sym, ap, ◌∙◌}
use mathlib.Core.List.{List, ◌++◌}
use Prim.Native.Nat.{ℕ}
use Rattle.std.specs.Prelude.{Result, Ok, Err}
use Rattle.refusal.specs.declared.Refusal.{Refusal}
use Rattle.refusal.specs.Numbers.{number_of}
use Rattle.refusal.specs.Guards.{and_then, lent_after, first_refused}
use Rattle.refusal.proofs.Guards.{numbered_by}
use Rattle.trainer.specs.declared.Trainer.{Trainer}
use Rattle.record.specs.Read.{read_of}
use Rattle.record.specs.Calls.{load_order, load_of}
use Rattle.record.proofs.Loading.{checked_both, loaded_then}
use Rattle.host_burst.specs.Bursts.{answer_of, burst_order, course_on, given_in, sender_on, windows_on, flags_on, burst_in, sender_left, windows_left, flags_left}

abbrev refused_number : Result ℕ Refusal → ℕ
refused_number (Ok n) = 0
refused_number (Err r) = number_of r

-- a refused call leaves a lent buffer
kept : {A : Type 0} (a : Result A Refusal) (call : A → Result ℕ Refusal) (old : List ℕ) (next : A → ℕ → List ℕ) {r : Refusal} → and_then a call ≡ Err r
    → lent_after a old (λ x. lent_after (call x) old (next x)) ≡ old
kept (Err k) call old next e = refl
kept {A} (Ok x) call old next {r} e = go (call x) e
  where
    go : (b : Result ℕ Refusal) → b ≡ Err r → lent_after b old (next x) ≡ old
    go (Ok n) f = absurd (cc)
    go (Err k) f = refl

module _ (held sender list windows flags : List ℕ) where
  -- 6, 7, 8 of the record, 6, 6, 9
  pub burst_order_lem : refused_number (burst_in held sender list windows flags)
      ≡ first_refused (load_order held ++ burst_order sender list windows flags)
  unfolding given_in
  burst_order_lem =
      let answer : Result ℕ Refusal = Ok (answer_of (course_on (read_of held).tree sender list)) in
      let ts = burst_order sender list windows flags in
      ap refused_number (loaded_then held (λ t. given_in t.tree sender list windows flags)
      ∙ sym (checked_both (load_order held) ts answer))
      ∙ numbered_by answer refused_number (λ r. refl) refl (load_order held ++ ts)

  pub refused_kept : {r : Refusal} → burst_in held sender list windows flags ≡ Err r
      → (sender_left held sender list windows flags ≡ sender) × (windows_left held sender list windows flags ≡ windows)
      × (flags_left held sender list windows flags ≡ flags)
  unfolding sender_on windows_on flags_on
  refused_kept e =
      let call = λ (t : Trainer). given_in t.tree sender list windows flags in
      (kept (load_of held) call sender _ e, kept (load_of held) call windows _ e, kept (load_of held) call flags _ e)
