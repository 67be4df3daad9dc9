-- Answers by a list of checks: what they tell, and what a refused one leaves. Assumes nothing.
use mathlib.Core.Path.{◌≡◌, refl, ap, ◌∙◌}
use mathlib.Core.Bool.{Bool, true, false, cond, ◌&&◌}
use mathlib.Core.List.{List, [], ◌∷◌}
use Prim.Native.Nat.{ℕ}
use Rattle.std.specs.Prelude.{Option, Some, None, Result, Ok, Err}
use Rattle.refusal.specs.declared.Refusal.{Refusal}
use Rattle.refusal.specs.Numbers.{number_of}
use Rattle.refusal.specs.Guards.{Check, checked, and_then, first_refused, pass}
pub use Rattle.refusal.proofs.Guards.{either, both}
use Rattle.refusal.proofs.Guards.{Pass}
use Rattle.refusals.specs.Told.{Told, option_told, maybe_told, result_told, refused_with, told_by}
use Rattle.refusals.specs.Order.{left_after, Guarded}

-- a checked answer tells its refusals' numbers, and where every check holds what its answer tells
pub tells : {A B : Type 0} (f : Result A Refusal → Told B) (answer : Result A Refusal) (ts : List Check) {v : Option B}
    → ((r : Refusal) → f (Err r) ≡ refused_with r) → (Pass ts → f answer ≡ record { number = 0; gives = v }) → f (checked ts answer) ≡ told_by ts v
unfolding first_refused pass
tells f answer [] r a = a tt
tells {A} {B} f answer (t ∷ ts) {v} r a = go t.holds refl (λ e. tells f answer ts r (λ h. a (e, h)))
  where
    go : (b : Bool) → t.holds ≡ b → (t.holds ≡ true → f (checked ts answer) ≡ told_by ts v)
        → f (cond b (checked ts answer) (Err t.refusal))
        ≡ record { number = cond b (first_refused ts) (number_of t.refusal); gives = cond (b && pass ts) v None }
    go true e g = g e
    go false e g = r t.refusal

-- what is true of each refusal, and of the answer where every check holds, is true of a checked answer
pub passing : {A : Type 0} (P : Result A Refusal → Bool → Type 0) (answer : Result A Refusal) → ((r : Refusal) → P (Err r) false) → P answer true
    → (ts : List Check) → P (checked ts answer) (pass ts)
unfolding pass
passing P answer r a [] = a
passing P answer r a (t ∷ ts) = go t.holds (passing P answer r a ts)
  where
    go : (b : Bool) → P (checked ts answer) (pass ts) → P (cond b (checked ts answer) (Err t.refusal)) (b && pass ts)
    go true g = g
    go false g = r t.refusal

-- ---- by the answer's shape
option_gave : {A : Type 0} (o : Option A) → option_told o ≡ record { number = 0; gives = o }
unfolding option_told
option_gave (Some x) = refl
option_gave None = refl

module _ {A : Type 0} (ts : List Check) where
  pub maybe_tells : (o : Option A) → maybe_told (checked ts (Ok o)) ≡ told_by ts o
  unfolding maybe_told
  maybe_tells o = tells maybe_told (Ok o) ts (λ r. refl) (λ h. option_gave o)

  -- the same where what is given shows only by the checks
  pub maybe_tells_so : (o v : Option A) → (Pass ts → o ≡ v) → maybe_told (checked ts (Ok o)) ≡ told_by ts v
  unfolding maybe_told
  maybe_tells_so o v e = tells maybe_told (Ok o) ts (λ r. refl) (λ h. ap option_told (e h) ∙ option_gave v)

  pub result_tells : (x : A) → result_told (checked ts (Ok x)) ≡ told_by ts (Some x)
  unfolding result_told
  result_tells x = tells result_told (Ok x) ts (λ r. refl) (λ h. refl)

  pub result_number : (x : A) → (result_told (checked ts (Ok x))).number ≡ first_refused ts
  result_number x = ap (λ (r : Told A). r.number) (result_tells x)

  pub result_gives : (x : A) → (result_told (checked ts (Ok x))).gives ≡ cond (pass ts) (Some x) None
  result_gives x = ap (λ (r : Told A). r.gives) (result_tells x)

-- what a refused call that hands a value back leaves is what came
pub left_keeps : {A : Type 0} (came : A) (r : Result A Refusal) → ((result_told r).number ≡ 0 → ⊥) → left_after came r ≡ came
unfolding result_told left_after
left_keeps came (Ok x) n = absurd (n refl)
left_keeps came (Err r) n = refl

pub guards : {A : Type 0} (ts : List Check) (after : A) → Guarded ts after (checked ts (Ok after))
guards ts after = record { first = result_number ts after; answers = refl; keeps = λ came. left_keeps came (checked ts (Ok after)) }

-- what comes of a value that one check lets through
pub chained : {A B : Type 0} (f : A → Result B Refusal) (x : A) (r : Refusal) (b : Bool) → and_then (cond b (Ok x) (Err r)) f ≡ cond b (f x) (Err r)
chained f x r true = refl
chained f x r false = refl

-- an answer that is picked by a test has the number of the one that is picked
pub next : {A : Type 0} (f : A → ℕ) (b : Bool) {x y : A} {m k : ℕ} → f x ≡ m → f y ≡ k → f (cond b x y) ≡ cond b m k
next f b p q = both (λ x m. f x ≡ m) b p q
