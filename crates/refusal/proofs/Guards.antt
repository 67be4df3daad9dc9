-- Laws of answers behind checks: what is true of every call, its number, and where it gives its answer. Assumes nothing.
use mathlib.Core.Path.{◌≡◌, refl}
use mathlib.Core.Bool.{Bool, true, false, cond, ◌&&◌}
use mathlib.Core.List.{List, [], ◌∷◌}
use Prim.Native.Nat.{ℕ}
use Rattle.std.specs.Prelude.{Result, Err}
use Rattle.refusal.specs.declared.Refusal.{Refusal}
use Rattle.refusal.specs.Numbers.{number_of}
use Rattle.refusal.specs.Guards.{Check, guarded, checked, first_refused, pass}

pub either : {A : Type 0} (P : A → Type 0) (b : Bool) {x y : A} → P x → P y → P (cond b x y)
either P true p q = p
either P false p q = q

pub both : {A B : Type 0} (P : A → B → Type 0) (b : Bool) {x y : A} {m k : B} → P x m → P y k → P (cond b x y) (cond b m k)
both P true p q = p
both P false p q = q

-- all checks hold
abbrev pub Pass : List Check → Type 0
Pass [] = Unit {0}
Pass (t ∷ ts) = (t.holds ≡ true) × Pass ts

-- answers of any type
module _ {A : Type 0} (refuse : Refusal → A) (answer : A) where
  -- what is true of what comes of each refusal and of its answer is true of a call
  pub always : (P : A → Type 0) → ((r : Refusal) → P (refuse r)) → P answer → (ts : List Check) → P (guarded ts refuse answer)
  always P r a [] = a
  always P r a (t ∷ ts) = either P t.holds (always P r a ts) (r t.refusal)

  -- its number is that of the first check that fails
  pub numbered : (f : A → ℕ) → ((r : Refusal) → f (refuse r) ≡ number_of r) → f answer ≡ 0 → (ts : List Check) → f (guarded ts refuse answer) ≡ first_refused ts
  unfolding first_refused
  numbered f r a [] = a
  numbered f r a (t ∷ ts) = both (λ (x : A) (n : ℕ). f x ≡ n) t.holds (numbered f r a ts) (r t.refusal)

  -- where every check holds it gives v, elsewhere w
  pub gives : {B : Type 0} (f : A → B) {v w : B} → ((r : Refusal) → f (refuse r) ≡ w) → (ts : List Check) → (Pass ts → f answer ≡ v) → f (guarded ts refuse answer) ≡ cond (pass ts) v w
  unfolding pass
  gives f r [] a = a tt
  gives {B} f {v} {w} r (t ∷ ts) a = go t.holds refl (λ e. gives f r ts (λ h. a (e, h)))
    where
      go : (b : Bool) → t.holds ≡ b → (t.holds ≡ true → f (guarded ts refuse answer) ≡ cond (pass ts) v w)
          → f (cond b (guarded ts refuse answer) (refuse t.refusal)) ≡ cond (b && pass ts) v w
      go true e g = g e
      go false e g = r t.refusal

-- a Result behind checks, and whatever is made of it, are such answers
pub guarded_by : {A B : Type 0} (f : Result A Refusal → B) (answer : Result A Refusal) (ts : List Check) → f (checked ts answer) ≡ guarded ts (λ r. f (Err r)) (f answer)
guarded_by f answer [] = refl
guarded_by {A} {B} f answer (t ∷ ts) = go t.holds (guarded_by f answer ts)
  where
    go : (b : Bool) → f (checked ts answer) ≡ guarded ts (λ r. f (Err r)) (f answer)
        → f (cond b (checked ts answer) (Err t.refusal)) ≡ cond b (guarded ts (λ r. f (Err r)) (f answer)) (f (Err t.refusal))
    go true e = e
    go false e = refl

module _ {A : Type 0} (answer : Result A Refusal) where
  -- what is true of each refusal and of its answer is true of a call
  pub in_each : (P : Result A Refusal → Type 0) → ((r : Refusal) → P (Err r)) → P answer → (ts : List Check) → P (checked ts answer)
  in_each P r a [] = a
  in_each P r a (t ∷ ts) = either P t.holds (in_each P r a ts) (r t.refusal)

  -- its number is that of the first check that fails
  pub numbered_by : (f : Result A Refusal → ℕ) → ((r : Refusal) → f (Err r) ≡ number_of r) → f answer ≡ 0 → (ts : List Check) → f (checked ts answer) ≡ first_refused ts
  unfolding first_refused
  numbered_by f r a [] = a
  numbered_by f r a (t ∷ ts) = both (λ (x : Result A Refusal) (n : ℕ). f x ≡ n) t.holds (numbered_by f r a ts) (r t.refusal)

  -- where every check holds it gives v, elsewhere w
  pub answers : {B : Type 0} (f : Result A Refusal → B) {v w : B} → ((r : Refusal) → f (Err r) ≡ w) → (ts : List Check) → (Pass ts → f answer ≡ v) → f (checked ts answer) ≡ cond (pass ts) v w
  unfolding pass
  answers f r [] a = a tt
  answers {B} f {v} {w} r (t ∷ ts) a = go t.holds refl (λ e. answers f r ts (λ h. a (e, h)))
    where
      go : (b : Bool) → t.holds ≡ b → (t.holds ≡ true → f (checked ts answer) ≡ cond (pass ts) v w)
          → f (cond b (checked ts answer) (Err t.refusal)) ≡ cond (b && pass ts) v w
      go true e g = g e
      go false e g = r t.refusal
