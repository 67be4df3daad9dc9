-- A call's checks, in the order in which they refuse, and what comes of an answer or its refusal.
use Rattle.std.specs.Prelude.{Bool, true, cond, ◌&&◌, List, [], ◌∷◌, ℕ, Result, Ok, Err}
use Rattle.refusal.specs.declared.Refusal.{Refusal}
use Rattle.refusal.specs.Numbers.{number_of}

-- a test, and the refusal where it fails
pub record Check : Type 0 where
  pub holds : Bool
  pub refusal : Refusal

abbrev pub check : Bool → Refusal → Check
check b r = record { holds = b; refusal = r }

-- an answer of any type: what comes of the refusal by the first check that fails, else the answer
abbrev pub guarded : {A : Type 0} → List Check → (Refusal → A) → A → A
guarded [] refuse answer = answer
guarded (t ∷ ts) refuse answer = cond t.holds (guarded ts refuse answer) (refuse t.refusal)

-- refused by the first check that fails, else the answer
abbrev pub checked : {A : Type 0} → List Check → Result A Refusal → Result A Refusal
checked [] answer = answer
checked (t ∷ ts) answer = cond t.holds (checked ts answer) (Err t.refusal)

-- the number of the first check that fails, 0 where none does
unfoldable pub first_refused : List Check → ℕ
first_refused [] = 0
first_refused (t ∷ ts) = cond t.holds (first_refused ts) (number_of t.refusal)

-- no check fails
unfoldable pub pass : List Check → Bool
pass [] = true
pass (t ∷ ts) = t.holds && pass ts

-- what comes of a value, or its refusal
abbrev pub and_then : {A B : Type 0} → Result A Refusal → (A → Result B Refusal) → Result B Refusal
and_then (Ok x) next = next x
and_then (Err r) next = Err r

-- what a lent list holds after a call: what the answer leaves, and after a refusal what it held
abbrev pub lent_after : {A : Type 0} → Result A Refusal → List ℕ → (A → List ℕ) → List ℕ
lent_after (Ok x) held next = next x
lent_after (Err r) held next = held
