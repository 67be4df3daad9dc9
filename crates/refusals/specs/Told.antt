-- 01: "Where an answer is an enum, a definition sets out this paper's number and values for each of its cases."
use Rattle.std.specs.Prelude.{List, ℕ, cond, Option, None, Some, Result, Ok, Err}
use Rattle.refusal.specs.declared.Refusal.{Refusal}
use Rattle.refusal.specs.Numbers.{number_of}
use Rattle.refusal.specs.Guards.{Check, first_refused, pass}
use Rattle.sender.specs.declared.Held.{Held}
use Rattle.sender_face.specs.declared.Answer.{Answer}
use Rattle.sender_face.specs.Face.{answer_of}

-- an answer as 01 tells it: its refusal's number, 0 where the call is taken, and what it gives, if anything
pub record Told (A : Type 0) : Type 0 where
  pub number : ℕ
  pub gives : Option A

-- an answer of a call that is taken
abbrev pub gave : {A : Type 0} → A → Told A
gave x = record { number = 0; gives = Some x }

abbrev pub gave_none : {A : Type 0} → Told A
gave_none = record { number = 0; gives = None }

abbrev pub refused_with : {A : Type 0} → Refusal → Told A
refused_with r = record { number = number_of r; gives = None }

-- ---- by the answer's shape
-- a value or none: "The answer is the node", "or none if all are marked"
unfoldable pub option_told : {A : Type 0} → Option A → Told A
option_told (Some x) = gave x
option_told None = gave_none

-- a value or none of a call that may be refused
unfoldable pub maybe_told : {A : Type 0} → Result (Option A) Refusal → Told A
unfolding option_told
maybe_told (Ok x) = option_told x
maybe_told (Err r) = refused_with r

-- a value of a call that may be refused
unfoldable pub result_told : {A : Type 0} → Result A Refusal → Told A
result_told (Ok x) = gave x
result_told (Err r) = refused_with r

-- a sender's reply: the window that is handed back, and whether an ack's was clipped; the sender that it leaves is told apart, by `left_by`
unfoldable pub reply_told : Result Held Refusal → Told Answer
reply_told (Ok h) = gave (answer_of h)
reply_told (Err r) = refused_with r

-- ---- by the call's checks
-- refused with the number of the first check that fails, else what is given
abbrev pub told_by : {A : Type 0} → List Check → Option A → Told A
told_by ts v = record { number = first_refused ts; gives = cond (pass ts) v None }
