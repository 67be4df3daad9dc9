-- What each public call on a state answers: "A state of four zeros is refused with 26".
use Rattle.std.specs.Prelude.{ℕ, not, List, [], ◌∷◌, Result, Ok}
use Rattle.refusal.specs.declared.Refusal.{Refusal}
use Rattle.refusal.specs.declared.Refusal.TheVariants.{ZeroState}
use Rattle.refusal.specs.Guards.{Check, check, checked}
use Rattle.xoshiro.specs.declared.State.{State}
use Rattle.xoshiro.specs.declared.Stepped.{Stepped}
use Rattle.xoshiro.specs.Xoshiro.{zeros_of, stepped_of, back_of}

-- the one test of every call
abbrev pub state_order : State → List Check
state_order s = check (not (zeros_of s)) ZeroState ∷ []

abbrev pub new_of : ℕ → ℕ → ℕ → ℕ → Result State Refusal
new_of s0 s1 s2 s3 =
    let s : State = record { s0 = s0; s1 = s1; s2 = s2; s3 = s3 } in
    checked (state_order s) (Ok s)

abbrev pub step_of : State → Result Stepped Refusal
step_of s = checked (state_order s) (Ok (stepped_of s))

abbrev pub step_back_of : State → Result State Refusal
step_back_of s = checked (state_order s) (Ok (back_of s))
