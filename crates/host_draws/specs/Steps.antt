-- 02, wish 7, for hosts: "the public generator xoshiro256++", kept in 32 bytes.
use Rattle.std.specs.Prelude.{not, List, [], ◌∷◌, ◌++◌, ℕ, length, eqb, leb, Result, Ok}
use Rattle.std.proofs.lemmas.List.Edits.{sets}
use Rattle.refusal.specs.declared.Refusal.{Refusal}
use Rattle.refusal.specs.declared.Refusal.TheVariants.{BadLength, ShortBuffer, ZeroState}
use Rattle.refusal.specs.Guards.{Check, check, checked, lent_after}
use Rattle.wire.specs.Bytes.{bytes_of, number_at}
use Rattle.xoshiro.specs.declared.State.{State}
use Rattle.xoshiro.specs.Xoshiro.{zeros_of, output_of, next_of, back_of}

-- four words, 8 bytes each
abbrev pub state_at : List ℕ → State
state_at bytes =
    record { s0 = number_at bytes 0 8; s1 = number_at bytes 8 8; s2 = number_at bytes 16 8; s3 = number_at bytes 24 8 }

abbrev pub state_bytes : State → List ℕ
state_bytes s = bytes_of 8 s.s0 ++ (bytes_of 8 s.s1 ++ (bytes_of 8 s.s2 ++ bytes_of 8 s.s3))

-- "A state of four zeros is refused with 26"
abbrev pub state_order : State → List Check
state_order s = check (not (zeros_of s)) ZeroState ∷ []

-- 6 where there are not 32; then 26
abbrev pub words_order : List ℕ → List Check
words_order generator = check (eqb (length generator) 32) BadLength ∷ state_order (state_at generator)

-- ---- a step: then 9 where there is no room for the output
abbrev pub step_order : List ℕ → List ℕ → List Check
step_order generator out = words_order generator ++ (check (leb 8 (length out)) ShortBuffer ∷ [])

unfoldable pub step_in : List ℕ → List ℕ → Result ℕ Refusal
step_in generator out = checked (step_order generator out) (Ok 8)

-- the generator's bytes and the buffer after it; a refused call changes no byte of either
unfoldable pub step_left : List ℕ → List ℕ → List ℕ
unfolding step_in
step_left generator out = lent_after (step_in generator out) generator (λ n. state_bytes (next_of (state_at generator)))

unfoldable pub output_left : List ℕ → List ℕ → List ℕ
unfolding step_in
output_left generator out = lent_after (step_in generator out) out (λ n. sets out 0 (bytes_of 8 (output_of (state_at generator))))

-- ---- "Give the step back too: it restores the state before any step"
unfoldable pub back_in : List ℕ → Result ℕ Refusal
back_in generator = checked (words_order generator) (Ok 32)

unfoldable pub back_left : List ℕ → List ℕ
unfolding back_in
back_left generator = lent_after (back_in generator) generator (λ n. state_bytes (back_of (state_at generator)))
