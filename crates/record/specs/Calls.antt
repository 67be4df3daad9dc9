-- What save and load answer, refusals first and in 01's order.
use Rattle.std.specs.Prelude.{Bool, ◌&&◌, List, [], ◌∷◌, ◌++◌, ℕ, ◌-◌, length, drop, eqb, leb, Result, Ok, Err}
use Rattle.refusal.specs.declared.Refusal.{Refusal}
use Rattle.refusal.specs.declared.Refusal.TheVariants.{BadField, BadLength, NotGrown, ShortBuffer, UnknownVersion}
use Rattle.refusal.specs.Guards.{Check, check, checked, and_then}
use Rattle.trainer.specs.declared.Trainer.{Trainer}
use Rattle.trainer.specs.State.{accepted_of}
use Rattle.wire.specs.Bytes.{number_at, same_bytes}
use Rattle.record.specs.Layout.{layout_of, known_of, length_size, most_length, settings_place}
use Rattle.record.specs.Write.{record_in, record_of}
use Rattle.record.specs.Read.{version_at, read_of}

-- "9 buffer shorter than the record"
abbrev pub save_order : Trainer → List ℕ → List Check
save_order t buf = check (accepted_of t) NotGrown ∷ check (leb (length (record_of t)) (length buf)) ShortBuffer ∷ []

unfoldable pub save_of : Trainer → List ℕ → Result ℕ Refusal
save_of t buf = checked (save_order t buf) (Ok (length (record_of t)))

-- "Writing answers the size and changes no byte past it"; a refused save changes none
unfoldable pub buffer_after : Trainer → List ℕ → Result ℕ Refusal → List ℕ
buffer_after t buf (Ok n) = record_of t ++ drop n buf
buffer_after t buf (Err r) = buf

-- "6 fewer than 4 bytes, or the u32 over 16,384 or not the bytes that follow"
unfoldable pub length_holds : List ℕ → Bool
length_holds bytes =
    leb length_size (length bytes) && (leb (number_at bytes 0 length_size) most_length && eqb (number_at bytes 0 length_size) (length bytes - length_size))

-- "7 no version byte, or unknown"
unfoldable pub version_holds : List ℕ → Bool
version_holds bytes = leb settings_place (length bytes) && known_of (version_at bytes)

-- what the trainer that the bytes stand for is written as in their own version
abbrev pub again_of : List ℕ → List ℕ
again_of bytes = record_in (layout_of (version_at bytes)) (version_at bytes) (read_of bytes)

-- the bytes are the record of an accepted trainer: "8 any other field, or bytes that end early or run on for the split count"
unfoldable pub body_holds : List ℕ → Bool
body_holds bytes = accepted_of (read_of bytes) && same_bytes (again_of bytes) bytes

-- "6, 7, 8": the checks of a load, and the first of each call on a record
abbrev pub load_order : List ℕ → List Check
load_order bytes =
    check (length_holds bytes) BadLength ∷ check (version_holds bytes) UnknownVersion ∷ check (body_holds bytes) BadField ∷ []

unfoldable pub load_of : List ℕ → Result Trainer Refusal
unfolding length_holds version_holds body_holds
load_of bytes = checked (load_order bytes) (Ok (read_of bytes))

-- what a call on the trainer of a record answers, its own refusals after those of the load
abbrev pub on_loaded : {A : Type 0} → List ℕ → (Trainer → Result A Refusal) → Result A Refusal
on_loaded bytes call = and_then (load_of bytes) call
