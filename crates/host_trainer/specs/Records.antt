-- A trainer kept by its host as the bytes of its record: each call takes a record and writes the next one.
use Rattle.std.specs.Prelude.{Bool, ◌&&◌, cond, List, [], ◌∷◌, ℕ, ◌*◌, ◌/◌, ◌%◌, length, get_or, eqb, leb, Result, Ok}
use Rattle.std.specs.Float.{binary64}
use Rattle.std.specs.Float.Ieee.{of_bits}
use Rattle.refusal.specs.declared.Refusal.{Refusal}
use Rattle.refusal.specs.declared.Refusal.TheVariants.{BadSettings}
use Rattle.refusal.specs.Guards.{check, checked, and_then, lent_after}
use Rattle.rule_tree.specs.Lists.{tabulate}
use Rattle.trainer.specs.declared.Trainer.{Trainer}
use Rattle.trainer.specs.declared.settings.Settings.{Settings}
use Rattle.trainer.specs.Calls.{start_of, answer_counts_of, answer_score_of}
use Rattle.wire.specs.Bytes.{number_at}
use Rattle.record.specs.Layout.{layout_of}
use Rattle.record.specs.Write.{version}
use Rattle.record.specs.Read.{settings_at}
use Rattle.record.specs.Calls.{save_of, buffer_after, load_of}

-- the 137 bytes of settings as the record has them; other lengths, and a drill byte that is neither 0 nor 1, are refused as settings are
unfoldable pub settings_whole : List ℕ → Bool
settings_whole bytes = eqb (length bytes) 137 && leb (get_or bytes 12 0) 1

-- the settings that they are: "these as 24 bytes after the five actions (ack, send, ratio)"
abbrev pub settings_in : List ℕ → Settings
settings_in bytes = settings_at (layout_of version) bytes 0

unfoldable pub settings_of : List ℕ → Result Settings Refusal
unfolding settings_whole
settings_of bytes = checked (check (settings_whole bytes) BadSettings ∷ []) (Ok (settings_in bytes))

unfoldable pub start_in : List ℕ → Result Trainer Refusal
start_in bytes = and_then (settings_of bytes) start_of

-- counts of 8 bytes each, big-endian; a list that is cut, or longer than any tree's, is a list of none, which no tree takes
unfoldable pub counts_in : List ℕ → List ℕ
counts_in bytes =
    cond (eqb (length bytes % 8) 0 && leb (length bytes) 4104) (tabulate (length bytes / 8) (λ i. number_at bytes (8 * i) 8)) []

-- what is done to the trainer of a record: 6, 7, 8, then the call's own refusals
unfoldable pub counts_answered : List ℕ → List ℕ → Result Trainer Refusal
unfolding counts_in
counts_answered held counts = and_then (load_of held) (λ t. answer_counts_of t (counts_in counts))

-- a score by its bits
unfoldable pub score_answered : List ℕ → ℕ → Result Trainer Refusal
score_answered held bits = and_then (load_of held) (λ t. answer_score_of t (of_bits binary64 bits))

-- the trainer after the call is written as its record, or 9
unfoldable pub written_of : Result Trainer Refusal → List ℕ → Result ℕ Refusal
written_of a out = and_then a (λ t. save_of t out)

-- the lent buffer after it
unfoldable pub record_after : Result Trainer Refusal → List ℕ → List ℕ
record_after a out = lent_after a out (λ t. buffer_after t out (save_of t out))
