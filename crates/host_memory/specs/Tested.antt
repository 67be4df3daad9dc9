-- 02, wish 11, for hosts: "Lookup also returns the number of cubes it tested", over a record and bytes.
use Rattle.std.specs.Prelude.{List, ◌++◌, ℕ, Result}
use Rattle.refusal.specs.declared.Refusal.{Refusal}
use Rattle.refusal.specs.Guards.{and_then, lent_after}
use Rattle.rule_tree.specs.declared.Lookup.{Lookup}
use Rattle.rule_tree.specs.Calls.{opened_of}
use Rattle.record.specs.Calls.{load_of}
use Rattle.wire.specs.Bytes.{bytes_of}
use Rattle.host_trainer.specs.Lookups.{found_bytes, rows_in, rows_after}

-- 23 bytes a point: what it finds, as lookup has it, and the number of cubes tested
abbrev pub row_of : Lookup → List ℕ
row_of l = found_bytes l.found ++ bytes_of 2 l.tested

-- 6, 7, 8 of the record; then points that are cut: 6; a buffer too short for 23 bytes a point: 9
abbrev pub tested_in : List ℕ → List ℕ → List ℕ → Result ℕ Refusal
tested_in held points out = and_then (load_of held) (λ t. rows_in 23 points out)

abbrev pub tested_after : List ℕ → List ℕ → List ℕ → List ℕ
tested_after held points out =
    lent_after (load_of held) out (λ t. rows_after 23 (λ p. row_of (opened_of t.tree p)) points out)
