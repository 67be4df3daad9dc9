-- 02, wish 12, for hosts: "memory known only within ranges", over a record and bytes.
use Rattle.std.specs.Prelude.{cond, Result, Ok, List, [], ◌∷◌, ℕ, ◌+◌, ◌*◌, ◌/◌, length, eqb}
use Rattle.std.proofs.lemmas.List.Edits.{sets}
use Rattle.refusal.specs.declared.Refusal.{Refusal}
use Rattle.refusal.specs.declared.Refusal.TheVariants.{BadLength}
use Rattle.refusal.specs.Guards.{Check, check, checked, pass, and_then, lent_after}
use Rattle.rule_tree.specs.declared.RuleTree.{RuleTree}
use Rattle.rule_tree.specs.Lists.{tabulate}
use Rattle.record.specs.Calls.{load_of}
use Rattle.wire.specs.Bytes.{shorts_bytes, number_at}
use Rattle.wire.specs.Fields.{float_at}
use Rattle.ranges.specs.declared.Range.{Range}
use Rattle.ranges.specs.declared.Ranges.{Ranges}
use Rattle.ranges.specs.Ranges.{leaves_within, ranges_order}

-- "each average and the ratio as a lowest and a highest value": six floats in 48 bytes
abbrev pub range_at : List ℕ → ℕ → Range
range_at bytes at = record { lowest = float_at bytes at; highest = float_at bytes (at + 8) }

abbrev pub ranges_in : List ℕ → Ranges
ranges_in bytes = record { ack_ewma = range_at bytes 0; send_ewma = range_at bytes 16; rtt_ratio = range_at bytes 32 }

-- "a lent list": the numbers that a buffer holds, two bytes each
abbrev pub list_in : List ℕ → List ℕ
list_in out = tabulate (length out / 2) (λ i. number_at out (2 * i) 2)

-- ---- over a tree
-- "refused with 28 and then a list shorter than the number of leaves found with 29"; "their number is returned", two bytes for each
unfoldable pub listed_in : RuleTree → Ranges → List ℕ → Result ℕ Refusal
listed_in t r out = checked (ranges_order t r (list_in out)) (Ok (2 * length (leaves_within t r)))

-- "They are written to a lent list by rising node"; "the rest of the list is unchanged", and all of it where the call is refused
unfoldable pub listed_after : RuleTree → Ranges → List ℕ → List ℕ
listed_after t r out = cond (pass (ranges_order t r (list_in out))) (sets out 0 (shorts_bytes (leaves_within t r))) out

-- ---- over a record: its own 6, 7, 8, then 6 for ranges of another length
abbrev pub length_order : List ℕ → List Check
length_order ranges = check (eqb (length ranges) 48) BadLength ∷ []

unfoldable pub within_in : List ℕ → List ℕ → List ℕ → Result ℕ Refusal
within_in held ranges out =
    and_then (load_of held) (λ t. checked (length_order ranges) (listed_in t.tree (ranges_in ranges) out))

unfoldable pub within_after : List ℕ → List ℕ → List ℕ → List ℕ
within_after held ranges out =
    lent_after (load_of held) out (λ t. cond (pass (length_order ranges)) (listed_after t.tree (ranges_in ranges) out) out)
