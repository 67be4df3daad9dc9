-- A row with the number of cubes tested, and that it is what an open of the tree gives. Assumes nothing.
use mathlib.Core.Path.{◌≡◌, sym, ◌∙◌}
use mathlib.Core.Bool.{true}
use mathlib.Core.List.{List}
use Prim.Native.Nat.{ℕ, ◌+◌}
use native.Mathlib.Omega.{arith}
use lib.ListN.{length, length-append}
use lib.Seq.{sets}
use Rattle.remy.specs.declared.point.Point.{Point}
use Rattle.rule_tree.specs.declared.RuleTree.{RuleTree}
use Rattle.rule_tree.specs.declared.Lookup.{Lookup}
use Rattle.rule_tree.specs.Grown.{grown_of}
use Rattle.rule_tree.specs.Calls.{opened_in, opened_of, lookup_of}
use Rattle.wire.specs.Bytes.{bytes_of}
use Rattle.wire.proofs.Bytes.{bytes_count}
use Rattle.wire.proofs.Stores.{wrote}
use Rattle.std.specs.Prelude.{Result, Ok}
use Rattle.refusal.specs.declared.Refusal.{Refusal}
use Rattle.trainer.specs.declared.Trainer.{Trainer}
use Rattle.record.specs.Calls.{load_of}
use Rattle.record.proofs.Loaded.{loaded_grown}
use Rattle.host_trainer.specs.Lookups.{found_bytes, rows_in, rows_after}
use Rattle.host_trainer.proofs.LookupWays.{found_count}
use Rattle.host_memory.specs.Tested.{row_of, tested_in, tested_after}

pub row_put : (l : List ℕ) (at : ℕ) (x : Lookup) {m r : List ℕ} → m ≡ sets l at (found_bytes x.found) → r ≡ sets m (at + 21) (bytes_of 2 x.tested)
    → r ≡ sets l at (row_of x)
row_put l at x {m} e q = wrote l m at 21 (found_bytes x.found) (bytes_of 2 x.tested) q e (found_count x.found)

pub row_count : (x : Lookup) → length (row_of x) ≡ 23
row_count x =
    let a = found_count x.found in
    let b = bytes_count 2 x.tested in
    length-append (found_bytes x.found) (bytes_of 2 x.tested) ∙ omega arith

opened_is : (t : RuleTree) (p : Point) → grown_of t ≡ true → opened_in t p ≡ opened_of t p
unfolding opened_in opened_of lookup_of
opened_is t p g = rw g

pub opened : (t : RuleTree) (points out : List ℕ) → grown_of t ≡ true
    → rows_after 23 (λ p. row_of (opened_in t p)) points out ≡ rows_after 23 (λ p. row_of (opened_of t p)) points out
opened t points out g j = rows_after 23 (λ p. row_of (opened_is t p g j)) points out

-- ---- over a record
pub tested_taken : (held points out : List ℕ) {a : Result Trainer Refusal} {t : Trainer} {r : Result ℕ Refusal} {l : List ℕ} → a ≡ load_of held → a ≡ Ok t
    → (r ≡ rows_in 23 points out) × (l ≡ rows_after 23 (λ p. row_of (opened_in t.tree p)) points out)
    → (r ≡ tested_in held points out) × (l ≡ tested_after held points out)
tested_taken held points out {t = t} e z p =
    let q : load_of held ≡ Ok t = sym e ∙ z in
    rw q (p.0, p.1 ∙ opened t.tree points out (loaded_grown held t e z))
