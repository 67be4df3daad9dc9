-- The panel test by test as the code goes: the start, what the loader answers, then the counts. Assumes nothing.
use mathlib.Core.Path.{◌≡◌, refl, sym, ap, ◌∙◌}
use mathlib.Core.Bool.{Bool, true, false, ◌&&◌, cond}
use mathlib.Core.List.{List, [], ◌∷◌}
use Prim.Native.Nat.{ℕ, ◌+◌, ◌-◌, ◌*◌, ◌≤◌}
use native.Mathlib.Omega.{arith}
use borrow.Author.Tests.{leb-true, le-leb, eq-eqb}
use lib.Dec.{eqb, leb}
use lib.ListN.{length, take}
use lib.Seq.{take-take, length-take-le}
use Rattle.std.specs.Prelude.{Result, Ok, Err}
use Rattle.refusal.specs.declared.Refusal.{Refusal}
use Rattle.refusal.specs.declared.Refusal.TheVariants.{BadCounts, BadField, BadLength, UnknownVersion}
use Rattle.refusal.specs.Guards.{check, checked, and_then}
use Rattle.rule_tree.specs.declared.RuleTree.{RuleTree}
use Rattle.rule_tree.specs.Nodes.{node_count}
use Rattle.rule_tree.specs.Counts.{counts_hold}
use Rattle.rule_tree.proofs.Lists.{and_left, and_right, and_both}
use Rattle.trainer.specs.declared.Trainer.{Trainer}
use Rattle.wire.specs.Bytes.{number_at, value_from}
use Rattle.record.specs.Read.{read_of}
use Rattle.record.specs.Calls.{length_holds, version_holds, body_holds, load_of}
use Rattle.record.proofs.Loading.{loaded_then}
use Rattle.record.proofs.BytesFit.{loaded_is}
use Rattle.panel_lines.specs.Panel.{lines_of, record_part, counts_part, counts_in, start_holds, tree_in, panel_of}
use Rattle.panel_lines.specs.Parts.{fitted, counts_shown, record_shown}

-- ---- a start that holds leaves the loader no 6: its part has the length that it says
module _ (input : List ℕ) (h : start_holds input ≡ true) where
  n : ℕ
  n = number_at input 0 4

  start_rest : leb n 16384 && leb n (length input - 4) ≡ true
  unfolding start_holds n
  start_rest = and_right (leb 4 (length input)) (leb n 16384 && leb n (length input - 4)) h

  start_few : n ≤ 16384
  start_few = leb-true n 16384 (and_left (leb n 16384) (leb n (length input - 4)) start_rest)

  pub start_fits : 4 + number_at input 0 4 ≤ length input
  unfolding start_holds n
  start_fits =
      let a = leb-true 4 (length input) (and_left (leb 4 (length input)) (leb n 16384 && leb n (length input - 4)) h) in
      let b = leb-true n (length input - 4) (and_right (leb n 16384) (leb n (length input - 4)) start_rest) in
      omega arith

  pub part_held : length_holds (record_part input) ≡ true
  unfolding length_holds n
  part_held =
      let bytes = record_part input in
      let e : number_at bytes 0 4 ≡ n = ap (value_from 0) (take-take 4 (4 + n) input (omega arith)) in
      let l : length bytes ≡ 4 + n = length-take-le (4 + n) input start_fits in
      and_both (leb 4 (length bytes)) _ (le-leb 4 (length bytes) (omega arith))
      (and_both (leb (number_at bytes 0 4) 16384) _ (le-leb (number_at bytes 0 4) 16384 (omega (arith, start_few)))
      (eq-eqb (number_at bytes 0 4) (length bytes - 4) (omega arith)))

-- ---- an input that is longer than any record: the start tests the number alone, and the record is in the first bytes
pub long_start : (input : List ℕ) → 16388 ≤ length input → start_holds input ≡ leb (number_at input 0 4) 16384
unfolding start_holds
long_start input l = rw (le-leb 4 (length input) (omega arith)) (by (leb (number_at input 0 4) 16384) refl)
  where
    by : (b : Bool) → leb (number_at input 0 4) 16384 ≡ b → b && leb (number_at input 0 4) (length input - 4) ≡ b
    by true e = le-leb (number_at input 0 4) (length input - 4) (omega (arith, leb-true (number_at input 0 4) 16384 e))
    by false e = refl

module _ (m : ℕ) (l : 16388 ≤ m) (input : List ℕ) where
  pub first_number : number_at (take m input) 0 4 ≡ number_at input 0 4
  first_number = ap (value_from 0) (take-take 4 m input (omega arith))

  pub first_record : number_at input 0 4 ≤ 16384 → record_part (take m input) ≡ record_part input
  first_record h = ap (λ (k : ℕ). take (4 + k) (take m input)) first_number ∙ take-take (4 + number_at input 0 4) m input (omega arith)

-- ---- the loader's answer
pub loaded : (bytes : List ℕ) (t : Trainer) → load_of bytes ≡ Ok t → load_of bytes ≡ Ok (read_of bytes)
loaded bytes t e = e ∙ ap (λ (u : Trainer). Ok u) (sym (loaded_is bytes t e))

-- ---- the counts' two tests are one
counts_checked :
    (t : RuleTree) (bytes out : List ℕ)
    → counts_shown t bytes out
    ≡ checked (check (eqb (length bytes) (8 * node_count t.splits) && counts_hold t (counts_in bytes (node_count t.splits))) BadCounts ∷ [])
    (fitted (lines_of t (counts_in bytes (node_count t.splits))) out)
unfolding counts_shown
counts_checked t bytes out =
    by (eqb (length bytes) (8 * node_count t.splits)) (counts_hold t (counts_in bytes (node_count t.splits)))
    (fitted (lines_of t (counts_in bytes (node_count t.splits))) out)
  where
    by : (x y : Bool) (r : Result ℕ Refusal) → cond x (cond y r (Err BadCounts)) (Err BadCounts) ≡ cond (x && y) r (Err BadCounts)
    by true y r = refl
    by false y r = refl

pub panel_nested :
    (input out : List ℕ)
    → panel_of input out ≡ checked (check (start_holds input) BadLength ∷ []) (record_shown (load_of (record_part input)) (counts_part input) out)
unfolding panel_of
panel_nested input out = by (start_holds input) refl
  where
    call : Trainer → Result ℕ Refusal
    call t = counts_shown t.tree (counts_part input) out

    counted : Result ℕ Refusal
    counted =
        checked (check (eqb (length (counts_part input)) (8 * node_count (tree_in input).splits) && counts_hold (tree_in input) (counts_in (counts_part input) (node_count (tree_in input).splits))) BadCounts ∷ [])
        (fitted (lines_of (tree_in input) (counts_in (counts_part input) (node_count (tree_in input).splits))) out)

    rest : Result ℕ Refusal → Result ℕ Refusal
    rest r = checked (check (version_holds (record_part input)) UnknownVersion ∷ check (body_holds (record_part input)) BadField ∷ []) r

    by : (b : Bool) → start_holds input ≡ b → cond b (rest counted) (Err BadLength) ≡ cond b (and_then (load_of (record_part input)) call) (Err BadLength)
    by true h =
        ap rest (sym (counts_checked (tree_in input) (counts_part input) out))
        ∙ ap (λ (b : Bool). cond b (rest (call (read_of (record_part input)))) (Err BadLength)) (sym (part_held input h))
        ∙ sym (loaded_then (record_part input) call)
    by false h = refl
