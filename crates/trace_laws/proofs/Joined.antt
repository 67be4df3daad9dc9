-- What is printed of a record that a load takes and of the bytes after it. Assumes nothing.
use mathlib.Core.Path.{◌≡◌, refl, ap, ◌∙◌}
use mathlib.Core.Bool.{Bool, true, false, ◌&&◌, cond}
use mathlib.Core.List.{List, [], ◌∷◌, ◌++◌}
use Prim.Native.Nat.{ℕ, ◌+◌, ◌-◌, ◌≤◌}
use native.Mathlib.Omega.{arith}
use borrow.Author.Tests.{le-leb, leb-true, eqb-true}
use lib.Dec.{eqb, leb}
use lib.ListN.{length, length-append}
use lib.Seq.{take-append-le, take_at, drop_at}
use Rattle.std.specs.Prelude.{Ok, Err}
use Rattle.refusal.specs.declared.Refusal.TheVariants.{BadField, BadLength, BadTrace, UnknownVersion}
use Rattle.refusal.specs.Numbers.{number_of}
use Rattle.refusal.specs.Guards.{check, checked}
use Rattle.rule_tree.specs.declared.RuleTree.{RuleTree}
use Rattle.rule_tree.proofs.Lists.{and_left, and_right}
use Rattle.trainer.specs.declared.Trainer.{Trainer}
use Rattle.wire.specs.Bytes.{number_at, value_from}
use Rattle.record.specs.Read.{read_of}
use Rattle.record.specs.Calls.{length_holds, version_holds, body_holds, load_of}
use Rattle.record.proofs.BytesFit.{loaded_is}
use Rattle.panel_lines.specs.Panel.{record_part, start_holds, tree_in}
use Rattle.panel_lines.proofs.Nested.{part_held}
use Rattle.trace_lines.specs.Trace.{trace_part, trace_holds, refusal_line, lines_over, printed_by, printed_of}

-- the lines over a tree, or the one refusal
abbrev pub traced : RuleTree → List ℕ → List ℕ
traced t bytes = cond (trace_holds bytes) (lines_over t bytes) (refusal_line 25)

-- ---- where the record's three checks hold
module _ (input : List ℕ) (x : start_holds input ≡ true) (y : version_holds (record_part input) ≡ true) (z : body_holds (record_part input) ≡ true) where
  pub printed_traced : printed_of input ≡ traced (tree_in input) (trace_part input)
  unfolding printed_of printed_by number_of
  printed_traced = rw (x, y, z) (by (trace_holds (trace_part input)) (lines_over (tree_in input) (trace_part input)))
    where
      by : (b : Bool) (text : List ℕ) → printed_by (cond b (Ok text) (Err BadTrace)) ≡ cond b text (refusal_line 25)
      by true text = refl
      by false text = refl

  pub loads : load_of (record_part input) ≡ Ok (read_of (record_part input))
  unfolding load_of
  loads = let l = part_held input x in rw (l, y, z)

-- ---- a record that is loaded
pub record Held (r : List ℕ) : Type 0 where
  pub length_held : length_holds r ≡ true
  pub version_held : version_holds r ≡ true
  pub body_held : body_holds r ≡ true

module _ (r bytes : List ℕ) (t : Trainer) (h : load_of r ≡ Ok t) where
  held : Held r
  unfolding load_of
  held = by (length_holds r) (version_holds r) (body_holds r) refl refl refl h
    where
      by : (x y z : Bool) → length_holds r ≡ x → version_holds r ≡ y → body_holds r ≡ z
          → checked (check x BadLength ∷ check y UnknownVersion ∷ check z BadField ∷ []) (Ok (read_of r)) ≡ Ok t → Held r
      by true true true a b c e = record { length_held = a; version_held = b; body_held = c }
      by true true false a b c e = absurd (cc)
      by true false z a b c e = absurd (cc)
      by false y z a b c e = absurd (cc)

  rest : Bool
  rest = leb (number_at r 0 4) 16384 && eqb (number_at r 0 4) (length r - 4)

  bounds : (4 ≤ length r) × (number_at r 0 4 ≤ 16384) × (number_at r 0 4 ≡ length r - 4)
  unfolding length_holds rest
  bounds =
      let l = held.length_held in
      let m = and_right (leb 4 (length r)) rest l in (
        leb-true 4 (length r) (and_left (leb 4 (length r)) rest l),
        leb-true (number_at r 0 4) 16384 (and_left (leb (number_at r 0 4) 16384) (eqb (number_at r 0 4) (length r - 4)) m),
        eqb-true (number_at r 0 4) (length r - 4) (and_right (leb (number_at r 0 4) 16384) (eqb (number_at r 0 4) (length r - 4)) m),
      )

  number : number_at (r ++ bytes) 0 4 ≡ number_at r 0 4
  number = ap (value_from 0) (take-append-le 4 r bytes bounds.0)

  place : length r ≡ 4 + number_at (r ++ bytes) 0 4
  place = omega (arith, number, bounds)

  starts : start_holds (r ++ bytes) ≡ true
  unfolding start_holds
  starts =
      let n = length-append r bytes in
      let p = le-leb 4 (length (r ++ bytes)) (omega (arith, bounds.0)) in
      let q = le-leb (number_at (r ++ bytes) 0 4) 16384 (omega (arith, number, bounds.1)) in
      let o = le-leb (number_at (r ++ bytes) 0 4) (length (r ++ bytes) - 4) (omega (arith, place)) in
      rw (p, q, o)

  record_is : record_part (r ++ bytes) ≡ r
  record_is = take_at r bytes _ place

  trace_is : trace_part (r ++ bytes) ≡ bytes
  trace_is = drop_at r bytes _ place

  tree_is : tree_in (r ++ bytes) ≡ t.tree
  tree_is = ap (λ (p : List ℕ). (read_of p).tree) record_is ∙ ap (λ (u : Trainer). u.tree) (loaded_is r t h)

  pub printed_joined : printed_of (r ++ bytes) ≡ traced t.tree bytes
  printed_joined =
      printed_traced (r ++ bytes) starts (ap version_holds record_is ∙ held.version_held) (ap body_holds record_is ∙ held.body_held)
      ∙ (λ j. traced (tree_is j) (trace_is j))
