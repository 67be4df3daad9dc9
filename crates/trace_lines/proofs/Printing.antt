-- What is printed: the lines where a buffer with room for any has their size, and the line of a refusal. Assumes nothing.
use mathlib.Core.Path.{◌≡◌, refl, sym, ap, ◌∙◌}
use mathlib.Core.Bool.{Bool, true, false, false≢true}
use mathlib.Core.List.{List, [], ◌∷◌, ◌++◌}
use Prim.Native.Nat.{ℕ, ◌+◌, ◌≤◌}
use native.Mathlib.Omega.{arith}
use borrow.Author.Tests.{le-leb}
use lib.Dec.{leb}
use lib.ListN.{length, drop}
use Rattle.std.specs.Prelude.{Result, Ok, Err}
use Rattle.refusal.specs.declared.Refusal.{Refusal}
use Rattle.refusal.specs.declared.Refusal.TheVariants.{BadField, BadLength, BadTrace, ShortBuffer, UnknownVersion}
use Rattle.refusal.specs.Numbers.{number_of}
use Rattle.refusal.specs.Guards.{Check, check, checked}
use Rattle.record.specs.Calls.{version_holds, body_holds}
use Rattle.record.proofs.CallWays.{stored}
use Rattle.panel_lines.specs.Panel.{record_part, start_holds}
use Rattle.panel_lines.specs.Parts.{Wrote}
use Rattle.trace_lines.specs.Trace.{trace_part, trace_holds, refusal_line, text_of, printed_by, printed_of, room_for, trace_of, out_after}
use Rattle.trace_lines.proofs.Lines.{refusal_few}
use Rattle.trace_lines.proofs.Ways.{room_most}

module _ (text : List ℕ) where
  -- the answer and the bytes by the same checks, the last of which is that there is room
  abbrev checks : Bool → Bool → Bool → List Check → List Check
  checks x y z rest = check x BadLength ∷ check y UnknownVersion ∷ check z BadField ∷ rest

  abbrev answer : Bool → Bool → Bool → Bool → Bool → Result ℕ Refusal
  answer x y z w f = checked (checks x y z (check w BadTrace ∷ check f ShortBuffer ∷ [])) (Ok (length text))

  abbrev bytes : Bool → Bool → Bool → Bool → List ℕ
  bytes x y z w = printed_by (checked (checks x y z (check w BadTrace ∷ [])) (Ok text))

  sized : (n : ℕ) (x y z w f : Bool) → answer x y z w f ≡ Ok n → (bytes x y z w ≡ text) × (n ≡ length text)
  unfolding printed_by
  sized n true true true true true e = (refl, cc)
  sized n true true true true false e = absurd (cc)
  sized n true true true false f e = absurd (cc)
  sized n true true false w f e = absurd (cc)
  sized n true false z w f e = absurd (cc)
  sized n false y z w f e = absurd (cc)

  same_line : (j k : Refusal) → ◌≡◌ {A = Result ℕ Refusal} (Err j) (Err k) → refusal_line (number_of j) ≡ refusal_line (number_of k)
  same_line j k e = let q : j ≡ k = cc in ap (λ (r : Refusal). refusal_line (number_of r)) q

  turned : (r : Refusal) (x y z w f : Bool) → (w ≡ true → f ≡ true) → answer x y z w f ≡ Err r → bytes x y z w ≡ refusal_line (number_of r)
  unfolding printed_by
  turned r true true true true true room e = absurd (cc)
  turned r true true true true false room e = absurd (false≢true (room refl))
  turned r true true true false f room e = same_line BadTrace r e
  turned r true true false w f room e = same_line BadField r e
  turned r true false z w f room e = same_line UnknownVersion r e
  turned r false y z w f room e = same_line BadLength r e

module _ (input out : List ℕ) where
  printed_sized : (n : ℕ) → trace_of input out ≡ Ok n → (printed_of input ≡ text_of input) × (n ≡ length (text_of input))
  unfolding trace_of printed_of
  printed_sized n e =
      sized (text_of input) n (start_holds input) (version_holds (record_part input)) (body_holds (record_part input)) (trace_holds (trace_part input))
      (leb (room_for (trace_part input)) (length out)) e

  -- the buffer has room for the lines of any trace
  module _ (l : 180191 ≤ length out) where
    pub room_there : trace_holds (trace_part input) ≡ true → leb (room_for (trace_part input)) (length out) ≡ true
    room_there h = le-leb (room_for (trace_part input)) (length out) (omega (arith, room_most (trace_part input) h))

    pub printed_turned : (r : Refusal) → trace_of input out ≡ Err r → printed_of input ≡ refusal_line (number_of r)
    unfolding trace_of printed_of
    printed_turned r e =
        turned (text_of input) r (start_holds input) (version_holds (record_part input)) (body_holds (record_part input)) (trace_holds (trace_part input))
        (leb (room_for (trace_part input)) (length out)) room_there e

  abbrev Printed : ℕ → List ℕ → Type 0
  Printed n r = (n ≡ length (printed_of input)) × (r ≡ printed_of input ++ drop (length (printed_of input)) out)

  module _ {v : Result ℕ Refusal} {m : List ℕ} (p : v ≡ trace_of input out) (q : m ≡ out_after input out (trace_of input out)) where
    pub lines_printed : (n : ℕ) → v ≡ Ok n → Printed n m
    unfolding out_after
    lines_printed n e =
        let f : trace_of input out ≡ Ok n = sym p ∙ e in
        let s = printed_sized n f in (
          s.1 ∙ ap length (sym s.0),
          q ∙ rw f (rw (s.0, ← s.1)),
        )

    module _ (l : 180191 ≤ length out) (k : Refusal) (e : v ≡ Err k) where
      as_refused : trace_of input out ≡ Err k
      as_refused = sym p ∙ e

      kept : m ≡ out
      unfolding out_after
      kept = q ∙ rw as_refused

      pub refusal_room : 0 + length (refusal_line (number_of k)) ≤ length m
      refusal_room = omega (arith, refusal_few k, ap length kept)

      pub refusal_printed : {r : List ℕ} {n : ℕ} → Wrote m 0 r n (refusal_line (number_of k)) → Printed n r
      refusal_printed {r} {n} w =
          let t = printed_turned l k as_refused in
          let s = stored m (refusal_line (number_of k)) (omega (arith, refusal_room)) w.stored in (
            omega (arith, w.place, ap length t),
            s ∙ ap (λ (o : List ℕ). refusal_line (number_of k) ++ drop (length (refusal_line (number_of k))) o) kept
                ∙ ap (λ (b : List ℕ). b ++ drop (length b) out) (sym t),
          )
