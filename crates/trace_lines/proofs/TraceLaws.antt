-- Laws of the trace: the sizes of the program's buffers change no answer, a refusal is the only line, and events that were written are
-- read again. Assumes nothing.
use mathlib.Core.Path.{◌≡◌, refl, sym, ap, ◌∙◌}
use mathlib.Core.Bool.{Bool, true, false, false≢true, ◌&&◌, cond}
use mathlib.Core.List.{List, [], ◌∷◌, ◌++◌}
use Prim.Native.Nat.{ℕ, ◌+◌, ◌≤◌}
use native.Mathlib.Omega.{arith}
use borrow.Author.Tests.{leb-true, leb-false}
use lib.Dec.{leb}
use lib.ListN.{length, take, length-append, length-drop}
use lib.Seq.{take_all, length-take-le}
use Rattle.std.specs.Prelude.{Result, Ok, Err}
use Rattle.refusal.specs.declared.Refusal.{Refusal}
use Rattle.refusal.specs.declared.Refusal.TheVariants.{BadField, BadLength, BadTrace, ShortBuffer, UnknownVersion}
use Rattle.refusal.specs.Numbers.{number_of}
use Rattle.refusal.specs.Guards.{Check, check, checked, first_refused, pass}
use Rattle.wire.specs.Bytes.{number_at}
use Rattle.record.specs.Calls.{version_holds, body_holds}
use Rattle.panel_lines.specs.Panel.{record_part, start_holds, tree_in}
use Rattle.panel_lines.proofs.Nested.{long_start, first_number, first_record}
use Rattle.sender.specs.declared.Event.{Event}
use Rattle.sender.specs.declared.RepeatMode.TheVariants.{Off}
use Rattle.sender.specs.Sender.{fresh_sender}
use Rattle.trace_lines.specs.Trace.{trace_part, events_part, start_of, whole_in_of, events_in, events, trace_holds, refusal_line, lines_from, text_of, input_order, printed_by, printed_of, room_for, trace_of}
use Rattle.trace_lines.specs.Encoding.{events_bytes, trace_bytes, FitEvents}
use Rattle.trace_lines.proofs.Reading.{start_over}
use Rattle.trace_lines.proofs.Events.{whole_none, events_none}
use Rattle.trace_lines.proofs.Showing.{lines_none, lines_few}
use Rattle.trace_lines.proofs.Ways.{trace_as, room_most}
use Rattle.trace_lines.proofs.Lines.{refusal_few}
use Rattle.trace_lines.proofs.Printing.{room_there}
use Rattle.trace_lines.proofs.Encoding.{whole_back, events_back, events_there, start_back}

-- what is printed, by the four tests
abbrev turn : Refusal → List ℕ
turn r = refusal_line (number_of r)

abbrev line_by : List ℕ → Bool → Bool → Bool → Bool → List ℕ
line_by text x y z w = cond x (cond y (cond z (cond w text (turn BadTrace)) (turn BadField)) (turn UnknownVersion)) (turn BadLength)

printed_as : (input : List ℕ)
    → printed_of input ≡ line_by (text_of input) (start_holds input) (version_holds (record_part input)) (body_holds (record_part input)) (trace_holds (trace_part input))
unfolding printed_of printed_by
printed_as input =
    by (start_holds input) (version_holds (record_part input)) (body_holds (record_part input)) (trace_holds (trace_part input))
  where
    by : (x y z w : Bool)
        → printed_by (checked (check x BadLength ∷ check y UnknownVersion ∷ check z BadField ∷ check w BadTrace ∷ []) (Ok (text_of input)))
        ≡ line_by (text_of input) x y z w
    by true true true true = refl
    by true true true false = refl
    by true true false w = refl
    by true false z w = refl
    by false y z w = refl

-- ---- an input of more bytes than any that is taken
abbrev long_by : ℕ → List ℕ → List ℕ
long_by n bytes = cond (leb n 16384) (cond (version_holds bytes) (cond (body_holds bytes) (turn BadTrace) (turn BadField)) (turn UnknownVersion)) (turn BadLength)

module _ (input : List ℕ) (l : 49157 ≤ length input) where
  long_trace : number_at input 0 4 ≤ 16384 → trace_holds (trace_part input) ≡ false
  long_trace m =
      let e = start_over (trace_part input) (omega (arith, length-drop (4 + number_at input 0 4) input)) in
      trace_as (trace_part input) ∙ rw e

  long_printed : printed_of input ≡ long_by (number_at input 0 4) (record_part input)
  long_printed =
      printed_as input ∙ rw (long_start input (omega arith)) (by (leb (number_at input 0 4) 16384) refl)
    where
      y : Bool
      y = version_holds (record_part input)

      z : Bool
      z = body_holds (record_part input)

      by : (b : Bool) → leb (number_at input 0 4) 16384 ≡ b
          → line_by (text_of input) b y z (trace_holds (trace_part input)) ≡ cond b (cond y (cond z (turn BadTrace) (turn BadField)) (turn UnknownVersion)) (turn BadLength)
      by true e = rw (long_trace (leb-true (number_at input 0 4) 16384 e))
      by false e = refl

-- the read buffer's size changes no answer
pub longer_input : (input : List ℕ) → printed_of (take 49157 input) ≡ printed_of input
longer_input input = by (leb 49157 (length input)) refl
  where
    long_same : 49157 ≤ length input → long_by (number_at (take 49157 input) 0 4) (record_part (take 49157 input)) ≡ long_by (number_at input 0 4) (record_part input)
    long_same l = ap (λ (n : ℕ). long_by n (record_part (take 49157 input))) (first_number 49157 (omega arith) input) ∙ (go (leb (number_at input 0 4) 16384) refl)
      where
        lines : List ℕ → List ℕ
        lines r = cond (version_holds r) (cond (body_holds r) (turn BadTrace) (turn BadField)) (turn UnknownVersion)

        go : (b : Bool) → leb (number_at input 0 4) 16384 ≡ b → cond b (lines (record_part (take 49157 input))) (turn BadLength) ≡ cond b (lines (record_part input)) (turn BadLength)
        go true e = ap lines (first_record 49157 (omega arith) input (leb-true (number_at input 0 4) 16384 e))
        go false e = refl

    by : (b : Bool) → leb 49157 (length input) ≡ b → printed_of (take 49157 input) ≡ printed_of input
    by true e =
        let l = leb-true 49157 (length input) e in
        long_printed (take 49157 input) (omega (arith, length-take-le 49157 input l)) ∙ long_same l ∙ sym (long_printed input l)
    by false e = ap printed_of (take_all 49157 input (omega (arith, leb-false 49157 (length input) e)))

-- ---- 180,191 bytes hold any lines
text_few : (input : List ℕ) → length (text_of input) ≤ room_for (trace_part input)
text_few input = lines_few (tree_in input) (fresh_sender Off) (events (trace_part input)) (omega arith)

pub lines_fit : (input : List ℕ) → length (printed_of input) ≤ 180191
lines_fit input =
    omega (arith, ap length (printed_as input), by (start_holds input) (version_holds (record_part input)) (body_holds (record_part input)) (trace_holds (trace_part input)) refl)
  where
    turned : (r : Refusal) → length (turn r) ≤ 180191
    turned r = omega (arith, refusal_few r)

    by : (x y z w : Bool) → trace_holds (trace_part input) ≡ w → length (line_by (text_of input) x y z w) ≤ 180191
    by true true true true e = omega (arith, text_few input, room_most (trace_part input) e)
    by true true true false e = turned BadTrace
    by true true false w e = turned BadField
    by true false z w e = turned UnknownVersion
    by false y z w e = turned BadLength

-- the program writes the first bytes of a buffer that begins with what is printed
pub printed_inside : (input rest : List ℕ) {n : ℕ} {m : List ℕ} → n ≡ length (printed_of input) → m ≡ printed_of input ++ rest → n ≤ length m
printed_inside input rest e p = omega (arith, ap length p, length-append (printed_of input) rest)

abbrev answer : ℕ → Bool → Bool → Bool → Bool → Bool → Result ℕ Refusal
answer n x y z w f =
    checked (check x BadLength ∷ check y UnknownVersion ∷ check z BadField ∷ check w BadTrace ∷ check f ShortBuffer ∷ []) (Ok n)

pub never_short : (input out : List ℕ) → 180191 ≤ length out → trace_of input out ≡ Err ShortBuffer → ⊥
unfolding trace_of
never_short input out l e =
    by (start_holds input) (version_holds (record_part input)) (body_holds (record_part input)) (trace_holds (trace_part input))
    (leb (room_for (trace_part input)) (length out)) (room_there input out l) e
  where
    by : (x y z w f : Bool) → (w ≡ true → f ≡ true) → answer (length (text_of input)) x y z w f ≡ Err ShortBuffer → ⊥
    by true true true true true room e = cc
    by true true true true false room e = false≢true (room refl)
    by true true true false f room e = cc
    by true true false w f room e = cc
    by true false z w f room e = cc
    by false y z w f room e = cc

-- a size is that of bytes in the lent buffer
pub size_inside : (input out : List ℕ) (n : ℕ) → trace_of input out ≡ Ok n → n ≤ length out
unfolding trace_of
size_inside input out n e =
    by (start_holds input) (version_holds (record_part input)) (body_holds (record_part input)) (trace_holds (trace_part input))
    (leb (room_for (trace_part input)) (length out)) refl e
  where
    by : (x y z w f : Bool) → leb (room_for (trace_part input)) (length out) ≡ f → answer (length (text_of input)) x y z w f ≡ Ok n → n ≤ length out
    by true true true true true l e =
        let q : n ≡ length (text_of input) = cc in
        omega (arith, text_few input, leb-true (room_for (trace_part input)) (length out) l)
    by true true true true false l e = absurd (cc)
    by true true true false f l e = absurd (cc)
    by true true false w f l e = absurd (cc)
    by true false z w f l e = absurd (cc)
    by false y z w f l e = absurd (cc)

-- ---- "any of these refusals is the only line"
printed_told : (text : List ℕ) (ts : List Check) → printed_by (checked ts (Ok text)) ≡ cond (pass ts) text (refusal_line (first_refused ts))
unfolding printed_by pass first_refused
printed_told text [] = refl
printed_told text (t ∷ ts) = by t.holds (printed_told text ts)
  where
    by : (b : Bool) → printed_by (checked ts (Ok text)) ≡ cond (pass ts) text (refusal_line (first_refused ts))
        → printed_by (cond b (checked ts (Ok text)) (Err t.refusal)) ≡ cond (b && pass ts) text (refusal_line (cond b (first_refused ts) (number_of t.refusal)))
    by true h = h
    by false h = refl

module _ (input : List ℕ) where
  pub refused_alone : pass (input_order input) ≡ false → printed_of input ≡ refusal_line (first_refused (input_order input))
  unfolding printed_of
  refused_alone h = printed_told (text_of input) (input_order input) ∙ rw h

  pub taken_whole : pass (input_order input) ≡ true → printed_of input ≡ text_of input
  unfolding printed_of
  taken_whole h = printed_told (text_of input) (input_order input) ∙ rw h

-- ---- events that were written are read again
module _ (es : List Event) where
  pub encoded : FitEvents es → (whole_in_of (events_bytes es) ≡ true) × (events_in (events_bytes es) ≡ es)
  encoded f = (whole_back (length (events_bytes es)) es (omega arith), events_back (length (events_bytes es)) es f (omega arith))

  pub trace_encoded : FitEvents es → length (events_bytes es) ≤ 32763 → (trace_holds (trace_bytes es) ≡ true) × (events (trace_bytes es) ≡ es)
  trace_encoded f l =
      let s = start_back es l in
      let w : whole_in_of (events_part (trace_bytes es)) ≡ true = ap (λ (b : List ℕ). whole_in_of b) (events_there es) ∙ (encoded f).0 in
      (trace_as (trace_bytes es) ∙ rw (s, w), ap (λ (b : List ℕ). events_in b) (events_there es) ∙ (encoded f).1)

-- ---- "A trace of 5 bytes prints nothing": a trace whose start holds and that has no more bytes
pub empty_trace : (input : List ℕ) → start_holds input ≡ true → version_holds (record_part input) ≡ true → body_holds (record_part input) ≡ true
    → start_of (trace_part input) ≡ true → length (trace_part input) ≡ 5 → printed_of input ≡ []
empty_trace input x y z s e =
    let none : length (events_part (trace_part input)) ≡ 0 = omega (arith, length-drop 5 (trace_part input)) in
    let w = whole_none (events_part (trace_part input)) none (length (events_part (trace_part input))) in
    let h : trace_holds (trace_part input) ≡ true = trace_as (trace_part input) ∙ rw (s, w) in
    printed_as input ∙ rw (x, y, z, h)
    (ap (lines_from (tree_in input) (fresh_sender Off)) (events_none (events_part (trace_part input)) none (length (events_part (trace_part input)))) ∙ lines_none (tree_in input) (fresh_sender Off))
