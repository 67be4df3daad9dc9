-- An event that was written is read again. Assumes nothing.
use mathlib.Core.Path.{◌≡◌, refl, sym, ap, ◌∙◌}
use mathlib.Core.Bool.{true}
use mathlib.Core.List.{List, [], ◌∷◌, ◌++◌}
use Prim.Native.Nat.{ℕ, zero, suc, ◌+◌, ◌<◌, ◌≤◌}
use native.Mathlib.Omega.{arith}
use borrow.Author.Tests.{le-leb}
use lib.Dec.{leb}
use lib.Ieee.{Float, binary64, to_bits}
use lib.ListN.{length, get_or, drop, length-append}
use lib.Seq.{drop_at, drop-drop, get_or-drop}
use Rattle.rule_tree.proofs.Lists.{and_both}
use Rattle.wire.specs.Bytes.{bytes_of}
use Rattle.wire.specs.Fields.{float_bytes}
use Rattle.wire.proofs.Bytes.{bytes_count}
use Rattle.record.proofs.Stands.{Stands, stands_all, first, next, number_back, float_back}
use Rattle.sender.specs.declared.Event.{Event}
use Rattle.sender.specs.declared.Event.TheVariants.{Ack, Send, Tick}
use Rattle.trace_lines.specs.Trace.{kind_holds, size_of, head_holds, event_in, whole_events, events_from, events_part, start_of}
use Rattle.trace_lines.specs.Encoding.{event_bytes, events_bytes, trace_bytes, FitEvent, FitEvents}
use Rattle.trace_lines.proofs.Reading.{start_so}
use Rattle.trace_lines.proofs.Events.{head_as, whole_none, events_none, whole_some, events_some}

float_count : (x : Float) → length (float_bytes x) ≡ 8
float_count x = bytes_count 8 (to_bits binary64 x)

ack_count_lem : (sent received : Float) → length (float_bytes sent ++ float_bytes received) ≡ 16
ack_count_lem sent received = length-append (float_bytes sent) (float_bytes received) ∙ omega (arith, float_count sent, float_count received)

-- ---- an event, and the bytes after it
module _ (rest : List ℕ) where
  abbrev then : Event → List ℕ
  then e = event_bytes e ++ rest

  event_size_lem : (e : Event) → size_of (then e) ≡ length (event_bytes e)
  unfolding event_bytes
  event_size_lem (Ack x) = omega (arith, ack_count_lem x.sent x.received)
  event_size_lem (Send at) = omega (arith, float_count at)
  event_size_lem Tick = refl

  event_kind : (e : Event) → kind_holds (get_or (then e) 0 0) (get_or (then e) 1 0) ≡ true
  unfolding event_bytes kind_holds
  event_kind (Ack x) = refl
  event_kind (Send at) = refl
  event_kind Tick = refl

  event_head : (e : Event) → head_holds (then e) ≡ true
  event_head e =
      let l = le-leb (size_of (then e)) (length (then e)) (omega (arith, event_size_lem e, length-append (event_bytes e) rest)) in
      head_as (then e) ∙ and_both (kind_holds (get_or (then e) 0 0) (get_or (then e) 1 0)) (leb (size_of (then e)) (length (then e))) (event_kind e) l

  event_read : (e : Event) → FitEvent e → event_in (then e) ≡ e
  unfolding event_bytes event_in
  event_read (Ack x) f =
      let bytes = then (Ack x) in
      let here : Stands bytes 2 (float_bytes x.sent ++ float_bytes x.received) = record { rest = rest; is = refl } in
      let a = float_back bytes 2 x.sent f.0 (first bytes 2 (float_bytes x.sent) (float_bytes x.received) here) in
      let b = float_back bytes 10 x.received f.1 (next bytes 2 8 (float_bytes x.sent) (float_bytes x.received) (float_count x.sent) here) in
      let d = sym f.2 in
      (λ j. Ack (record { sent = a j; received = b j; draw = d j }))
  event_read (Send at) f =
      let bytes = then (Send at) in
      ap Send (float_back bytes 2 at f (record { rest = rest; is = refl }))
  event_read Tick f = refl

-- ---- all of them
two : (e : Event) → 2 ≤ length (event_bytes e)
unfolding event_bytes
two (Ack x) = omega arith
two (Send at) = omega arith
two Tick = omega arith

module _ (e : Event) (es : List Event) where
  events_are : events_bytes (e ∷ es) ≡ event_bytes e ++ events_bytes es
  unfolding events_bytes event_bytes
  events_are = refl

  count : length (events_bytes (e ∷ es)) ≡ length (event_bytes e) + length (events_bytes es)
  count = ap length events_are ∙ length-append (event_bytes e) (events_bytes es)

  some : 0 < length (event_bytes e ++ events_bytes es)
  some = omega (arith, two e, length-append (event_bytes e) (events_bytes es))

  after : drop (size_of (event_bytes e ++ events_bytes es)) (event_bytes e ++ events_bytes es) ≡ events_bytes es
  after = drop_at (event_bytes e) (events_bytes es) (size_of (event_bytes e ++ events_bytes es)) (sym (event_size_lem (events_bytes es) e))

  whole_on : (n : ℕ) → whole_events (suc n) (events_bytes (e ∷ es)) ≡ whole_events n (events_bytes es)
  whole_on n =
      let h = event_head (events_bytes es) e in
      ap (whole_events (suc n)) events_are ∙ whole_some (event_bytes e ++ events_bytes es) some n ∙ rw h (ap (whole_events n) after)

  events_on : FitEvent e → (n : ℕ) → events_from (suc n) (events_bytes (e ∷ es)) ≡ e ∷ events_from n (events_bytes es)
  events_on f n =
      let r = event_read (events_bytes es) e f in
      ap (events_from (suc n)) events_are ∙ events_some (event_bytes e ++ events_bytes es) some n
      ∙ (λ j. r j ∷ events_from n (after j))

pub whole_back : (n : ℕ) (es : List Event) → length (events_bytes es) ≤ n → whole_events n (events_bytes es) ≡ true
unfolding events_bytes
whole_back n [] l = whole_none [] refl n
whole_back zero (e ∷ es) l = absurd (omega (arith, two e, count e es))
whole_back (suc n) (e ∷ es) l = whole_on e es n ∙ whole_back n es (omega (arith, two e, count e es))

pub events_back : (n : ℕ) (es : List Event) → FitEvents es → length (events_bytes es) ≤ n → events_from n (events_bytes es) ≡ es
unfolding events_bytes
events_back n [] f l = events_none [] refl n
events_back zero (e ∷ es) f l = absurd (omega (arith, two e, count e es))
events_back (suc n) (e ∷ es) f l = events_on e es f.0 n ∙ ap (λ (r : List Event). e ∷ r) (events_back n es f.1 (omega (arith, two e, count e es)))

-- ---- a trace of them
module _ (es : List Event) where
  abbrev number : ℕ
  number = 1 + length (events_bytes es)

  after_number : drop 4 (trace_bytes es) ≡ 1 ∷ events_bytes es
  after_number = drop_at (bytes_of 4 number) (1 ∷ events_bytes es) 4 (bytes_count 4 number)

  pub events_there : events_part (trace_bytes es) ≡ events_bytes es
  events_there = sym (drop-drop 1 4 (trace_bytes es)) ∙ ap (drop 1) after_number

  trace_length : length (trace_bytes es) ≡ 5 + length (events_bytes es)
  trace_length = length-append (bytes_of 4 number) (1 ∷ events_bytes es) ∙ omega (arith, bytes_count 4 number)

  pub start_back : length (events_bytes es) ≤ 32763 → start_of (trace_bytes es) ≡ true
  start_back l =
      let bytes = trace_bytes es in
      let n = number_back bytes 0 4 number (omega arith) (first bytes 0 (bytes_of 4 number) (1 ∷ events_bytes es) (stands_all bytes)) in
      let v = sym (get_or-drop 4 bytes 0 0) ∙ ap (λ (r : List ℕ). get_or r 0 0) after_number in
      start_so bytes (omega (arith, trace_length)) (omega (arith, trace_length)) (omega (arith, n, trace_length)) v
