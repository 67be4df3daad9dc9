-- The turn of the loop that counts events. Assumes nothing.
use mathlib.Core.Path.{◌≡◌, sym, ap, ◌∙◌}
use mathlib.Core.Bool.{true, false}
use mathlib.Core.List.{List}
use Prim.Native.Nat.{ℕ, suc, ◌+◌, ◌-◌, ◌<◌, ◌≤◌}
use native.Mathlib.Omega.{arith}
use lib.ListN.{length, take, drop, length-drop}
use Rattle.std.specs.Prelude.{Option, None, Some}
use Rattle.sender.specs.declared.Event.{Event}
use Rattle.trace_lines.specs.Trace.{size_of, head_holds, whole_events, events_from, whole_in_of, events_in}
use Rattle.trace_lines.specs.Parts.{event_size, counted_of}
use Rattle.trace_lines.proofs.Events.{lent, size-none, size-some, size_there, size-bounds, whole_none, events_none, whole_turn, events_turn}

-- n events stand before place at, and the rest is as whole as all
pub record Counting (body : List ℕ) (at n : ℕ) : Type 0 where
  pub steps : n ≤ at
  pub inside : at ≤ length body
  pub whole : whole_in_of body ≡ whole_events (length body - n) (drop at body)
  pub count : length (events_in body) ≡ n + length (events_from (length body - n) (drop at body))

module _ (body : List ℕ) (at n : ℕ) (c : Counting body at n) where
  module _ (l : at < length body) {r : Option ℕ} (e : r ≡ event_size (take (length body - at) (drop at body))) where
    size_left : r ≡ event_size (drop at body)
    size_left = e ∙ ap event_size (lent body at n)

    pub counted_broken : r ≡ None → None ≡ counted_of body
    unfolding counted_of
    counted_broken z =
        let f = size-none (drop at body) (sym size_left ∙ z) in
        let w : whole_in_of body ≡ false = c.whole ∙ whole_turn body at n c.steps l ∙ rw f in
        rw w

    module _ (size : ℕ) (z : r ≡ Some size) where
      head : (head_holds (drop at body) ≡ true) × (size ≡ size_of (drop at body))
      head = size-some (drop at body) size (sym size_left ∙ z)

      pub counting_inside : (at + size ≤ length body) × (2 ≤ size)
      counting_inside =
          let a = size_there (drop at body) head.0 in
          let b = size-bounds (drop at body) head.0 in
          (omega (arith, head.1, length-drop at body), omega (arith, head.1))

      pub counting_turn : Counting body (at + size) (n + 1)
      counting_turn =
          let a = counting_inside in
          let place : drop (at + size_of (drop at body)) body ≡ drop (at + size) body = ap (λ (k : ℕ). drop (at + k) body) (sym head.1) in
          let h = head.0 in
          record {
            steps = omega (arith, c.steps);
            inside = a.0;
            whole =
                c.whole ∙ whole_turn body at n c.steps l ∙ rw h
                (ap (whole_events (length body - (n + 1))) place);
            count =
                c.count ∙ ap (λ (es : List Event). n + length es) (events_turn body at n c.steps l)
                ∙ ap (λ (r : List ℕ). n + suc (length (events_from (length body - (n + 1)) r))) place ∙ omega arith;
          }

  pub counted_whole : length body ≤ at → Some n ≡ counted_of body
  unfolding counted_of
  counted_whole l =
      let z : length (drop at body) ≡ 0 = omega (arith, length-drop at body) in
      let w : whole_in_of body ≡ true = c.whole ∙ whole_none (drop at body) z (length body - n) in
      let k : length (events_in body) ≡ n = c.count ∙ ap (λ (es : List Event). n + length es) (events_none (drop at body) z (length body - n)) ∙ omega arith in
      rw (w, k)
