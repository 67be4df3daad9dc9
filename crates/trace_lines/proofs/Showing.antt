-- The turn of the loop over events: a line each, on the sender that the last event left. Assumes nothing.
use mathlib.Core.Path.{◌≡◌, refl, sym, ap, subst, ◌∙◌}
use mathlib.Core.Bool.{Bool, true, false, ◌&&◌}
use mathlib.Core.List.{List, [], ◌∷◌, ◌++◌, append_assoc, append-nil}
use Prim.Native.Nat.{ℕ, ◌+◌, ◌-◌, ◌*◌, ◌<◌, ◌≤◌}
use native.Mathlib.Omega.{arith}
use borrow.Author.Tests.{ltb-true, ltb-false}
use lib.Dec.{ltb}
use lib.ListN.{length, take, drop, length-append, length-drop}
use lib.Seq.{length-sets}
use Rattle.std.specs.Prelude.{Result}
use Rattle.refusal.specs.declared.Refusal.{Refusal}
use Rattle.rule_tree.specs.declared.RuleTree.{RuleTree}
use Rattle.rule_tree.proofs.Lists.{and_left, and_right}
use Rattle.sender.specs.declared.Event.{Event}
use Rattle.sender.specs.declared.Sender.{Sender}
use Rattle.sender.specs.declared.Held.{Held}
use Rattle.sender.specs.SenderCall.{on}
use Rattle.sender.specs.Sender.{replied_to, left_by}
use Rattle.panel_lines.specs.Parts.{Wrote}
use Rattle.panel_lines.proofs.Lines.{then, named}
use Rattle.trace_lines.specs.Trace.{size_of, head_holds, event_in, whole_events, events_from, events_in, line_of, lines_from}
use Rattle.trace_lines.proofs.Events.{lent, size-bounds, size_there, events_none, whole_turn, events_turn}
use Rattle.trace_lines.proofs.Windows.{reply_small, left_small, line_few}

pub lines_none : (t : RuleTree) (s : Sender) → lines_from t s [] ≡ []
unfolding lines_from
lines_none t s = refl

pub lines_more : (t : RuleTree) (s : Sender) (e : Event) (es : List Event)
    → lines_from t s (e ∷ es) ≡ line_of (replied_to s (on t e)) ++ lines_from t (left_by s (replied_to s (on t e))) es
unfolding lines_from line_of replied_to on left_by
lines_more t s e es = refl

-- a line has at most 11 bytes
pub lines_few : (t : RuleTree) (s : Sender) (es : List Event) → s.window ≤ 1000000 → length (lines_from t s es) ≤ 11 * length es
lines_few t s [] l = omega (arith, ap length (lines_none t s))
lines_few t s (e ∷ es) l =
    let r = replied_to s (on t e) in
    let b = reply_small t s e l in
    let rest = lines_from t (left_by s r) es in
    let a = line_few r b in
    let h = lines_few t (left_by s r) es (left_small s r l b) in
    omega (arith, ap length (lines_more t s e es), length-append (line_of r) rest)

none_left : (es : List Event) → length es ≡ 0 → es ≡ []
none_left [] e = refl
none_left (x ∷ es) e = absurd (omega arith)

-- after i events, which stand before place at: their lines are stored, and the rest is to come
pub record Shown (t : RuleTree) (body : List ℕ) (n : ℕ) (s : Sender) (l m : List ℕ) (u : Sender) (at next i : ℕ) : Type 0 where
  pub some : i ≤ n
  pub steps : i ≤ at
  pub inside : at ≤ length body
  pub whole : whole_events (length body - i) (drop at body) ≡ true
  pub count : n ≡ i + length (events_from (length body - i) (drop at body))
  pub small : u.window ≤ 1000000
  pub room : next ≤ 11 * i
  pub done : List ℕ
  pub wrote : Wrote l 0 m next done
  pub lines : lines_from t s (events_in body) ≡ done ++ lines_from t u (events_from (length body - i) (drop at body))

module _ (t : RuleTree) (body : List ℕ) (n : ℕ) (s : Sender) (l : List ℕ) where
  module _ (m : List ℕ) (u : Sender) (at next i : ℕ) (c : Shown t body n s l m u at next i) where
    rest : List Event
    rest = events_from (length body - i) (drop at body)

    pub shown_length : length m ≡ length l
    shown_length = ap length c.wrote.stored ∙ length-sets l 0 c.done

    pub shown_done : n ≤ i → Wrote l 0 m next (lines_from t s (events_in body))
    unfolding rest
    shown_done b =
        let e = none_left rest (omega (arith, c.count, c.some)) in
        named (sym (c.lines ∙ ap (λ (es : List Event). c.done ++ lines_from t u es) e ∙ ap (λ (r : List ℕ). c.done ++ r) (lines_none t u) ∙ append-nil c.done))
        c.wrote

    module _ (g : i < n) where
      pub shown_inside : at < length body
      unfolding rest
      shown_inside = by (ltb at (length body)) refl
        where
          by : (b : Bool) → ltb at (length body) ≡ b → at < length body
          by true e = ltb-true at (length body) e
          by false e =
              let z : length (drop at body) ≡ 0 = omega (arith, length-drop at body, ltb-false at (length body) e) in
              absurd (omega (arith, c.count, ap length (events_none (drop at body) z (length body - i))))

      both : head_holds (drop at body) && whole_events (length body - (i + 1)) (drop (at + size_of (drop at body)) body) ≡ true
      both = sym (whole_turn body at i c.steps shown_inside) ∙ c.whole

      head : head_holds (drop at body) ≡ true
      head = and_left (head_holds (drop at body)) (whole_events (length body - (i + 1)) (drop (at + size_of (drop at body)) body)) both

      module _ {x : Event} {size : ℕ} {r : Result Held Refusal} (a : x ≡ event_in (take (length body - at) (drop at body)))
          (b : size ≡ size_of (take (length body - at) (drop at body))) (q : r ≡ replied_to u (on t x))
        where
          size_is : size ≡ size_of (drop at body)
          size_is = b ∙ ap (λ (p : List ℕ). size_of p) (lent body at i)

          pub next_inside : (at + size ≤ length body) × (2 ≤ size)
          next_inside =
              let p = size_there (drop at body) head in
              let o = size-bounds (drop at body) head in
              (omega (arith, size_is, length-drop at body), omega (arith, size_is))

          pub line_short : length (line_of r) ≤ 11
          line_short = subst (λ (z : Result Held Refusal). length (line_of z) ≤ 11) (sym q) (line_few (replied_to u (on t x)) (reply_small t u x c.small))

          pub line_room : 11 * n ≤ length l → next + length (line_of r) ≤ length m
          line_room f = omega (arith, c.room, line_short, shown_length)

          after : drop (at + size_of (drop at body)) body ≡ drop (at + size) body
          after = ap (λ (k : ℕ). drop (at + k) body) (sym size_is)

          event_is : event_in (drop at body) ≡ x
          event_is = sym (a ∙ ap event_in (lent body at i))

          left_is : rest ≡ x ∷ events_from (length body - (i + 1)) (drop (at + size) body)
          unfolding rest
          left_is =
              events_turn body at i c.steps shown_inside
              ∙ (λ j. event_is j ∷ events_from (length body - (i + 1)) (after j))

          lines_on : {v : Sender} → v ≡ left_by u r → lines_from t u rest ≡ line_of r ++ lines_from t v (events_from (length body - (i + 1)) (drop (at + size) body))
          lines_on {v} f =
              ap (lines_from t u) left_is ∙ lines_more t u x (events_from (length body - (i + 1)) (drop (at + size) body))
              ∙ ap (λ (z : Result Held Refusal). line_of z ++ lines_from t (left_by u z) (events_from (length body - (i + 1)) (drop (at + size) body))) (sym q)
              ∙ ap (λ (w : Sender). line_of r ++ lines_from t w (events_from (length body - (i + 1)) (drop (at + size) body))) (sym f)

          pub shown_turn : {m1 : List ℕ} {v : Sender} {k : ℕ} → Wrote m next m1 k (line_of r) → v ≡ left_by u r → Shown t body n s l m1 v (at + size) k (i + 1)
          unfolding rest
          shown_turn {m1} {v} {k} w f = record {
            some = omega arith;
            steps = let o = next_inside in omega (arith, c.steps);
            inside = next_inside.0;
            whole =
                ap (λ (p : List ℕ). whole_events (length body - (i + 1)) p) (sym after)
                ∙ and_right (head_holds (drop at body)) (whole_events (length body - (i + 1)) (drop (at + size_of (drop at body)) body)) both;
            count = c.count ∙ ap (λ (es : List Event). i + length es) left_is ∙ omega arith;
            small = subst (λ (z : Sender). z.window ≤ 1000000) (sym (f ∙ ap (left_by u) q)) (left_small u (replied_to u (on t x)) c.small (reply_small t u x c.small));
            room = omega (arith, c.room, line_short, w.place);
            done = c.done ++ line_of r;
            wrote = then c.wrote w;
            lines =
                c.lines ∙ ap (λ (p : List ℕ). c.done ++ p) (lines_on f)
                ∙ sym (append_assoc c.done (line_of r) (lines_from t v (events_from (length body - (i + 1)) (drop (at + size) body))));
          }
