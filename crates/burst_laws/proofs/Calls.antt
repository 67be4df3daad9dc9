-- A burst is the public calls one by one, up to the first that is refused. Assumes nothing.
use mathlib.Core.Path.{◌≡◌, refl, sym, ap, ◌∙◌, subst₂}
use mathlib.Core.Bool.{false}
use mathlib.Core.Logic.{◌≢◌}
use mathlib.Core.List.{List, [], ◌∷◌}
use Prim.Native.Nat.{ℕ, suc}
use borrow.Author.Tests.{ne_eqb}
use lib.ListN.{length, take}
use Rattle.std.specs.Prelude.{Some, Result, Ok, Err}
use Rattle.refusal.specs.declared.Refusal.{Refusal}
use Rattle.refusal.specs.Numbers.{number_of}
use Rattle.rule_tree.specs.declared.RuleTree.{RuleTree}
use Rattle.sender.specs.declared.Ack.{Ack}
use Rattle.sender.specs.declared.Held.{Held}
use Rattle.sender.specs.declared.Sender.{Sender}
use Rattle.sender.specs.Sender.{ack_of}
use Rattle.sender.specs.SenderCall.{SenderCall}
use Rattle.sender.specs.Burst.{Course, ahead, course_of, ends_with, flag_of}
use Rattle.sender.proofs.AckNumbers.{stopped_for}
use Rattle.sender.proofs.Bursts.{first_taken, first_refused}
use Rattle.promise.specs.SenderRuns.{SenderEvent, SenderStep, after_reply, event, taken, sender_step, sender_events, sender_end}
use Rattle.burst_laws.specs.Bursts.{ack_call, ack_calls, first_refusal, number_or_0, flags_of, until_refused, windows_of}

-- the course c is what the events es of the calls cs show, and its sender the one that its calls left
pub record Tied (s : Sender) (cs : List (SenderCall RuleTree)) (es : List SenderEvent) (c : Course) : Type 0 where
  pub windows : c.windows ≡ windows_of (until_refused es)
  pub flags : c.flags ≡ flags_of (until_refused es)
  pub stopped : number_or_0 c.stopped ≡ first_refusal es
  pub sender : c.sender ≡ sender_end s (take (length c.windows) cs)

module _ (s : Sender) (c : SenderCall RuleTree) (cs : List (SenderCall RuleTree)) {o : SenderStep} (e : sender_step s c ≡ o) where
  events_first : sender_events s (c ∷ cs) ≡ o.event ∷ sender_events o.sender cs
  unfolding sender_events
  events_first = ap (λ (z : SenderStep). z.event ∷ sender_events z.sender cs) e

  end_first : (n : ℕ) → sender_end s (take (suc n) (c ∷ cs)) ≡ sender_end o.sender (take n cs)
  unfolding sender_end
  end_first n = ap (λ (z : SenderStep). sender_end z.sender (take n cs)) e

  one_taken : {h : Held} {es : List SenderEvent} {d : Course} → o ≡ taken h → Tied h.sender cs es d
      → Tied s (c ∷ cs) (event 0 h.window h.clipped ∷ es) (ahead (h.window ∷ []) (flag_of h.clipped ∷ []) d)
  unfolding until_refused first_refusal
  one_taken {h} {es} {d} f ih =
      record {
        windows = ap (λ (l : List ℕ). h.window ∷ l) ih.windows;
        flags = ap (λ (l : List ℕ). flag_of h.clipped ∷ l) ih.flags;
        stopped = ih.stopped;
        sender = ih.sender ∙ sym (end_first (length d.windows) ∙ ap (λ (z : SenderStep). sender_end z.sender (take (length d.windows) cs)) f);
      }

one_refused : (s : Sender) (cs : List (SenderCall RuleTree)) (es : List SenderEvent) {r : Refusal} → number_of r ≢ 0 → Tied s cs (event (number_of r) 0 false ∷ es) (ends_with s (Some r))
unfolding until_refused first_refusal sender_end
one_refused s cs es {r} n =
    record {
      windows = rw (ne_eqb (number_of r) 0 n);
      flags = rw (ne_eqb (number_of r) 0 n);
      stopped = rw (ne_eqb (number_of r) 0 n);
      sender = refl;
    }

module _ (t : RuleTree) where
  replied : (s : Sender) (x : Ack) {r : Result Held Refusal} → ack_of t s x.sent x.received x.draw ≡ r → sender_step s (ack_call t x) ≡ after_reply s r
  unfolding sender_step
  replied s x e = ap (after_reply s) e

  pub course_calls : (s : Sender) (xs : List Ack) → Tied s (ack_calls t xs) (sender_events s (ack_calls t xs)) (course_of t s xs)
  unfolding course_of sender_events sender_end until_refused first_refusal after_reply
  course_calls s [] = record { windows = refl; flags = refl; stopped = refl; sender = refl }
  course_calls s (x ∷ xs) = go (ack_of t s x.sent x.received x.draw) refl (λ u. course_calls u xs)
    where
      go : (r : Result Held Refusal) → ack_of t s x.sent x.received x.draw ≡ r
          → ((u : Sender) → Tied u (ack_calls t xs) (sender_events u (ack_calls t xs)) (course_of t u xs))
          → Tied s (ack_calls t (x ∷ xs)) (sender_events s (ack_calls t (x ∷ xs))) (course_of t s (x ∷ xs))
      go (Ok h) e ih =
          let c = ack_call t x in
          let cs = ack_calls t xs in
          subst₂ (Tied s (c ∷ cs)) (sym (events_first s c cs (replied s x e))) (sym (first_taken t s x xs refl e))
          (one_taken s c cs (replied s x e) refl (ih h.sender))
      go (Err r) e ih =
          let c = ack_call t x in
          let cs = ack_calls t xs in
          subst₂ (Tied s (c ∷ cs)) (sym (events_first s c cs (replied s x e))) (sym (first_refused t s x xs refl e))
          (one_refused s (c ∷ cs) (sender_events s cs) (stopped_for t s x.sent x.received x.draw e))
