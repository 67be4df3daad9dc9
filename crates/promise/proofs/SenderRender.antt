-- The sender that a plain sender stands for, and what one taken ack more makes of it. Assumes nothing.
use mathlib.Core.Path.{◌≡◌, refl, ap, ◌∙◌}
use mathlib.Core.Bool.{Bool, true, false, cond}
use mathlib.Core.List.{List, [], ◌∷◌, ◌++◌}
use Prim.Native.Nat.{ℕ, zero, suc, ◌-◌}
use native.Mathlib.Omega.{arith}
use borrow.Author.Tests.{ne_eqb}
use lib.Ieee.{Float, binary64, sub, lt}
use Rattle.std.specs.Prelude.{Option, Some, None}
use Rattle.std.proofs.lemmas.List.{map-append}
use Rattle.quantities.specs.declared.Time.{Time}
use Rattle.quantities.specs.Time.{span, moment}
use Rattle.quantities.specs.declared.TimeSpan.{TimeSpan}
use Rattle.remy.specs.declared.action.Action.{Action}
use Rattle.remy.specs.Action.{window_of}
use Rattle.remy.specs.Cube as cube
use Rattle.sender.specs.declared.Rtt.{Rtt}
use Rattle.sender.specs.declared.Repeat.{Repeat}
use Rattle.sender.specs.declared.Sender.{Sender}
use Rattle.sender.specs.Memory.{averaged, average_next, rtt_next, remembered, value_of, ratio_now}
use Rattle.sender.specs.Memory as memory
use Rattle.sender.specs.Acks.{window_in, paced, repeat_next}
use Rattle.promise.specs.PlainSender.{TakenAck, PlainSender, blend, last_after, average_after, amount, shorter, trips_after, ratio_of, round_trip, sents, receiveds, rounds, repeat, one_less, pending_next, pending_after, window_after, wait_after, pending_now, state_of, shown, ack_point}
use Rattle.promise.specs.SenderRuns.{plain_start}

pub start_renders : (s : Sender) → state_of (plain_start s) ≡ s
unfolding last_after average_after trips_after pending_after window_after wait_after
start_renders s = refl

-- ---- one element more
pub last_more : (last : Option Time) (ms : List Float) (m : Float) → last_after last (ms ++ (m ∷ [])) ≡ Some (moment m)
unfolding last_after
last_more last [] m = refl
last_more last (n ∷ ms) m = last_more (Some (moment n)) ms m

blend_same : (a : Option TimeSpan) (gap : Float) → blend a gap ≡ averaged a (span gap)
unfolding blend averaged
blend_same None gap = refl
blend_same (Some a) gap = refl

pub average_more :
    (a : Option TimeSpan) (last : Option Time) (ms : List Float) (m : Float)
    → average_after a last (ms ++ (m ∷ [])) ≡ average_next (average_after a last ms) (last_after last ms) (moment m)
unfolding average_after average_next last_after
average_more a None [] m = refl
average_more a (Some last) [] m = blend_same a (sub binary64 m last.0)
average_more a None (n ∷ ms) m = average_more a (Some (moment n)) ms m
average_more a (Some last) (n ∷ ms) m = average_more (blend a (sub binary64 n last.0)) (Some (moment n)) ms m

abbrev trip : Float → Float → Rtt
trip shortest current = record { shortest = span shortest; current = span current }

shorter_same : (t : Option Rtt) (r : Float) → trip (shorter t r) r ≡ rtt_next t (span r)
unfolding shorter rtt_next
shorter_same None r = refl
shorter_same (Some t) r = go (lt r t.shortest.0)
  where
    go : (b : Bool) → trip (cond b r t.shortest.0) r ≡ record { shortest = cond b (span r) t.shortest; current = span r }
    go true = refl
    go false = refl

pub trips_more : (t : Option Rtt) (rs : List Float) (r : Float) → trips_after t (rs ++ (r ∷ [])) ≡ Some (rtt_next (trips_after t rs) (span r))
unfolding trips_after
trips_more t [] r = ap Some (shorter_same t r)
trips_more t (q ∷ rs) r = trips_more (Some (trip (shorter t q) q)) rs r

pub pending_more : (p : Option Repeat) (xs : List TakenAck) (x : TakenAck) → pending_after p (xs ++ (x ∷ [])) ≡ pending_next (pending_after p xs) x
unfolding pending_after
pending_more p [] x = refl
pending_more p (y ∷ ys) x = pending_more (pending_next p y) ys x

pub window_more : (w : ℕ) (xs : List TakenAck) (x : TakenAck) → window_after w (xs ++ (x ∷ [])) ≡ window_of x.action (window_after w xs)
unfolding window_after
window_more w [] x = refl
window_more w (y ∷ ys) x = window_more (window_of y.action w) ys x

pub wait_more : (w : TimeSpan) (xs : List TakenAck) (x : TakenAck) → wait_after w (xs ++ (x ∷ [])) ≡ x.action.intersend_delay
unfolding wait_after
wait_more w [] x = refl
wait_more w (y ∷ ys) x = wait_more y.action.intersend_delay ys x

-- ---- the same values by the sender's own names
pub amount_same : (a : Option TimeSpan) → amount a ≡ value_of a
unfolding amount value_of
amount_same None = refl
amount_same (Some a) = refl

pub ratio_same : (t : Option Rtt) → ratio_of t ≡ ratio_now t
unfolding ratio_of ratio_now
ratio_same None = refl
ratio_same (Some t) = refl

pub shown_same : (m : Option Time) (w : ℕ) → shown m w ≡ window_in m w
unfolding shown window_in
shown_same None w = refl
shown_same (Some t) w = refl

one_less_same : (n : ℕ) (a : Action) → one_less n a ≡ repeat_next (repeat n a)
unfolding one_less repeat_next
one_less_same zero a = refl
one_less_same (suc n) a =
    let e : n ≡ suc n - 1 = omega arith in
    rw (ne_eqb (suc n) 0 (λ z. omega (arith, z))) (ap (λ (m : ℕ). Some (repeat m a)) e)

pub repeat_same : (r : Repeat) (x : TakenAck) → pending_next (Some r) x ≡ repeat_next r
unfolding pending_next
repeat_same r x = one_less_same r.left r.action

-- ---- an ack at moments that were read
abbrev pub with_ack : PlainSender → TakenAck → PlainSender
with_ack s x = record { start = s.start; history = s.history ++ (x ∷ []); standing = s.standing }

module _ (s : PlainSender) (sent received : Float) where
  abbrev pub known : Sender
  known = remembered (state_of s) (moment sent) (moment received)

  ack_average_lem : average_after s.start.ack_ewma s.start.last_ack (receiveds s ++ (received ∷ [])) ≡ known.ack_ewma
  ack_average_lem = average_more s.start.ack_ewma s.start.last_ack (receiveds s) received

  send_average_lem : average_after s.start.send_ewma s.start.last_ack_send (sents s ++ (sent ∷ [])) ≡ known.send_ewma
  send_average_lem = average_more s.start.send_ewma s.start.last_ack_send (sents s) sent

  round_trips : trips_after s.start.rtt (rounds s ++ (sub binary64 received sent ∷ [])) ≡ known.rtt
  round_trips = trips_more s.start.rtt (rounds s) (sub binary64 received sent)

  -- "An ack's point is made from the start, the taken acks .. before it and the ack itself"
  pub point_renders : ack_point s sent received ≡ memory.point_of known
  point_renders =
      λ j. cube.point_of ((ap amount ack_average_lem ∙ amount_same known.ack_ewma) j) ((ap amount send_average_lem ∙ amount_same known.send_ewma) j)
      ((ap ratio_of round_trips ∙ ratio_same known.rtt) j)

  -- the ack's action sets window and wait, and uses the repeat up or leaves one pending
  pub ack_renders :
      (a : Action) (next : Option Repeat)
      → let x : TakenAck = record { sent = sent; received = received; action = a; next = next } in
      state_of (with_ack s x) ≡ paced known a (pending_next (pending_now s) x)
  ack_renders a next =
      let x : TakenAck = record { sent = sent; received = received; action = a; next = next } in
      let received_more = map-append (λ (y : TakenAck). y.received) s.history (x ∷ []) in
      let sent_more = map-append (λ (y : TakenAck). y.sent) s.history (x ∷ []) in
      λ j. record {
        last_ack = (ap (last_after s.start.last_ack) received_more ∙ last_more s.start.last_ack (receiveds s) received) j;
        last_ack_send = (ap (last_after s.start.last_ack_send) sent_more ∙ last_more s.start.last_ack_send (sents s) sent) j;
        ack_ewma = (ap (average_after s.start.ack_ewma s.start.last_ack) received_more ∙ ack_average_lem) j;
        send_ewma = (ap (average_after s.start.send_ewma s.start.last_ack_send) sent_more ∙ send_average_lem) j;
        rtt = (ap (trips_after s.start.rtt) (map-append round_trip s.history (x ∷ [])) ∙ round_trips) j;
        next_change = pending_more s.start.next_change s.history x j;
        repeat_actions = s.start.repeat_actions;
        last_send = s.standing;
        window = window_more s.start.window s.history x j;
        intersend_delay = wait_more s.start.intersend_delay s.history x j;
      }
