-- One ack of a sender that is on its chart: its point lies in the box, so that it is taken, and the sender that it leaves is on the chart.
-- Assumes nothing.
use mathlib.Core.Path.{◌≡◌, refl, sym, ap, subst, ◌∙◌}
use mathlib.Core.Bool.{Bool, true, false, ◌&&◌, cond}
use Prim.Native.Nat.{ℕ}
use lib.Dec.{T}
use lib.Ieee.{Float, binary64, sub, div, le, lt}
use lib.Ieee.Bits.{is_true}
use lib.Ieee.Fits.{and_l, and_r, and_i, sub-fits}
use Rattle.std.specs.Prelude.{Option, Some, None, Result, Ok, Err}
use Rattle.refusal.specs.declared.Refusal.{Refusal}
use Rattle.floats.specs.Interval.{within}
use Rattle.floats.proofs.Zero.{0f}
use Rattle.quantities.specs.declared.Time.{Time}
use Rattle.quantities.specs.declared.TimeSpan.{TimeSpan}
use Rattle.quantities.specs.Time.{span, moment, admitted, admit_of}
use Rattle.remy.specs.declared.action.Action.{Action}
use Rattle.remy.specs.declared.point.Point.{Point}
use Rattle.remy.specs.Cube.{ack, send, ratio, root_of, contains_of}
use Rattle.rule_tree.specs.declared.RuleTree.{RuleTree}
use Rattle.rule_tree.specs.Nodes.{node_at_of, action_in}
use Rattle.rule_tree.specs.Grown.{grown_of}
use Rattle.rule_tree.specs.Walk.{leaf_of}
use Rattle.rule_tree.specs.Calls.{found_in}
use Rattle.sender.specs.declared.Rtt.{Rtt}
use Rattle.sender.specs.declared.RepeatMode.TheVariants.{Off}
use Rattle.sender.specs.declared.Sender.{Sender}
use Rattle.sender.specs.declared.Held.{Held}
use Rattle.sender.specs.Memory.{average_next, rtt_next, remembered, ratio_now, point_of}
use Rattle.sender.specs.Acks.{drawn, settled, ack_drawn, ack_with, ack_pending, ack_admitted}
use Rattle.sender.specs.Sender.{fresh_sender, ack_of, with_last_send, send_admitted, send_of, tick_of}
use Rattle.promise.specs.SenderRuns.{after_reply}
use Rattle.chart_laws.specs.Chart.{Times, sent_at, received_at, round_trip, shorter_of, GrownWith}
use Rattle.chart_laws.proofs.Ends.{ends-one, in_box_lem, shorter_above}
use Rattle.chart_laws.proofs.Quotient.{1f, quotient_min}
use Rattle.chart_laws.proofs.Bounded.{Kept, kept_next, kept_within}

-- ---- an ack whose point is in the box is taken
abbrev known_of : Sender → Times → Sender
known_of s x = remembered s (moment (sent_at x)) (moment (received_at x))

abbrev action_at : RuleTree → Point → Action
action_at t p = action_in (node_at_of t.nodes (leaf_of t p))

took : (t : RuleTree) (s : Sender) (x : Times) (draw : Option ℕ) → grown_of t ≡ true → admitted x.sent ≡ true → admitted x.received ≡ true
    → s.next_change ≡ None → s.repeat_actions ≡ Off → contains_of (root_of t.ends) (point_of (known_of s x)) ≡ true
    → ack_of t s x.sent x.received draw ≡ Ok (settled (known_of s x) (action_at t (point_of (known_of s x))) None)
unfolding ack_of admit_of ack_admitted ack_pending ack_with found_in drawn ack_drawn
took t s x draw g a b i o c = rw (g, a, b, i, c, o)

abbrev trip : Float → Float → Rtt
trip shortest current = record { shortest = span shortest; current = span current }

-- ---- a sender on its chart, x being the ack that it took last and m the shortest round trip so far
pub record Charted (ends : Point) (x : Times) (m : Float) (s : Sender) : Type 0 where
  pub last : s.last_ack ≡ Some (moment (received_at x))
  pub last_send_lem : s.last_ack_send ≡ Some (moment (sent_at x))
  pub acks : Kept (ack ends) s.ack_ewma
  pub sends : Kept (send ends) s.send_ewma
  pub current : Float
  pub trips : s.rtt ≡ Some (trip m current)
  pub above : T (lt 0f m)
  pub idle : s.next_change ≡ None
  pub off : s.repeat_actions ≡ Off

-- a sender that took none yet
pub record Fresh (s : Sender) : Type 0 where
  pub last : s.last_ack ≡ None
  pub last_send_lem : s.last_ack_send ≡ None
  pub acks : s.ack_ewma ≡ None
  pub sends : s.send_ewma ≡ None
  pub trips : s.rtt ≡ None
  pub idle : s.next_change ≡ None
  pub off : s.repeat_actions ≡ Off

-- sends and ticks change neither
module _ (P : Sender → Type 0) (keeps : (s : Sender) (m : Option Time) → P s → P (with_last_send s m)) (s : Sender) (h : P s) where
  pub send_stays : (at : Float) → P (after_reply s (send_of s at)).sender
  unfolding after_reply send_admitted
  send_stays at = go (admit_of at)
    where
      go : (x : Result Time Refusal) → P (after_reply s (send_admitted s x)).sender
      go (Ok t) = keeps s (Some t) h
      go (Err r) = h

  pub tick_stays : P (tick_of s).sender
  tick_stays = keeps s None h

pub charted_keeps : (ends : Point) (x : Times) (m : Float) (s : Sender) (at : Option Time) → Charted ends x m s → Charted ends x m (with_last_send s at)
charted_keeps ends x m s at k = record {
  last = k.last;
  last_send_lem = k.last_send_lem;
  acks = k.acks;
  sends = k.sends;
  current = k.current;
  trips = k.trips;
  above = k.above;
  idle = k.idle;
  off = k.off;
}

pub fresh_keeps : (s : Sender) (at : Option Time) → Fresh s → Fresh (with_last_send s at)
fresh_keeps s at k = record {
  last = k.last;
  last_send_lem = k.last_send_lem;
  acks = k.acks;
  sends = k.sends;
  trips = k.trips;
  idle = k.idle;
  off = k.off;
}

pub fresh_starts : Fresh (fresh_sender Off)
fresh_starts = record { last = refl; last_send_lem = refl; acks = refl; sends = refl; trips = refl; idle = refl; off = refl }

pub record Served (ends : Point) (t : RuleTree) (s : Sender) (x : Times) (m : Float) (draw : Option ℕ) : Type 0 where
  pub held : Held
  pub taken : ack_of t s x.sent x.received draw ≡ Ok held
  pub charted : Charted ends x m held.sender

module _ (ends : Point) (t : RuleTree) (over : GrownWith ends t) (x : Times)
    (good : T (admitted x.sent && admitted x.received)) (draw : Option ℕ) (above : T (lt 0f (round_trip x)))
  where
    -- from what the ack makes of the sender's memory
    step : (s : Sender) → s.next_change ≡ None → s.repeat_actions ≡ Off → Kept (ack ends) (known_of s x).ack_ewma
        → Kept (send ends) (known_of s x).send_ewma
        → (m : Float) → (known_of s x).rtt ≡ Some (trip m (round_trip x)) → T (lt 0f m) → T (lt (div binary64 (round_trip x) m) (ratio ends))
        → Served ends t s x m draw
    unfolding ratio_now
    step s i o ka ks m e p h =
        let n = known_of s x in
        let q : T (within 0f (ratio ends) (div binary64 (round_trip x) m)) =
        and_i (le 0f (div binary64 (round_trip x) m)) (lt (div binary64 (round_trip x) m) (ratio ends)) (quotient_min (round_trip x) m (ratio ends) above p h) h in
        let one = ends-one ends t over in
        let c = in_box_lem ends t over (point_of n) (kept_within (ack ends) one.0 n.ack_ewma ka)
        (kept_within (send ends) one.1.0 n.send_ewma ks)
        (subst (λ (r : Option Rtt). T (within 0f (ratio ends) (ratio_now r))) (sym e) q) in
        let a = action_at t (point_of n) in
        record {
          held = settled n a None;
          taken =
              took t s x draw over.grown (is_true (admitted x.sent) (and_l (admitted x.sent) (admitted x.received) good))
              (is_true (admitted x.received) (and_r (admitted x.sent) (admitted x.received) good)) i o c;
          charted = record {
            last = refl;
            last_send_lem = refl;
            acks = ka;
            sends = ks;
            current = round_trip x;
            trips = e;
            above = p;
            idle = refl;
            off = o;
          };
        }

    -- the first ack: its point is (0, 0, 1)
    kept_none : (end : Float) (a : Option TimeSpan) (last : Option Time) (m : Float) → last ≡ None → a ≡ None → Kept end (average_next a last (moment m))
    unfolding average_next
    kept_none end a last m e k = rw (e, k) tt

    first_known : (r : Option Rtt) (y : Float) → r ≡ None → rtt_next r (span y) ≡ trip y y
    unfolding rtt_next
    first_known r y e = rw e

    pub first : (s : Sender) → Fresh s → T (lt (div binary64 (round_trip x) (round_trip x)) (ratio ends)) → Served ends t s x (round_trip x) draw
    first s k h =
        step s k.idle k.off
        (kept_none (ack ends) s.ack_ewma s.last_ack (received_at x) k.last k.acks)
        (kept_none (send ends) s.send_ewma s.last_ack_send (sent_at x) k.last_send_lem k.sends)
        (round_trip x) (ap Some (first_known s.rtt (round_trip x) k.trips)) above h

    -- a later one
    kept_more : (end : Float) → T (le 1f end) → (a : Option TimeSpan) (last : Option Time) (l m : Float) → last ≡ Some (moment l) → Kept end a
        → T (within 0f end (sub binary64 m l)) → Kept end (average_next a last (moment m))
    unfolding average_next
    kept_more end one a last l m e k w =
        subst (λ (z : Option Time). Kept end (average_next a z (moment m))) (sym e)
        (kept_next end one a (sub binary64 m l) k (sub-fits binary64 m l) w)

    shorter_known : (r : Option Rtt) (m y c : Float) → r ≡ Some (trip m c) → rtt_next r (span y) ≡ trip (shorter_of m y) y
    unfolding rtt_next
    shorter_known r m y c e = ap (λ (z : Option Rtt). rtt_next z (span y)) e ∙ go (lt y m)
      where
        go : (b : Bool) → record { shortest = cond b (span y) (span m); current = span y } ≡ trip (cond b y m) y
        go true = refl
        go false = refl

    pub next : (y : Times) (m : Float) (s : Sender) → Charted ends y m s → T (within 0f (ack ends) (sub binary64 (received_at x) (received_at y)))
        → T (within 0f (send ends) (sub binary64 (sent_at x) (sent_at y)))
        → T (lt (div binary64 (round_trip x) (shorter_of m (round_trip x))) (ratio ends))
        → Served ends t s x (shorter_of m (round_trip x)) draw
    next y m s k a b h =
        step s k.idle k.off
        (kept_more (ack ends) (ends-one ends t over).0 s.ack_ewma s.last_ack (received_at y) (received_at x) k.last k.acks a)
        (kept_more (send ends) (ends-one ends t over).1.0 s.send_ewma s.last_ack_send (sent_at y) (sent_at x) k.last_send_lem k.sends b)
        (shorter_of m (round_trip x)) (ap Some (shorter_known s.rtt m (round_trip x) k.current k.trips)) (shorter_above m (round_trip x) k.above above) h
