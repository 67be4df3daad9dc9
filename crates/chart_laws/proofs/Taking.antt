-- Of every list of calls to a fresh sender with repeat off, whose acks' moments stay on the chart, each ack is taken, over any grown trees with these ends.
-- Assumes nothing.
use mathlib.Core.Bool.{◌&&◌}
use mathlib.Core.List.{List, [], ◌∷◌, map}
use lib.Dec.{T}
use lib.Ieee.{Float, binary64, sub, div, lt}
use lib.Ieee.Fits.{and_l, and_r}
use Rattle.floats.specs.Interval.{within}
use Rattle.floats.proofs.Zero.{0f}
use Rattle.quantities.specs.Time.{admitted}
use Rattle.remy.specs.declared.point.Point.{Point}
use Rattle.remy.specs.Cube.{ack, send, ratio}
use Rattle.rule_tree.specs.declared.RuleTree.{RuleTree}
use Rattle.sender.specs.declared.RepeatMode.TheVariants.{Off}
use Rattle.sender.specs.declared.Sender.{Sender}
use Rattle.sender.specs.Sender.{fresh_sender, send_of, tick_of}
use Rattle.sender.specs.SenderCall.{SenderCall}
use Rattle.sender.specs.SenderCall as call
use Rattle.promise.specs.SenderRuns.{after_reply}
use Rattle.chart_laws.specs.Chart.{Times, ack_times, sent_at, received_at, round_trip, all_admitted, gaps_after, gaps_hold, all_above, shorter_of, ratios_after, ratios_hold, OnChart, AcksOver, GrownWith, AcksTaken}
use Rattle.chart_laws.proofs.Steps.{Charted, Fresh, send_stays, tick_stays, charted_keeps, fresh_keeps, fresh_starts, first, next}

module _ (ends : Point) where
  -- after an ack at y, with m the shortest round trip so far
  rest : (cs : List (SenderCall RuleTree)) → AcksOver (GrownWith ends) cs → (y : Times) (m : Float) (s : Sender) → Charted ends y m s
      → T (all_admitted (ack_times cs)) → T (gaps_after (ack ends) (received_at y) (map received_at (ack_times cs)))
      → T (gaps_after (send ends) (sent_at y) (map sent_at (ack_times cs))) → T (all_above (map round_trip (ack_times cs)))
      → T (ratios_after (ratio ends) m (map round_trip (ack_times cs))) → AcksTaken s cs
  unfolding all_admitted gaps_after all_above ratios_after
  rest [] o y m s k a b c d e = tt
  rest (call.send at ∷ cs) o y m s k a b c d e =
      rest cs o y m (after_reply s (send_of s at)).sender (send_stays (Charted ends y m) (charted_keeps ends y m) s k at) a b c d e
  rest (call.tick ∷ cs) o y m s k a b c d e = rest cs o y m (tick_of s).sender (tick_stays (Charted ends y m) (charted_keeps ends y m) s k) a b c d e
  rest (call.ack t sent received draw ∷ cs) o y m s k a b c d e =
      let v : Times = record { sent = sent; received = received } in
      let r = round_trip v in
      let A = admitted sent && admitted received in
      let B = within 0f (ack ends) (sub binary64 (received_at v) (received_at y)) in
      let C = within 0f (send ends) (sub binary64 (sent_at v) (sent_at y)) in
      let D = lt 0f r in
      let E = lt (div binary64 r (shorter_of m r)) (ratio ends) in
      let A' = all_admitted (ack_times cs) in
      let B' = gaps_after (ack ends) (received_at v) (map received_at (ack_times cs)) in
      let C' = gaps_after (send ends) (sent_at v) (map sent_at (ack_times cs)) in
      let D' = all_above (map round_trip (ack_times cs)) in
      let E' = ratios_after (ratio ends) (shorter_of m r) (map round_trip (ack_times cs)) in
      let w = next ends t o.0 v (and_l A A' a) draw (and_l D D' d) y m s k (and_l B B' b) (and_l C C' c) (and_l E E' e) in (
        w.held,
        w.taken,
        rest cs o.1 v (shorter_of m r) w.held.sender w.charted (and_r A A' a) (and_r B B' b) (and_r C C' c) (and_r D D' d) (and_r E E' e),
      )

  all : (cs : List (SenderCall RuleTree)) → AcksOver (GrownWith ends) cs → (s : Sender) → Fresh s → T (all_admitted (ack_times cs))
      → T (gaps_hold (ack ends) (map received_at (ack_times cs))) → T (gaps_hold (send ends) (map sent_at (ack_times cs)))
      → T (all_above (map round_trip (ack_times cs))) → T (ratios_hold (ratio ends) (map round_trip (ack_times cs))) → AcksTaken s cs
  unfolding all_admitted gaps_hold all_above ratios_hold
  all [] o s k a b c d e = tt
  all (call.send at ∷ cs) o s k a b c d e = all cs o (after_reply s (send_of s at)).sender (send_stays Fresh fresh_keeps s k at) a b c d e
  all (call.tick ∷ cs) o s k a b c d e = all cs o (tick_of s).sender (tick_stays Fresh fresh_keeps s k) a b c d e
  all (call.ack t sent received draw ∷ cs) o s k a b c d e =
      let v : Times = record { sent = sent; received = received } in
      let r = round_trip v in
      let A = admitted sent && admitted received in
      let D = lt 0f r in
      let E = lt (div binary64 r r) (ratio ends) in
      let A' = all_admitted (ack_times cs) in
      let D' = all_above (map round_trip (ack_times cs)) in
      let E' = ratios_after (ratio ends) r (map round_trip (ack_times cs)) in
      let w = first ends t o.0 v (and_l A A' a) draw (and_l D D' d) s k (and_l E E' e) in
      (w.held, w.taken, rest cs o.1 v r w.held.sender w.charted (and_r A A' a) b c (and_r D D' d) (and_r E E' e))

  -- the public ack, over any grown trees with these ends
  pub acks_taken : (cs : List (SenderCall RuleTree)) → AcksOver (GrownWith ends) cs → OnChart ends (ack_times cs) → AcksTaken (fresh_sender Off) cs
  acks_taken cs o h = all cs o (fresh_sender Off) fresh_starts h.moments h.acks h.sends h.trips h.ratios
