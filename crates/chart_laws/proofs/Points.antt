-- The plain sender's point, from the moments alone: that of every list of acks that stays on the chart lies in the box of its ends, whatever they are.
-- Assumes nothing.
use mathlib.Core.Path.{◌≡◌}
use mathlib.Core.Bool.{true, ◌&&◌}
use mathlib.Core.List.{List, [], ◌∷◌, map}
use lib.Dec.{T}
use lib.Ieee.{Float, binary64, sub, div, le, lt, fits}
use lib.Ieee.Bits.{is_true}
use lib.Ieee.Fits.{and_l, and_r, and_i, sub-fits}
use Rattle.std.specs.Prelude.{Option, Some, None}
use Rattle.floats.specs.Interval.{within}
use Rattle.floats.proofs.Zero.{0f}
use Rattle.quantities.specs.declared.TimeSpan.{TimeSpan}
use Rattle.quantities.specs.Time.{span, moment}
use Rattle.remy.specs.declared.point.Point.{Point}
use Rattle.remy.specs.Cube.{ack, send, ratio, ends_admitted, root_of, contains_of}
use Rattle.remy.proofs.Ends.{ends_from_one}
use Rattle.sender.specs.declared.RepeatMode.TheVariants.{Off}
use Rattle.sender.specs.Memory.{value_of}
use Rattle.sender.specs.Sender.{fresh_sender}
use Rattle.promise.specs.PlainSender.{blend, average_after, amount, shorter, trips_after, ratio_of, point_from}
use Rattle.chart_laws.specs.Chart.{Times, sent_at, received_at, round_trip, gaps_after, gaps_hold, all_above, shorter_of, ratios_after, ratios_hold, OnChart}
use Rattle.chart_laws.proofs.Quotient.{1f, quotient_min}
use Rattle.chart_laws.proofs.Bounded.{Kept, under_first, under_next, under_within, kept_within}
use Rattle.chart_laws.proofs.Ends.{shorter_above}

-- ---- the averages
module _ (end : Float) (one : T (le 1f end)) where
  kept_blend : (a : Option TimeSpan) (g : Float) → Kept end a → T (fits binary64 g) → T (within 0f end g) → Kept end (blend a g)
  unfolding blend
  kept_blend None g u f w = under_first end one g f w
  kept_blend (Some a) g u f w = under_next end one a.0 g u f w

  amount_within : (a : Option TimeSpan) → Kept end a → T (within 0f end (amount a))
  unfolding amount value_of
  amount_within None u = kept_within end one None u
  amount_within (Some a) u = under_within end one a.0 u

  kept_after : (ms : List Float) (a : Option TimeSpan) (l : Float) → Kept end a → T (gaps_after end l ms) → Kept end (average_after a (Some (moment l)) ms)
  unfolding average_after gaps_after
  kept_after [] a l u h = u
  kept_after (m ∷ ms) a l u h =
      let W = within 0f end (sub binary64 m l) in
      let R = gaps_after end m ms in
      kept_after ms (blend a (sub binary64 m l)) m (kept_blend a (sub binary64 m l) u (sub-fits binary64 m l) (and_l W R h)) (and_r W R h)

  -- "none counts as 0"
  average_inside : (m : Float) (ms : List Float) → T (gaps_hold end (m ∷ ms)) → T (within 0f end (amount (average_after None None (m ∷ ms))))
  unfolding average_after gaps_hold
  average_inside m ms h = amount_within (average_after None (Some (moment m)) ms) (kept_after ms None m tt h)

-- ---- the ratio
module _ (end : Float) where
  ratio_after : (rs : List Float) (m r : Float) → T (lt 0f m) → T (lt 0f r) → T (lt (div binary64 r m) end) → T (all_above rs)
      → T (ratios_after end m rs) → T (within 0f end (ratio_of (trips_after (Some (record { shortest = span m; current = span r })) rs)))
  unfolding trips_after shorter ratio_of all_above ratios_after
  ratio_after [] m r p q h a b = and_i (le 0f (div binary64 r m)) (lt (div binary64 r m) end) (quotient_min r m end q p h) h
  ratio_after (y ∷ rs) m r p q h a b =
      let A = lt 0f y in
      let A' = all_above rs in
      let B = lt (div binary64 y (shorter_of m y)) end in
      let B' = ratios_after end (shorter_of m y) rs in
      ratio_after rs (shorter_of m y) y (shorter_above m y p (and_l A A' a)) (and_l A A' a) (and_l B B' b) (and_r A A' a) (and_r B B' b)

  ratio_inside : (r : Float) (rs : List Float) → T (all_above (r ∷ rs)) → T (ratios_hold end (r ∷ rs)) → T (within 0f end (ratio_of (trips_after None (r ∷ rs))))
  unfolding trips_after shorter all_above ratios_hold
  ratio_inside r rs a b =
      let p = and_l (lt 0f r) (all_above rs) a in
      let B = lt (div binary64 r r) end in
      let B' = ratios_after end r rs in
      ratio_after rs r r p p (and_l B B' b) (and_r (lt 0f r) (all_above rs) a) (and_r B B' b)

-- ---- the point after the acks at x ∷ xs
pub point_stays : (ends : Point) → ends_admitted ends ≡ true → (x : Times) (xs : List Times) → OnChart ends (x ∷ xs)
    → contains_of (root_of ends) (point_from (fresh_sender Off) (map sent_at (x ∷ xs)) (map received_at (x ∷ xs)) (map round_trip (x ∷ xs))) ≡ true
unfolding contains_of
point_stays ends o x xs h =
    let one = ends_from_one ends o in
    let p = point_from (fresh_sender Off) (map sent_at (x ∷ xs)) (map received_at (x ∷ xs)) (map round_trip (x ∷ xs)) in
    let A = within 0f (ack ends) (ack p) in
    let S = within 0f (send ends) (send p) in
    let R = within 0f (ratio ends) (ratio p) in
    is_true (A && (S && R))
    (and_i A (S && R) (average_inside (ack ends) one.0 (received_at x) (map received_at xs) h.acks)
    (and_i S R (average_inside (send ends) one.1.0 (sent_at x) (map sent_at xs) h.sends)
    (ratio_inside (ratio ends) (round_trip x) (map round_trip xs) h.trips h.ratios)))
