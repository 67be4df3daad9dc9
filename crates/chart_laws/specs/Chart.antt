-- 02, request 9: lists of acks whose moments keep a sender on its chart, and what is claimed of them.
use Rattle.std.specs.Prelude.{◌≡◌, Bool, true, false, ◌&&◌, cond, List, [], ◌∷◌, map, T, Float, Ok}
use Rattle.std.specs.Float.{binary64}
use Rattle.std.specs.Float.Ieee.{sub, div, lt}
use Rattle.floats.specs.Interval.{within}
use Rattle.quantities.specs.Time.{admitted, read_moment}
use Rattle.remy.specs.declared.point.Point.{Point}
use Rattle.remy.specs.Cube.{zero, point_equal}
use Rattle.remy.specs.Cube as cube
use Rattle.rule_tree.specs.declared.RuleTree.{RuleTree}
use Rattle.rule_tree.specs.Grown.{grown_of}
use Rattle.sender.specs.declared.Ack.{Ack}
use Rattle.sender.specs.declared.Sender.{Sender}
use Rattle.sender.specs.declared.Held.{Held}
use Rattle.sender.specs.Sender.{ack_of, send_of, tick_of}
use Rattle.sender.specs.SenderCall.{SenderCall, ack, send, tick}
use Rattle.promise.specs.SenderRuns.{SenderEvent, after_reply}

-- the two moments of an ack
pub record Times : Type 0 where
  pub sent : Float
  pub received : Float

-- the moments of the acks among a sender's calls, in order
abbrev pub ack_times : {A : Type 0} → List (SenderCall A) → List Times
ack_times [] = []
ack_times (ack t sent received draw ∷ cs) = record { sent = sent; received = received } ∷ ack_times cs
ack_times (send at ∷ cs) = ack_times cs
ack_times (tick ∷ cs) = ack_times cs

-- the acks of a burst: their moments, and each as a call over the one tree
abbrev pub burst_times : List Ack → List Times
burst_times xs = map (λ (x : Ack). record { sent = x.sent; received = x.received }) xs

abbrev pub burst_calls : RuleTree → List Ack → List (SenderCall RuleTree)
burst_calls t xs = map (λ (x : Ack). ack t x.sent x.received x.draw) xs

-- ---- the moments as they are read, "-0 is read as +0"
abbrev pub sent_at : Times → Float
sent_at x = read_moment x.sent

abbrev pub received_at : Times → Float
received_at x = read_moment x.received

abbrev pub round_trip : Times → Float
round_trip x = sub binary64 (received_at x) (sent_at x)

-- ---- the hypotheses, on the acks' moments alone
-- "with admitted times"
unfoldable pub all_admitted : List Times → Bool
all_admitted [] = true
all_admitted (x ∷ xs) = (admitted x.sent && admitted x.received) && all_admitted xs

-- "each rounded gap between acks and between sends is at least 0 and below the chosen upper end"
unfoldable pub gaps_after : Float → Float → List Float → Bool
gaps_after end last [] = true
gaps_after end last (m ∷ ms) = within zero end (sub binary64 m last) && gaps_after end m ms

unfoldable pub gaps_hold : Float → List Float → Bool
unfolding gaps_after
gaps_hold end [] = true
gaps_hold end (m ∷ ms) = gaps_after end m ms

-- "each round trip is above 0"
unfoldable pub all_above : List Float → Bool
all_above [] = true
all_above (r ∷ rs) = lt zero r && all_above rs

-- "each rounded ratio is below its end": of a round trip to the shortest so far, which counts it. A first ack's is r / r, so its point
-- is (0, 0, 1), and where the ratio's end is exactly 1 no list with an ack passes
abbrev pub shorter_of : Float → Float → Float
shorter_of shortest r = cond (lt r shortest) r shortest

unfoldable pub ratios_after : Float → Float → List Float → Bool
ratios_after end shortest [] = true
ratios_after end shortest (r ∷ rs) = lt (div binary64 r (shorter_of shortest r)) end && ratios_after end (shorter_of shortest r) rs

unfoldable pub ratios_hold : Float → List Float → Bool
unfolding ratios_after
ratios_hold end [] = true
ratios_hold end (r ∷ rs) = lt (div binary64 r r) end && ratios_after end r rs

pub record OnChart (ends : Point) (xs : List Times) : Type 0 where
  pub moments : T (all_admitted xs)
  pub acks : T (gaps_hold (cube.ack ends) (map received_at xs))
  pub sends : T (gaps_hold (cube.send ends) (map sent_at xs))
  pub trips : T (all_above (map round_trip xs))
  pub ratios : T (ratios_hold (cube.ratio ends) (map round_trip xs))

-- ---- the trees: each ack is over one that has P
abbrev pub AcksOver : {A : Type 0} → (A → Type 0) → List (SenderCall A) → Type 0
AcksOver P [] = T true
AcksOver P (ack t sent received draw ∷ cs) = P t × AcksOver P cs
AcksOver P (send at ∷ cs) = AcksOver P cs
AcksOver P (tick ∷ cs) = AcksOver P cs

-- a grown tree, so with ends from 1 to 1,000,000, and these are its ends
pub record GrownWith (ends : Point) (t : RuleTree) : Type 0 where
  pub grown : grown_of t ≡ true
  pub same : point_equal ends t.ends ≡ true

-- ---- "no ack in the list is refused with 22": each is taken, each call getting the sender that the last one left
abbrev pub AcksTaken : Sender → List (SenderCall RuleTree) → Type 0
AcksTaken s [] = T true
AcksTaken s (ack t sent received draw ∷ cs) = (h : Held) × (ack_of t s sent received draw ≡ Ok h) × AcksTaken h.sender cs
AcksTaken s (send at ∷ cs) = AcksTaken (after_reply s (send_of s at)).sender cs
AcksTaken s (tick ∷ cs) = AcksTaken (tick_of s).sender cs

-- the same of the events that demand 3 compares: an event for each call, and an ack's is no refusal
abbrev pub is_ack : {A : Type 0} → SenderCall A → Bool
is_ack (ack t sent received draw) = true
is_ack (send at) = false
is_ack tick = false

abbrev pub NoAckRefused : {A : Type 0} → List (SenderCall A) → List SenderEvent → Type 0
NoAckRefused [] [] = T true
NoAckRefused [] (e ∷ es) = T false
NoAckRefused (c ∷ cs) [] = T false
NoAckRefused (c ∷ cs) (e ∷ es) = (is_ack c ≡ true → e.refused ≡ 0) × NoAckRefused cs es
