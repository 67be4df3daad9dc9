-- The claim is not empty: three acks that meet every hypothesis are taken, over the usual ends and over all ends whose ratio end is above 1.
-- And each hypothesis is needed: a list that breaks it alone has an ack that is refused. Assumes nothing.
use mathlib.Core.Path.{◌≡◌, refl}
use mathlib.Core.Bool.{Bool, true, false, ◌&&◌}
use mathlib.Core.List.{List, [], ◌∷◌, map}
use Prim.Native.Nat.{ℕ}
use lib.IntN.{pos, negsuc}
use lib.Dec.{T}
use lib.Ieee.{Float, fin, binary64, add, sub, mul, div, le, lt, eq, neg}
use lib.Ieee.Fits.{and_i}
use Rattle.std.specs.Prelude.{None, Ok, Err}
use Rattle.floats.specs.Interval.{within}
use Rattle.floats.proofs.Order.{lt_le_trans}
use Rattle.floats.proofs.Zero.{0f}
use Rattle.refusal.specs.declared.Refusal.TheVariants.{NoRule, NotAdmitted}
use Rattle.quantities.specs.Time.{admit_of}
use Rattle.remy.specs.declared.action.Action.{Action}
use Rattle.remy.specs.Action.{valid_of}
use Rattle.remy.specs.declared.point.Point.{Point}
use Rattle.remy.specs.Cube.{ack, send, ratio, usual_ends, contains_of}
use Rattle.remy.proofs.Ends.{ends_from_one, ends_themselves}
use Rattle.rule_tree.specs.declared.RuleTree.{RuleTree}
use Rattle.rule_tree.specs.Grown.{ends_hold, grown_of}
use Rattle.rule_tree.specs.Change.{fresh_tree}
use Rattle.rule_tree.specs.Calls.{found_in}
use Rattle.rule_tree.proofs.Plain.{ends_admitted_lem}
use Rattle.rule_tree.proofs.Changing.{fresh_grown, usual_ends_lem}
use Rattle.sender.specs.declared.RepeatMode.TheVariants.{Off}
use Rattle.sender.specs.declared.Held.{Held}
use Rattle.sender.specs.Memory.{averaged, average_next, rtt_next, value_of, ratio_now}
use Rattle.sender.specs.Acks.{drawn, ack_drawn, ack_with, ack_pending, ack_admitted}
use Rattle.sender.specs.Sender.{fresh_sender, ack_of}
use Rattle.sender.specs.SenderCall.{SenderCall}
use Rattle.sender.specs.SenderCall as call
use Rattle.chart_laws.specs.Chart.{Times, sent_at, received_at, round_trip, all_admitted, gaps_after, gaps_hold, all_above, ratios_after, ratios_hold, OnChart, GrownWith, AcksTaken}
use Rattle.chart_laws.proofs.Quotient.{1f}
use Rattle.chart_laws.proofs.Taking.{acks_taken}

abbrev whole : ℕ → ℕ → Float
whole m e = fin false m (pos e)

abbrev at : Float → Float → Times
at sent received = record { sent = sent; received = received }

-- acks at three times, over one tree
abbrev acks_at : RuleTree → Times → Times → Times → List (SenderCall RuleTree)
acks_at t x y z =
    call.ack t x.sent x.received None ∷ call.ack t y.sent y.received None ∷ call.ack t z.sent z.received None ∷ []

fresh_with : (ends : Point) (a : Action) → valid_of a ≡ true → ends_hold ends ≡ true → GrownWith ends (fresh_tree ends a)
fresh_with ends a v h = record { grown = fresh_grown ends a v h; same = ends_themselves ends (ends_admitted_lem ends h) }

three_taken : (ends : Point) (a : Action) → valid_of a ≡ true → ends_hold ends ≡ true → (x y z : Times) → OnChart ends (x ∷ y ∷ z ∷ [])
    → AcksTaken (fresh_sender Off) (acks_at (fresh_tree ends a) x y z)
three_taken ends a v h x y z o = let g = fresh_with ends a v h in acks_taken ends (acks_at (fresh_tree ends a) x y z) (g, (g, (g, tt))) o

-- ---- the usual ends: sent at 0, 1, 2 and received at 1, 3, 4; gaps of 2, 1 and of 1, 1; round trips 1, 2, 2; ratios 1, 2, 2
pub seconds_usual : OnChart usual_ends (at (whole 0 0) (whole 1 0) ∷ at (whole 1 0) (whole 3 0) ∷ at (whole 1 1) (whole 1 2) ∷ [])
unfolding all_admitted gaps_hold gaps_after all_above ratios_hold ratios_after sub add neg div le lt eq
seconds_usual = record { moments = tt; acks = tt; sends = tt; trips = tt; ratios = tt }

pub seconds_taken : (a : Action) → valid_of a ≡ true
    → AcksTaken (fresh_sender Off) (acks_at (fresh_tree usual_ends a) (at (whole 0 0) (whole 1 0)) (at (whole 1 0) (whole 3 0)) (at (whole 1 1) (whole 1 2)))
seconds_taken a v = three_taken usual_ends a v usual_ends_lem _ _ _ seconds_usual

-- ---- all ends: sent at 0, 1/4, 1/2 and received a quarter later
abbrev quarter : Float
quarter = fin false 1 (negsuc 1)

abbrev half : Float
half = fin false 1 (negsuc 0)

quarter_within : (end : Float) → T (le 1f end) → T (within 0f end quarter)
unfolding le
quarter_within end h = and_i (le 0f quarter) (lt quarter end) tt (lt_le_trans quarter 1f end quarter_one h)
  where
    quarter_one : T (lt quarter 1f)
    quarter_one = tt

module _ (ends : Point) (h : ends_hold ends ≡ true) (above : T (lt 1f (ratio ends))) where
  pub quarters_any : OnChart ends (at (whole 0 0) quarter ∷ at quarter half ∷ at half (fin false 3 (negsuc 1)) ∷ [])
  unfolding all_admitted gaps_hold gaps_after all_above ratios_hold ratios_after sub add neg div le lt eq
  quarters_any =
      let one = ends_from_one ends (ends_admitted_lem ends h) in
      let a = quarter_within (ack ends) one.0 in
      let s = quarter_within (send ends) one.1.0 in
      let A = within 0f (ack ends) quarter in
      let S = within 0f (send ends) quarter in
      let R = lt 1f (ratio ends) in
      record {
        moments = tt;
        acks = and_i A (A && true) a (and_i A true a tt);
        sends = and_i S (S && true) s (and_i S true s tt);
        trips = tt;
        ratios = and_i R (R && (R && true)) above (and_i R (R && true) above (and_i R true above tt));
      }

  pub quarters_taken : (a : Action) → valid_of a ≡ true
      → AcksTaken (fresh_sender Off) (acks_at (fresh_tree ends a) (at (whole 0 0) quarter) (at quarter half) (at half (fin false 3 (negsuc 1))))
  quarters_taken a v = three_taken ends a v h _ _ _ quarters_any

-- ---- each hypothesis is needed
-- the five tests of OnChart, in its order
abbrev tests_of : Point → List Times → List Bool
tests_of ends xs =
    all_admitted xs ∷ gaps_hold (ack ends) (map received_at xs) ∷ gaps_hold (send ends) (map sent_at xs) ∷ all_above (map round_trip xs)
    ∷ ratios_hold (ratio ends) (map round_trip xs) ∷ []

-- of two acks the first is taken and the second refused with 22, where one of the tests fails
abbrev Strays : RuleTree → Times → Times → List Bool → Type 0
Strays t x y tests =
    (tests_of usual_ends (x ∷ y ∷ []) ≡ tests)
    × ((h : Held) × (ack_of t (fresh_sender Off) x.sent x.received None ≡ Ok h)
    × (ack_of t h.sender y.sent y.received None ≡ Err NoRule))

pub record Needed (t : RuleTree) : Type 0 where
  -- a moment of 2 ^ 33 s is refused with 1
  pub unread :
      (tests_of usual_ends (at (whole 0 0) (whole 1 33) ∷ []) ≡ false ∷ true ∷ true ∷ true ∷ true ∷ [])
      × (ack_of t (fresh_sender Off) (whole 0 0) (whole 1 33) None ≡ Err NotAdmitted)
  -- a gap of 600 s, the end itself, and one of -1 s, between acks
  pub ack_gap : Strays t (at (whole 0 0) (whole 1 0)) (at (whole 1 0) (whole 601 0)) (true ∷ false ∷ true ∷ true ∷ true ∷ [])
  pub ack_back : Strays t (at (whole 0 0) (whole 1 1)) (at (whole 0 0) (whole 1 0)) (true ∷ false ∷ true ∷ true ∷ true ∷ [])
  -- and between sends
  pub send_gap :
      Strays t (at (whole 0 0) (whole 1 0)) (at (whole 75 3) (fin false 1201 (negsuc 0))) (true ∷ true ∷ false ∷ true ∷ true ∷ [])
  pub send_back : Strays t (at (whole 1 0) (whole 1 1)) (at (whole 0 0) (whole 1 1)) (true ∷ true ∷ false ∷ true ∷ true ∷ [])
  -- a round trip of -2 s, then one of 1 s: the ratio is -0.5
  pub under : Strays t (at (whole 1 1) (whole 0 0)) (at (whole 3 0) (whole 1 2)) (true ∷ true ∷ true ∷ false ∷ true ∷ [])
  -- a ratio of 1000, the end itself
  pub far : Strays t (at (whole 0 0) quarter) (at (whole 1 0) (whole 251 0)) (true ∷ true ∷ true ∷ true ∷ false ∷ [])

pub needed : (t : RuleTree) → grown_of t ≡ true → t.ends ≡ usual_ends → Needed t
unfolding ack_of admit_of ack_admitted ack_pending ack_with found_in drawn ack_drawn contains_of average_next averaged rtt_next value_of ratio_now all_admitted gaps_hold gaps_after all_above ratios_hold ratios_after sub add neg div le lt eq
needed t g e = record {
  unread = (refl, rw g refl);
  ack_gap = (refl, rw (g, e) (_, refl, refl));
  ack_back = (refl, rw (g, e) (_, refl, refl));
  send_gap = (refl, rw (g, e) (_, refl, refl));
  send_back = (refl, rw (g, e) (_, refl, refl));
  under = (refl, rw (g, e) (_, refl, refl));
  far = (refl, rw (g, e) (_, refl, refl));
}

-- and the weights: 0.9 and 0.2 would make of 590 s and 590 s more than 600 s
pub heavier_weights :
    T (lt (whole 75 3) (add binary64 (mul binary64 (fin false 8106479329266893 (negsuc 52)) (whole 295 1)) (mul binary64 (fin false 3602879701896397 (negsuc 53)) (whole 295 1))))
unfolding add mul lt
heavier_weights = tt
