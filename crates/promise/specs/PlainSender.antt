-- Document 01's plain sender: the start, the history of taken acks, and the send that stands.
use Rattle.std.specs.Prelude.{Bool, true, false, not, ◌&&◌, cond, List, [], ◌∷◌, ◌++◌, map, ℕ, zero, suc, ◌*◌, ◌/◌, leb, ℤ, pos, negsuc, neg_ℤ, ◌+ℤ◌, Float, Option, Some, None}
use Rattle.std.specs.Int.Signed.{le_z}
use Rattle.std.specs.Float.{nan, inf, fin, binary64}
use Rattle.std.specs.Float.Ieee.{up, down, mul, of_int, sub, div, le, lt, eq}
use Rattle.floats.specs.Average.{average}
use Rattle.quantities.specs.Time.{span, moment}
use Rattle.quantities.specs.declared.Time.{Time}
use Rattle.quantities.specs.declared.TimeSpan.{TimeSpan}
use Rattle.remy.specs.declared.action.Action.{Action}
use Rattle.remy.specs.declared.point.Point.{Point}
use Rattle.remy.specs.declared.cube.Cube.{Cube}
use Rattle.remy.specs.Action.{window_of}
use Rattle.remy.specs.Cube as cube
use Rattle.rule_tree.specs.Cubes.{cube_at}
use Rattle.sender.specs.declared.Rtt.{Rtt}
use Rattle.sender.specs.declared.Repeat.{Repeat}
use Rattle.sender.specs.declared.RepeatMode.{RepeatMode}
use Rattle.sender.specs.declared.RepeatMode.TheVariants.{Off, Always, Between}
use Rattle.sender.specs.declared.Sender.{Sender}
use Rattle.sender.specs.SenderCall.{SenderCall, ack, send, tick}
use Rattle.promise.specs.PlainTree.{Tree, leaves, rule_at}

-- "the taken acks (those not refused)": the two moments, the action that it was served by, and what a draw left pending
pub record TakenAck : Type 0 where
  pub sent : Float
  pub received : Float
  pub action : Action
  pub next : Option Repeat

-- "It starts fresh, or as any sender handed in, whose whole state is then the start"
pub record PlainSender : Type 0 where
  pub start : Sender
  pub history : List TakenAck
  pub standing : Option Time

-- ---- the averages: "the first gap, later 0.875 times the old average plus 0.125 times the gap"
unfoldable pub blend : Option TimeSpan → Float → Option TimeSpan
blend None gap = Some (span gap)
blend (Some a) gap = Some (span (average a.0 gap))

-- the last of the moments after one that is held
unfoldable pub last_after : Option Time → List Float → Option Time
last_after last [] = last
last_after last (m ∷ ms) = last_after (Some (moment m)) ms

-- over the moments after a last one
unfoldable pub average_after : Option TimeSpan → Option Time → List Float → Option TimeSpan
unfolding blend
average_after a last [] = a
average_after a None (m ∷ ms) = average_after a (Some (moment m)) ms
average_after a (Some last) (m ∷ ms) = average_after (blend a (sub binary64 m last.0)) (Some (moment m)) ms

-- "none counts as 0"
unfoldable pub amount : Option TimeSpan → Float
amount None = cube.zero
amount (Some a) = a.0

-- "Round trip = received - sent; the shortest includes it"; "A held shortest gives way only to a round trip below it"
unfoldable pub shorter : Option Rtt → Float → Float
shorter None r = r
shorter (Some t) r = cond (lt r t.shortest.0) r t.shortest.0

unfoldable pub trips_after : Option Rtt → List Float → Option Rtt
unfolding shorter
trips_after t [] = t
trips_after t (r ∷ rs) = trips_after (Some (record { shortest = span (shorter t r); current = span r })) rs

-- "Ratio = current / shortest"
unfoldable pub ratio_of : Option Rtt → Float
ratio_of None = cube.zero
ratio_of (Some t) = div binary64 t.current.0 t.shortest.0

abbrev pub round_trip : TakenAck → Float
round_trip x = sub binary64 x.received x.sent

-- the history's moments and round trips
abbrev pub sents : PlainSender → List Float
sents s = map (λ (x : TakenAck). x.sent) s.history

abbrev pub receiveds : PlainSender → List Float
receiveds s = map (λ (x : TakenAck). x.received) s.history

abbrev pub rounds : PlainSender → List Float
rounds s = map round_trip s.history

-- the point that sent moments, received moments and round trips make of a sender
abbrev pub point_from : Sender → List Float → List Float → List Float → Point
point_from s sents receiveds rounds =
    cube.point_of (amount (average_after s.ack_ewma s.last_ack receiveds))
    (amount (average_after s.send_ewma s.last_ack_send sents)) (ratio_of (trips_after s.rtt rounds))

abbrev pub repeat : ℕ → Action → Repeat
repeat n a = record { left = n; action = a }

-- of a repeat that serves n more acks after the next
unfoldable pub one_less : ℕ → Action → Option Repeat
one_less zero a = None
one_less (suc n) a = Some (repeat n a)

-- "A draw n leaves a repeat pending for the next n+1 taken acks, off for none"
unfoldable pub pending_next : Option Repeat → TakenAck → Option Repeat
unfolding one_less
pending_next None x = x.next
pending_next (Some r) x = one_less r.left r.action

unfoldable pub pending_after : Option Repeat → List TakenAck → Option Repeat
unfolding pending_next
pending_after p [] = p
pending_after p (x ∷ xs) = pending_after (pending_next p x) xs

-- the window and the wait that the taken acks set in turn
unfoldable pub window_after : ℕ → List TakenAck → ℕ
window_after w [] = w
window_after w (x ∷ xs) = window_after (window_of x.action w) xs

unfoldable pub wait_after : TimeSpan → List TakenAck → TimeSpan
wait_after wait [] = wait
wait_after wait (x ∷ xs) = wait_after x.action.intersend_delay xs

abbrev pub pending_now : PlainSender → Option Repeat
pending_now s = pending_after s.start.next_change s.history

abbrev pub window_held : PlainSender → ℕ
window_held s = window_after s.start.window s.history

abbrev pub wait_held : PlainSender → TimeSpan
wait_held s = wait_after s.start.intersend_delay s.history

-- the whole sender that the start, the taken acks and the standing send make: its memory of moments, averages and round trips, the pending
-- repeat, the mode, the standing send, the window and the wait
abbrev pub state_of : PlainSender → Sender
state_of s =
    record {
      last_ack = last_after s.start.last_ack (receiveds s);
      last_ack_send = last_after s.start.last_ack_send (sents s);
      ack_ewma = average_after s.start.ack_ewma s.start.last_ack (receiveds s);
      send_ewma = average_after s.start.send_ewma s.start.last_ack_send (sents s);
      rtt = trips_after s.start.rtt (rounds s);
      next_change = pending_now s;
      repeat_actions = s.start.repeat_actions;
      last_send = s.standing;
      window = window_held s;
      intersend_delay = wait_held s;
    }

-- ---- 02, 6: "whether the product, once cut to whole, left the i32 range or the sum left 0..=1,000,000. NaN counts as clipped"
abbrev pub within : ℤ → ℤ → ℤ → Bool
within lo z hi = le_z lo z && le_z z hi

-- a finite product cut to whole
abbrev pub whole_of : Bool → ℕ → ℤ → ℤ
whole_of s m e = cond s (neg_ℤ (pos (m * up e / down e))) (pos (m * up e / down e))

-- of a product and an increment; an infinite product is in no range
unfoldable pub clips_at : Float → ℤ → Bool
clips_at nan i = true
clips_at (inf s) i = true
clips_at (fin s m e) i =
    not (within (negsuc 2147483647) (whole_of s m e) (pos 2147483647) && within (pos 0) (whole_of s m e +ℤ i) (pos 1000000))

-- of an action and the window before it
abbrev pub clips : Action → ℕ → Bool
clips a w = clips_at (mul binary64 (of_int binary64 (pos w)) a.window_multiplier) a.window_increment

-- "The answer is 0 while a send stands, else the window"
unfoldable pub shown : Option Time → ℕ → ℕ
shown None w = w
shown (Some t) w = 0

-- ---- the leaf that holds a point
abbrev pub cube_in : Tree → ℕ → Cube
cube_in t i = cube_at i t.splits (cube.root_of t.ends) i

unfoldable pub holding : Tree → Point → List ℕ → Option ℕ
holding t p [] = None
holding t p (i ∷ is) = cond (cube.contains_of (cube_in t i) p) (Some i) (holding t p is)

abbrev pub leaf_at : Tree → Point → Option ℕ
leaf_at t p = holding t p (leaves t)

-- ---- calls
-- a refusal's number or 0, the window that is handed back, and whether the ack's window was clipped
pub record Reaction : Type 0 where
  pub sender : PlainSender
  pub refused : ℕ
  pub window : ℕ
  pub clipped : Bool

abbrev pub refuse : ℕ → PlainSender → Reaction
refuse n s = record { sender = s; refused = n; window = 0; clipped = false }

abbrev pub answered_with : Bool → PlainSender → Reaction
answered_with c s = record { sender = s; refused = 0; window = shown s.standing (window_held s); clipped = c }

-- a send and a tick apply no action
abbrev pub answered : PlainSender → Reaction
answered s = answered_with false s

-- "A moment is admitted from 0 to 4,294,967,296, both included; -0 is read as +0"
abbrev pub admitted : Float → Bool
admitted x = le cube.zero x && le x (fin false 1 (pos 32))

abbrev pub read_as : Float → Float
read_as x = cond (eq x cube.zero) cube.zero x

-- a taken ack, clipped by its action and the window before it
abbrev pub take : PlainSender → Float → Float → Action → Option Repeat → Reaction
take s sent received a next =
    answered_with (clips a (window_held s))
    (record {
      start = s.start;
      history = s.history ++ (record { sent = sent; received = received; action = a; next = next } ∷ []);
      standing = s.standing;
    })

-- "5 a due draw absent or outside lo..=hi (one not due is ignored; off and always n, none is due)"
unfoldable pub draw_fails : RepeatMode → Option ℕ → Bool
draw_fails Off draw = false
draw_fails (Always n) draw = false
draw_fails (Between lo hi) None = true
draw_fails (Between lo hi) (Some n) = not (leb lo n && leb n hi)

-- "then a draw is taken: off, always n, or lo..=hi handed in"; what it leaves pending, nothing where none was handed in
unfoldable pub draw_leaves : RepeatMode → Option ℕ → Action → Option Repeat
draw_leaves Off draw a = None
draw_leaves (Always n) draw a = Some (repeat n a)
draw_leaves (Between lo hi) None a = None
draw_leaves (Between lo hi) (Some n) a = Some (repeat n a)

abbrev pub draw_for : PlainSender → Float → Float → Action → RepeatMode → Option ℕ → Reaction
draw_for s sent received a m draw = cond (draw_fails m draw) (refuse 5 s) (take s sent received a (draw_leaves m draw a))

-- "Otherwise where lookup gives none, the ack is refused with 22"
unfoldable pub look_up : PlainSender → Tree → Option ℕ → Float → Float → Option ℕ → Reaction
unfolding draw_fails draw_leaves
look_up s t None sent received draw = refuse 22 s
look_up s t (Some i) sent received draw = draw_for s sent received (rule_at t i).action s.start.repeat_actions draw

-- "An ack's point is made from the start, the taken acks before it and the ack itself"
abbrev pub ack_point : PlainSender → Float → Float → Point
ack_point s sent received =
    point_from s.start (sents s ++ (sent ∷ [])) (receiveds s ++ (received ∷ [])) (rounds s ++ (sub binary64 received sent ∷ []))

-- "With a repeat pending its action is used, no lookup"
unfoldable pub serve : PlainSender → Tree → Option Repeat → Float → Float → Option ℕ → Reaction
unfolding look_up
serve s t (Some r) sent received draw = take s sent received r.action None
serve s t None sent received draw = look_up s t (leaf_at t (ack_point s sent received)) sent received draw

abbrev pub stand_with : PlainSender → Option Time → PlainSender
stand_with s m = record { start = s.start; history = s.history; standing = m }

-- 1, 22, 5
unfoldable pub react : PlainSender → SenderCall Tree → Reaction
unfolding serve
react s (ack t sent received draw) =
    cond (admitted sent && admitted received) (serve s t (pending_now s) (read_as sent) (read_as received) draw) (refuse 1 s)
react s (send at) = cond (admitted at) (answered (stand_with s (Some (moment (read_as at))))) (refuse 1 s)
react s tick = answered (stand_with s None)
