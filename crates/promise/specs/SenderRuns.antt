-- Demand 3's lists on one sender: acks, sends and ticks, each getting what the last one left, and what is compared of each.
use Rattle.std.specs.Prelude.{◌≡◌, Bool, true, false, List, [], ◌∷◌, ℕ, Option, Some, None, Result, Ok, Err}
use Rattle.refusal.specs.declared.Refusal.{Refusal}
use Rattle.refusal.specs.Numbers.{number_of}
use Rattle.remy.specs.declared.action.Action.{Action}
use Rattle.remy.specs.declared.point.Point.{Point}
use Rattle.remy.specs.Action.{window_of}
use Rattle.remy.specs.Cube.{root_of, contains_of}
use Rattle.rule_tree.specs.declared.RuleTree.{RuleTree}
use Rattle.sender.specs.declared.Repeat.{Repeat}
use Rattle.sender.specs.declared.Sender.{Sender}
use Rattle.sender.specs.declared.Held.{Held}
use Rattle.sender.specs.Sender.{ack_of, send_of, tick_of}
use Rattle.sender.specs.SenderCall.{SenderCall, ack, send, tick}
use Rattle.promise.specs.PlainTree.{Tree, is_leaf_of, rule_at}
use Rattle.promise.specs.PlainSender as plain

-- what is compared of a call: its refusal's number or 0, the window that it hands back, 0 with a refusal, and whether an
-- ack's window was clipped
pub record SenderEvent : Type 0 where
  pub refused : ℕ
  pub window : ℕ
  pub clipped : Bool

abbrev pub event : ℕ → ℕ → Bool → SenderEvent
event refused window clipped = record { refused = refused; window = window; clipped = clipped }

-- ---- the sender's calls, as their contracts have them
pub record SenderStep : Type 0 where
  pub sender : Sender
  pub event : SenderEvent

abbrev pub taken : Held → SenderStep
taken h = record { sender = h.sender; event = event 0 h.window h.clipped }

-- "A refusal returns its number only; .. senders .. stay"
unfoldable pub after_reply : Sender → Result Held Refusal → SenderStep
after_reply s (Ok h) = taken h
after_reply s (Err r) = record { sender = s; event = event (number_of r) 0 false }

unfoldable pub sender_step : Sender → SenderCall RuleTree → SenderStep
unfolding after_reply
sender_step s (ack t sent received draw) = after_reply s (ack_of t s sent received draw)
sender_step s (send at) = after_reply s (send_of s at)
sender_step s tick = taken (tick_of s)

unfoldable pub sender_events : Sender → List (SenderCall RuleTree) → List SenderEvent
unfolding sender_step
sender_events s [] = []
sender_events s (c ∷ cs) = let o = sender_step s c in o.event ∷ sender_events o.sender cs

unfoldable pub sender_end : Sender → List (SenderCall RuleTree) → Sender
unfolding sender_step
sender_end s [] = s
sender_end s (c ∷ cs) = sender_end (sender_step s c).sender cs

-- ---- the plain sender's
-- "It starts fresh, or as any sender handed in, whose whole state is then the start"
abbrev pub plain_start : Sender → plain.PlainSender
plain_start s = record { start = s; history = []; standing = s.last_send }

unfoldable pub plain_sender_events : plain.PlainSender → List (SenderCall Tree) → List SenderEvent
plain_sender_events s [] = []
plain_sender_events s (c ∷ cs) =
    let o = plain.react s c in event o.refused o.window o.clipped ∷ plain_sender_events o.sender cs

unfoldable pub plain_sender_end : plain.PlainSender → List (SenderCall Tree) → plain.PlainSender
plain_sender_end s [] = s
plain_sender_end s (c ∷ cs) = plain_sender_end (plain.react s c).sender cs

-- ---- what an ack at admitted moments does, s being the plain sender before it and p its point
-- leaf i is the one whose cube holds p
pub record OneLeaf (t : Tree) (p : Point) (i : ℕ) : Type 0 where
  pub leaf : is_leaf_of t i ≡ true
  pub inside : contains_of (plain.cube_in t i) p ≡ true
  pub only : (j : ℕ) → is_leaf_of t j ≡ true → contains_of (plain.cube_in t j) p ≡ true → j ≡ i

-- the ack is taken, the action a sets window and wait, and the flag is of the window before the ack
pub record SetBy (s : plain.PlainSender) (a : Action) (o : SenderStep) : Type 0 where
  pub taken : o.event.refused ≡ 0
  pub window : o.sender.window ≡ window_of a (plain.window_held s)
  pub wait : o.sender.intersend_delay ≡ a.intersend_delay
  pub answer : o.event.window ≡ plain.shown s.standing (window_of a (plain.window_held s))
  pub clipped : o.event.clipped ≡ plain.clips a (plain.window_held s)

-- no repeat is pending and the point is outside the root box
abbrev pub Outside : plain.PlainSender → Tree → Point → Type 0
Outside s t p = (plain.pending_now s ≡ None) × (contains_of (root_of t.ends) p ≡ false)

-- no repeat is pending, the point is in the root box, and a due draw is absent or outside
abbrev pub Undrawn : plain.PlainSender → Tree → Point → Option ℕ → Type 0
Undrawn s t p draw =
    (plain.pending_now s ≡ None)
    × ((contains_of (root_of t.ends) p ≡ true) × (plain.draw_fails s.start.repeat_actions draw ≡ true))

pub record AckDoes (s : plain.PlainSender) (t : Tree) (p : Point) (draw : Option ℕ) (o : SenderStep) : Type 0 where
  pub refused_22 : (o.event.refused ≡ 22 → Outside s t p) × (Outside s t p → o.event.refused ≡ 22)
  pub refused_5 : (o.event.refused ≡ 5 → Undrawn s t p draw) × (Undrawn s t p draw → o.event.refused ≡ 5)
  pub repeated : (r : Repeat) → plain.pending_now s ≡ Some r → SetBy s r.action o
  pub looked :
      plain.pending_now s ≡ None → contains_of (root_of t.ends) p ≡ true → plain.draw_fails s.start.repeat_actions draw ≡ false
      → (i : ℕ) × (OneLeaf t p i × SetBy s (rule_at t i).action o)
