-- 01, "the sender": an ack over a tree that was tested.
use Rattle.std.specs.Prelude.{◌&&◌, cond, ℕ, ◌-◌, eqb, leb, Float, Option, Some, None, Result, Ok, Err}
use Rattle.refusal.specs.Guards.{and_then}
use Rattle.refusal.specs.declared.Refusal.{Refusal}
use Rattle.refusal.specs.declared.Refusal.TheVariants.{NoDraw, NoRule}
use Rattle.quantities.specs.declared.Time.{Time}
use Rattle.quantities.specs.Time.{admit_of}
use Rattle.remy.specs.declared.action.Action.{Action}
use Rattle.remy.specs.Action.{window_of, rule_of}
use Rattle.rule_tree.specs.declared.RuleTree.{RuleTree}
use Rattle.rule_tree.specs.Calls.{found_in}
use Rattle.sender.specs.declared.Repeat.{Repeat}
use Rattle.sender.specs.declared.RepeatMode.{RepeatMode}
use Rattle.sender.specs.declared.RepeatMode.TheVariants.{Off, Always, Between}
use Rattle.sender.specs.declared.Sender.{Sender}
use Rattle.sender.specs.declared.Held.{Held}
use Rattle.sender.specs.Memory.{remembered, point_of}

-- "The answer is 0 while a send stands, else the window"
unfoldable pub window_in : Option Time → ℕ → ℕ
window_in None w = w
window_in (Some t) w = 0

abbrev pub window_now : Sender → ℕ
window_now s = window_in s.last_send s.window

-- a number up to 4,294,967,295 is the draw, any larger one none
unfoldable pub draw_from : ℕ → Option ℕ
draw_from n = cond (leb n 4294967295) (Some n) None

abbrev pub repeat : ℕ → Action → Repeat
repeat left a = record { left = left; action = a }

-- "then a draw is taken: off, always n, or lo..=hi handed in"; "5 a due draw absent or outside lo..=hi"
unfoldable pub drawn : RepeatMode → Option ℕ → Action → Result (Option Repeat) Refusal
drawn Off draw a = Ok None
drawn (Always n) draw a = Ok (Some (repeat n a))
drawn (Between lo hi) None a = Err NoDraw
drawn (Between lo hi) (Some n) a = cond (leb lo n && leb n hi) (Ok (Some (repeat n a))) (Err NoDraw)

-- "draw n serves the next n+1 acks": what is left is one less than the acks that it still serves
unfoldable pub repeat_next : Repeat → Option Repeat
repeat_next r = cond (eqb r.left 0) None (Some (repeat (r.left - 1) r.action))

abbrev pub paced : Sender → Action → Option Repeat → Sender
paced s a next = record s { next_change = next; window = window_of a s.window; intersend_delay = a.intersend_delay }

-- the action sets window and wait; 02, 6: "The window rule shall also say whether", "The flag goes up through ack":
-- of the window that the sender held before the ack, also where a send stands
abbrev pub settled : Sender → Action → Option Repeat → Held
settled s a next = record { sender = paced s a next; window = window_now (paced s a next); clipped = (rule_of a s.window).clipped }

-- with what the draw made of the action
unfoldable pub ack_drawn : Sender → Action → Result (Option Repeat) Refusal → Result Held Refusal
ack_drawn m a d = and_then d (λ next. Ok (settled m a next))

-- "Otherwise where lookup gives none, the ack is refused with 22; then a draw is taken"
unfoldable pub ack_with : Sender → Option Action → Option ℕ → Result Held Refusal
unfolding ack_drawn drawn
ack_with m (Some a) draw = ack_drawn m a (drawn m.repeat_actions draw a)
ack_with m None draw = Err NoRule

-- "With a repeat pending its action is used, no lookup"
unfoldable pub ack_pending : RuleTree → Sender → Option Repeat → Option ℕ → Result Held Refusal
unfolding ack_with repeat_next
ack_pending t m (Some r) draw = Ok (settled m r.action (repeat_next r))
ack_pending t m None draw = ack_with m (found_in t (point_of m)) draw

-- an ack at admitted moments
abbrev pub ack_at : RuleTree → Sender → Time → Time → Option ℕ → Result Held Refusal
ack_at t s sent received draw = ack_pending t (remembered s sent received) s.next_change draw

-- 1, then 22, then 5
unfoldable pub ack_admitted : RuleTree → Sender → Result Time Refusal → Result Time Refusal → Option ℕ → Result Held Refusal
unfolding ack_pending
ack_admitted t s from at draw = and_then from (λ sent. and_then at (λ received. ack_at t s sent received draw))

abbrev pub ack_in : RuleTree → Sender → Float → Float → Option ℕ → Result Held Refusal
ack_in t s sent received draw = ack_admitted t s (admit_of sent) (admit_of received) draw
