-- A sender whose window is at most 1,000,000 stays one, so that an event's line has at most 11 bytes. Assumes nothing.
use mathlib.Core.Path.{refl, ap}
use mathlib.Core.Bool.{Bool, true, false}
use Prim.Native.Nat.{ℕ, ◌≤◌}
use native.Mathlib.Omega.{arith}
use lib.IntN.{ℤ, pos, negsuc}
use lib.ListN.{length}
use Rattle.std.specs.Prelude.{Option, None, Some, Result, Ok, Err}
use Rattle.refusal.specs.declared.Refusal.{Refusal}
use Rattle.refusal.proofs.Guards.{either}
use Rattle.quantities.specs.declared.Time.{Time}
use Rattle.quantities.specs.Time.{admit_of}
use Rattle.remy.specs.declared.action.Action.{Action}
use Rattle.remy.specs.Action.{clamp, window_of, sum_of}
use Rattle.rule_tree.specs.declared.RuleTree.{RuleTree}
use Rattle.rule_tree.specs.Calls.{found_in}
use Rattle.rule_tree.specs.Grown.{grown_of}
use Rattle.sender.specs.declared.Event.{Event}
use Rattle.sender.specs.declared.Event.TheVariants as event
use Rattle.sender.specs.declared.Repeat.{Repeat}
use Rattle.sender.specs.declared.Sender.{Sender}
use Rattle.sender.specs.declared.Held.{Held}
use Rattle.sender.specs.Memory.{remembered, point_of}
use Rattle.sender.specs.Acks.{window_in, drawn, repeat_next, settled, ack_drawn, ack_with, ack_pending, ack_admitted}
use Rattle.sender.specs.SenderCall.{on}
use Rattle.sender.specs.Sender.{ack_of, send_admitted, replied_to, left_by}
use Rattle.panel_lines.proofs.Decimal.{decimal_few}
use Rattle.trace_lines.specs.Trace.{line_end, line_of}
use Rattle.trace_lines.proofs.Lines.{refusal_few, window_count, line_taken, line_refused}

-- both windows of a reply are at most 1,000,000
abbrev pub Small : Result Held Refusal → Type 0
Small (Ok h) = (h.window ≤ 1000000) × (h.sender.window ≤ 1000000)
Small (Err r) = Unit {0}

-- ---- the window rule
clamp_most : (z : ℤ) → clamp z ≤ 1000000
unfolding clamp
clamp_most (pos n) = omega arith
clamp_most (negsuc n) = omega arith

window_most : (a : Action) (w : ℕ) → window_of a w ≤ 1000000
unfolding window_of
window_most a w = clamp_most (sum_of a w)

shown_most : (m : Option Time) (w : ℕ) → w ≤ 1000000 → window_in m w ≤ 1000000
unfolding window_in
shown_most None w l = l
shown_most (Some t) w l = omega arith

-- ---- an ack
settled_small : (s : Sender) (a : Action) (next : Option Repeat) → Small (Ok (settled s a next))
settled_small s a next = let l = window_most a s.window in (shown_most s.last_send (window_of a s.window) l, l)

drawn_small : (s : Sender) (a : Action) (d : Result (Option Repeat) Refusal) → Small (ack_drawn s a d)
unfolding ack_drawn
drawn_small s a (Ok next) = settled_small s a next
drawn_small s a (Err r) = tt

with_small : (s : Sender) (found : Option Action) (draw : Option ℕ) → Small (ack_with s found draw)
unfolding ack_with
with_small s (Some a) draw = drawn_small s a (drawn s.repeat_actions draw a)
with_small s None draw = tt

pending_small : (t : RuleTree) (s : Sender) (p : Option Repeat) (draw : Option ℕ) → Small (ack_pending t s p draw)
unfolding ack_pending
pending_small t s (Some r) draw = settled_small s r.action (repeat_next r)
pending_small t s None draw = with_small s (found_in t (point_of s)) draw

admitted_small : (t : RuleTree) (s : Sender) (x y : Result Time Refusal) (draw : Option ℕ) → Small (ack_admitted t s x y draw)
unfolding ack_admitted
admitted_small t s (Ok sent) (Ok received) draw = pending_small t (remembered s sent received) s.next_change draw
admitted_small t s (Ok sent) (Err r) draw = tt
admitted_small t s (Err r) received draw = tt

-- ---- an event
send_small : (s : Sender) (x : Result Time Refusal) → s.window ≤ 1000000 → Small (send_admitted s x)
unfolding send_admitted window_in
send_small s (Ok t) l = (omega arith, l)
send_small s (Err r) l = tt

pub reply_small : (t : RuleTree) (s : Sender) (e : Event) → s.window ≤ 1000000 → Small (replied_to s (on t e))
unfolding replied_to on ack_of window_in
reply_small t s (event.Ack x) l = either Small (grown_of t) (admitted_small t s (admit_of x.sent) (admit_of x.received) x.draw) tt
reply_small t s (event.Send at) l = send_small s (admit_of at) l
reply_small t s event.Tick l = (l, l)

pub left_small : (s : Sender) (r : Result Held Refusal) → s.window ≤ 1000000 → Small r → (left_by s r).window ≤ 1000000
unfolding left_by
left_small s (Ok h) l m = m.1
left_small s (Err r) l m = l

-- ---- its line
end_few : (c : Bool) → length (line_end c) ≤ 3
unfolding line_end
end_few true = omega arith
end_few false = omega arith

pub line_few : (r : Result Held Refusal) → Small r → length (line_of r) ≤ 11
line_few (Ok h) m =
    let a = decimal_few 6 h.window (omega arith) in
    let b = end_few h.clipped in
    omega (arith, ap length (line_taken (Ok h) h refl), window_count h.window h.clipped)
line_few (Err r) m = omega (arith, ap length (line_refused (Err r) r refl), refusal_few r)
