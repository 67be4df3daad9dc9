-- 02, wish 7: an ack with a draw of the box's own.
use Rattle.std.specs.Prelude.{Bool, true, false, not, cond, List, [], ◌∷◌, ℕ, Float, Option, Some, None, Result, Ok, Err}
use Rattle.refusal.specs.declared.Refusal.{Refusal}
use Rattle.refusal.specs.declared.Refusal.TheVariants.{NotGrown, ZeroState}
use Rattle.refusal.specs.Guards.{Check, check, checked}
use Rattle.rule_tree.specs.declared.RuleTree.{RuleTree}
use Rattle.rule_tree.specs.Grown.{grown_of}
use Rattle.sender.specs.declared.Repeat.{Repeat}
use Rattle.sender.specs.declared.RepeatMode.{RepeatMode}
use Rattle.sender.specs.declared.RepeatMode.TheVariants.{Off, Always, Between}
use Rattle.sender.specs.declared.Sender.{Sender}
use Rattle.sender.specs.declared.Held.{Held}
use Rattle.sender.specs.Sender.{ack_of}
use Rattle.xoshiro.specs.declared.State.{State}
use Rattle.xoshiro.specs.Xoshiro.{zeros_of, output_of, next_of, draw_of}
use Rattle.own_draws.specs.declared.Drawing.{Drawing}

abbrev pub drawing : Result Held Refusal → State → Drawing
drawing r g = record { reply = r; generator = g }

abbrev pub refused_with : State → Refusal → Drawing
refused_with g r = drawing (Err r) g

-- "A draw for lo..=hi is lo plus the output modulo hi - lo + 1"; with off and always none is due;
-- "where a sender handed in holds lo above hi there is none, and one due counts as absent (5)"
unfoldable pub draw_in : RepeatMode → ℕ → Option ℕ
unfolding draw_of
draw_in Off output = None
draw_in (Always n) output = None
draw_in (Between lo hi) output = draw_of output lo hi

-- the draw that a generator gives a sender
abbrev pub draw_for : Sender → State → Option ℕ
draw_for s g = draw_in s.repeat_actions (output_of g)

-- a draw is due with lo..=hi and no repeat pending
unfoldable pub between_in : RepeatMode → Bool
between_in Off = false
between_in (Always n) = false
between_in (Between lo hi) = true

unfoldable pub due_in : RepeatMode → Option Repeat → Bool
unfolding between_in
due_in mode None = between_in mode
due_in mode (Some r) = false

abbrev pub due_of : Sender → Bool
due_of s = due_in s.repeat_actions s.next_change

-- "The generator steps once at each ack that is taken and has a draw due, and at no other"
unfoldable pub generator_after : Bool → Result Held Refusal → State → State → State
generator_after due (Ok h) came stepped = cond due stepped came
generator_after due (Err r) came stepped = came

abbrev pub steps_at : Sender → Result Held Refusal → State → State
steps_at s r g = generator_after (due_of s) r g (next_of g)

-- the sender's own ack, which is handed the generator's draw
abbrev pub drawn_reply : RuleTree → Sender → State → Float → Float → Result Held Refusal
drawn_reply t s g sent received = ack_of t s sent received (draw_for s g)

abbrev pub drawn_ack : RuleTree → Sender → State → Float → Float → Drawing
drawn_ack t s g sent received = drawing (drawn_reply t s g sent received) (steps_at s (drawn_reply t s g sent received) g)

-- "A state of four zeros is refused with 26, after 10 and ahead of the sender's own checks"
abbrev pub own_ack_order : RuleTree → State → List Check
own_ack_order t g = check (grown_of t) NotGrown ∷ check (not (zeros_of g)) ZeroState ∷ []

-- a refusal leaves the generator
abbrev pub or_refused : State → Result Drawing Refusal → Drawing
or_refused g (Ok d) = d
or_refused g (Err r) = refused_with g r

unfoldable pub own_ack_of : RuleTree → Sender → State → Float → Float → Drawing
own_ack_of t s g sent received = or_refused g (checked (own_ack_order t g) (Ok (drawn_ack t s g sent received)))
