-- A whole sender in 23 words: the mode (3), the last ack and the send that it acked (2 each), the two averages (2 each), the round trips (3), the
-- pending repeat (5), the standing send (2), the window and the wait. What is not there is 0 in all its words.
use Rattle.std.specs.Prelude.{List, [], ◌∷◌, ◌++◌, ℕ, Float, Option, Some, None}
use Rattle.std.specs.Option.{option_map}
use Rattle.std.specs.Float.{binary64}
use Rattle.std.specs.Float.Ieee.{to_bits}
use Rattle.std.specs.Int.{w32}
use Rattle.std.proofs.Common.{of_z}
use Rattle.quantities.specs.declared.Time.{Time}
use Rattle.quantities.specs.declared.TimeSpan.{TimeSpan}
use Rattle.remy.specs.declared.action.Action.{Action}
use Rattle.sender.specs.declared.Rtt.{Rtt}
use Rattle.sender.specs.declared.Repeat.{Repeat}
use Rattle.sender.specs.declared.RepeatMode.{RepeatMode}
use Rattle.sender.specs.declared.RepeatMode.TheVariants.{Off, Always, Between}
use Rattle.sender.specs.declared.Sender.{Sender}

abbrev pub bits : Float → ℕ
bits x = to_bits binary64 x

abbrev pub action_words : Action → List ℕ
action_words a = bits a.window_multiplier ∷ (of_z w32 a.window_increment ∷ (bits a.intersend_delay.0 ∷ []))

-- 0 off, 1 always, 2 lo..=hi
unfoldable pub mode_words : RepeatMode → List ℕ
mode_words Off = 0 ∷ (0 ∷ (0 ∷ []))
mode_words (Always n) = 1 ∷ (n ∷ (0 ∷ []))
mode_words (Between lo hi) = 2 ∷ (lo ∷ (hi ∷ []))

-- 1 and the bits of a number, or 0 and 0
unfoldable pub number_words : Option Float → List ℕ
number_words None = 0 ∷ (0 ∷ [])
number_words (Some x) = 1 ∷ (bits x ∷ [])

abbrev pub held_of : Option Time → Option Float
held_of m = option_map (λ (t : Time). t.0) m

abbrev pub seconds_of : Option TimeSpan → Option Float
seconds_of a = option_map (λ (x : TimeSpan). x.0) a

abbrev pub moment_words : Option Time → List ℕ
moment_words m = number_words (held_of m)

abbrev pub average_words : Option TimeSpan → List ℕ
average_words a = number_words (seconds_of a)

-- the shortest, then the current
unfoldable pub trip_words : Option Rtt → List ℕ
trip_words None = 0 ∷ (0 ∷ (0 ∷ []))
trip_words (Some t) = 1 ∷ (bits t.shortest.0 ∷ (bits t.current.0 ∷ []))

-- how many acks are left, then the action
unfoldable pub pending_words : Option Repeat → List ℕ
pending_words None = 0 ∷ (0 ∷ (0 ∷ (0 ∷ (0 ∷ []))))
pending_words (Some r) = 1 ∷ (r.left ∷ action_words r.action)

unfoldable pub sender_words : Sender → List ℕ
unfolding mode_words number_words trip_words pending_words
sender_words s =
    mode_words s.repeat_actions
    ++ (moment_words s.last_ack
    ++ (moment_words s.last_ack_send
    ++ (average_words s.ack_ewma
    ++ (average_words s.send_ewma
    ++ (trip_words s.rtt
    ++ (pending_words s.next_change
    ++ (moment_words s.last_send ++ (s.window ∷ (bits s.intersend_delay.0 ∷ [])))))))))
