-- What each public call on a sender answers, refusals first and in 01's order.
use Rattle.std.specs.Prelude.{Bool, true, false, ◌&&◌, ℕ, [], ◌∷◌, leb, Float, Option, Some, None, Result, Ok, Err}
use Rattle.std.specs.Option.{option_map}
use Rattle.refusal.specs.declared.Refusal.{Refusal}
use Rattle.refusal.specs.declared.Refusal.TheVariants.{BadSettings, NotGrown}
use Rattle.refusal.specs.Guards.{check, checked, and_then}
use Rattle.quantities.specs.declared.Time.{Time}
use Rattle.quantities.specs.Time.{span, moved, later_of, admit_of}
use Rattle.remy.specs.Cube as cube
use Rattle.rule_tree.specs.declared.RuleTree.{RuleTree}
use Rattle.rule_tree.specs.Grown.{grown_of}
use Rattle.sender.specs.declared.RepeatMode.{RepeatMode}
use Rattle.sender.specs.declared.RepeatMode.TheVariants.{Off, Always, Between}
use Rattle.sender.specs.declared.Event.{Event}
use Rattle.sender.specs.declared.Sender.{Sender}
use Rattle.sender.specs.declared.Held.{Held}
use Rattle.sender.specs.Acks.{window_now, ack_in}
use Rattle.sender.specs.SenderCall.{SenderCall, ack, send, tick, on}

-- 2: "lo above hi, or hi too large" ("hi at most 4,294,967,294")
unfoldable pub mode_holds : RepeatMode → Bool
mode_holds Off = true
mode_holds (Always n) = true
mode_holds (Between lo hi) = leb lo hi && leb hi 4294967294

-- "Window starts at 1, wait at 0"
abbrev pub fresh_sender : RepeatMode → Sender
fresh_sender mode =
    record {
      last_ack = None;
      last_ack_send = None;
      ack_ewma = None;
      send_ewma = None;
      rtt = None;
      next_change = None;
      repeat_actions = mode;
      last_send = None;
      window = 1;
      intersend_delay = span cube.zero;
    }

-- new sender: 2
unfoldable pub new_of : RepeatMode → Result Sender Refusal
unfolding mode_holds
new_of mode = checked (check (mode_holds mode) BadSettings ∷ []) (Ok (fresh_sender mode))

-- ack: 10, 1, 22, 5
unfoldable pub ack_of : RuleTree → Sender → Float → Float → Option ℕ → Result Held Refusal
ack_of t s sent received draw = checked (check (grown_of t) NotGrown ∷ []) (ack_in t s sent received draw)

abbrev pub with_last_send : Sender → Option Time → Sender
with_last_send s m = record s { last_send = m }

abbrev pub with_send : Sender → Time → Sender
with_send s at = with_last_send s (Some at)

-- a send and a tick apply no action, so nothing is clipped
abbrev pub held_as : Sender → Held
held_as s = record { sender = s; window = window_now s; clipped = false }

-- send: 1; the answer "by the rule just given, so 0 after a send"
unfoldable pub send_admitted : Sender → Result Time Refusal → Result Held Refusal
send_admitted s at = and_then at (λ t. Ok (held_as (with_send s t)))

abbrev pub send_of : Sender → Float → Result Held Refusal
send_of s at = send_admitted s (admit_of at)

-- tick: no send stands any more
abbrev pub tick_of : Sender → Held
tick_of s = held_as (with_last_send s None)

-- a call's reply; a tick is never refused
unfoldable pub replied_to : Sender → SenderCall RuleTree → Result Held Refusal
unfolding ack_of
replied_to s (ack t sent received draw) = ack_of t s sent received draw
replied_to s (send at) = send_of s at
replied_to s tick = Ok (tick_of s)

-- an event, over a tree: 10 before all
unfoldable pub event_of : RuleTree → Sender → Event → Result Held Refusal
unfolding replied_to on
event_of t s e = checked (check (grown_of t) NotGrown ∷ []) (replied_to s (on t e))

-- the sender that a reply leaves: "A refusal returns its number only; trees, senders, trainers and buffers stay"
unfoldable pub left_by : Sender → Result Held Refusal → Sender
left_by s (Ok h) = h.sender
left_by s (Err r) = s

-- "Next wake: the greater of now and send + wait, or none": 1
unfoldable pub wake_in : Sender → Option Time → Time → Option Time
wake_in s m now = option_map (λ sent. later_of now (moved sent s.intersend_delay)) m

unfoldable pub wake_admitted : Sender → Result Time Refusal → Result (Option Time) Refusal
unfolding wake_in
wake_admitted s at = and_then at (λ now. Ok (wake_in s s.last_send now))

abbrev pub wake_of : Sender → Float → Result (Option Time) Refusal
wake_of s now = wake_admitted s (admit_of now)
