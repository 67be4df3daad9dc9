-- Acks, sends and ticks, many at once, on a sender kept in 108 bytes, over the tree of a record's trainer.
use Rattle.std.specs.Prelude.{cond, List, [], ◌∷◌, ◌++◌, ℕ, zero, suc, ◌+◌, ◌*◌, ◌/◌, ◌%◌, length, drop, get_or, eqb, leb, Option, Result, Ok, Err}
use Rattle.refusal.specs.declared.Refusal.{Refusal}
use Rattle.refusal.specs.declared.Refusal.TheVariants.{BadLength, ShortBuffer}
use Rattle.refusal.specs.Numbers.{number_of}
use Rattle.refusal.specs.Guards.{Check, check, checked, and_then, lent_after}
use Rattle.rule_tree.specs.declared.RuleTree.{RuleTree}
use Rattle.wire.specs.Bytes.{bytes_of, number_at, flag_byte}
use Rattle.wire.specs.Fields.{float_at}
use Rattle.record.specs.Calls.{load_of}
use Rattle.sender.specs.declared.Ack.{Ack}
use Rattle.sender.specs.declared.Event.{Event}
use Rattle.sender.specs.declared.Event.TheVariants as event
use Rattle.sender.specs.declared.Held.{Held}
use Rattle.sender.specs.declared.Sender.{Sender}
use Rattle.sender.specs.SenderCall.{on}
use Rattle.sender.specs.Sender.{replied_to, left_by}
use Rattle.host_sender.specs.Layout.{behind, sender_bytes, sender_at}

-- an event in 22 bytes: code (0 ack, 1 send, any other tick), sent 8, received 8, draw flag, u32 draw; a send's moment is sent
abbrev pub draw_at : List ℕ → ℕ → Option ℕ
draw_at bytes at = behind bytes at (number_at bytes (at + 1) 4)

abbrev pub ack_at : List ℕ → ℕ → Ack
ack_at bytes at = record { sent = float_at bytes at; received = float_at bytes (at + 8); draw = draw_at bytes (at + 16) }

unfoldable pub event_at : List ℕ → ℕ → Event
event_at events at =
    cond (eqb (get_or events at 0) 0) (event.Ack (ack_at events (at + 1)))
    (cond (eqb (get_or events at 0) 1) (event.Send (float_at events (at + 1))) event.Tick)

abbrev pub event_on : RuleTree → Sender → List ℕ → ℕ → Result Held Refusal
event_on t s events at = replied_to s (on t (event_at events at))

-- the sender after the first n events; a refused one changes nothing
unfoldable pub sender_after : RuleTree → Sender → List ℕ → ℕ → Sender
unfolding event_at replied_to on left_by
sender_after t s events zero = s
sender_after t s events (suc n) =
    let u = sender_after t s events n in left_by u (event_on t u events (22 * n))

-- 6 bytes an event: the refusal's number or 0, the window that is handed back, 0 with a refusal, and 1 where an ack's window was
-- clipped, else 0
unfoldable pub reply_bytes : Result Held Refusal → List ℕ
reply_bytes (Ok h) = 0 ∷ (bytes_of 4 h.window ++ (flag_byte h.clipped ∷ []))
reply_bytes (Err r) = number_of r % 256 ∷ (bytes_of 4 0 ++ (0 ∷ []))

unfoldable pub replies_bytes : RuleTree → Sender → List ℕ → ℕ → List ℕ
unfolding sender_after reply_bytes
replies_bytes t s events zero = []
replies_bytes t s events (suc n) =
    replies_bytes t s events n ++ reply_bytes (event_on t (sender_after t s events n) events (22 * n))

abbrev pub event_count : List ℕ → ℕ
event_count events = length events / 22

-- over a tree: a sender of another length 6; events that are cut 6; a buffer too short for 6 bytes an event 9
abbrev pub events_order : List ℕ → List ℕ → List ℕ → List Check
events_order sender list out =
    check (eqb (length sender) 108) BadLength ∷ check (eqb (length list % 22) 0) BadLength
    ∷ check (leb (6 * event_count list) (length out)) ShortBuffer ∷ []

unfoldable pub events_in : List ℕ → List ℕ → List ℕ → Result ℕ Refusal
events_in sender list out = checked (events_order sender list out) (Ok (6 * event_count list))

-- the sender's bytes and the buffer after it; a refused call changes no byte of either
unfoldable pub sender_on : RuleTree → List ℕ → List ℕ → List ℕ → List ℕ
unfolding sender_after events_in
sender_on t sender list out =
    lent_after (events_in sender list out) sender (λ n. sender_bytes (sender_after t (sender_at sender) list (event_count list)))

unfoldable pub replies_on : RuleTree → List ℕ → List ℕ → List ℕ → List ℕ
unfolding replies_bytes events_in
replies_on t sender list out =
    lent_after (events_in sender list out) out (λ n. replies_bytes t (sender_at sender) list (event_count list) ++ drop n out)

-- over the tree of a record's trainer: 6, 7, 8 of the record before those
abbrev pub events : List ℕ → List ℕ → List ℕ → List ℕ → Result ℕ Refusal
events held sender list out = and_then (load_of held) (λ t. events_in sender list out)

abbrev pub sender_left : List ℕ → List ℕ → List ℕ → List ℕ → List ℕ
sender_left held sender list out = lent_after (load_of held) sender (λ t. sender_on t.tree sender list out)

abbrev pub replies_left : List ℕ → List ℕ → List ℕ → List ℕ → List ℕ
replies_left held sender list out = lent_after (load_of held) out (λ t. replies_on t.tree sender list out)
