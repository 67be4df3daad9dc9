-- 02, 3: the sender as a process. A record and then a trace of events, and the lines that they are printed as.
use Rattle.std.specs.Prelude.{Bool, true, ◌&&◌, ◌||◌, cond, List, [], ◌∷◌, ◌++◌, ℕ, zero, suc, ◌+◌, ◌-◌, ◌*◌, length, drop, get_or, eqb, leb, None, Result, Ok, Err}
use Rattle.refusal.specs.declared.Refusal.{Refusal}
use Rattle.refusal.specs.declared.Refusal.TheVariants.{BadField, BadLength, BadTrace, ShortBuffer, UnknownVersion}
use Rattle.refusal.specs.Numbers.{number_of}
use Rattle.refusal.specs.Guards.{Check, check, checked}
use Rattle.rule_tree.specs.declared.RuleTree.{RuleTree}
use Rattle.wire.specs.Bytes.{number_at}
use Rattle.wire.specs.Fields.{float_at}
use Rattle.record.specs.Calls.{version_holds, body_holds}
use Rattle.panel_lines.specs.Panel.{decimal, record_part, start_holds, tree_in}
use Rattle.sender.specs.declared.Event.{Event}
use Rattle.sender.specs.declared.Event.TheVariants.{Ack, Send, Tick}
use Rattle.sender.specs.declared.RepeatMode.TheVariants.{Off}
use Rattle.sender.specs.declared.Sender.{Sender}
use Rattle.sender.specs.declared.Held.{Held}
use Rattle.sender.specs.SenderCall.{on}
use Rattle.sender.specs.Sender.{fresh_sender, replied_to, left_by}

-- "Kind 1 is ack (sent, received), length 17; kind 2 send, length 9; kind 3 tick, length 1"
unfoldable pub kind_holds : ℕ → ℕ → Bool
kind_holds len kind = (eqb kind 1 && eqb len 17) || ((eqb kind 2 && eqb len 9) || (eqb kind 3 && eqb len 1))

-- "each a length byte, a kind byte and big-endian binary64 moments": the length byte counts what follows it
abbrev pub size_of : List ℕ → ℕ
size_of bytes = 1 + get_or bytes 0 0

-- the bytes begin with a whole event
unfoldable pub head_holds : List ℕ → Bool
unfolding kind_holds
head_holds bytes = kind_holds (get_or bytes 0 0) (get_or bytes 1 0) && leb (size_of bytes) (length bytes)

unfoldable pub event_in : List ℕ → Event
event_in bytes =
    cond (eqb (get_or bytes 1 0) 1) (Ack (record { sent = float_at bytes 2; received = float_at bytes 10; draw = None }))
    (cond (eqb (get_or bytes 1 0) 2) (Send (float_at bytes 2)) Tick)

-- "whole events of these kinds and lengths to its end"; n bounds their number
unfoldable pub whole_events : ℕ → List ℕ → Bool
unfolding head_holds
whole_events zero bytes = eqb (length bytes) 0
whole_events (suc n) bytes = cond (eqb (length bytes) 0) true (head_holds bytes && whole_events n (drop (size_of bytes) bytes))

unfoldable pub events_from : ℕ → List ℕ → List Event
unfolding event_in
events_from zero bytes = []
events_from (suc n) bytes = cond (eqb (length bytes) 0) [] (event_in bytes ∷ events_from n (drop (size_of bytes) bytes))

-- "a record and then a trace"
abbrev pub trace_part : List ℕ → List ℕ
trace_part input = drop (4 + number_at input 0 4) input

-- "u32 length of the rest, version byte 1, then events"
abbrev pub events_part : List ℕ → List ℕ
events_part bytes = drop 5 bytes

-- "A trace that is longer, has fewer than 5 bytes, a u32 that isn't the bytes that follow it or another version"
unfoldable pub start_of : List ℕ → Bool
start_of bytes =
    leb 5 (length bytes) && (leb (length bytes) 32768 && (eqb (number_at bytes 0 4) (length bytes - 4) && eqb (get_or bytes 4 0) 1))

-- an event has a byte at least, so there are no more events than bytes
abbrev pub whole_in_of : List ℕ → Bool
whole_in_of body = whole_events (length body) body

abbrev pub events_in : List ℕ → List Event
events_in body = events_from (length body) body

unfoldable pub trace_holds : List ℕ → Bool
unfolding start_of whole_events
trace_holds bytes = start_of bytes && whole_in_of (events_part bytes)

abbrev pub events : List ℕ → List Event
events bytes = events_in (events_part bytes)

-- "refused N"
unfoldable pub refusal_line : ℕ → List ℕ
refusal_line k = (114 ∷ 101 ∷ 102 ∷ 117 ∷ 115 ∷ 101 ∷ 100 ∷ 32 ∷ []) ++ (decimal k ++ (10 ∷ []))

-- "one window a line", and 02, 6: "a clipped ack's line ends in ` c` and no other line does"
unfoldable pub line_end : Bool → List ℕ
line_end b = cond b (32 ∷ 99 ∷ 10 ∷ []) (10 ∷ [])

abbrev pub window_line : ℕ → Bool → List ℕ
window_line w clipped = decimal w ++ line_end clipped

unfoldable pub line_of : Result Held Refusal → List ℕ
unfolding refusal_line line_end
line_of (Ok h) = window_line h.window h.clipped
line_of (Err r) = refusal_line (number_of r)

-- "or `refused N` and goes on": each event to the sender that the last one left
unfoldable pub lines_from : RuleTree → Sender → List Event → List ℕ
unfolding line_of replied_to on left_by
lines_from t s [] = []
lines_from t s (e ∷ es) = let r = replied_to s (on t e) in line_of r ++ lines_from t (left_by s r) es

-- "Repeat is off"
abbrev pub lines_over : RuleTree → List ℕ → List ℕ
lines_over t bytes = lines_from t (fresh_sender Off) (events bytes)

abbrev pub text_of : List ℕ → List ℕ
text_of input = lines_over (tree_in input) (trace_part input)

-- "refused whole with 25, after the record's 6 to 8, read as in the panel"
abbrev pub input_order : List ℕ → List Check
input_order input =
    check (start_holds input) BadLength ∷ check (version_holds (record_part input)) UnknownVersion ∷ check (body_holds (record_part input)) BadField
    ∷ check (trace_holds (trace_part input)) BadTrace ∷ []

-- "any of these refusals is the only line"
unfoldable pub printed_by : Result (List ℕ) Refusal → List ℕ
unfolding refusal_line
printed_by (Ok text) = text
printed_by (Err r) = refusal_line (number_of r)

-- every byte that the program prints
unfoldable pub printed_of : List ℕ → List ℕ
unfolding start_holds trace_holds printed_by lines_from
printed_of input = printed_by (checked (input_order input) (Ok (text_of input)))

-- the call on lent bytes: the same refusals, then 9 for a buffer with fewer than 11 bytes an event, which is a line's most
abbrev pub room_for : List ℕ → ℕ
room_for bytes = 11 * length (events bytes)

abbrev pub trace_order : List ℕ → List ℕ → List Check
trace_order input out =
    check (start_holds input) BadLength ∷ check (version_holds (record_part input)) UnknownVersion ∷ check (body_holds (record_part input)) BadField
    ∷ check (trace_holds (trace_part input)) BadTrace ∷ check (leb (room_for (trace_part input)) (length out)) ShortBuffer ∷ []

unfoldable pub trace_of : List ℕ → List ℕ → Result ℕ Refusal
unfolding start_holds trace_holds
trace_of input out = checked (trace_order input out) (Ok (length (text_of input)))

-- the buffer after: the lines, and then what it held; a refused call changes no byte
unfoldable pub out_after : List ℕ → List ℕ → Result ℕ Refusal → List ℕ
out_after input out (Ok n) = text_of input ++ drop n out
out_after input out (Err r) = out
