-- 02, 3: "u32 length of the rest, version byte 1, then events, each a length byte, a kind byte and big-endian binary64 moments".
-- A trace of given events, which the reader of specs/Trace gives back.
use Rattle.std.specs.Prelude.{◌≡◌, List, [], ◌∷◌, ◌++◌, ℕ, ◌+◌, T, length, None}
use Rattle.std.specs.Float.{binary64}
use Rattle.std.specs.Float.Ieee.{fits}
use Rattle.wire.specs.Bytes.{bytes_of}
use Rattle.wire.specs.Fields.{float_bytes}
use Rattle.sender.specs.declared.Event.{Event}
use Rattle.sender.specs.declared.Event.TheVariants.{Ack, Send, Tick}

-- a draw is not written: "Repeat is off"
unfoldable pub event_bytes : Event → List ℕ
event_bytes (Ack x) = 17 ∷ 1 ∷ (float_bytes x.sent ++ float_bytes x.received)
event_bytes (Send at) = 9 ∷ 2 ∷ float_bytes at
event_bytes Tick = 1 ∷ 3 ∷ []

unfoldable pub events_bytes : List Event → List ℕ
unfolding event_bytes
events_bytes [] = []
events_bytes (e ∷ es) = event_bytes e ++ events_bytes es

abbrev pub trace_bytes : List Event → List ℕ
trace_bytes es = bytes_of 4 (1 + length (events_bytes es)) ++ (1 ∷ events_bytes es)

-- an event that a trace can hold: its moments are of 64 bits, and no draw comes with it
abbrev pub FitEvent : Event → Type 0
FitEvent (Ack x) = T (fits binary64 x.sent) × T (fits binary64 x.received) × (x.draw ≡ None)
FitEvent (Send at) = T (fits binary64 at)
FitEvent Tick = Unit {0}

abbrev pub FitEvents : List Event → Type 0
FitEvents [] = Unit {0}
FitEvents (e ∷ es) = FitEvent e × FitEvents es
