-- What the private functions of the code are held to: parts of a sender's bytes.
use Rattle.std.specs.Prelude.{List, ◌++◌, ℕ}
use Rattle.wire.specs.Bytes.{bytes_of}
use Rattle.wire.specs.Fields.{float_bytes}
use Rattle.sender.specs.declared.Sender.{Sender}
use Rattle.host_sender.specs.Layout.{moment_bytes, average_bytes, trips_bytes, pending_bytes, mode_bytes}

-- what the acks left, and what paces the sender
abbrev pub memory_bytes : Sender → List ℕ
memory_bytes s =
    moment_bytes s.last_ack ++ (moment_bytes s.last_ack_send ++ (average_bytes s.ack_ewma ++ (
    average_bytes s.send_ewma ++ trips_bytes s.rtt)))

abbrev pub pace_bytes : Sender → List ℕ
pace_bytes s =
    pending_bytes s.next_change ++ (mode_bytes s.repeat_actions ++ (
    moment_bytes s.last_send ++ (bytes_of 4 s.window ++ float_bytes s.intersend_delay.0)))
