-- 01, "the sender": what it remembers of its acks, and the point that this makes.
use Rattle.std.specs.Prelude.{cond, Float, Option, Some, None}
use Rattle.floats.specs.Average.{average}
use Rattle.quantities.specs.declared.Time.{Time}
use Rattle.quantities.specs.declared.TimeSpan.{TimeSpan}
use Rattle.quantities.specs.Time.{span, between, shorter, ratio_of}
use Rattle.remy.specs.declared.point.Point.{Point}
use Rattle.remy.specs.Cube as cube
use Rattle.sender.specs.declared.Rtt.{Rtt}
use Rattle.sender.specs.declared.Sender.{Sender}

-- "the first gap, later 0.875 times the old average plus 0.125 times the gap"
unfoldable pub averaged : Option TimeSpan → TimeSpan → Option TimeSpan
averaged None gap = Some gap
averaged (Some a) gap = Some (span (average a.0 gap.0))

-- "gap to the last ack and last sent moment each go to an average"; with no last moment there is no gap
unfoldable pub average_next : Option TimeSpan → Option Time → Time → Option TimeSpan
unfolding averaged
average_next old None now = old
average_next old (Some last) now = averaged old (between now last)

-- "the shortest includes it"; "A held shortest gives way only to a round trip below it"
unfoldable pub rtt_next : Option Rtt → TimeSpan → Rtt
rtt_next None r = record { shortest = r; current = r }
rtt_next (Some old) r = record { shortest = cond (shorter r old.shortest) r old.shortest; current = r }

-- the sender with an ack in its memory
abbrev pub remembered : Sender → Time → Time → Sender
remembered s sent received =
    record s {
      last_ack = Some received;
      last_ack_send = Some sent;
      ack_ewma = average_next s.ack_ewma s.last_ack received;
      send_ewma = average_next s.send_ewma s.last_ack_send sent;
      rtt = Some (rtt_next s.rtt (between received sent));
    }

-- "none counts as 0"
unfoldable pub value_of : Option TimeSpan → Float
value_of None = cube.zero
value_of (Some a) = a.0

-- "Ratio = current / shortest"
unfoldable pub ratio_now : Option Rtt → Float
ratio_now None = cube.zero
ratio_now (Some r) = ratio_of r.current r.shortest

-- the point that is looked up
abbrev pub point_of : Sender → Point
point_of s = cube.point_of (value_of s.ack_ewma) (value_of s.send_ewma) (ratio_now s.rtt)
