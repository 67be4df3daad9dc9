-- `read_sender` gathers the fields. Assumes nothing.
use Rattle.quantities.specs.Time.{span}
use Rattle.host_sender.specs.Layout.{sender_at}
use Rattle.host_sender.proofs.inner.read.read_sender.Goals as goal

pub returns : goal.returns
unfolding sender_at
returns c =
    λ j.
    record {
      last_ack = c.moment_at.ensures j;
      last_ack_send = c.moment_at-2.ensures j;
      ack_ewma = c.average_at.ensures j;
      send_ewma = c.average_at-2.ensures j;
      rtt = c.trips_at.ensures j;
      next_change = c.pending_at.ensures j;
      repeat_actions = c.mode_at.ensures j;
      last_send = c.moment_at-3.ensures j;
      window = c.word_at.ensures j;
      intersend_delay = span (c.float_at.ensures j);
    }
