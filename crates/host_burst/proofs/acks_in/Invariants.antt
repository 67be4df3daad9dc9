-- The loop's invariant: the first i acks are gathered. Assumes nothing.
use Rattle.std.proofs.Common.{◌≡◌}
use Rattle.arrayvec.specs.ArrayVec.{array_vec_len}
use Rattle.host_burst.proofs.Gathering.{first_acks}
use Rattle.host_burst.proofs.acks_in.Given as goal

abbrev pub invariant-loop-i : goal.invariant-loop-i
invariant-loop-i l = record { few : array_vec_len l.acks ≡ l.i; gathered : l.acks.items ≡ first_acks l.list l.i }
