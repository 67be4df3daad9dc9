-- The loop's invariant: what the layout carries of the nodes passed is stored, and next is the place after it.
use mathlib.Core.Path.{◌≡◌}
use Prim.Native.Nat.{◌+◌}
use lib.ListN.{length}
use lib.Seq.{sets}
use Rattle.record.specs.Write.{payload_bytes}
use Rattle.record.proofs.inner.write.put_nodes.Given as goal

abbrev pub invariant-loop-x : goal.invariant-loop-x
invariant-loop-x l = record {
  long : length l.buf ≡ length l.initial.buf;
  place : l.next ≡ l.at + length (payload_bytes l.l l.nodes l.x-index);
  stored : l.buf ≡ sets l.initial.buf l.at (payload_bytes l.l l.nodes l.x-index);
}
