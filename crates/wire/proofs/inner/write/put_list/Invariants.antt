-- The loop's invariant: the numbers passed are stored.
use mathlib.Core.Path.{◌≡◌}
use lib.ListN.{length, take}
use lib.Seq.{sets}
use Rattle.wire.specs.Bytes.{shorts_bytes}
use Rattle.wire.proofs.inner.write.put_list.Given as goal

abbrev pub invariant-loop-k : goal.invariant-loop-k
invariant-loop-k l = record {
  long : length l.buf ≡ length l.initial.buf;
  stored : l.buf ≡ sets l.initial.buf l.at (shorts_bytes (take l.k l.numbers));
}
