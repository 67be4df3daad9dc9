-- The loop's invariant: storing the bytes that are left gives what storing all would. Assumes nothing.
use Rattle.std.proofs.Common.{◌≡◌}
use Rattle.std.proofs.lemmas.List.Edits.{sets}
use Rattle.wire.specs.Bytes.{bytes_of}
use Rattle.wire.proofs.inner.write.put.Given as goal

abbrev pub invariant-loop-i : goal.invariant-loop-i
invariant-loop-i l = sets l.buf l.at (bytes_of l.i l.rest) ≡ sets l.initial.buf l.at (bytes_of l.n l.x)
