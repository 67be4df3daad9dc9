-- The first bytes are put.
use lib.ListN.{take}
use Rattle.runs.specs.Writing.{Appends}
use Rattle.runs.proofs.words.Writer.put_bytes.Given as goal

abbrev pub invariant-loop-b : goal.invariant-loop-b
invariant-loop-b l = Appends l.initial.self (take l.b-index l.bytes) l.self
