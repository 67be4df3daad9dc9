-- The first bytes are those of the first words.
use Rattle.runs.proofs.Filling as law
use mathlib.Core.Path.{◌≡◌}
use lib.ListN.{length}
use Rattle.runs.proofs.script.fill.Given as goal

abbrev pub invariant-loop-i : goal.invariant-loop-i
invariant-loop-i l = (length l.buffer ≡ length l.ws) × law.Filled l.ws l.buffer l.i
