-- `bounds` is the table, computed, which the check does not do of itself. Assumes nothing.
use Rattle.std.proofs.Common.{refl}
use Rattle.std.specs.Float.Ieee.{of_bits, add, div}
use Rattle.even.specs.Even.{rows_from}
use Rattle.even.proofs.bounds.Goals as goal

pub returns : goal.returns
unfolding rows_from of_bits add div
returns c = refl
