-- `milliseconds` divides by 1000; the check does not unfold a literal's bits of itself. Assumes nothing.
use mathlib.Core.Path.{refl}
use lib.Ieee.{of_bits}
use Rattle.quantities.proofs.milliseconds.Goals as goal

pub returns : goal.returns
unfolding of_bits
returns c = refl
