-- `Interval::middle` halves the sum of the ends; the check does not unfold a literal's bits of itself. Assumes nothing.
use mathlib.Core.Path.{refl}
use lib.Ieee.{of_bits}
use Rattle.remy.proofs.cube.Interval.middle.Goals as goal

pub returns : goal.returns
unfolding of_bits
returns c = refl
