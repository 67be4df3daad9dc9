-- `Point::usual_ends` is 600 s, 600 s and 1000. Assumes nothing.
use lib.Ieee.{of_bits}
use Rattle.remy.proofs.point.Point.usual_ends.Goals as goal

pub returns : goal.returns
unfolding of_bits
returns c = c.new.ensures
