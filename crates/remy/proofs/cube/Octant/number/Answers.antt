-- `Octant::number` adds the three bits' weights. Assumes nothing.
use Rattle.remy.proofs.Halves.{number_is}
use Rattle.remy.proofs.cube.Octant.number.Goals as goal

pub returns : goal.returns
returns c = number_is _ _ _ _ _ _ c.from.ensures c.from-2.ensures c.from-3.ensures
