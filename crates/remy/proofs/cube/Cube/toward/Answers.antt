-- `Cube::toward` picks the half on p's side of each middle. Assumes nothing.
use Rattle.remy.proofs.Halves.{toward_is}
use Rattle.remy.proofs.cube.Cube.toward.Goals as goal

pub returns : goal.returns
returns c = toward_is _ _ _ _ _ _ c.middle-mid.ensures c.toward-side.ensures c.number.ensures c.half.ensures
