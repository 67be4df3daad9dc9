-- `Cube::split` gives the eight halves about one middle. Assumes nothing.
use Rattle.remy.specs.Cube.{split_of}
use Rattle.remy.proofs.Halves.{part_is}
use Rattle.remy.proofs.cube.Cube.split.Goals as goal

pub returns : goal.returns
unfolding split_of
returns c =
    let k = part_is _ _ c.middle-mid.ensures in
    rw (k 0 _ c.half.ensures, k 1 _ c.half-2.ensures, k 2 _ c.half-3.ensures, k 3 _ c.half-4.ensures, k 4 _ c.half-5.ensures, k 5 _ c.half-6.ensures, k 6 _ c.half-7.ensures, k 7 _ c.half-8.ensures)
