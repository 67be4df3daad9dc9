-- The weights are the definition's, bit by bit. Assumes nothing.
use lib.Ieee.{of_bits}
use Rattle.sender.specs.Memory.{average_next, averaged}
use Rattle.sender.proofs.inner.memory.average_next.Goals as goal

pub returns : goal.returns
unfolding average_next averaged of_bits
returns c =
    rw (
      c.in-Some.is,
      c.in-Some-old.is,
      c.add.ensures,
      c.mul.ensures,
      c.mul-2.ensures,
      c.sub-gap.ensures,
    )
