-- `end_admitted` compares with both limits. Assumes nothing.
use lib.Ieee.{of_bits}
use Rattle.remy.proofs.point.end_admitted.Goals as goal

pub returns-then-x : goal.returns-then-x
unfolding of_bits
returns-then-x c = simp c.if-x.true
