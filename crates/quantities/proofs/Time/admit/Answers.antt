-- `Time::admit` takes the branches of its definition. Assumes nothing.
use lib.Ieee.{of_bits}
use Rattle.quantities.specs.Time.{admit_of}
use Rattle.quantities.proofs.Time.admit.Goals as goal
use Rattle.quantities.proofs.Time.admit.Goals.{else-value-via-then-value+else-value-2, else-value-via-else-value}

pub returns-then-value-3 : goal.returns-then-value-3
unfolding of_bits admit_of
returns-then-value-3 c = simp (c.if-value.true, c.if-value-2.true, c.if-value-3.true)

pub returns-else-value-3 : goal.returns-else-value-3
unfolding of_bits admit_of
returns-else-value-3 c = simp (c.if-value.true, c.if-value-2.true, c.if-value-3.false)

pub returns-else-value : goal.returns-else-value
unfolding of_bits admit_of
returns-else-value c =
    elim c.else-value.branch [
      | else-value-via-then-value+else-value-2 w ↦ simp (w.if-value.true, w.if-value-2.false)
      | else-value-via-else-value w ↦ simp w.if-value.false
    ]
