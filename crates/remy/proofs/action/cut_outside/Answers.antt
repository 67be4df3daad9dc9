-- `cut_outside` compares with the ends of the range of i32. Assumes nothing.
use lib.Ieee.{of_bits, neg}
use Rattle.remy.proofs.Window.{cut_above, cut_below}
use Rattle.remy.proofs.action.cut_outside.Goals as goal
use Rattle.remy.proofs.action.cut_outside.Goals.{then-x, else-x}

pub returns : goal.returns
unfolding of_bits neg
returns c =
    elim c.if-x.branch [
      | then-x w ↦ cut_above _ _ w.if-x.true w.result-is
      | else-x w ↦ cut_below _ _ w.if-x.false w.result-is
    ]
