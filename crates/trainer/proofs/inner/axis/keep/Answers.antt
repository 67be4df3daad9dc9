-- A sum within both ends comes at the end. Assumes nothing.
use Rattle.std.proofs.Common.{sym, ◌∙◌}
use Rattle.trainer.proofs.Axis.{one_kept, one_left}
use Rattle.trainer.proofs.inner.axis.keep.Goals as goal
use Rattle.trainer.proofs.inner.axis.keep.Goals.{else-at_most-via-then-at_most+else-at_most-2, else-at_most-via-else-at_most}

pub returns-then-at_most-2 : goal.returns-then-at_most-2
returns-then-at_most-2 g c = c.push.ensures.items ∙ one_kept _ _ _ (rw (sym c.if-at_most.ensures, sym c.if-at_most-2.ensures))

pub returns-else-at_most : goal.returns-else-at_most
returns-else-at_most g c =
    elim c.else-at_most.branch [
      | else-at_most-via-then-at_most+else-at_most-2 w ↦ one_left _ _ _ (rw (sym w.if-at_most.ensures, sym w.if-at_most-2.ensures))
      | else-at_most-via-else-at_most w ↦ one_left _ _ _ (rw (sym w.if-at_most.ensures))
    ]
