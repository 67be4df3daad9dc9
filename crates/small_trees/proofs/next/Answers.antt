-- `next` refuses a list of any other shape. Assumes nothing.
use Rattle.std.proofs.Common.{arith}
use Rattle.small_trees.proofs.Ways.{long_refused, other_refused}
use Rattle.small_trees.proofs.next.Goals as goal
use Rattle.small_trees.proofs.next.Goals.{in_default-via-then-list-lt2+in_default-1, in_default-via-else-list-lt2+then-list-lt3+in_default-1, in_default-via-else-list-lt2+else-list-lt3+then-list-lt4+in_default-1, in_default-via-else-list-lt2+else-list-lt3+else-list-lt4}

pub returns-in_default : goal.returns-in_default
returns-in_default c =
    elim c.in_default.branch [ in_default-via-then-list-lt2+in_default-1 w ↦ grind (arith, other_refused) | in_default-via-else-list-lt2+then-list-lt3+in_default-1 w ↦ grind (arith, other_refused) | in_default-via-else-list-lt2+else-list-lt3+then-list-lt4+in_default-1 w ↦ grind (arith, other_refused) | in_default-via-else-list-lt2+else-list-lt3+else-list-lt4 w ↦ grind (arith, long_refused) ]
