-- The literal 0.0 is a bit pattern, which `of_bits` reads. Assumes nothing.
use Rattle.std.proofs.Common.{arith}
use Rattle.std.proofs.lemmas.Bool.Decides.{nat_tests}
use lib.Ieee.{of_bits}
use Rattle.trainer.specs.Settings.{changes_hold}
use Rattle.trainer.proofs.settings.Settings.changes_hold.Goals as goal

pub returns-else-first-le-MOST_CHANGE : goal.returns-else-first-le-MOST_CHANGE
unfolding changes_hold of_bits
returns-else-first-le-MOST_CHANGE c = grind (arith, nat_tests)
