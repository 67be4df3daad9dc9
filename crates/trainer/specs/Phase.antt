-- 01, "phase is 1..=7": each phase with its number in the saved record.
use Rattle.std.specs.Prelude.{cond, ℕ, eqb, Option, Some, None}
use Rattle.trainer.specs.declared.phase.Phase.{Phase}
use Rattle.trainer.specs.declared.phase.Phase.TheVariants.{Split, Drill, Choose, Own, Try, Last, Done}

abbrev pub number_of : Phase → ℕ
number_of Split = 1
number_of Drill = 2
number_of Choose = 3
number_of Own = 4
number_of Try = 5
number_of Last = 6
number_of Done = 7

-- the phase that has the number, if one has
unfoldable pub phase_of : ℕ → Option Phase
phase_of n =
    cond (eqb n 1) (Some Split)
    (cond (eqb n 2) (Some Drill)
    (cond (eqb n 3) (Some Choose)
    (cond (eqb n 4) (Some Own)
    (cond (eqb n 5) (Some Try) (cond (eqb n 6) (Some Last) (cond (eqb n 7) (Some Done) None))))))
