-- The multiplier fits 32 bits, and the increments come back from them as they were. Assumes nothing.
use Rattle.std.proofs.Common.{rules, arith}
use mir.Syntax.{w32}
use mir.ValLaws.{to_z-of_z, to_z_pos}
use Rattle.trainer.proofs.Holds.{factor_small}
use Rattle.trainer.proofs.settings.Settings.increment_axis.Goals as goal

pub overflow_cast-result : goal.overflow_cast-result
overflow_cast-result c = record { sfits = omega (arith, factor_small _ c.requires) }

pub returns : goal.returns
returns c =
    rw (
      to_z-of_z w32 c.args.self.initial_action_change.window_increment (search rules),
      to_z-of_z w32 c.args.self.max_action_change.window_increment (search rules),
      to_z_pos w32 c.args.self.action_change_multiplier (omega (arith, factor_small _ c.requires)),
    )
