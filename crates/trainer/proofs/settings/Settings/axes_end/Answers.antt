-- The increment's axis is scaled by the settings' numbers and changes. Assumes nothing.
use Rattle.trainer.proofs.Holds.{whole_scale, whole_start}
use Rattle.trainer.proofs.settings.Settings.axes_end.Goals as goal

pub ends-requires-then-ends-clause-scale : goal.ends-requires-then-ends-clause-scale
ends-requires-then-ends-clause-scale c = rw c.increment_axis.ensures (whole_scale _ c.requires.numbers c.requires.changes)

pub ends-requires-then-ends-clause-first : goal.ends-requires-then-ends-clause-first
ends-requires-then-ends-clause-first c = rw c.increment_axis.ensures (whole_start _ c.requires.changes)
