-- Settings that hold scale the increment's axis, and a valid action's increment is near. Assumes nothing.
use Rattle.std.proofs.Common.{rules, lit<}
use mir.Syntax.{w32}
use mir.ValLaws.{to_z-of_z}
use Rattle.trainer.proofs.Holds.{parts, whole_scale, whole_start, increment_small}
use Rattle.trainer.proofs.inner.list.Candidates.increment_sums.Goals as goal

pub increment_axis-requires : goal.increment_axis-requires
increment_axis-requires c = (parts _ c.args.self.set).0

pub kept-requires : goal.kept-requires
kept-requires c =
    let p = parts c.args.self.settings.now c.args.self.set in
    let near = increment_small c.args.self.action c.args.self.valid in
    (lit< tt, (rw c.increment_axis.ensures (whole_scale _ p.0 p.2), (rw c.increment_axis.ensures (whole_start _ p.2), rw (to_z-of_z w32 c.args.self.action.window_increment (search rules)) near)))
