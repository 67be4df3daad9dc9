-- `inner::cubes_from`: one cube more, from its parent's. Assumes nothing.
use Rattle.std.proofs.Common.{◌<◌, arith, rules}
use Rattle.ranges.proofs.CubeWays as law
use Rattle.ranges.proofs.inner.cubes_from.Goals as goal

pub loop-i-init : goal.loop-i-init
loop-i-init c = (omega arith, search rules, law.cubes_first c.args.parents.now c.args.root)

pub loop-i-preserved : goal.loop-i-preserved
loop-i-preserved c =
    let l = c.loop-i in
    let inside : l.i < 513 = (let h = c.requires.0 in omega arith) in
    let child = rw (c.from-in-loop-i.ensures, c.from.ensures) at c.child.ensures in (
      omega arith,
      search rules,
      rw c.from-in-loop-i-2.ensures
          (law.cubes_more c.args.parents.now c.args.root c.requires.1 l.i l.invariant.0 inside l.out l.invariant.1 l.invariant.2 c.child.result child),
    )
