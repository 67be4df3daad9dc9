-- `cube_at` is the root's cube, or the child of its parent's. Assumes nothing.
use mathlib.Core.Path.{sym, ap, ◌∙◌}
use native.Mathlib.Omega.{arith}
use Prim.Native.Nat.{◌-◌, ◌%◌, ◌<◌}
use Rattle.remy.specs.declared.cube.Cube.{Cube}
use Rattle.remy.specs.Cube.{child_cube}
use Rattle.rule_tree.proofs.CubeSteps as law
use Rattle.rule_tree.proofs.inner.cubes.+cube_at.Goals as goal

pub returns-then-i-eq0 : goal.returns-then-i-eq0
returns-then-i-eq0 t c = sym (law.root_cube _ _ _ _ c.if-i-eq0.true)

pub cube_at-requires : goal.cube_at-requires
cube_at-requires t c =
    let ps = c.args.parents.now in
    let l : law.parent_of ps c.args.i < c.args.i = law.parent_before ps c.args.root c.requires.1 c.args.i c.requires.0 c.if-i-eq0.false in
    (omega arith, (omega arith, c.requires.1))

pub returns : goal.returns
returns t c =
    let ps = c.args.parents.now in
    let i = c.args.i in
    c.child.ensures ∙ ap (λ (x : Cube). child_cube x ((i - 1) % 8)) c.cube_at.ensures
    ∙ sym (law.child_step ps c.args.root c.requires.1 i c.requires.0 c.if-i-eq0.false)
