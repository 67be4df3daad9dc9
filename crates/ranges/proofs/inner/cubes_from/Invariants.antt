-- `inner::cubes_from`: the cubes below i are computed. Assumes nothing.
use Rattle.std.proofs.Common.{◌≡◌, ◌≤◌, length}
use Rattle.rule_tree.specs.Cubes.{cube_at}
use Rattle.ranges.specs.Cubes.{CubesAre}
use Rattle.ranges.proofs.inner.cubes_from.Given as goal

abbrev pub invariant-loop-i : goal.invariant-loop-i
invariant-loop-i l = (1 ≤ l.i) × (length l.out ≡ 513) × CubesAre l.out l.i (λ k. cube_at k l.parents l.fn.root k)
