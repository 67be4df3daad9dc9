-- The parents stand before their children.
use mathlib.Core.Path.{sym, subst}
use Rattle.rule_tree.specs.Cubes.{Before}
use Rattle.rule_tree.proofs.Links as law
use Rattle.rule_tree.proofs.inner.grown.Grown.domain.Goals as goal

pub cube_at-requires : goal.cube_at-requires
cube_at-requires c = (c.requires, subst Before (sym c.split_nodes_of-parents.ensures) (law.grown_low c.args.self.tree.now c.args.self.grown))
