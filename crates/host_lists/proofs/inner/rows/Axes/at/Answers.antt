-- `host_lists::inner::rows::Axes::at` is action k of the product. Assumes nothing.
use Rattle.host_lists.proofs.Products as law
use mathlib.Core.Path.{refl}
use mir.Syntax.{w32}
use mir.ValLaws.{to_z-of_z}
use Rattle.host_lists.proofs.inner.rows.Axes.at.Goals as goal

pub returns : goal.returns
returns c =
    law.element c.args.self.multipliers.now c.args.self.increments.now c.args.self.delays.now c.args.k c.requires refl refl refl
    (to_z-of_z w32 _ (record { sfits = c.i-1.given })) c.new.ensures
