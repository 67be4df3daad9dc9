-- `held` clips at both ends of 0..=1,000,000. Assumes nothing.
use mathlib.Core.Path.{ap, ◌∙◌}
use lib.IntN.{ℤ, pos}
use mir.Syntax.{w64}
use mir.ValLaws.{to_z-of_z}
use Rattle.std.specs.Int.{int_min, int_max}
use Rattle.remy.proofs.Window.{held_clipped, held_kept}
use Rattle.remy.proofs.action.held.Goals as goal

pub returns-then-window-sum : goal.returns-then-window-sum
returns-then-window-sum c = held_clipped _ _ _ c.ranges.sum (c.clamp-window.ensures.value ∙ ap (λ (z : ℤ). int_max (pos 0) (int_min z (pos 1000000))) (to_z-of_z w64 _ c.ranges.sum)) c.if-window-sum.true

pub returns-else-window-sum : goal.returns-else-window-sum
returns-else-window-sum c = held_kept _ _ _ c.ranges.sum (c.clamp-window.ensures.value ∙ ap (λ (z : ℤ). int_max (pos 0) (int_min z (pos 1000000))) (to_z-of_z w64 _ c.ranges.sum)) c.if-window-sum.false
