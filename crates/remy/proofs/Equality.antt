-- `==` of two points and of two cubes, by the derived equality, is equality on each axis, and of two actions equality of each field. Assumes nothing.
use mathlib.Core.Path.{◌≡◌, refl, sym, ap, ◌∙◌}
use mathlib.Core.Bool.{Bool, ◌&&◌}
use lib.IntN.{ℤ}
use mir.Val.{SFits, of_z, to_z}
use borrow.Author.Tests.{eqb-true, eq-eqb}
use Rattle.std.specs.Bool.{one_answer}
use Rattle.std.specs.Float.Ieee.{eq}
use Rattle.std.specs.Int.{w32}
use Rattle.std.specs.Ordering.{int_eq}
use Rattle.std.proofs.Common.{eqb}
use Rattle.std.proofs.lemmas.Bool.Decides.{Decides-int_eq}
use Rattle.std.proofs.lemmas.Int.{to_z-of_z}
use Rattle.remy.specs.declared.action.Action.{Action}
use Rattle.remy.specs.declared.point.Point.{Point}
use Rattle.remy.specs.declared.cube.Cube.{Cube}
use Rattle.remy.specs.contracts.action.ActionPartialEq.TheImpl as of_actions
use Rattle.remy.specs.contracts.point.PointPartialEq.TheImpl as of_points
use Rattle.remy.specs.contracts.cube.CubePartialEq.TheImpl as of_cubes
use Rattle.remy.specs.Cube.{point_equal}

pub points_equal : (p q : Point) → of_points.ghosts.eq p q ≡ point_equal p q
unfolding point_equal
points_equal p q = refl

pub cubes_equal : (c d : Cube) → of_cubes.ghosts.eq c d ≡ (point_equal c.min d.min && point_equal c.max d.max)
unfolding point_equal
cubes_equal c d = refl

-- numbers of 32 bits are the same where their bits are
same_number : (x y : ℤ) → SFits w32 x → SFits w32 y → int_eq x y ≡ eqb (of_z w32 x) (of_z w32 y)
same_number x y f g = one_answer _ _ (Decides-int_eq x y) (λ e. same (eqb-true _ _ e), λ e. eq-eqb _ _ (ap (of_z w32) e))
  where
    same : of_z w32 x ≡ of_z w32 y → x ≡ y
    same e = sym (to_z-of_z w32 x f) ∙ ap (to_z w32) e ∙ to_z-of_z w32 y g

pub actions_equal : (a b : Action) → SFits w32 a.window_increment → SFits w32 b.window_increment
    → of_actions.ghosts.eq a b
    ≡ (eq a.window_multiplier b.window_multiplier
    && (eqb (of_z w32 a.window_increment) (of_z w32 b.window_increment) && eq a.intersend_delay.0 b.intersend_delay.0))
actions_equal a b f g =
    ap (λ (t : Bool). eq a.window_multiplier b.window_multiplier && (t && eq a.intersend_delay.0 b.intersend_delay.0))
    (same_number a.window_increment b.window_increment f g)
