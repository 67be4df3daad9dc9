-- A refused start gives no tree, and the tree with an empty box is refused by the test for 10. Assumes nothing.
use mathlib.Core.Path.{◌≡◌, refl}
use mathlib.Core.Bool.{Bool, true, false, ◌&&◌}
use Prim.Native.Nat.{ℕ}
use native.Mathlib.Omega.{arith}
use lib.Ieee.{le}
use Rattle.std.specs.Result.{IsErr}
use Rattle.remy.specs.declared.action.Action.{Action}
use Rattle.remy.specs.declared.point.Point.{Point}
use Rattle.remy.specs.Action.{valid_of}
use Rattle.remy.specs.Cube.{ends_admitted}
use Rattle.rule_tree.specs.Grown.{ends_hold, grown_of}
use Rattle.rule_tree.specs.Calls.{blank_tree, new_of}
use Rattle.rule_tree.proofs.Links.{grown_ends_hold}

no_box : ends_hold blank_tree.ends ≡ false
unfolding ends_hold ends_admitted le
no_box = refl

pub blank_refused : grown_of blank_tree ≡ false
blank_refused = go (grown_of blank_tree) refl
  where
    go : (b : Bool) → grown_of blank_tree ≡ b → b ≡ false
    go true g = absurd (let e = grown_ends_hold blank_tree g in let n = no_box in let z : ◌≡◌ {A = ℕ} 0 1 = cc in omega arith)
    go false g = refl

pub refused_start : (e : Point) (a : Action) → ends_hold e && valid_of a ≡ false → IsErr (new_of e a)
unfolding new_of
refused_start e a v = go (ends_hold e) (valid_of a) refl refl v
  where
    go : (b c : Bool) → ends_hold e ≡ b → valid_of a ≡ c → b && c ≡ false → IsErr (new_of e a)
    go true true p q r = cc
    go true false p q r = rw (p, q) refl
    go false c p q r = rw p refl
