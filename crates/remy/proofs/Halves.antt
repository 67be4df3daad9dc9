-- One fact for each way through the functions on cubes, over plain values. Assumes nothing.
use mathlib.Core.Path.{◌≡◌, refl, sym, ap, ◌∙◌}
use mathlib.Core.Bool.{Bool, true, false, cond}
use Prim.Native.Nat.{ℕ, ◌+◌, ◌*◌}
use native.Mathlib.Omega.{arith}
use lib.Ieee.{le}
use Rattle.std.specs.Int.{from_bool}
use Rattle.remy.specs.declared.point.Point.{Point}
use Rattle.remy.specs.declared.cube.Cube.{Cube}
use Rattle.remy.specs.declared.cube.Octant.{Octant}
use Rattle.remy.specs.declared.cube.Child.{Child}
use Rattle.remy.specs.Cube.{ack, send, ratio, middle_of, half_cube, number_of, octant_of, octant_toward, child_cube, toward_of}

weight : (n : ℕ) (b : Bool) → n * from_bool b ≡ cond b n 0
weight n true = omega arith
weight n false = omega arith

pub number_is : (a s r : Bool) (x y z : ℕ) → x ≡ from_bool a → y ≡ from_bool s → z ≡ from_bool r → 4 * x + 2 * y + z ≡ number_of a s r
unfolding number_of
number_is a s r x y z p q t = rw (p, q, t, weight 4 a, weight 2 s) (ap (λ (k : ℕ). cond a 4 0 + cond s 2 0 + k) (sym (one r) ∙ weight 1 r))
  where
    one : (b : Bool) → 1 * from_bool b ≡ from_bool b
    one b = omega arith

-- the half that a child's number names
pub child_number : (c : Cube) (a s r : Bool) → child_cube c (number_of a s r) ≡ half_cube c (middle_of c) a s r
unfolding child_cube number_of
child_number c true true true = refl
child_number c true true false = refl
child_number c true false true = refl
child_number c true false false = refl
child_number c false true true = refl
child_number c false true false = refl
child_number c false false true = refl
child_number c false false false = refl

pub part_is : (c : Cube) (m : Point) → m ≡ middle_of c → (k : ℕ) (d : Cube) → d ≡ half_cube c m (octant_of k).ack (octant_of k).send (octant_of k).ratio → d ≡ child_cube c k
unfolding child_cube
part_is c m e k d h = rw e at h

pub toward_is : (c : Cube) (p m : Point) (o : Octant) (n : ℕ) (d : Cube) → m ≡ middle_of c → o ≡ octant_toward m p
    → n ≡ number_of o.ack o.send o.ratio → d ≡ half_cube c m o.ack o.send o.ratio
    → ◌≡◌ {A = Child} record { number = n; cube = d } (toward_of c p)
unfolding toward_of
toward_is c p m o n d e f h k =
    rw (h, k, f, e, child_number c (le (ack (middle_of c)) (ack p)) (le (send (middle_of c)) (send p)) (le (ratio (middle_of c)) (ratio p)))
