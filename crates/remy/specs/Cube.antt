-- 01, "point.rs, cube.rs": points, cubes, and the eight halves of a cube.
use Rattle.std.specs.Prelude.{Bool, true, false, ◌&&◌, cond, List, [], ◌∷◌, ℕ, ◌+◌, ◌/◌, ◌%◌, T, eqb, pos, Float}
use Rattle.std.specs.Float.{fin}
use Rattle.std.specs.Float.Ieee.{eq, le}
use Rattle.floats.specs.Interval.{within, middle, End}
use Rattle.remy.specs.declared.point.Point.{Point}
use Rattle.remy.specs.declared.cube.Cube.{Cube}
use Rattle.remy.specs.declared.cube.Interval.{Interval}
use Rattle.remy.specs.declared.cube.Octant.{Octant}
use Rattle.remy.specs.declared.cube.Child.{Child}

-- "A point is two spans and a ratio"
abbrev pub point_of : Float → Float → Float → Point
point_of ack send ratio = record { ack_ewma = record { 0 = ack }; send_ewma = record { 0 = send }; rtt_ratio = ratio }

-- the three axes of a point
abbrev pub ack : Point → Float
ack p = p.ack_ewma.0

abbrev pub send : Point → Float
send p = p.send_ewma.0

abbrev pub ratio : Point → Float
ratio p = p.rtt_ratio

abbrev pub zero : Float
zero = fin false 0 (pos 0)

-- "Root: 0 to 600 s, 0 to 600 s, 0 to 1000": the upper ends, 600 = 75 * 2 ^ 3 and 1000 = 125 * 2 ^ 3
abbrev pub usual_ends : Point
usual_ends = point_of (fin false 75 (pos 3)) (fin false 75 (pos 3)) (fin false 125 (pos 3))

-- upper ends that a box may have: "each from 1 to 1,000,000", which is 15625 * 2 ^ 6
abbrev pub least_end : Float
least_end = fin false 1 (pos 0)

abbrev pub most_end : Float
most_end = fin false 15625 (pos 6)

abbrev pub end_admitted : Float → Bool
end_admitted x = le least_end x && le x most_end

unfoldable pub ends_admitted : Point → Bool
ends_admitted e = end_admitted (ack e) && (end_admitted (send e) && end_admitted (ratio e))

unfoldable pub point_equal : Point → Point → Bool
point_equal p q = eq (ack p) (ack q) && (eq (send p) (send q) && eq (ratio p) (ratio q))

abbrev pub root_of : Point → Cube
root_of ends = record { min = point_of zero zero zero; max = ends }

-- "contains: min <= p < max on all three; NaN is in none"
unfoldable pub contains_of : Cube → Point → Bool
contains_of c p =
    within (ack c.min) (ack c.max) (ack p)
    && (within (send c.min) (send c.max) (send p) && within (ratio c.min) (ratio c.max) (ratio p))

-- "each middle is (max + min) / 2, computed once and used by both halves"
abbrev pub middle_of : Cube → Point
middle_of c =
    point_of (middle (ack c.min) (ack c.max)) (middle (send c.min) (send c.max))
    (middle (ratio c.min) (ratio c.max))

abbrev pub interval : Float → Float → Interval
interval lo hi = record { lo = lo; hi = hi }

-- on each axis upper, or not
abbrev pub octant : Bool → Bool → Bool → Octant
octant a s r = record { ack = a; send = s; ratio = r }

-- the half of lo..hi above mid, or the one below it
unfoldable pub half_of : Float → Float → Float → Bool → Interval
half_of lo mid hi true = interval mid hi
half_of lo mid hi false = interval lo mid

-- the half of a cube that is upper, or not, on each axis
unfoldable pub half_cube : Cube → Point → Bool → Bool → Bool → Cube
unfolding half_of
half_cube c mid a s r =
    let x = half_of (ack c.min) (ack mid) (ack c.max) a in
    let y = half_of (send c.min) (send mid) (send c.max) s in
    let z = half_of (ratio c.min) (ratio mid) (ratio c.max) r in
    record { min = point_of x.lo y.lo z.lo; max = point_of x.hi y.hi z.hi }

-- "Child c = 4 if upper in ack_ewma, plus 2 if upper in send_ewma, plus 1 if upper in rtt_ratio"
unfoldable pub number_of : Bool → Bool → Bool → ℕ
number_of a s r = cond a 4 0 + cond s 2 0 + cond r 1 0

-- octant k, k modulo 8
abbrev pub octant_of : ℕ → Octant
octant_of k = octant (eqb (k / 4 % 2) 1) (eqb (k / 2 % 2) 1) (eqb (k % 2) 1)

-- the octant about m that holds p: three comparisons
abbrev pub octant_toward : Point → Point → Octant
octant_toward m p = octant (le (ack m) (ack p)) (le (send m) (send p)) (le (ratio m) (ratio p))

-- child k, k modulo 8
unfoldable pub child_cube : Cube → ℕ → Cube
unfolding half_cube
child_cube c k = half_cube c (middle_of c) (eqb (k / 4 % 2) 1) (eqb (k / 2 % 2) 1) (eqb (k % 2) 1)

-- the eight halves, by rising number
unfoldable pub split_of : Cube → List Cube
unfolding child_cube
split_of c =
    child_cube c 0 ∷ child_cube c 1 ∷ child_cube c 2 ∷ child_cube c 3 ∷ child_cube c 4 ∷ child_cube c 5 ∷ child_cube c 6 ∷ child_cube c 7 ∷ []

-- which child lies toward p: three comparisons with the middles
unfoldable pub place_of_point : Cube → Point → ℕ
unfolding number_of
place_of_point c p =
    let m = middle_of c in
    number_of (le (ack m) (ack p)) (le (send m) (send p)) (le (ratio m) (ratio p))

unfoldable pub toward_of : Cube → Point → Child
unfolding place_of_point child_cube
toward_of c p = record { number = place_of_point c p; cube = child_cube c (place_of_point c p) }

-- a cube that can be halved again and again: each axis runs from 0 or more up to an end whose double is finite
pub record Axis (lo hi : Float) : Type 0 where
  pub from : End lo
  pub to : End hi
  pub ordered : T (le lo hi)

pub record Whole (c : Cube) : Type 0 where
  pub acks : Axis (ack c.min) (ack c.max)
  pub sends : Axis (send c.min) (send c.max)
  pub ratios : Axis (ratio c.min) (ratio c.max)
