-- A point within the ranges lies in a cube exactly where the test of each axis passes: then the greater of the two lower ends is one.
-- Assumes nothing.
use mathlib.Core.Path.{◌≡◌}
use mathlib.Core.Bool.{Bool, true, ◌&&◌}
use mathlib.Core.Logic.{◌↔◌, inl, inr}
use lib.Dec.{T}
use lib.Ieee.{Float, binary64, le, lt, fits}
use lib.Ieee.Bits.{is_true}
use lib.Ieee.Fits.{and_l, and_r, and_i}
use denote.Floats.{passes}
use Rattle.floats.specs.Interval.{within}
use Rattle.floats.proofs.Order.{same_test, le_nn_l, le_nn_r, le_self, le-or-lt, lt→le, le_lt_trans, le_le_trans}
use Rattle.remy.specs.declared.point.Point.{Point}
use Rattle.remy.specs.declared.cube.Cube.{Cube}
use Rattle.remy.specs.Cube.{ack, send, ratio, point_of, contains_of}
use Rattle.ranges.specs.declared.Ranges.{Ranges}
use Rattle.ranges.specs.Ranges.{lowest_of, highest_of, each, ordered_of, meets, reachable}
use Rattle.ranges.specs.Reached.{between, in_ranges, Fits, Met, point_ranges}

-- ---- three tests in a row
pub split_3 : (a b c : Bool) → T (a && (b && c)) → T a × (T b × T c)
split_3 a b c h = let k = and_r a (b && c) h in (and_l a (b && c) h, (and_l b c k, and_r b c k))

pub join_3 : (a b c : Bool) → T a → T b → T c → T (a && (b && c))
join_3 a b c p q r = and_i a (b && c) p (and_i b c q r)

-- ---- one axis
module _ (lo hi min max : Float) where
  -- a value of both passes the test
  pub meets_from : (x : Float) → T (between lo hi x) → T (within min max x) → T (meets lo hi min max)
  meets_from x b w =
      let l = and_l (le lo x) (le x hi) b in
      let h = and_r (le lo x) (le x hi) b in
      let m = and_l (le min x) (lt x max) w in
      let u = and_r (le min x) (lt x max) w in
      join_3 (lt lo max) (le min hi) (lt min max) (le_lt_trans lo x max l u) (le_le_trans min x hi m h) (le_lt_trans min x max m u)

  -- and where it passes the greater of lo and min is a value of both
  pub record Both : Type 0 where
    pub value : Float
    pub fitting : T (fits binary64 lo) → T (fits binary64 min) → T (fits binary64 value)
    pub between : T (between lo hi value)
    pub within : T (within min max value)

  pub meets_gives : T (le lo hi) → T (meets lo hi min max) → Both
  meets_gives o t =
      let k = split_3 (lt lo max) (le min hi) (lt min max) t in
      let nl = le_nn_l lo hi o in
      let nm = le_nn_l min hi k.1.0 in
      elim (le-or-lt lo min nl nm) [
        | inl b ↦ record {
          value = min;
          fitting = λ f g. g;
          between = and_i (le lo min) (le min hi) (lt→le lo min b) k.1.0;
          within = and_i (le min min) (lt min max) (le_self min nm) k.1.1;
        }
        | inr a ↦ record {
          value = lo;
          fitting = λ f g. f;
          between = and_i (le lo lo) (le lo hi) (le_self lo nl) o;
          within = and_i (le min lo) (lt lo max) a k.0;
        }
      ]

-- with equal ends the test is the one of the value itself
meets_held : (x min max : Float) → T (meets x x min max) → T (within min max x)
meets_held x min max t =
    let k = split_3 (lt x max) (le min x) (lt min max) t in
    and_i (le min x) (lt x max) k.1.0 k.0

held_meets : (x min max : Float) → T (within min max x) → T (meets x x min max)
held_meets x min max w =
    let s = le_self x (le_nn_r min x (and_l (le min x) (lt x max) w)) in
    meets_from x x min max x (and_i (le x x) (le x x) s s) w

-- ---- the three axes
split_each_lem : (f : (Point → Float) → Bool) → T (each f) → T (f ack) × (T (f send) × T (f ratio))
split_each_lem f t = split_3 (f ack) (f send) (f ratio) t

join_each : (f : (Point → Float) → Bool) → T (f ack) → T (f send) → T (f ratio) → T (each f)
join_each f a s r = join_3 (f ack) (f send) (f ratio) a s r

each_from : (f g h : (Point → Float) → Bool) → ((axis : Point → Float) → T (f axis) → T (g axis) → T (h axis))
    → T (each f) → T (each g) → T (each h)
each_from f g h k s t =
    let x = split_each_lem f s in
    let y = split_each_lem g t in
    join_each h (k ack x.0 y.0) (k send x.1.0 y.1.0) (k ratio x.1.1 y.1.1)

module _ (c : Cube) (r : Ranges) where
  abbrev ordered : (Point → Float) → Bool
  ordered axis = le (axis (lowest_of r)) (axis (highest_of r))

  abbrev ranged : Point → (Point → Float) → Bool
  ranged p axis = between (axis (lowest_of r)) (axis (highest_of r)) (axis p)

  abbrev held : Point → (Point → Float) → Bool
  held p axis = within (axis c.min) (axis c.max) (axis p)

  abbrev met : (Point → Float) → Bool
  met axis = meets (axis (lowest_of r)) (axis (highest_of r)) (axis c.min) (axis c.max)

  reach_from : (p : Point) → T (in_ranges r p) → T (contains_of c p) → T (reachable c r)
  unfolding in_ranges contains_of reachable
  reach_from p b w =
      each_from (ranged p) (held p) met (λ axis s t. meets_from (axis (lowest_of r)) (axis (highest_of r)) (axis c.min) (axis c.max) (axis p) s t) b w

  on : (axis : Point → Float) → T (ordered axis) → T (met axis) → Both (axis (lowest_of r)) (axis (highest_of r)) (axis c.min) (axis c.max)
  on axis o t = meets_gives (axis (lowest_of r)) (axis (highest_of r)) (axis c.min) (axis c.max) o t

  reach_gives : Fits c.min → Fits (lowest_of r) → T (ordered_of r) → T (reachable c r) → Met c r
  unfolding in_ranges contains_of reachable
  reach_gives f g o t =
      let x = split_each_lem ordered o in
      let y = split_each_lem met t in
      let a = on ack x.0 y.0 in
      let s = on send x.1.0 y.1.0 in
      let q = on ratio x.1.1 y.1.1 in
      let p = point_of a.value s.value q.value in
      record {
        point = p;
        fitting = record { acks = a.fitting g.acks f.acks; sends = s.fitting g.sends f.sends; ratios = q.fitting g.ratios f.ratios };
        within = is_true (in_ranges r p) (join_each (ranged p) a.between s.between q.between);
        inside = is_true (contains_of c p) (join_each (held p) a.within s.within q.within);
      }

  -- some point within the ranges lies in the cube exactly where, on each axis, lo < max, min <= hi and min < max
  pub met_exactly : Fits c.min → Fits (lowest_of r) → ordered_of r ≡ true → Met c r ↔ (reachable c r ≡ true)
  met_exactly f g o = (
    λ m. is_true (reachable c r) (reach_from m.point (passes (in_ranges r m.point) m.within) (passes (contains_of c m.point) m.inside)),
    λ t. reach_gives f g (passes (ordered_of r) o) (passes (reachable c r) t),
  )

-- "Where both ends are equal on all three axes": the test is whether the cube holds the point
pub point_range : (c : Cube) (p : Point) → reachable c (point_ranges p) ≡ contains_of c p
unfolding reachable contains_of
point_range c p =
    let r : Ranges = point_ranges p in
    same_test (reachable c r) (contains_of c p)
    (λ t. each_from (met c r) (met c r) (held c r p) (λ axis s u. meets_held (axis p) (axis c.min) (axis c.max) s) t t)
    (λ w. each_from (held c r p) (held c r p) (met c r) (λ axis s u. held_meets (axis p) (axis c.min) (axis c.max) s) w w)
