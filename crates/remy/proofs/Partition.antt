-- The eight halves of a cube part it: each point of the cube lies in one child, the one that `place_of_point` names, and a child holds no other point.
-- Assumes nothing.
use mathlib.Core.Path.{◌≡◌, refl, sym, ap, ◌∙◌, subst}
use mathlib.Core.Bool.{Bool, true, false, not, ◌&&◌}
use Prim.Native.Nat.{ℕ, zero, suc, ◌/◌, ◌%◌, ◌<◌}
use native.Mathlib.Omega.{arith}
use lib.Dec.{T, eqb, not_T, lit<}
use lib.Ieee.{Float, add, le, fits}
use lib.Ieee.Bits.{is_true, is_false}
use lib.Ieee.Fits.{and_l, and_r, and_i}
use denote.Floats.{passes}
use Rattle.floats.specs.Interval.{within, middle, End}
use Rattle.floats.proofs.Interval.{middle_between, upper_half, lower_half, cut_lower, cut_upper}
use Rattle.remy.specs.declared.point.Point.{Point}
use Rattle.remy.specs.declared.cube.Cube.{Cube}
use Rattle.remy.specs.declared.cube.Interval.{Interval}
use Rattle.remy.specs.Cube.{ack, send, ratio, root_of, contains_of, middle_of, half_of, half_cube, number_of, child_cube, place_of_point, Axis, Whole}
use Rattle.remy.specs.Cube as cubes
pub use Rattle.remy.proofs.Halves.{child_number}

-- ---- one axis, halved
abbrev part : Float → Float → Bool → Interval
unfolding half_of
part lo hi b = half_of lo (middle lo hi) hi b

module _ (lo hi : Float) (x : Axis lo hi) where
  half_axis : (b : Bool) → Axis (part lo hi b).lo (part lo hi b).hi
  unfolding half_of
  half_axis true = let m = middle_between lo hi x.from x.to x.ordered in record { from = m.end; to = x.to; ordered = m.below }
  half_axis false = let m = middle_between lo hi x.from x.to x.ordered in record { from = x.from; to = m.end; ordered = m.above }

  half_inside : (b : Bool) (p : Float) → T (within (part lo hi b).lo (part lo hi b).hi p) → T (within lo hi p)
  unfolding half_of
  half_inside true p h = let m = middle_between lo hi x.from x.to x.ordered in cut_upper lo (middle lo hi) hi m.above m.below p h
  half_inside false p h = let m = middle_between lo hi x.from x.to x.ordered in cut_lower lo (middle lo hi) hi m.above m.below p h

  -- which half holds p
  half_side : (b : Bool) (p : Float) → T (within lo hi p) → T (within (part lo hi b).lo (part lo hi b).hi p) → b ≡ le (middle lo hi) p
  unfolding half_of
  half_side true p i h = sym (sym (upper_half lo hi x.from x.to x.ordered p i) ∙ is_true (within (middle lo hi) hi p) h)
  half_side false p i h = sym (clear (le (middle lo hi) p) (subst T (lower_half lo hi x.from x.to x.ordered p i) h))
    where
      clear : (b : Bool) → T (not b) → b ≡ false
      clear true t = absurd t
      clear false t = refl

  half_holds : (b : Bool) (p : Float) → T (within lo hi p) → b ≡ le (middle lo hi) p → T (within (part lo hi b).lo (part lo hi b).hi p)
  unfolding half_of
  half_holds true p i e = subst T (e ∙ sym (upper_half lo hi x.from x.to x.ordered p i)) tt
  half_holds false p i e = subst T (ap not e ∙ sym (lower_half lo hi x.from x.to x.ordered p i)) tt

-- ---- whole cubes
module _ (c : Cube) (w : Whole c) where
  whole_half : (a s r : Bool) → Whole (half_cube c (middle_of c) a s r)
  unfolding half_cube
  whole_half a s r = record {
    acks = half_axis (ack c.min) (ack c.max) w.acks a;
    sends = half_axis (send c.min) (send c.max) w.sends s;
    ratios = half_axis (ratio c.min) (ratio c.max) w.ratios r;
  }

  pub whole_child : (k : ℕ) → Whole (child_cube c k)
  unfolding child_cube
  whole_child k = whole_half (eqb (k / 4 % 2) 1) (eqb (k / 2 % 2) 1) (eqb (k % 2) 1)

zero_end : End cubes.zero
unfolding fits le add
zero_end = record { fitting = tt; least = tt; double = tt }

pub whole_root : (e : Point) → End (ack e) → End (send e) → End (ratio e) → Whole (root_of e)
whole_root e a s r = record {
  acks = record { from = zero_end; to = a; ordered = a.least };
  sends = record { from = zero_end; to = s; ordered = s.least };
  ratios = record { from = zero_end; to = r; ordered = r.least };
}

-- ---- the three axes
split_all : (c : Cube) (p : Point) → T (contains_of c p)
    → T (within (ack c.min) (ack c.max) (ack p))
    × (T (within (send c.min) (send c.max) (send p)) × T (within (ratio c.min) (ratio c.max) (ratio p)))
unfolding contains_of
split_all c p h =
    let A = within (ack c.min) (ack c.max) (ack p) in
    let S = within (send c.min) (send c.max) (send p) in
    let R = within (ratio c.min) (ratio c.max) (ratio p) in
    let k = and_r A (S && R) h in
    (and_l A (S && R) h, (and_l S R k, and_r S R k))

join_all : (c : Cube) (p : Point)
    → T (within (ack c.min) (ack c.max) (ack p))
    → T (within (send c.min) (send c.max) (send p))
    → T (within (ratio c.min) (ratio c.max) (ratio p))
    → T (contains_of c p)
unfolding contains_of
join_all c p a s r =
    let S = within (send c.min) (send c.max) (send p) in
    let R = within (ratio c.min) (ratio c.max) (ratio p) in
    and_i (within (ack c.min) (ack c.max) (ack p)) (S && R) a (and_i S R s r)

number_below : (a s r : Bool) → number_of a s r < 8
unfolding number_of
number_below true true true = lit< tt
number_below true true false = lit< tt
number_below true false true = lit< tt
number_below true false false = lit< tt
number_below false true true = lit< tt
number_below false true false = lit< tt
number_below false false true = lit< tt
number_below false false false = lit< tt

past : (j : ℕ) → suc (suc (suc (suc (suc (suc (suc (suc j))))))) < 8 → ⊥
past j h = omega arith

number_bits : (j : ℕ) → j < 8 → number_of (eqb (j / 4 % 2) 1) (eqb (j / 2 % 2) 1) (eqb (j % 2) 1) ≡ j
unfolding number_of
number_bits zero h = refl
number_bits (suc zero) h = refl
number_bits (suc (suc zero)) h = refl
number_bits (suc (suc (suc zero))) h = refl
number_bits (suc (suc (suc (suc zero)))) h = refl
number_bits (suc (suc (suc (suc (suc zero))))) h = refl
number_bits (suc (suc (suc (suc (suc (suc zero)))))) h = refl
number_bits (suc (suc (suc (suc (suc (suc (suc zero))))))) h = refl
number_bits (suc (suc (suc (suc (suc (suc (suc (suc j)))))))) h = absurd (past j h)

module _ (c : Cube) (w : Whole c) (p : Point) where
  half_cube_inside : (a s r : Bool) → T (contains_of (half_cube c (middle_of c) a s r) p) → T (contains_of c p)
  unfolding half_cube
  half_cube_inside a s r h =
      let k = split_all (half_cube c (middle_of c) a s r) p h in
      join_all c p
      (half_inside (ack c.min) (ack c.max) w.acks a (ack p) k.0)
      (half_inside (send c.min) (send c.max) w.sends s (send p) k.1.0)
      (half_inside (ratio c.min) (ratio c.max) w.ratios r (ratio p) k.1.1)

  child_inside_T : (k : ℕ) → T (contains_of (child_cube c k) p) → T (contains_of c p)
  unfolding child_cube
  child_inside_T k h = half_cube_inside (eqb (k / 4 % 2) 1) (eqb (k / 2 % 2) 1) (eqb (k % 2) 1) h

  -- a child's points are the cube's
  pub child_inside : (k : ℕ) → contains_of (child_cube c k) p ≡ true → contains_of c p ≡ true
  child_inside k h = is_true (contains_of c p) (child_inside_T k (passes (contains_of (child_cube c k) p) h))

  pub no_child : contains_of c p ≡ false → (j : ℕ) → contains_of (child_cube c j) p ≡ false
  no_child e j =
      is_false (contains_of (child_cube c j) p)
      (not_T (contains_of (child_cube c j) p) (λ t. subst T e (child_inside_T j t)))

  -- the child toward p holds p
  half_cube_holds : T (contains_of c p)
      → T (contains_of (half_cube c (middle_of c) (le (ack (middle_of c)) (ack p)) (le (send (middle_of c)) (send p)) (le (ratio (middle_of c)) (ratio p))) p)
  unfolding half_cube
  half_cube_holds h =
      let k = split_all c p h in
      join_all
      (half_cube c (middle_of c) (le (ack (middle_of c)) (ack p)) (le (send (middle_of c)) (send p)) (le (ratio (middle_of c)) (ratio p))) p
      (half_holds (ack c.min) (ack c.max) w.acks (le (ack (middle_of c)) (ack p)) (ack p) k.0 refl)
      (half_holds (send c.min) (send c.max) w.sends (le (send (middle_of c)) (send p)) (send p) k.1.0 refl)
      (half_holds (ratio c.min) (ratio c.max) w.ratios (le (ratio (middle_of c)) (ratio p)) (ratio p) k.1.1 refl)

  pub place_holds : contains_of c p ≡ true → contains_of (child_cube c (place_of_point c p)) p ≡ true
  unfolding place_of_point
  place_holds h =
      let a = le (ack (middle_of c)) (ack p) in
      let s = le (send (middle_of c)) (send p) in
      let r = le (ratio (middle_of c)) (ratio p) in
      ap (λ (d : Cube). contains_of d p) (child_number c a s r)
      ∙ is_true (contains_of (half_cube c (middle_of c) a s r) p) (half_cube_holds (passes (contains_of c p) h))

  -- and no other child does
  half_cube_only : (a s r : Bool) → T (contains_of c p) → T (contains_of (half_cube c (middle_of c) a s r) p) → number_of a s r ≡ place_of_point c p
  unfolding half_cube place_of_point
  half_cube_only a s r i h =
      let k = split_all c p i in
      let l = split_all (half_cube c (middle_of c) a s r) p h in
      let x = half_side (ack c.min) (ack c.max) w.acks a (ack p) k.0 l.0 in
      let y = half_side (send c.min) (send c.max) w.sends s (send p) k.1.0 l.1.0 in
      let z = half_side (ratio c.min) (ratio c.max) w.ratios r (ratio p) k.1.1 l.1.1 in
      ap (λ (b : Bool). number_of b s r) x
      ∙ ap (λ (b : Bool). number_of (le (ack (middle_of c)) (ack p)) b r) y
      ∙ ap (λ (b : Bool). number_of (le (ack (middle_of c)) (ack p)) (le (send (middle_of c)) (send p)) b) z

  pub place_only : (j : ℕ) → j < 8 → contains_of (child_cube c j) p ≡ true → j ≡ place_of_point c p
  unfolding child_cube
  place_only j l h =
      let t = passes (contains_of (child_cube c j) p) h in
      sym (number_bits j l)
      ∙ half_cube_only (eqb (j / 4 % 2) 1) (eqb (j / 2 % 2) 1) (eqb (j % 2) 1) (child_inside_T j t) t

pub place_below : (c : Cube) (p : Point) → place_of_point c p < 8
unfolding place_of_point
place_below c p = number_below (le (ack (middle_of c)) (ack p)) (le (send (middle_of c)) (send p)) (le (ratio (middle_of c)) (ratio p))

pub one_child : (c : Cube) → Whole c → (p : Point) → contains_of c p ≡ true
    → (place_of_point c p < 8) × ((contains_of (child_cube c (place_of_point c p)) p ≡ true)
    × ((j : ℕ) → j < 8 → contains_of (child_cube c j) p ≡ true → j ≡ place_of_point c p))
one_child c w p h = (place_below c p, (place_holds c w p h, place_only c w p))

-- the children below the place do not hold p, so that the first child that does, in order of number, is the one at the place
pub first_child_lem : (c : Cube) → Whole c → (p : Point) (j : ℕ) → j < place_of_point c p → contains_of (child_cube c j) p ≡ false
first_child_lem c w p j h = none (contains_of (child_cube c j) p) (λ e. other j (place_of_point c p) h (place_below c p) (place_only c w p j (less j (place_of_point c p) h (place_below c p)) e))
  where
    none : (b : Bool) → (b ≡ true → ⊥) → b ≡ false
    none true f = absurd (f refl)
    none false f = refl

    less : (j n : ℕ) → j < n → n < 8 → j < 8
    less j n h k = omega arith

    other : (j n : ℕ) → j < n → n < 8 → j ≡ n → ⊥
    other j n h k e = omega arith
