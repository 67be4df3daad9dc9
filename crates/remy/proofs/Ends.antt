-- Upper ends from 1 to 1,000,000 make a box that can be halved again and again; what equals such ends is such, and the usual ends are. Assumes nothing.
use mathlib.Core.Path.{◌≡◌, refl}
use mathlib.Core.Bool.{Bool, true, false, ◌&&◌, ◌||◌, beq}
use Prim.Native.Nat.{◌*◌}
use borrow.Author.Tests.{eq-eqb}
use lib.Dec.{T, eqb}
use lib.Ieee.{Float, nan, inf, fin, up, down, binary64, add, eq, le, lt, fits}
use lib.Ieee.Bits.{is_true}
use lib.Ieee.Fits.{and_l, and_r, and_i}
use denote.Floats.{passes}
use Rattle.std.proofs.lemmas.Float.{eq_flip, le_of_eq}
use Rattle.floats.specs.Interval.{End}
use Rattle.floats.proofs.Order.{or_l, le_le_trans, lt_le_trans}
use Rattle.floats.proofs.Same.{equal_same}
use Rattle.floats.proofs.Zero.{Some, between_some, add_mono_some, add_min}
use Rattle.remy.specs.declared.point.Point.{Point}
use Rattle.remy.specs.Cube.{ack, send, ratio, least_end, most_end, end_admitted, ends_admitted, point_equal, usual_ends, root_of, Whole}
use Rattle.remy.specs.Cube as cubes
use Rattle.remy.proofs.Partition.{whole_root}

-- ---- one end
most_some : Some most_end
unfolding le
most_some = record { fin = tt; min = tt }

module _ (x : Float) (h : T (end_admitted x)) where
  from_one : T (le least_end x)
  from_one = and_l (le least_end x) (le x most_end) h

  to-most : T (le x most_end)
  to-most = and_r (le least_end x) (le x most_end) h

  above_zero : T (le cubes.zero x)
  unfolding le
  above_zero = le_le_trans cubes.zero least_end x tt from_one

  end_some : Some x
  end_some = between_some x most_end above_zero to-most tt

  admitted_end : T (fits binary64 x) → End x
  unfolding add
  admitted_end f = record {
    fitting = f;
    least = above_zero;
    double =
        (between_some (add binary64 x x) (add binary64 most_end most_end) (add_min binary64 x x end_some end_some)
        (add_mono_some binary64 x most_end x most_end end_some most_some end_some most_some to-most to-most)
        tt
        ).fin;
  }

  equal_admitted : (z : Float) → T (eq z x) → T (end_admitted z)
  equal_admitted z e =
      and_i (le least_end z) (le z most_end) (le_le_trans least_end x z from_one (le_of_eq x z (eq_flip z x e)))
      (le_le_trans z x most_end (le_of_eq z x e) to-most)

above_zero_strictly : (y : Float) → T (end_admitted y) → T (lt cubes.zero y)
unfolding lt
above_zero_strictly y k = lt_le_trans cubes.zero least_end y tt (and_l (le least_end y) (le y most_end) k)

-- an end that equals another, and fits as it does, is the same
equal_end : (x : Float) → T (end_admitted x) → (z : Float) → T (fits binary64 z) → T (fits binary64 x) → T (eq z x) → z ≡ x
equal_end x h z f g e = equal_same binary64 z x f g (above_zero_strictly z (equal_admitted x h z e)) (above_zero_strictly x h) e

beq_self : (s : Bool) → T (beq s s)
beq_self true = tt
beq_self false = tt

end_itself : (x : Float) → T (end_admitted x) → T (eq x x)
unfolding eq le lt
end_itself nan h = absurd h
end_itself (inf s) h = beq_self s
end_itself (fin s m e) h =
    and_i (eqb (m * up e * down e) (m * up e * down e)) (beq s s || eqb (m * up e * down e) 0)
    (passes (eqb (m * up e * down e) (m * up e * down e)) (eq-eqb (m * up e * down e) (m * up e * down e) refl))
    (or_l (beq s s) (eqb (m * up e * down e) 0) (beq_self s))

-- ---- the three axes
pub record Admitted (e : Point) : Type 0 where
  pub acks : T (end_admitted (ack e))
  pub sends : T (end_admitted (send e))
  pub ratios : T (end_admitted (ratio e))

admitted_axes : (e : Point) → ends_admitted e ≡ true → Admitted e
unfolding ends_admitted
admitted_axes e h =
    let A = end_admitted (ack e) in
    let S = end_admitted (send e) in
    let R = end_admitted (ratio e) in
    let t = passes (A && (S && R)) h in
    let k = and_r A (S && R) t in
    record { acks = and_l A (S && R) t; sends = and_l S R k; ratios = and_r S R k }

-- each end is 1 or more
pub ends_from_one : (e : Point) → ends_admitted e ≡ true → T (le least_end (ack e)) × (T (le least_end (send e)) × T (le least_end (ratio e)))
ends_from_one e h =
    let a = admitted_axes e h in
    (from_one (ack e) a.acks, (from_one (send e) a.sends, from_one (ratio e) a.ratios))

pub whole_admitted : (e : Point) → T (fits binary64 (ack e)) → T (fits binary64 (send e)) → T (fits binary64 (ratio e)) → ends_admitted e ≡ true → Whole (root_of e)
whole_admitted e f g k h =
    let a = admitted_axes e h in
    whole_root e (admitted_end (ack e) a.acks f) (admitted_end (send e) a.sends g) (admitted_end (ratio e) a.ratios k)

pub equal_ends : (e u : Point) → point_equal e u ≡ true → ends_admitted u ≡ true → ends_admitted e ≡ true
unfolding ends_admitted point_equal
equal_ends e u p h =
    let a = admitted_axes u h in
    let x = eq (ack e) (ack u) in
    let y = eq (send e) (send u) in
    let z = eq (ratio e) (ratio u) in
    let t = passes (x && (y && z)) p in
    let k = and_r x (y && z) t in
    is_true (ends_admitted e)
    (and_i (end_admitted (ack e)) (end_admitted (send e) && end_admitted (ratio e)) (equal_admitted (ack u) a.acks (ack e) (and_l x (y && z) t))
    (and_i (end_admitted (send e)) (end_admitted (ratio e)) (equal_admitted (send u) a.sends (send e) (and_l y z k))
    (equal_admitted (ratio u) a.ratios (ratio e) (and_r y z k))))

-- ends that equal admitted ones, and fit as they do, are the same
pub same_ends : (e u : Point) → (T (fits binary64 (ack e)) × (T (fits binary64 (send e)) × T (fits binary64 (ratio e))))
    → (T (fits binary64 (ack u)) × (T (fits binary64 (send u)) × T (fits binary64 (ratio u))))
    → point_equal e u ≡ true → ends_admitted u ≡ true → e ≡ u
unfolding point_equal
same_ends e u f g p h =
    let a = admitted_axes u h in
    let x = eq (ack e) (ack u) in
    let y = eq (send e) (send u) in
    let z = eq (ratio e) (ratio u) in
    let t = passes (x && (y && z)) p in
    let k = and_r x (y && z) t in
    rebuilt (equal_end (ack u) a.acks (ack e) f.0 g.0 (and_l x (y && z) t))
    (equal_end (send u) a.sends (send e) f.1.0 g.1.0 (and_l y z k))
    (equal_end (ratio u) a.ratios (ratio e) f.1.1 g.1.1 (and_r y z k))
  where
    rebuilt : ack e ≡ ack u → send e ≡ send u → ratio e ≡ ratio u → e ≡ u
    rebuilt p q r = λ j. cubes.point_of (p j) (q j) (r j)

-- admitted ends equal themselves
pub ends_themselves : (e : Point) → ends_admitted e ≡ true → point_equal e e ≡ true
unfolding point_equal
ends_themselves e h =
    let a = admitted_axes e h in
    is_true (point_equal e e)
    (and_i (eq (ack e) (ack e)) (eq (send e) (send e) && eq (ratio e) (ratio e)) (end_itself (ack e) a.acks)
    (and_i (eq (send e) (send e)) (eq (ratio e) (ratio e)) (end_itself (send e) a.sends) (end_itself (ratio e) a.ratios)))

pub usual_admitted : ends_admitted usual_ends ≡ true
unfolding ends_admitted le
usual_admitted = refl
