-- What is known of the ends of a tree, of the box that they make, and of the shorter of two round trips. Assumes nothing.
use mathlib.Core.Path.{◌≡◌}
use mathlib.Core.Bool.{true, ◌&&◌}
use lib.Dec.{T}
use lib.Ieee.{Float, le, lt, eq}
use lib.Ieee.Bits.{is_true}
use lib.Ieee.Fits.{and_l, and_r, and_i}
use denote.Floats.{passes}
use Rattle.refusal.proofs.Guards.{either}
use Rattle.floats.specs.Interval.{within}
use Rattle.floats.proofs.Order.{or_r, lt_le_trans}
use Rattle.floats.proofs.Zero.{0f}
use Rattle.remy.specs.declared.point.Point.{Point}
use Rattle.remy.specs.Cube.{ack, send, ratio, least_end, point_equal, root_of, contains_of}
use Rattle.remy.proofs.Ends.{ends_from_one, equal_ends}
use Rattle.rule_tree.specs.declared.RuleTree.{RuleTree}
use Rattle.rule_tree.proofs.Links.{grown_admitted}
use Rattle.chart_laws.specs.Chart.{shorter_of, GrownWith}

-- a value below an end is below what the end equals
wider : (end d x : Float) → T (eq end d) → T (within 0f end x) → T (within 0f d x)
unfolding le
wider end d x q w =
    and_i (le 0f x) (lt x d) (and_l (le 0f x) (lt x end) w) (lt_le_trans x end d (and_r (le 0f x) (lt x end) w) (or_r (lt end d) (eq end d) q))

module _ (ends : Point) (t : RuleTree) (c : GrownWith ends t) where
  -- the ends are 1 or more
  pub ends-one : T (le least_end (ack ends)) × (T (le least_end (send ends)) × T (le least_end (ratio ends)))
  ends-one = ends_from_one ends (equal_ends ends t.ends c.same (grown_admitted t c.grown))

  -- a point in the box of these ends is in the tree's
  pub in_box_lem : (p : Point) → T (within 0f (ack ends) (ack p)) → T (within 0f (send ends) (send p)) → T (within 0f (ratio ends) (ratio p))
      → contains_of (root_of t.ends) p ≡ true
  unfolding contains_of point_equal
  in_box_lem p a s r =
      let e = t.ends in
      let A = eq (ack ends) (ack e) in
      let S = eq (send ends) (send e) in
      let R = eq (ratio ends) (ratio e) in
      let h = passes (A && (S && R)) c.same in
      let k = and_r A (S && R) h in
      is_true (contains_of (root_of e) p)
      (and_i (within 0f (ack e) (ack p)) (within 0f (send e) (send p) && within 0f (ratio e) (ratio p))
      (wider (ack ends) (ack e) (ack p) (and_l A (S && R) h) a)
      (and_i (within 0f (send e) (send p)) (within 0f (ratio e) (ratio p))
      (wider (send ends) (send e) (send p) (and_l S R k) s) (wider (ratio ends) (ratio e) (ratio p) (and_r S R k) r)))

pub shorter_above : (m y : Float) → T (lt 0f m) → T (lt 0f y) → T (lt 0f (shorter_of m y))
shorter_above m y p q = either (λ (z : Float). T (lt 0f z)) (lt y m) q p
