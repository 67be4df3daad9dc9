-- Points that are equal to one are equal to each other, axis by axis. Assumes nothing.
use mathlib.Core.Path.{◌≡◌}
use mathlib.Core.Bool.{true, ◌&&◌}
use lib.Ieee.{eq}
use lib.Ieee.Bits.{is_true}
use lib.Ieee.Fits.{and_l, and_r, and_i}
use denote.Floats.{passes}
use Rattle.std.proofs.lemmas.Float.{eq_trans}
use Rattle.remy.specs.declared.point.Point.{Point}
use Rattle.remy.specs.Cube.{ack, send, ratio, point_equal}

pub points_through : (p q r : Point) → point_equal p q ≡ true → point_equal q r ≡ true → point_equal p r ≡ true
unfolding point_equal
points_through p q r h k =
    let a = passes (eq (ack p) (ack q) && (eq (send p) (send q) && eq (ratio p) (ratio q))) h in
    let b = passes (eq (ack q) (ack r) && (eq (send q) (send r) && eq (ratio q) (ratio r))) k in
    let a' = and_r (eq (ack p) (ack q)) (eq (send p) (send q) && eq (ratio p) (ratio q)) a in
    let b' = and_r (eq (ack q) (ack r)) (eq (send q) (send r) && eq (ratio q) (ratio r)) b in
    is_true (point_equal p r)
    (and_i (eq (ack p) (ack r)) (eq (send p) (send r) && eq (ratio p) (ratio r))
    (eq_trans (ack p) (ack q) (ack r) (and_l (eq (ack p) (ack q)) (eq (send p) (send q) && eq (ratio p) (ratio q)) a) (and_l (eq (ack q) (ack r)) (eq (send q) (send r) && eq (ratio q) (ratio r)) b))
    (and_i (eq (send p) (send r)) (eq (ratio p) (ratio r))
    (eq_trans (send p) (send q) (send r) (and_l (eq (send p) (send q)) (eq (ratio p) (ratio q)) a') (and_l (eq (send q) (send r)) (eq (ratio q) (ratio r)) b'))
    (eq_trans (ratio p) (ratio q) (ratio r) (and_r (eq (send p) (send q)) (eq (ratio p) (ratio q)) a') (and_r (eq (send q) (send r)) (eq (ratio q) (ratio r)) b'))))
