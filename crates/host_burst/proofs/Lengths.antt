-- The test of the lengths is that of a burst over values, a window being four bytes. Assumes nothing.
use mathlib.Core.Path.{◌≡◌, refl, ap}
use mathlib.Core.Bool.{Bool, true, false, ◌&&◌}
use Prim.Native.Nat.{ℕ, ◌*◌, ◌/◌}
use native.Mathlib.Omega.{arith}
use borrow.Author.Tests.{leb-true, leb-false, le-leb, lt-leb}
use lib.Dec.{leb}
use Rattle.sender.specs.Burst.{room_for}
use Rattle.host_burst.specs.Bursts.{fits}

-- a window in four bytes for each ack
fourth : (n w : ℕ) → leb n (w / 4) ≡ leb (4 * n) w
fourth n w = go (leb (4 * n) w) refl
  where
    go : (b : Bool) → leb (4 * n) w ≡ b → leb n (w / 4) ≡ b
    go true e = let l = leb-true (4 * n) w e in le-leb n (w / 4) (omega arith)
    go false e = let l = leb-false (4 * n) w e in lt-leb n (w / 4) (omega arith)

pub has_room : (n w f : ℕ) → room_for n (w / 4) f ≡ fits n w f
unfolding room_for
has_room n w f = ap (λ (b : Bool). leb n 256 && (b && leb n f)) (fourth n w)
