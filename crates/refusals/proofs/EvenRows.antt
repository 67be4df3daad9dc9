-- 02, request 13: no point is refused. Assumes nothing.
use mathlib.Core.Path.{◌≡◌, refl}
use Prim.Native.Nat.{ℕ}
use Rattle.std.specs.Prelude.{Option, Some, None}
use Rattle.remy.specs.declared.point.Point.{Point}
use Rattle.even.specs.Even.{row_of}
use Rattle.refusals.specs.Told.{option_told}

pub row_taken : (p : Point) → (option_told (row_of p)).number ≡ 0
unfolding option_told
row_taken p = go (row_of p)
  where
    go : (r : Option ℕ) → (option_told r).number ≡ 0
    go (Some r) = refl
    go None = refl
