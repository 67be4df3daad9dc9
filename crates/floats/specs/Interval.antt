-- Intervals of binary64, closed below and open above, and the middle at which one is halved.
use Rattle.std.specs.Prelude.{Bool, false, ◌&&◌, T, pos, Float}
use Rattle.std.specs.Float.{fin, binary64}
use Rattle.std.specs.Float.Ieee.{add, div, le, lt, fits}
use Rattle.std.specs.Float.Ieee.Scale.{finite}

-- 01, "contains: min <= p < max"
abbrev pub within : Float → Float → Float → Bool
within lo hi x = le lo x && lt x hi

-- 01, "each middle is (max + min) / 2"
abbrev pub middle : Float → Float → Float
middle lo hi = div binary64 (add binary64 hi lo) (fin false 1 (pos 1))

-- an end of an interval that can be halved: a binary64 of 0 or more (-0 too) whose double is finite
pub record End (x : Float) : Type 0 where
  pub fitting : T (fits binary64 x)
  pub least : T (le (fin false 0 (pos 0)) x)
  pub double : T (finite (add binary64 x x))
