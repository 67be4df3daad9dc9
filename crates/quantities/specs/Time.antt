-- 01, "quantities": moments, spans and what may be done with them. Each operation is binary64's, rounded once.
use Rattle.std.specs.Prelude.{Bool, false, ◌&&◌, cond, [], ◌∷◌, pos, Float, Result, Ok}
use Rattle.std.specs.Float.{fin, binary64}
use Rattle.std.specs.Float.Ieee.{add, sub, mul, div, le, lt, eq}
use Rattle.refusal.specs.declared.Refusal.{Refusal}
use Rattle.refusal.specs.declared.Refusal.TheVariants.{NotAdmitted}
use Rattle.refusal.specs.Guards.{check, checked}
use Rattle.quantities.specs.declared.TimeSpan.{TimeSpan}
use Rattle.quantities.specs.declared.Time.{Time}

-- "A span and a moment are seconds"
abbrev pub span : Float → TimeSpan
span x = record { 0 = x }

abbrev pub moment : Float → Time
moment x = record { 0 = x }

abbrev pub thousand : Float
thousand = fin false 125 (pos 3)

abbrev pub sum_of : TimeSpan → TimeSpan → TimeSpan
sum_of a b = span (add binary64 a.0 b.0)

abbrev pub scaled : Float → TimeSpan → TimeSpan
scaled k a = span (mul binary64 k a.0)

abbrev pub ratio_of : TimeSpan → TimeSpan → Float
ratio_of a b = div binary64 a.0 b.0

abbrev pub shorter : TimeSpan → TimeSpan → Bool
shorter a b = lt a.0 b.0

-- "Moment minus moment is a span"
abbrev pub between : Time → Time → TimeSpan
between t earlier = span (sub binary64 t.0 earlier.0)

abbrev pub moved : Time → TimeSpan → Time
moved t by = moment (add binary64 t.0 by.0)

-- "the greater of": b where a < b, else a
abbrev pub later_of : Time → Time → Time
later_of a b = cond (lt a.0 b.0) b a

-- "A moment is admitted from 0 to 4,294,967,296, both included"
abbrev pub admitted : Float → Bool
admitted x = le (fin false 0 (pos 0)) x && le x (fin false 1 (pos 32))

-- "-0 is read as +0"
abbrev pub read_moment : Float → Float
read_moment x = cond (eq x (fin false 0 (pos 0))) (fin false 0 (pos 0)) x

-- refusal 1: "moment not admitted"
unfoldable pub admit_of : Float → Result Time Refusal
admit_of x = checked (check (admitted x) NotAdmitted ∷ []) (Ok (moment (read_moment x)))
