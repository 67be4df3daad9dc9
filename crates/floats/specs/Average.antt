-- The running average of gaps, as binary64 computes it.
use Rattle.std.specs.Prelude.{false, negsuc, Float}
use Rattle.std.specs.Float.{fin, binary64}
use Rattle.std.specs.Float.Ieee.{add, mul}

abbrev pub seven_eighths : Float
seven_eighths = fin false 7 (negsuc 2)

abbrev pub one_eighth : Float
one_eighth = fin false 1 (negsuc 2)

-- 01, "0.875 times the old average plus 0.125 times the gap", each operation rounded once
abbrev pub average : Float → Float → Float
average old gap = add binary64 (mul binary64 seven_eighths old) (mul binary64 one_eighth gap)
