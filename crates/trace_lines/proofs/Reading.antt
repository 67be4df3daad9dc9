-- The tests of a trace's start. Assumes nothing.
use mathlib.Core.Path.{◌≡◌}
use mathlib.Core.Bool.{true, false}
use mathlib.Core.List.{List}
use Prim.Native.Nat.{ℕ, ◌-◌, ◌<◌, ◌≤◌}
use native.Mathlib.Omega.{arith}
use borrow.Author.Tests.{eq-eqb, le-leb, lt-leb}
use lib.ListN.{length, get_or}
use Rattle.wire.specs.Bytes.{number_at}
use Rattle.trace_lines.specs.Trace.{start_of}

module _ (bytes : List ℕ) where
  pub start_over : 32768 < length bytes → start_of bytes ≡ false
  unfolding start_of
  start_over l = rw (le-leb 5 (length bytes) (omega arith), lt-leb (length bytes) 32768 l)

  pub start_so : 5 ≤ length bytes → length bytes ≤ 32768 → number_at bytes 0 4 ≡ length bytes - 4 → get_or bytes 4 0 ≡ 1 → start_of bytes ≡ true
  unfolding start_of
  start_so l h e v = rw (le-leb 5 (length bytes) l, le-leb (length bytes) 32768 h, eq-eqb (number_at bytes 0 4) (length bytes - 4) e, eq-eqb (get_or bytes 4 0) 1 v)
