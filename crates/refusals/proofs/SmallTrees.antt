-- 02, request 14: 30 is the only check of the next split list, and the list that it gives is the one that comes next. Assumes nothing.
use mathlib.Core.Path.{◌≡◌}
use mathlib.Core.List.{List}
use Prim.Native.Nat.{ℕ}
use Rattle.small_trees.specs.Lists.{up_to}
use Rattle.small_trees.specs.Calls.{after_in, next_order, next_of}
use Rattle.refusals.specs.Told.{maybe_told, told_by}
use Rattle.refusals.proofs.Ways.{maybe_tells}

pub next_told : (n : ℕ) (x : List ℕ) → maybe_told (next_of n x) ≡ told_by (next_order n x) (after_in (up_to n) x)
unfolding next_of
next_told n x = maybe_tells (next_order n x) (after_in (up_to n) x)
