-- The sizes of a layout's parts: at most 24 bytes of ends and every node; and the records of the layouts that versions name. Assumes nothing.
use mathlib.Core.Path.{◌≡◌}
use mathlib.Core.Bool.{Bool, true, false, cond}
use Prim.Native.Nat.{ℕ, ◌+◌, ◌*◌, ◌≤◌}
use native.Mathlib.Omega.{arith}
use Rattle.record.specs.declared.inner.layout.Layout.{Layout}
use Rattle.record.specs.Layout.{layout_of, ends_size, nodes_in, size_in}

pub ends_few : (lay : Layout) → ends_size lay ≤ 24
unfolding ends_size
ends_few lay = go lay.ends
  where
    go : (b : Bool) → cond b 24 0 ≤ 24
    go true = omega arith
    go false = omega arith

pub nodes_few : (lay : Layout) (s : ℕ) → nodes_in lay s ≤ 1 + 8 * s
unfolding nodes_in
nodes_few lay s = go lay.parents
  where
    go : (b : Bool) → cond b (1 + 8 * s) (1 + 7 * s) ≤ 1 + 8 * s
    go true = omega arith
    go false = omega arith

-- no record has more bytes than 11,076
pub size_most : (lay : Layout) (s : ℕ) → s ≤ 64 → size_in lay s ≤ 11076
size_most lay s l = let e = ends_few lay in let n = nodes_few lay s in omega arith

-- 172 + 149 s in version 1; 172 + 170 s with every node; 196 + 170 s with the ends too
pub size_first : (s : ℕ) → size_in (layout_of 1) s ≡ 172 + 149 * s
unfolding ends_size nodes_in
size_first s = omega arith

pub size_second : (s : ℕ) → size_in (layout_of 2) s ≡ 172 + 170 * s
unfolding ends_size nodes_in
size_second s = omega arith

pub size_third : (s : ℕ) → size_in (layout_of 3) s ≡ 196 + 170 * s
unfolding ends_size nodes_in
size_third s = omega arith
