-- A line, stored part after part, and the room that it takes. Assumes nothing.
use mathlib.Core.Path.{◌≡◌}
use mathlib.Core.Bool.{Bool, true, false}
use mathlib.Core.List.{List, [], ◌∷◌}
use Prim.Native.Nat.{ℕ, ◌+◌, ◌<◌, ◌≤◌}
use native.Mathlib.Omega.{arith}
use lib.ListN.{length, length-append}
use Rattle.std.specs.Prelude.{Result, Ok, Err}
use Rattle.refusal.specs.declared.Refusal.{Refusal}
use Rattle.refusal.specs.declared.Refusal.TheVariants.{NotAdmitted, BadSettings, NoLeaf, BadCounts, NoDraw, BadLength, UnknownVersion, BadField, ShortBuffer, NotGrown, FullTree, NotAsked, NoRule, FullTally, NoSplit, BadTrace, ZeroState, UnfitSettings, BadRanges, ShortList, NoSplitList}
use Rattle.refusal.specs.Numbers.{number_of}
use Rattle.sender.specs.declared.Held.{Held}
use Rattle.panel_lines.specs.Panel.{decimal}
use Rattle.panel_lines.specs.Parts.{Wrote}
use Rattle.panel_lines.proofs.Decimal.{decimal_few}
use Rattle.panel_lines.proofs.Lines.{then, named}
use Rattle.trace_lines.specs.Trace.{refusal_line, line_end, window_line, line_of}

-- ---- a refusal
abbrev pub refused : List ℕ
refused = 114 ∷ 101 ∷ 102 ∷ 117 ∷ 115 ∷ 101 ∷ 100 ∷ 32 ∷ []

module _ (k : ℕ) where
  pub refusal_count : length (refusal_line k) ≡ 9 + length (decimal k)
  unfolding refusal_line
  refusal_count = let a = length-append (decimal k) (10 ∷ []) in omega arith

  pub refusal_written : {l l1 l2 l3 : List ℕ} {at a b d : ℕ} → Wrote l at l1 a refused → Wrote l1 a l2 b (decimal k) → Wrote l2 b l3 d (10 ∷ [])
      → Wrote l at l3 d (refusal_line k)
  unfolding refusal_line
  refusal_written p q r = then p (then q r)

-- the number of a refusal has two digits at most
number_few : (r : Refusal) → number_of r < 100
unfolding number_of
number_few NotAdmitted = omega arith
number_few BadSettings = omega arith
number_few NoLeaf = omega arith
number_few BadCounts = omega arith
number_few NoDraw = omega arith
number_few BadLength = omega arith
number_few UnknownVersion = omega arith
number_few BadField = omega arith
number_few ShortBuffer = omega arith
number_few NotGrown = omega arith
number_few FullTree = omega arith
number_few NotAsked = omega arith
number_few NoRule = omega arith
number_few FullTally = omega arith
number_few NoSplit = omega arith
number_few BadTrace = omega arith
number_few ZeroState = omega arith
number_few UnfitSettings = omega arith
number_few BadRanges = omega arith
number_few ShortList = omega arith
number_few NoSplitList = omega arith

pub refusal_few : (r : Refusal) → length (refusal_line (number_of r)) ≤ 11
refusal_few r = let a = decimal_few 1 (number_of r) (number_few r) in omega (arith, refusal_count (number_of r))

-- ---- a window
module _ (w : ℕ) (c : Bool) where
  pub window_count : length (window_line w c) ≡ length (decimal w) + length (line_end c)
  window_count = length-append (decimal w) (line_end c)

  pub window_written : {l l1 l2 : List ℕ} {at a b : ℕ} {xs : List ℕ} → Wrote l at l1 a (decimal w) → xs ≡ line_end c → Wrote l1 a l2 b xs
      → Wrote l at l2 b (window_line w c)
  window_written p e q = then p (named e q)

pub end_clipped : (c : Bool) → c ≡ true → 32 ∷ 99 ∷ 10 ∷ [] ≡ line_end c
unfolding line_end
end_clipped c e = rw e

pub end-plain : (c : Bool) → c ≡ false → 10 ∷ [] ≡ line_end c
unfolding line_end
end-plain c e = rw e

-- ---- a reply
pub line_taken : (r : Result Held Refusal) (h : Held) → r ≡ Ok h → window_line h.window h.clipped ≡ line_of r
unfolding line_of
line_taken r h e = rw e

pub line_refused : (r : Result Held Refusal) (k : Refusal) → r ≡ Err k → refusal_line (number_of k) ≡ line_of r
unfolding line_of
line_refused r k e = rw e
