-- An ack's refusal has a number above 0, as every refusal has. Assumes nothing.
use mathlib.Core.Path.{◌≡◌}
use mathlib.Core.Logic.{◌≢◌}
use Prim.Native.Nat.{ℕ, ◌<◌}
use native.Mathlib.Omega.{arith}
use lib.Ieee.{Float}
use Rattle.std.specs.Prelude.{Option, Err}
use Rattle.refusal.specs.declared.Refusal.{Refusal}
use Rattle.refusal.specs.declared.Refusal.TheVariants.{NotAdmitted, BadSettings, NoLeaf, BadCounts, NoDraw, BadLength, UnknownVersion, BadField, ShortBuffer, NotGrown, FullTree, NotAsked, NoRule, FullTally, NoSplit, BadTrace, ZeroState, UnfitSettings, BadRanges, ShortList, NoSplitList}
use Rattle.refusal.specs.Numbers.{number_of}
use Rattle.rule_tree.specs.declared.RuleTree.{RuleTree}
use Rattle.sender.specs.declared.Sender.{Sender}
use Rattle.sender.specs.Sender.{ack_of}

pub above_0 : (r : Refusal) → 0 < number_of r
unfolding number_of
above_0 NotAdmitted = omega arith
above_0 BadSettings = omega arith
above_0 NoLeaf = omega arith
above_0 BadCounts = omega arith
above_0 NoDraw = omega arith
above_0 BadLength = omega arith
above_0 UnknownVersion = omega arith
above_0 BadField = omega arith
above_0 ShortBuffer = omega arith
above_0 NotGrown = omega arith
above_0 FullTree = omega arith
above_0 NotAsked = omega arith
above_0 NoRule = omega arith
above_0 FullTally = omega arith
above_0 NoSplit = omega arith
above_0 BadTrace = omega arith
above_0 ZeroState = omega arith
above_0 UnfitSettings = omega arith
above_0 BadRanges = omega arith
above_0 ShortList = omega arith
above_0 NoSplitList = omega arith

pub stopped_for : (t : RuleTree) (s : Sender) (sent received : Float) (draw : Option ℕ) {r : Refusal} → ack_of t s sent received draw ≡ Err r → number_of r ≢ 0
stopped_for t s sent received draw {r} e z = let p = above_0 r in let q : number_of r ≡ 0 = z in omega arith
