-- 02, wish 12: memory known only within ranges, and the leaves that some point within them could reach.
use Rattle.std.specs.Prelude.{Bool, ◌&&◌, cond, List, [], ◌∷◌, ℕ, zero, suc, leb, Float, length, Result, Ok}
use Rattle.std.specs.Float.Ieee.{le, lt}
use Rattle.std.proofs.lemmas.List.Edits.{sets}
use Rattle.refusal.specs.declared.Refusal.{Refusal}
use Rattle.refusal.specs.declared.Refusal.TheVariants.{NotGrown, BadRanges, ShortList}
use Rattle.refusal.specs.Guards.{Check, check, checked, pass}
use Rattle.remy.specs.declared.point.Point.{Point}
use Rattle.remy.specs.declared.cube.Cube.{Cube}
use Rattle.remy.specs.Cube.{ack, send, ratio, point_of}
use Rattle.rule_tree.specs.declared.RuleTree.{RuleTree}
use Rattle.rule_tree.specs.Nodes.{is_leaf_of, node_count}
use Rattle.rule_tree.specs.Grown.{grown_of}
use Rattle.rule_tree.specs.Cubes.{cube_of}
use Rattle.ranges.specs.declared.Ranges.{Ranges}

-- "each average and the ratio as a lowest and a highest value": the lowest of each, and the highest
abbrev pub lowest_of : Ranges → Point
lowest_of r = point_of r.ack_ewma.lowest r.send_ewma.lowest r.rtt_ratio.lowest

abbrev pub highest_of : Ranges → Point
highest_of r = point_of r.ack_ewma.highest r.send_ewma.highest r.rtt_ratio.highest

-- on each of the three axes
abbrev pub each : ((Point → Float) → Bool) → Bool
each holds = holds ack && (holds send && holds ratio)

-- 28: "A NaN end or a lowest above its highest is refused"; lo <= hi is false where one of them is NaN, and infinities are ends as any other
abbrev pub ordered_of : Ranges → Bool
ordered_of r = each (λ axis. le (axis (lowest_of r)) (axis (highest_of r)))

-- the test of one axis: lo..hi, both counted, meets min..max, its upper end left out
abbrev pub meets : Float → Float → Float → Float → Bool
meets lo hi min max = lt lo max && (le min hi && lt min max)

unfoldable pub reachable : Cube → Ranges → Bool
reachable c r = each (λ axis. meets (axis (lowest_of r)) (axis (highest_of r)) (axis c.min) (axis c.max))

-- ---- "by rising node, each once, none missing"
-- of the n numbers from i on, those that pass
unfoldable pub passing : (ℕ → Bool) → ℕ → ℕ → List ℕ
passing holds i zero = []
passing holds i (suc n) = cond (holds i) (i ∷ passing holds (suc i) n) (passing holds (suc i) n)

abbrev pub reached_leaf : RuleTree → Ranges → ℕ → Bool
reached_leaf t r i = is_leaf_of t.nodes i && reachable (cube_of t i) r

abbrev pub leaves_within : RuleTree → Ranges → List ℕ
leaves_within t r = passing (reached_leaf t r) 0 (node_count t.splits)

-- ---- the call
-- "refused with 28 and then a list shorter than the number of leaves found with 29"
abbrev pub ranges_order : RuleTree → Ranges → List ℕ → List Check
ranges_order t r xs =
    check (grown_of t) NotGrown ∷ check (ordered_of r) BadRanges ∷ check (leb (length (leaves_within t r)) (length xs)) ShortList ∷ []

-- "their number is returned"
unfoldable pub leaves_of : RuleTree → Ranges → List ℕ → Result ℕ Refusal
leaves_of t r xs = checked (ranges_order t r xs) (Ok (length (leaves_within t r)))

-- "They are written to a lent list by rising node"; "the rest of the list is unchanged", and all of it where the call is refused
unfoldable pub list_after : RuleTree → Ranges → List ℕ → List ℕ
list_after t r xs = cond (pass (ranges_order t r xs)) (sets xs 0 (leaves_within t r)) xs
