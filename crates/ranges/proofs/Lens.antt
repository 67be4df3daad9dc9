-- In the tree whose root was split once: ranges without ends list all eight leaves, a highest value at a lower end lists that leaf, and a lowest at an upper end
-- leaves its leaf out. Assumes nothing.
use mathlib.Core.Path.{◌≡◌, refl}
use mathlib.Core.Bool.{true, false}
use mathlib.Core.List.{[], ◌∷◌}
use lib.IntN.{pos}
use lib.Ieee.{Float, inf, fin, add, div, le, lt}
use Rattle.remy.specs.declared.action.Action.{Action}
use Rattle.remy.specs.Cube.{zero, child_cube, half_cube, half_of}
use Rattle.rule_tree.specs.Lists.{tabulate}
use Rattle.rule_tree.specs.Change.{split_at_of}
use Rattle.rule_tree.specs.Cubes.{owner_below, cube_at}
use Rattle.rule_tree_laws.proofs.Lens.{root_split}
use Rattle.ranges.specs.declared.Ranges.{Ranges}
use Rattle.ranges.specs.Ranges.{reachable, passing, leaves_within}

abbrev ranges_of : Float → Float → Float → Float → Float → Float → Ranges
ranges_of a b c d e f =
    record {
      ack_ewma = record { lowest = a; highest = b };
      send_ewma = record { lowest = c; highest = d };
      rtt_ratio = record { lowest = e; highest = f };
    }

abbrev 300f : Float
300f = fin false 75 (pos 2)

pub everywhere : (a : Action)
    → leaves_within (root_split a) (ranges_of (inf true) (inf false) (inf true) (inf false) (inf true) (inf false))
    ≡ 1 ∷ 2 ∷ 3 ∷ 4 ∷ 5 ∷ 6 ∷ 7 ∷ 8 ∷ []
unfolding split_at_of passing reachable cube_at owner_below tabulate child_cube half_cube half_of le lt add div
everywhere a = refl

-- acks from 0 to 300 s: the leaf from 300 s on is reached
pub up_to_300 : (a : Action) → leaves_within (root_split a) (ranges_of zero 300f zero zero zero zero) ≡ 1 ∷ 5 ∷ []
unfolding split_at_of passing reachable cube_at owner_below tabulate child_cube half_cube half_of le lt add div
up_to_300 a = refl

-- from 300 s on: the leaf up to 300 s is not
pub from_300 : (a : Action) → leaves_within (root_split a) (ranges_of 300f (inf false) zero zero zero zero) ≡ 5 ∷ []
unfolding split_at_of passing reachable cube_at owner_below tabulate child_cube half_cube half_of le lt add div
from_300 a = refl
