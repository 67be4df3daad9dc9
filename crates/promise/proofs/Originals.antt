-- The originals' default settings are taken, so demand 3 holds of them, for every list of calls; and their candidates are those of
-- 01's lens check. Assumes nothing.
use mathlib.Core.Path.{◌≡◌, refl, ap, ◌∙◌}
use mathlib.Core.Bool.{true, false}
use mathlib.Core.List.{List, [], ◌∷◌}
use lib.ListN.{length, get_or}
use lib.IntN.{pos, negsuc}
use lib.Ieee.{fin, binary64, of_int, div, mul, add, neg, le, lt, fits}
use Rattle.remy.specs.declared.action.Action.{Action}
use Rattle.remy.specs.Action.{action_of, valid_of}
use Rattle.trainer.specs.Settings.{axis, numbers_hold, actions_hold, changes_hold, axes_hold, settings_hold}
use Rattle.trainer.specs.Candidates.{flat_map, filter, inside_of, candidates_of}
use Rattle.trainer.specs.Axes.{multiplier_sums, increment_sums, delay_sums}
use Rattle.remy.specs.Cube.{ends_admitted}
use Rattle.rule_tree.specs.Grown.{ends_hold}
use Rattle.trainer.proofs.Product.{candidates_are}
use Rattle.promise.specs.PlainTrainer.{Call}
use Rattle.promise.specs.Values.{Every, FitSettings, FitCall}
use Rattle.promise.specs.Demand3.{Demand3}
use Rattle.promise.specs.Originals.{hundredths, original_settings}
use Rattle.promise.proofs.Demand3.{demand_3}

pub originals_hold : settings_hold original_settings ≡ true
unfolding settings_hold numbers_hold actions_hold changes_hold axes_hold ends_hold ends_admitted axis valid_of of_int div mul le lt
originals_hold = refl

pub originals_fit : FitSettings original_settings
unfolding of_int div fits
originals_fit =
    record {
      least = record { multiplier = tt; delay = tt };
      most = record { multiplier = tt; delay = tt };
      initial = record { multiplier = tt; delay = tt };
      largest = record { multiplier = tt; delay = tt };
      default = record { multiplier = tt; delay = tt };
      ends = record { acks = tt; sends = tt; ratios = tt };
    }

pub originals_demand : (cs : List Call) → Every FitCall cs → Demand3 original_settings cs
originals_demand cs c = demand_3 original_settings originals_hold originals_fit cs c

-- "Settings of RemyTrainer::default and its default action: 36 candidates, first 0.99, 2, 2.95 ms"
abbrev from_default : List Action
from_default = candidates_of original_settings original_settings.default_action

pub originals_count : length from_default ≡ 36
unfolding candidates_of flat_map filter inside_of axis of_int div mul add neg le
originals_count = refl

abbrev action : Action
action = original_settings.default_action

abbrev first : Action
first = action_of (fin false 4458563631096791 (negsuc 51)) (pos 2) (fin false 6802236877180397 (negsuc 60))

-- the action 0.99, 2, 2.95 ms
pub first_reads : first ≡ action_of (hundredths 99) (pos 2) (div binary64 (of_int binary64 (pos 295)) (of_int binary64 (pos 100000)))
unfolding of_int div
first_reads = refl

multipliers : multiplier_sums original_settings action ≡ fin false 4458563631096791 (negsuc 51) ∷ fin false 1080863910568919 (negsuc 49) ∷ fin false 7566047373982433 (negsuc 52) ∷ []
unfolding flat_map filter axis of_int div mul add neg le
multipliers = refl

increments : increment_sums original_settings action ≡ pos 2 ∷ pos 0 ∷ pos 5 ∷ pos 17 ∷ []
unfolding flat_map filter axis
increments = refl

delays : delay_sums original_settings action ≡ fin false 6802236877180397 (negsuc 60) ∷ fin false 6456360425798343 (negsuc 60) ∷ fin false 5072854620270127 (negsuc 60) ∷ []
unfolding flat_map filter axis of_int div mul add neg le
delays = refl

pub originals_first : (e : Action) → get_or from_default 0 e ≡ first
unfolding flat_map
originals_first e = ap (λ (xs : List Action). get_or xs 0 e) (candidates_are original_settings action) ∙ rw (multipliers, increments, delays)
