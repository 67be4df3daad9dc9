-- The settings of the originals' RemyTrainer::default, so that demand 3 is known to speak of some settings.
use Rattle.std.specs.Prelude.{true, ℕ, pos, Float}
use Rattle.std.specs.Float.{binary64}
use Rattle.std.specs.Float.Ieee.{div, of_int}
use Rattle.remy.specs.declared.action.Action.{Action}
use Rattle.remy.specs.Action.{action_of}
use Rattle.remy.specs.Cube.{usual_ends}
use Rattle.trainer.specs.declared.settings.Settings.{Settings}

-- n / 100, rounded once: what the decimal reads as
abbrev pub hundredths : ℕ → Float
hundredths n = div binary64 (of_int binary64 (pos n)) (of_int binary64 (pos 100))

-- a multiplier in hundredths, an increment, and a delay in hundredths of a millisecond; "Milliseconds are divided by 1000"
abbrev pub original : ℕ → ℕ → ℕ → Action
original multiplier increment delay =
    action_of (hundredths multiplier) (pos increment) (div binary64 (hundredths delay) (of_int binary64 (pos 1000)))

abbrev pub original_settings : Settings
original_settings =
    record {
      rule_splits = 12;
      optimization_rounds_per_split = 2;
      action_change_multiplier = 4;
      drill_down = true;
      min_action = original 0 0 25;
      max_action = original 100 256 300;
      initial_action_change = original 1 1 5;
      max_action_change = original 50 32 100;
      default_action = original 100 1 300;
      ends = usual_ends;
    }
