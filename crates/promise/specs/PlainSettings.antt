-- Document 01's starts in its own words: the settings that a trainer takes, the modes that a sender takes, and the fresh sender.
use Rattle.std.specs.Prelude.{Bool, true, ◌&&◌, leb, length, pos, negsuc, Float, None}
use Rattle.std.specs.Int.Signed.{le_z, lt_z}
use Rattle.std.specs.Float.{binary64}
use Rattle.std.specs.Float.Ieee.{lt, le, of_int}
use Rattle.std.specs.Float.Ieee.Scale.{finite}
use Rattle.quantities.specs.Time.{span}
use Rattle.remy.specs.declared.action.Action.{Action}
use Rattle.remy.specs.Cube as cube
use Rattle.trainer.specs.declared.settings.Settings.{Settings}
use Rattle.sender.specs.declared.RepeatMode.{RepeatMode}
use Rattle.sender.specs.declared.RepeatMode.TheVariants.{Off, Always, Between}
use Rattle.sender.specs.declared.Sender.{Sender}
use Rattle.promise.specs.PlainCandidates.{float_axis, whole_axis, multiplier_of, increment_of, delay_of}

-- "rule_splits 0..=64, rounds 0..=1000, multiplier 2..=16"
unfoldable pub numbers_taken : Settings → Bool
numbers_taken s = leb s.rule_splits 64 && (leb s.optimization_rounds_per_split 1000 && (leb 2 s.action_change_multiplier && leb s.action_change_multiplier 16))

-- "An action is valid if both floats are finite and the increment is in -1,000,000..=1,000,000"
unfoldable pub valid : Action → Bool
valid a =
    finite (multiplier_of a)
    && (finite (delay_of a) && (le_z (negsuc 999999) (increment_of a) && le_z (increment_of a) (pos 1000000)))

-- "valid actions min, max, initial change, max change, default"
unfoldable pub actions_taken : Settings → Bool
unfolding valid
actions_taken s =
    valid s.min_action
    && (valid s.max_action && (valid s.initial_action_change && (valid s.max_action_change && valid s.default_action)))

-- "Initial change has all parts above 0; both change increments are at most 65,536"
unfoldable pub changes_taken : Settings → Bool
changes_taken s =
    lt cube.zero (multiplier_of s.initial_action_change)
    && (lt_z (pos 0) (increment_of s.initial_action_change)
    && (lt cube.zero (delay_of s.initial_action_change)
    && (le_z (increment_of s.initial_action_change) (pos 65536) && le_z (increment_of s.max_action_change) (pos 65536))))

-- "more than 8 values is refused, none is allowed": of an axis that may list nine
unfoldable pub axes_taken : Settings → Bool
axes_taken s =
    leb (length (float_axis 9 multiplier_of s)) 8
    && (leb (length (whole_axis 9 increment_of s)) 8 && leb (length (float_axis 9 delay_of s)) 8)

-- 02, wish 8: "the three upper ends be settings, each from 1 to 1,000,000"; "Outside that, refuse as settings"
abbrev pub end_taken : Float → Bool
end_taken x = le (of_int binary64 (pos 1)) x && le x (of_int binary64 (pos 1000000))

unfoldable pub ends_taken : Settings → Bool
ends_taken s = end_taken (cube.ack s.ends) && (end_taken (cube.send s.ends) && end_taken (cube.ratio s.ends))

unfoldable pub settings_taken : Settings → Bool
unfolding numbers_taken actions_taken changes_taken axes_taken ends_taken
settings_taken s = numbers_taken s && (actions_taken s && (changes_taken s && (axes_taken s && ends_taken s)))

-- "off, always n, or lo..=hi handed in (hi at most 4,294,967,294)"; refused: "lo above hi, or hi too large"
unfoldable pub mode_taken : RepeatMode → Bool
mode_taken Off = true
mode_taken (Always n) = true
mode_taken (Between lo hi) = leb lo hi && leb hi 4294967294

-- "Window starts at 1, wait at 0"; nothing is remembered, no repeat is pending and no send stands
abbrev pub fresh_start : RepeatMode → Sender
fresh_start mode =
    record {
      last_ack = None;
      last_ack_send = None;
      ack_ewma = None;
      send_ewma = None;
      rtt = None;
      next_change = None;
      repeat_actions = mode;
      last_send = None;
      window = 1;
      intersend_delay = span cube.zero;
    }
