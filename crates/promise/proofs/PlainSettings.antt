-- The settings, modes and fresh sender of 01's words are those of the code. Assumes nothing.
use mathlib.Core.Path.{◌≡◌, refl}
use mathlib.Core.Bool.{Bool, ◌&&◌}
use mathlib.Core.List.{List}
use lib.Dec.{leb}
use lib.ListN.{length}
use lib.IntN.{ℤ, pos}
use lib.Ieee.{Float, binary64, of_int}
use Rattle.remy.specs.declared.action.Action.{Action}
use Rattle.remy.specs.Action.{valid_of}
use Rattle.remy.specs.Cube.{ends_admitted}
use Rattle.rule_tree.specs.Grown.{ends_hold}
use Rattle.trainer.specs.declared.settings.Settings.{Settings}
use Rattle.trainer.specs.Settings.{numbers_hold, actions_hold, changes_hold, axes_hold, settings_hold}
use Rattle.trainer.specs.Settings as theirs
use Rattle.sender.specs.declared.RepeatMode.{RepeatMode}
use Rattle.sender.specs.declared.RepeatMode.TheVariants.{Off, Always, Between}
use Rattle.sender.specs.Sender.{mode_holds, fresh_sender}
use Rattle.promise.specs.PlainCandidates as plain
use Rattle.promise.specs.PlainSettings.{valid, numbers_taken, actions_taken, changes_taken, axes_taken, ends_taken, settings_taken, mode_taken, fresh_start}
use Rattle.promise.proofs.Candidates.{float_axis_lem, whole_axis_lem}

valid_same : (a : Action) → valid a ≡ valid_of a
unfolding valid valid_of
valid_same a = refl

numbers_same : (s : Settings) → numbers_taken s ≡ numbers_hold s
unfolding numbers_taken numbers_hold
numbers_same s = refl

actions_same : (s : Settings) → actions_taken s ≡ actions_hold s
unfolding actions_taken actions_hold
actions_same s =
    rw (
      valid_same s.min_action,
      valid_same s.max_action,
      valid_same s.initial_action_change,
      valid_same s.max_action_change,
      valid_same s.default_action,
    )

changes_same : (s : Settings) → changes_taken s ≡ changes_hold s
unfolding changes_taken changes_hold
changes_same s = refl

ends_same : (s : Settings) → ends_taken s ≡ ends_hold s.ends
unfolding ends_taken ends_hold ends_admitted of_int
ends_same s = refl

module _ (s : Settings) where
  float_same :
      (part : Action → Float)
      → plain.float_axis 9 part s
      ≡ theirs.float_axis 9 (of_int binary64 (pos s.action_change_multiplier)) (part s.initial_action_change) (part s.max_action_change)
  float_same part = float_axis_lem 9 (of_int binary64 (pos s.action_change_multiplier)) (part s.initial_action_change) (part s.max_action_change)

  whole_same : plain.whole_axis 9 plain.increment_of s ≡ theirs.increment_axis 9 s
  whole_same = whole_axis_lem 9 (pos s.action_change_multiplier) s.initial_action_change.window_increment s.max_action_change.window_increment

  axes_same : axes_taken s ≡ axes_hold s
  unfolding axes_taken axes_hold
  axes_same =
      let few : (xs ys : List Float) (zs : List ℤ) → Bool = λ xs ys zs. leb (length xs) 8 && (leb (length zs) 8 && leb (length ys) 8) in
      λ j. few (float_same plain.multiplier_of j) (float_same plain.delay_of j) (whole_same j)

  pub settings_same : settings_taken s ≡ settings_hold s
  unfolding settings_taken settings_hold
  settings_same = λ j. numbers_same s j && (actions_same s j && (changes_same s j && (axes_same j && ends_same s j)))

pub mode_same : (m : RepeatMode) → mode_taken m ≡ mode_holds m
unfolding mode_taken mode_holds
mode_same Off = refl
mode_same (Always n) = refl
mode_same (Between lo hi) = refl

pub fresh_same : (m : RepeatMode) → fresh_start m ≡ fresh_sender m
fresh_same m = refl
