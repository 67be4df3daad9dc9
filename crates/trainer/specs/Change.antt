-- 02, wish 10: new settings in a running training.
use Rattle.std.specs.Prelude.{Bool, not, ◌&&◌, ◌||◌, cond, List, [], ◌∷◌, ℕ, eqb, ltb, leb, Result, Ok}
use Rattle.refusal.specs.declared.Refusal.{Refusal}
use Rattle.refusal.specs.declared.Refusal.TheVariants.{BadSettings, NotGrown, UnfitSettings}
use Rattle.refusal.specs.Guards.{Check, check, checked}
use Rattle.remy.specs.Cube.{point_equal}
use Rattle.trainer.specs.declared.settings.Settings.{Settings}
use Rattle.trainer.specs.declared.Trainer.{Trainer}
use Rattle.trainer.specs.Settings.{settings_hold}
use Rattle.trainer.specs.State.{stand, at_leaf_of, accepted_of}
use Rattle.trainer.specs.Calls.{wants_score}

-- "if the phase is 6 or 7"
unfoldable pub phase_fits : ℕ → Bool
phase_fits phase = not (eqb phase 6 || eqb phase 7)

-- "if in phases 3 to 5 the round isn't below the new rounds"
unfoldable pub round_fits : ℕ → ℕ → ℕ → Bool
round_fits phase round rounds = not (leb 3 phase && leb phase 5) || ltb round rounds

-- "if the stage is above the new rule_splits", or the phase, or the round
abbrev pub place_fits : ℕ → ℕ → ℕ → ℕ → ℕ → Bool
place_fits stage splits phase round rounds = leb stage splits && (phase_fits phase && round_fits phase round rounds)

-- "27 is given if an upper end differs, if the stage is above the new rule_splits, if the phase is 6 or 7, or if in phases 3 to 5 the round
-- isn't below the new rounds"
unfoldable pub settings_fit : Trainer → Settings → Bool
unfolding phase_fits round_fits
settings_fit t s =
    point_equal t.settings.ends s.ends
    && place_fits t.stage s.rule_splits t.phase t.round s.optimization_rounds_per_split

-- "keeps tree, stage and round. In phases 4 and 5 it drops the candidates and returns to phase 4 for the same leaf; other phases stay"; "The new
-- default action is kept and written, but changes no node"
unfoldable pub changed_to : Trainer → Settings → Trainer
changed_to t s =
    cond (wants_score t.phase) (at_leaf_of s t.tree t.stage t.round t.leaf)
    (stand s t.tree t.phase t.stage t.round)

-- "After 10, bad settings come first; then 27"
abbrev pub change_order : Trainer → Settings → List Check
change_order t s = check (accepted_of t) NotGrown ∷ check (settings_hold s) BadSettings ∷ check (settings_fit t s) UnfitSettings ∷ []

unfoldable pub change_of : Trainer → Settings → Result Trainer Refusal
unfolding settings_fit changed_to
change_of t s = checked (change_order t s) (Ok (changed_to t s))
