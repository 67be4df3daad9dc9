-- What the private functions of the code are held to: the steps over a trainer's fields, and what a step needs.
use Rattle.std.specs.Prelude.{◌≡◌, Bool, true, not, ◌&&◌, ◌||◌, ◌⊎◌, ℕ, ◌<◌, length, eqb, Float}
use Rattle.std.specs.Float.Ieee.{le, lt}
use Rattle.remy.specs.declared.action.Action.{Action}
use Rattle.rule_tree.specs.declared.RuleTree.{RuleTree}
use Rattle.rule_tree.specs.Nodes.{node_at_of, action_in}
use Rattle.rule_tree.specs.Change.{with_mark}
use Rattle.rule_tree.specs.Grown.{grown_of}
use Rattle.rule_tree.specs.Calls.{leaf_in}
use Rattle.trainer.specs.declared.settings.Settings.{Settings}
use Rattle.trainer.specs.declared.Trainer.{Trainer}
use Rattle.trainer.specs.declared.inner.begin.Place.{Place}
use Rattle.trainer.specs.Settings.{settings_hold}
use Rattle.trainer.specs.Candidates.{candidates_of}
use Rattle.trainer.specs.State.{none, stand, leaf_action}

unfoldable pub leaf_holds_in : RuleTree → ℕ → Bool
leaf_holds_in t i = leaf_in t i && not (node_at_of t.nodes i).optimized

-- what a trainer holds in every phase
abbrev pub place_of : Trainer → Place
place_of t = record { settings = t.settings; tree = t.tree; stage = t.stage; round = t.round }

-- ---- the steps
abbrev pub action_at : RuleTree → ℕ → Action
action_at t i = action_in (node_at_of t.nodes i)

abbrev pub marked_in : Settings → RuleTree → ℕ → ℕ → ℕ → Trainer
marked_in s tree stage round leaf = stand s (with_mark tree leaf) 3 stage round

unfoldable pub keeps_in : Float → ℕ → Float → Float → Bool
keeps_in best kept score x = lt best x && (eqb kept none || le score x)

-- ---- what a step needs
pub record Scoring (t : Trainer) : Type 0 where
  pub settings : settings_hold t.settings ≡ true
  pub grown : grown_of t.tree ≡ true
  pub leaf : leaf_in t.tree t.leaf ≡ true

-- a number of the list, or none
abbrev pub Kept : Trainer → ℕ → Type 0
Kept t kept = (kept ≡ none) ⊎ (kept < length (candidates_of t.settings (leaf_action t)))
