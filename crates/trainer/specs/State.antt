-- A trainer's state, and which states are accepted: 01's "Accepted", and refusal 10 of a trainer.
use Rattle.std.specs.Prelude.{Bool, false, not, ◌&&◌, ◌||◌, cond, ℕ, ◌+◌, length, eqb, ltb, leb, Float, Option, Some, None}
use Rattle.std.specs.Float.{binary64}
use Rattle.std.specs.Float.Ieee.{to_bits, lt}
use Rattle.remy.specs.declared.action.Action.{Action}
use Rattle.remy.specs.Cube as cube
use Rattle.rule_tree.specs.declared.RuleTree.{RuleTree}
use Rattle.rule_tree.specs.Nodes.{node_at_of, action_in}
use Rattle.rule_tree.specs.Grown.{grown_of}
use Rattle.rule_tree.specs.Calls.{leaf_in}
use Rattle.trainer.specs.declared.settings.Settings.{Settings}
use Rattle.trainer.specs.declared.Trainer.{Trainer}
use Rattle.trainer.specs.Settings.{settings_hold}
use Rattle.trainer.specs.Candidates.{candidates_of}

-- "kept (65535 none)"
abbrev pub none : ℕ
none = 65535

unfoldable pub kept_of : ℕ → Option ℕ
kept_of kept = cond (eqb kept none) None (Some kept)

-- a trainer that is at no leaf: "Fields a phase doesn't use are 0, kept 65535"
abbrev pub stand : Settings → RuleTree → ℕ → ℕ → ℕ → Trainer
stand s t phase stage round =
    record {
      settings = s;
      tree = t;
      phase = phase;
      stage = stage;
      round = round;
      leaf = 0;
      best = cube.zero;
      k = 0;
      kept = none;
      kept_score = cube.zero;
    }

-- a trainer that asks for the score of a leaf's own action
abbrev pub at_leaf_of : Settings → RuleTree → ℕ → ℕ → ℕ → Trainer
at_leaf_of s t stage round leaf =
    record {
      settings = s;
      tree = t;
      phase = 4;
      stage = stage;
      round = round;
      leaf = leaf;
      best = cube.zero;
      k = 0;
      kept = none;
      kept_score = cube.zero;
    }

-- a trainer that asks for the score of candidate k
abbrev pub trying : Settings → RuleTree → ℕ → ℕ → ℕ → Float → ℕ → ℕ → Float → Trainer
trying s t stage round leaf best k kept score =
    record {
      settings = s;
      tree = t;
      phase = 5;
      stage = stage;
      round = round;
      leaf = leaf;
      best = best;
      k = k;
      kept = kept;
      kept_score = score;
    }

abbrev pub zero_bits_of : Float → Bool
zero_bits_of x = eqb (to_bits binary64 x) 0

-- no candidate yet: best, k, kept and its score are those of no phase but 5
unfoldable pub untried_in : Float → ℕ → ℕ → Float → Bool
untried_in best k kept score = zero_bits_of best && (eqb k 0 && (eqb kept none && zero_bits_of score))

abbrev pub untried : Trainer → Bool
untried t = untried_in t.best t.k t.kept t.kept_score

abbrev pub idle : Trainer → Bool
idle t = eqb t.leaf 0 && untried t

-- the action of the trainer's leaf, and its candidates
abbrev pub leaf_action : Trainer → Action
leaf_action t = action_in (node_at_of t.tree.nodes t.leaf)

-- "in 4, 5 an unmarked leaf"
unfoldable pub leaf_holds : Trainer → Bool
leaf_holds t = leaf_in t.tree t.leaf && not (node_at_of t.tree.nodes t.leaf).optimized

-- "kept below k with score above best"; "with none kept its score is 0"
unfoldable pub kept_in : Float → ℕ → ℕ → Float → Bool
kept_in best k kept score = cond (eqb kept none) (zero_bits_of score) (ltb kept k && lt best score)

abbrev pub kept_holds : Trainer → Bool
kept_holds t = kept_in t.best t.k t.kept t.kept_score

-- "in 5 k below the list's length"
unfoldable pub try_holds_of : Trainer → Bool
try_holds_of t = ltb t.k (length (candidates_of t.settings (leaf_action t))) && kept_holds t

-- "stage 1..=rule_splits, round 0 in phases 1, 2"
unfoldable pub splitting : Trainer → Bool
splitting t = leb 1 t.stage && (leb t.stage t.settings.rule_splits && (eqb t.round 0 && idle t))

-- "stage <= rule_splits, round < rounds in 3 to 5"
unfoldable pub tuning : Trainer → Bool
tuning t = leb t.stage t.settings.rule_splits && ltb t.round t.settings.optimization_rounds_per_split

-- "stage rule_splits+1, round 0 in 6, 7"
unfoldable pub ending : Trainer → Bool
ending t = eqb t.stage (t.settings.rule_splits + 1) && (eqb t.round 0 && idle t)

-- "phase is 1..=7"
unfoldable pub phase_holds : Trainer → Bool
unfolding splitting tuning ending leaf_holds try_holds_of
phase_holds t =
    cond (eqb t.phase 1 || eqb t.phase 2) (splitting t)
    (cond (eqb t.phase 3) (tuning t && idle t)
    (cond (eqb t.phase 4) (tuning t && (leaf_holds t && untried t))
    (cond (eqb t.phase 5) (tuning t && (leaf_holds t && try_holds_of t))
    (cond (eqb t.phase 6 || eqb t.phase 7) (ending t) false))))

-- the tree has the upper ends of the settings
unfoldable pub box_holds : Trainer → Bool
box_holds t = cube.point_equal t.tree.ends t.settings.ends

unfoldable pub accepted_of : Trainer → Bool
unfolding box_holds phase_holds
accepted_of t = settings_hold t.settings && (grown_of t.tree && (box_holds t && phase_holds t))
