-- What the private functions of the code are held to: the steps of a leaf's tuning on a small state, with the tree untouched.
use Rattle.std.specs.Prelude.{◌≡◌, true, cond, ◌⊎◌, List, ℕ, ◌+◌, ◌/◌, ◌<◌, length, get_or, eqb, ltb, Float, Option, Some, Result, Ok, Err}
use Rattle.refusal.specs.declared.Refusal.{Refusal}
use Rattle.refusal.specs.declared.Refusal.TheVariants.{BadLength}
use Rattle.remy.specs.declared.action.Action.{Action}
use Rattle.remy.specs.Action.{valid_of}
use Rattle.remy.specs.Cube as cube
use Rattle.rule_tree.specs.declared.RuleTree.{RuleTree}
use Rattle.rule_tree.specs.Change.{with_action}
use Rattle.trainer.specs.declared.settings.Settings.{Settings}
use Rattle.trainer.specs.declared.Trainer.{Trainer}
use Rattle.trainer.specs.Settings.{settings_hold}
use Rattle.trainer.specs.Candidates.{candidates_of, no_candidate}
use Rattle.trainer.specs.State.{none, kept_of, trying, leaf_action, accepted_of}
use Rattle.trainer.specs.Fields.{keeps_in, marked_in}
use Rattle.trainer.specs.Calls.{answer_counts_of}
use Rattle.host_trainer.specs.Records.{counts_in}
use Rattle.host_answers.specs.Answers.{scores_on}
use Rattle.host_answers.specs.declared.inner.groups.Kind.{Kind}
use Rattle.host_answers.specs.declared.inner.groups.Kind.TheVariants.{Counts, Scores}
use Rattle.host_answers.specs.declared.inner.steps.Tuned.{Tuned}

-- an action whose candidates are tried from the first on
abbrev pub begun_with : Action → Float → ℕ → Tuned
begun_with a best count = record { action = a; best = best; k = 0; kept = none; score = cube.zero; count = count }

abbrev pub begin_of : Settings → Action → Float → Tuned
begin_of s a best = begun_with a best (length (candidates_of s a))

-- the same action at another candidate
abbrev pub next_of : Tuned → ℕ → ℕ → Float → Tuned
next_of u k kept score =
    record { action = u.action; best = u.best; k = k; kept = kept; score = score; count = u.count }

-- no candidates are left: the leaf is finished
abbrev pub finished_of : Tuned → ℕ → Float → Tuned
finished_of u kept score =
    record { action = u.action; best = u.best; k = u.k; kept = kept; score = score; count = 0 }

-- after the last candidate: the one kept becomes the action, or the leaf is finished
unfoldable pub last_of : Settings → Tuned → ℕ → Float → Tuned
last_of s u kept score =
    cond (eqb kept none) (finished_of u kept score)
    (begin_of s (get_or (candidates_of s u.action) kept no_candidate) score)

unfoldable pub tried_of : Settings → Tuned → ℕ → Float → Tuned
unfolding last_of
tried_of s u kept score = cond (ltb (u.k + 1) u.count) (next_of u (u.k + 1) kept score) (last_of s u kept score)

-- what is kept after the score of candidate k, and its score
unfoldable pub noted_of : Tuned → Float → ℕ × Float
noted_of u x = cond (keeps_in u.best u.kept u.score x) (u.k, x) (u.kept, u.score)

-- the score of candidate k
unfoldable pub step_of : Settings → Tuned → Float → Tuned
unfolding tried_of
step_of s u x = cond (keeps_in u.best u.kept u.score x) (tried_of s u u.k x) (tried_of s u u.kept u.score)

-- what a step needs
pub record Tuning (s : Settings) (u : Tuned) : Type 0 where
  pub settings : settings_hold s ≡ true
  pub valid : valid_of u.action ≡ true
  pub count : u.count ≡ length (candidates_of s u.action)
  pub k : u.k < u.count

-- a number of the list, or none
abbrev pub Among : Tuned → ℕ → Type 0
Among u kept = (k : ℕ) → kept_of kept ≡ Some k → k < u.count

-- finished, or the number of candidates is known
abbrev pub Counted : Settings → Tuned → Type 0
Counted s u = (u.count ≡ 0) ⊎ (u.count ≡ length (candidates_of s u.action))

-- what a trainer at a leaf has of its action's candidates in phase 5
abbrev pub tuned_of : Trainer → Tuned
tuned_of t =
    record {
      action = leaf_action t;
      best = t.best;
      k = t.k;
      kept = t.kept;
      score = t.kept_score;
      count = length (candidates_of t.settings (leaf_action t));
    }

-- the trainer's tree with another action at its leaf
abbrev pub tree_with : Trainer → Action → RuleTree
tree_with t a = with_action t.tree t.leaf a

-- the trainer that stands for a small state, t being the one that it was begun from
unfoldable pub trainer_of : Trainer → Tuned → Trainer
trainer_of t u =
    cond (eqb u.count 0) (marked_in t.settings (tree_with t u.action) t.stage t.round t.leaf)
    (trying t.settings (tree_with t u.action) t.stage t.round t.leaf u.best u.k u.kept u.score)

-- an accepted trainer with a tree of 513 slots, as every tree of the code is
pub record Ready (t : Trainer) : Type 0 where
  pub accepted : accepted_of t ≡ true
  pub whole : length t.tree.nodes ≡ 513

-- the kind that a byte names
unfoldable pub kind_of : ℕ → Result Kind Refusal
kind_of byte = cond (eqb byte 1) (Ok Counts) (cond (eqb byte 2) (Ok Scores) (Err BadLength))

-- what the answers of a group make of a trainer, by the group's kind and bytes
unfoldable pub answers_on : Kind → List ℕ → Trainer → Result Trainer Refusal
answers_on Counts body t = answer_counts_of t (counts_in body)
answers_on Scores body t = scores_on t body (length body / 8)
