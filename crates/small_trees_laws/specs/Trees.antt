-- 02, request 14: "each way to grow a tree".
use Rattle.std.specs.Prelude.{List, [], ◌∷◌, ℕ, ◌+◌, Result, Ok}
use Rattle.refusal.specs.declared.Refusal.{Refusal}
use Rattle.refusal.specs.Guards.{and_then}
use Rattle.rule_tree.specs.declared.RuleTree.{RuleTree}
use Rattle.rule_tree.specs.Change.{split_at_of}
use Rattle.rule_tree.specs.Calls.{split_of}
use Rattle.trainer.specs.declared.settings.Settings.{Settings}
use Rattle.trainer.specs.declared.Trainer.{Trainer}
use Rattle.trainer.specs.State.{stand}

-- a tree after the splits of a list
unfoldable pub grown_by : RuleTree → List ℕ → RuleTree
grown_by t [] = t
grown_by t (i ∷ rest) = grown_by (split_at_of t i) rest

-- the public call for each split, up to the first that is refused
unfoldable pub split_each : RuleTree → List ℕ → Result RuleTree Refusal
unfolding split_of
split_each t [] = Ok t
split_each t (i ∷ rest) = and_then (split_of t i) (λ u. split_each u rest)

-- a trainer with a tree, at its end: any tree that passes the test for 10 can stand there
abbrev pub ended_with : Settings → RuleTree → Trainer
ended_with s t = stand s t 6 (s.rule_splits + 1) 0
