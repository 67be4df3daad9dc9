-- 02, "Taking a split back", of the tree of a record's trainer.
use Rattle.std.specs.Prelude.{Bool, List, [], ◌∷◌, ℕ, ◌+◌, ltb, Result, Ok}
use Rattle.refusal.specs.declared.Refusal.{Refusal}
use Rattle.refusal.specs.declared.Refusal.TheVariants.{NoLeaf, NoSplit, NotGrown}
use Rattle.refusal.specs.Guards.{Check, check, checked, and_then}
use Rattle.rule_tree.specs.declared.RuleTree.{RuleTree}
use Rattle.rule_tree.specs.Nodes.{node_count}
use Rattle.rule_tree.specs.Grown.{grown_of}
use Rattle.rule_tree.specs.Change.{undone}
use Rattle.trainer.specs.declared.Trainer.{Trainer}
use Rattle.record.specs.Calls.{load_of}

-- the trainer with another tree
abbrev pub with_tree : Trainer → RuleTree → Trainer
with_tree t tree =
    record {
      settings = t.settings;
      tree = tree;
      phase = t.phase;
      stage = t.stage;
      round = t.round;
      leaf = t.leaf;
      best = t.best;
      k = t.k;
      kept = t.kept;
      kept_score = t.kept_score;
    }

-- the leaf that the trainer stands at, 0 where it is at none, is not one of the eight that the newest split added
abbrev pub leaf_stays : Trainer → Bool
leaf_stays t = ltb (t.leaf + 8) (node_count t.tree.splits)

-- 10, "24, after 10 alone", then 3 where the trainer's leaf goes
abbrev pub undone_order : Trainer → List Check
undone_order t = check (grown_of t.tree) NotGrown ∷ check (ltb 0 t.tree.splits) NoSplit ∷ check (leaf_stays t) NoLeaf ∷ []

-- "The parent becomes a leaf with the action and mark it had when split"
unfoldable pub undone_trainer : Trainer → Result Trainer Refusal
undone_trainer t = checked (undone_order t) (Ok (with_tree t (undone t.tree)))

-- of a record's trainer: 6, 7, 8 first
unfoldable pub undone_in : List ℕ → Result Trainer Refusal
undone_in held = and_then (load_of held) undone_trainer
