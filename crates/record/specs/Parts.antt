-- What the private functions of the code are held to: parts of the record, as it is written and read.
use Rattle.std.specs.Prelude.{cond, List, [], ◌∷◌, ◌++◌, ℕ, Result, Ok, Err}
use Rattle.refusal.specs.declared.Refusal.{Refusal}
use Rattle.refusal.specs.declared.Refusal.TheVariants.{BadField}
use Rattle.rule_tree.specs.declared.Node.{Node}
use Rattle.trainer.specs.declared.settings.Settings.{Settings}
use Rattle.trainer.specs.declared.Trainer.{Trainer}
use Rattle.record.specs.declared.inner.layout.Layout.{Layout}
use Rattle.wire.specs.Bytes.{bytes_of, flag_byte}
use Rattle.record.specs.Layout.{carries}
use Rattle.wire.specs.Fields.{float_bytes, action_bytes}
use Rattle.record.specs.Write.{node_bytes}
use Rattle.record.specs.Read.{read_of}
use Rattle.record.specs.Calls.{body_holds}

-- the settings' numbers and drill, and their actions
abbrev pub number_fields : Settings → List ℕ
number_fields s =
    bytes_of 4 s.rule_splits ++ (bytes_of 4 s.optimization_rounds_per_split ++ (bytes_of 4 s.action_change_multiplier ++ (flag_byte s.drill_down ∷ [])))

abbrev pub action_fields : Settings → List ℕ
action_fields s =
    action_bytes s.min_action ++ (action_bytes s.max_action ++ (action_bytes s.initial_action_change ++ (
    action_bytes s.max_action_change ++ action_bytes s.default_action)))

-- the state up to the leaf, and what has been tried there
abbrev pub place_fields : Trainer → List ℕ
place_fields t = t.phase ∷ (bytes_of 4 t.stage ++ (bytes_of 4 t.round ++ bytes_of 2 t.leaf))

abbrev pub trial_fields : Trainer → List ℕ
trial_fields t = float_bytes t.best ++ (bytes_of 2 t.k ++ (bytes_of 2 t.kept ++ float_bytes t.kept_score))

-- what a node adds to the nodes' part
abbrev pub node_fields : Layout → Node → List ℕ
node_fields l x = cond (carries l x.children) (node_bytes x) []

-- what load answers once the length and the version hold
abbrev pub body_taken : List ℕ → Result Trainer Refusal
body_taken bytes = cond (body_holds bytes) (Ok (read_of bytes)) (Err BadField)
