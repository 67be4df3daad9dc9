-- 01, "The record": the bytes that a trainer is saved as.
use Rattle.std.specs.Prelude.{cond, List, [], ◌∷◌, ◌++◌, ℕ, zero, suc, length, take}
use Rattle.rule_tree.specs.declared.Node.{Node}
use Rattle.rule_tree.specs.declared.RuleTree.{RuleTree}
use Rattle.rule_tree.specs.Nodes.{node_at_of, node_count, children_of, action_in}
use Rattle.rule_tree.specs.Cubes.{split_nodes}
use Rattle.trainer.specs.declared.settings.Settings.{Settings}
use Rattle.trainer.specs.declared.Trainer.{Trainer}
use Rattle.record.specs.declared.inner.layout.Layout.{Layout}
use Rattle.wire.specs.Bytes.{bytes_of, flag_byte, shorts_bytes}
use Rattle.record.specs.Layout.{layout_of, carries}
use Rattle.wire.specs.Fields.{float_bytes, action_bytes, point_bytes}

-- "u32 splits, rounds, multiplier; drill byte; five actions in the order above"
abbrev pub settings_bytes : Settings → List ℕ
settings_bytes s =
    bytes_of 4 s.rule_splits ++ (bytes_of 4 s.optimization_rounds_per_split ++ (bytes_of 4 s.action_change_multiplier ++ (flag_byte s.drill_down ∷ (
    action_bytes s.min_action ++ (action_bytes s.max_action ++ (action_bytes s.initial_action_change ++ (
    action_bytes s.max_action_change ++ action_bytes s.default_action)))))))

-- "u16 split count; each split's node u16"
abbrev pub splits_bytes : RuleTree → List ℕ
splits_bytes t = bytes_of 2 t.splits ++ shorts_bytes (take t.splits (split_nodes (children_of t.nodes)))

-- "its action and mark byte"
abbrev pub node_bytes : Node → List ℕ
node_bytes x = action_bytes (action_in x) ++ (flag_byte x.optimized ∷ [])

-- by rising node, those of the first n that the layout carries: in version 1 "per leaf by rising node"
unfoldable pub payload_bytes : Layout → List Node → ℕ → List ℕ
unfolding bytes_of
payload_bytes l nodes zero = []
payload_bytes l nodes (suc n) =
    payload_bytes l nodes n ++ cond (carries l (node_at_of nodes n).children) (node_bytes (node_at_of nodes n)) []

-- the upper ends, where the layout has them: "24 bytes after the five actions (ack, send, ratio)"
abbrev pub end_bytes : Layout → Settings → List ℕ
end_bytes l s = cond l.ends (point_bytes s.ends) []

-- "phase byte; u32 stage, round; u16 leaf; best 8; u16 k; u16 kept (65535 none); kept's score 8"
abbrev pub state_bytes : Trainer → List ℕ
state_bytes t =
    t.phase ∷ (bytes_of 4 t.stage ++ (bytes_of 4 t.round ++ (bytes_of 2 t.leaf ++ (
    float_bytes t.best ++ (bytes_of 2 t.k ++ (bytes_of 2 t.kept ++ float_bytes t.kept_score))))))

-- the version byte and all that follows it, in a layout
abbrev pub body_in : Layout → ℕ → Trainer → List ℕ
body_in l v t =
    v ∷ (settings_bytes t.settings ++ (end_bytes l t.settings ++ (splits_bytes t.tree ++ (
    payload_bytes l t.tree.nodes (node_count t.tree.splits) ++ state_bytes t))))

-- "u32 length of all that follows"
unfoldable pub record_in : Layout → ℕ → Trainer → List ℕ
unfolding bytes_of shorts_bytes payload_bytes
record_in l v t = bytes_of 4 (length (body_in l v t)) ++ body_in l v t

-- what is saved: older versions "are written again as version 3"
abbrev pub version : ℕ
version = 3

abbrev pub body_of : Trainer → List ℕ
body_of t = body_in (layout_of version) version t

abbrev pub record_of : Trainer → List ℕ
record_of t = record_in (layout_of version) version t
