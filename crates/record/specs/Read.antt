-- The trainer that the bytes of a record stand for, field by field at its place.
use Rattle.std.specs.Prelude.{Bool, false, cond, List, ℕ, zero, suc, ◌+◌, ◌*◌, get_or, eqb, ltb}
use Rattle.remy.specs.declared.action.Action.{Action}
use Rattle.remy.specs.declared.point.Point.{Point}
use Rattle.remy.specs.Cube.{usual_ends}
use Rattle.rule_tree.specs.declared.Node.{Node}
use Rattle.rule_tree.specs.declared.RuleTree.{RuleTree}
use Rattle.rule_tree.specs.Lists.{tabulate, count_below}
use Rattle.rule_tree.specs.Nodes.{node_count, slots, blank_node, node_holding}
use Rattle.trainer.specs.declared.settings.Settings.{Settings}
use Rattle.trainer.specs.declared.Trainer.{Trainer}
use Rattle.record.specs.declared.inner.layout.Layout.{Layout}
use Rattle.wire.specs.Bytes.{number_at}
use Rattle.record.specs.Layout.{layout_of, carries, given_action, length_size, settings_place, settings_size, ends_place, count_size, node_size, count_place, list_place, nodes_place, state_place}
use Rattle.wire.specs.Fields.{float_at, action_at, flag_at, point_at}

-- the upper ends that stand at a place, or the usual ones: "older versions load with 600, 600, 1000"
abbrev pub ends_at : Layout → List ℕ → ℕ → Point
ends_at l bytes at = cond l.ends (point_at bytes at) usual_ends

abbrev pub settings_at : Layout → List ℕ → ℕ → Settings
settings_at l bytes at =
    record {
      rule_splits = number_at bytes at 4;
      optimization_rounds_per_split = number_at bytes (at + 4) 4;
      action_change_multiplier = number_at bytes (at + 8) 4;
      drill_down = flag_at bytes (at + 12);
      min_action = action_at bytes (at + 13);
      max_action = action_at bytes (at + 33);
      initial_action_change = action_at bytes (at + 53);
      max_action_change = action_at bytes (at + 73);
      default_action = action_at bytes (at + 93);
      ends = ends_at l bytes (at + settings_size);
    }

-- the split count, and the node of split k in the list at place list
abbrev pub split_count : Layout → List ℕ → ℕ
split_count l bytes = number_at bytes (count_place l) count_size

abbrev pub split_at_place : List ℕ → ℕ → ℕ → ℕ
split_at_place bytes list k = number_at bytes (list + 2 * k) 2

-- the first child of node i after the first s splits, 0 for a leaf
unfoldable pub link_of : List ℕ → ℕ → ℕ → ℕ → ℕ
link_of bytes list zero i = 0
link_of bytes list (suc s) i = cond (eqb (split_at_place bytes list s) i) (8 * s + 1) (link_of bytes list s i)

-- whether node i is written, and where: after those below it
abbrev pub carried_at : Layout → List ℕ → ℕ → ℕ → Bool
carried_at l bytes s i = carries l (link_of bytes (list_place l) s i)

abbrev pub payload_place : Layout → List ℕ → ℕ → ℕ → ℕ
payload_place l bytes s i = nodes_place l s + node_size * count_below i (carried_at l bytes s)

-- the node with the first child c: what stands at place at, or, where the layout does not carry it, the action a, unmarked
abbrev pub node_with : Layout → Action → List ℕ → ℕ → ℕ → Node
node_with l a bytes at c =
    cond (carries l c)
    (node_holding (action_at bytes at) c (flag_at bytes (at + 20)))
    (node_holding a c false)

unfoldable pub node_at_place : Layout → Action → List ℕ → ℕ → ℕ → Node
unfolding link_of
node_at_place l a bytes s i =
    cond (ltb i (node_count s)) (node_with l a bytes (payload_place l bytes s i) (link_of bytes (list_place l) s i)) blank_node

abbrev pub tree_at : Layout → Action → List ℕ → ℕ → RuleTree
tree_at l a bytes s = record { nodes = tabulate slots (node_at_place l a bytes s); splits = s; ends = ends_at l bytes ends_place }

-- the trainer with these settings and this tree whose state stands at place at
abbrev pub state_at : Settings → RuleTree → List ℕ → ℕ → Trainer
state_at s t bytes at =
    record {
      settings = s;
      tree = t;
      phase = get_or bytes at 0;
      stage = number_at bytes (at + 1) 4;
      round = number_at bytes (at + 5) 4;
      leaf = number_at bytes (at + 9) 2;
      best = float_at bytes (at + 11);
      k = number_at bytes (at + 19) 2;
      kept = number_at bytes (at + 21) 2;
      kept_score = float_at bytes (at + 23);
    }

abbrev pub trainer_at : Layout → List ℕ → ℕ → Trainer
trainer_at l bytes s =
    state_at (settings_at l bytes settings_place) (tree_at l (given_action (settings_at l bytes settings_place)) bytes s) bytes (state_place l s)

abbrev pub read_in : Layout → List ℕ → Trainer
read_in l bytes = trainer_at l bytes (split_count l bytes)

-- the version byte, and the trainer that the bytes stand for in that version's layout
abbrev pub version_at : List ℕ → ℕ
version_at bytes = get_or bytes length_size 0

abbrev pub read_of : List ℕ → Trainer
read_of bytes = read_in (layout_of (version_at bytes)) bytes
