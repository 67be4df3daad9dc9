-- How a version of the record lays a trainer out: which of its parts are written, at which places, and how many bytes.
use Rattle.std.specs.Prelude.{Bool, ◌&&◌, ◌||◌, cond, ℕ, ◌+◌, ◌*◌, eqb, ltb, leb}
use Rattle.remy.specs.declared.action.Action.{Action}
use Rattle.trainer.specs.declared.settings.Settings.{Settings}
use Rattle.record.specs.declared.inner.layout.Layout.{Layout}

-- version 1 writes the actions and marks "per leaf by rising node"; version 2 "writes them for every node by rising number"; "Record version 3 is version 2
-- with these as 24 bytes after the five actions": the upper ends
abbrev pub layout_of : ℕ → Layout
layout_of v = record { parents = ltb 1 v; ends = ltb 2 v }

-- the versions that are known: "version byte 1", "record version 2" and "Record version 3"
abbrev pub known_of : ℕ → Bool
known_of v = leb 1 v && leb v 3

-- whether the action and mark of a node with the first child c are written
abbrev pub carries : Layout → ℕ → Bool
carries l c = l.parents || eqb c 0

-- what a parent holds that is not written: "its parents holding the default action, unmarked"
abbrev pub given_action : Settings → Action
given_action s = s.default_action

-- ---- how many bytes each part has
-- "u32 length of all that follows; version byte", after which the settings stand
abbrev pub length_size : ℕ
length_size = 4

-- 6: "the u32 over 16,384"
abbrev pub most_length : ℕ
most_length = 16384

abbrev pub settings_place : ℕ
settings_place = length_size + 1

-- "multiplier bits 8, increment 4, delay bits 8"
abbrev pub action_size : ℕ
action_size = 8 + 4 + 8

-- "u32 splits, rounds, multiplier; drill byte; five actions", after which the upper ends stand
abbrev pub drill_place : ℕ
drill_place = 3 * 4

abbrev pub settings_size : ℕ
settings_size = drill_place + 1 + 5 * action_size

abbrev pub ends_place : ℕ
ends_place = settings_place + settings_size

-- "u16 split count; each split's node u16"
abbrev pub count_size : ℕ
count_size = 2

-- "its action and mark byte"
abbrev pub node_size : ℕ
node_size = action_size + 1

-- "phase byte; u32 stage, round; u16 leaf; best 8; u16 k; u16 kept (65535 none); kept's score 8"
abbrev pub state_size : ℕ
state_size = 1 + 2 * 4 + 2 + 8 + 2 + 2 + 8

-- the bytes of the upper ends: "24 bytes"
unfoldable pub ends_size : Layout → ℕ
ends_size l = cond l.ends (3 * 8) 0

-- how many nodes of a tree of s splits are written: all, or the leaves
unfoldable pub nodes_in : Layout → ℕ → ℕ
nodes_in l s = cond l.parents (1 + 8 * s) (1 + 7 * s)

-- where the split count stands, then the splits' nodes, then the nodes' actions and marks, then the state
abbrev pub count_place : Layout → ℕ
count_place l = ends_place + ends_size l

abbrev pub list_place : Layout → ℕ
list_place l = count_size + ends_place + ends_size l

abbrev pub nodes_place : Layout → ℕ → ℕ
nodes_place l s = list_place l + 2 * s

abbrev pub state_place : Layout → ℕ → ℕ
state_place l s = nodes_place l s + node_size * nodes_in l s

-- the size of the record of a tree of s splits
abbrev pub size_in : Layout → ℕ → ℕ
size_in l s = state_place l s + state_size
