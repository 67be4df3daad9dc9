-- 01, "Accepted", rule by rule over the fields that stand in the bytes of a record whose length and version hold: a test for each field,
-- with those before it where the rule names them.
use Rattle.std.specs.Prelude.{Bool, true, not, ◌&&◌, ◌||◌, cond, List, ℕ, ◌+◌, length, get_or, eqb, ltb, leb}
use Rattle.std.specs.Float.{binary64}
use Rattle.std.specs.Float.Ieee.{of_bits, nan_bits, lt}
use Rattle.remy.specs.Action.{valid_of}
use Rattle.rule_tree.specs.Lists.{all_below}
use Rattle.rule_tree.specs.Nodes.{node_count, most_splits}
use Rattle.trainer.specs.declared.settings.Settings.{Settings}
use Rattle.trainer.specs.Settings.{settings_hold}
use Rattle.trainer.specs.Candidates.{candidates_of}
use Rattle.trainer.specs.State.{none}
use Rattle.record.specs.declared.inner.layout.Layout.{Layout}
use Rattle.wire.specs.Bytes.{number_at}
use Rattle.record.specs.Layout.{layout_of, settings_place, drill_place, list_place, state_place, size_in}
use Rattle.wire.specs.Fields.{action_at, flag_at}
use Rattle.record.specs.Read.{settings_at, split_count, split_at_place, link_of, carried_at, payload_place, version_at}

-- "bytes are 0 or 1 where flags"
abbrev pub flag_accepted : List ℕ → ℕ → Bool
flag_accepted bytes at = leb (get_or bytes at 0) 1

-- "at most 64 splits"; refused are "bytes that end early or run on for the split count"
unfoldable pub size_accepted : Layout → List ℕ → ℕ → Bool
size_accepted l bytes s = leb s most_splits && eqb (length bytes) (size_in l s)

-- "settings .. hold", their upper ends too, and their drill byte is a flag
unfoldable pub settings_accepted : Layout → List ℕ → Bool
settings_accepted l bytes = settings_hold (settings_at l bytes settings_place) && flag_accepted bytes (settings_place + drill_place)

-- "each names a leaf then": split k's node is one of the 1 + 8 k that there are, and no split before it made it a parent
unfoldable pub split_accepted : List ℕ → ℕ → ℕ → Bool
split_accepted bytes list k =
    ltb (split_at_place bytes list k) (node_count k) && eqb (link_of bytes list k (split_at_place bytes list k)) 0

unfoldable pub splits_accepted : Layout → List ℕ → ℕ → Bool
splits_accepted l bytes s = all_below s (split_accepted bytes (list_place l))

-- "actions hold", and a node's mark byte is a flag
unfoldable pub node_accepted : List ℕ → ℕ → Bool
node_accepted bytes at = valid_of (action_at bytes at) && flag_accepted bytes (at + 20)

-- each node that is written, where it stands
unfoldable pub nodes_accepted : Layout → List ℕ → ℕ → Bool
nodes_accepted l bytes s =
    all_below (node_count s) (λ i. cond (carried_at l bytes s i) (node_accepted bytes (payload_place l bytes s i)) true)

-- "phase is 1..=7"
unfoldable pub phase_accepted : ℕ → Bool
phase_accepted phase = leb 1 phase && leb phase 7

-- "stage 1..=rule_splits, round 0 in phases 1, 2; stage <= rule_splits, round < rounds in 3 to 5; stage rule_splits+1, round 0 in 6, 7"
unfoldable pub stage_accepted : Settings → ℕ → ℕ → ℕ → Bool
stage_accepted s phase stage round =
    cond (leb phase 2) (leb 1 stage && (leb stage s.rule_splits && eqb round 0))
    (cond (leb phase 5) (leb stage s.rule_splits && ltb round s.optimization_rounds_per_split)
    (eqb stage (s.rule_splits + 1) && eqb round 0))

-- "in 4, 5 an unmarked leaf"; "Fields a phase doesn't use are 0"
unfoldable pub unmarked_leaf : Layout → List ℕ → ℕ → ℕ → Bool
unmarked_leaf l bytes s i =
    ltb i (node_count s) && (eqb (link_of bytes (list_place l) s i) 0 && not (flag_at bytes (payload_place l bytes s i + 20)))

unfoldable pub leaf_accepted : Layout → List ℕ → ℕ → ℕ → ℕ → Bool
leaf_accepted l bytes s phase leaf = cond (eqb phase 4 || eqb phase 5) (unmarked_leaf l bytes s leaf) (eqb leaf 0)

-- "NaN only as above": "a NaN is held as 7ff8000000000000 hexadecimal"
abbrev pub nan_accepted : ℕ → Bool
nan_accepted b = not (nan_bits binary64 b) || eqb b 0x7ff8_0000_0000_0000

-- "only in best"; no phase but 5 uses best
unfoldable pub best_accepted : ℕ → ℕ → Bool
best_accepted phase best = cond (eqb phase 5) (nan_accepted best) (eqb best 0)

-- "in 5 k below the list's length", which is n; no other phase uses k
unfoldable pub tried_accepted : ℕ → ℕ → ℕ → Bool
tried_accepted phase n k = cond (eqb phase 5) (ltb k n) (eqb k 0)

-- "kept below k with score above best"; "with none kept its score is 0"; no phase but 5 keeps one
unfoldable pub kept_accepted : ℕ → ℕ → ℕ → ℕ → ℕ → Bool
kept_accepted phase best k kept score =
    cond (eqb kept none) (eqb score 0)
    (eqb phase 5 && (ltb kept k && lt (of_bits binary64 best) (of_bits binary64 score)))

-- the length of the list of candidates for the action of a leaf
abbrev pub list_length : Layout → List ℕ → ℕ → ℕ → ℕ
list_length l bytes s leaf = length (candidates_of (settings_at l bytes settings_place) (action_at bytes (payload_place l bytes s leaf)))

-- the state that stands at a place
unfoldable pub state_accepted : Layout → List ℕ → ℕ → ℕ → Bool
state_accepted l bytes s at =
    phase_accepted (get_or bytes at 0)
    && (stage_accepted (settings_at l bytes settings_place) (get_or bytes at 0) (number_at bytes (at + 1) 4) (number_at bytes (at + 5) 4)
    && (leaf_accepted l bytes s (get_or bytes at 0) (number_at bytes (at + 9) 2)
    && (best_accepted (get_or bytes at 0) (number_at bytes (at + 11) 8)
    && (tried_accepted (get_or bytes at 0) (list_length l bytes s (number_at bytes (at + 9) 2)) (number_at bytes (at + 19) 2)
    && kept_accepted (get_or bytes at 0) (number_at bytes (at + 11) 8) (number_at bytes (at + 19) 2) (number_at bytes (at + 21) 2)
    (number_at bytes (at + 23) 8)))))

-- all of it, of bytes with s splits in a layout
unfoldable pub accepted_in : Layout → List ℕ → ℕ → Bool
accepted_in l bytes s =
    size_accepted l bytes s
    && (settings_accepted l bytes
    && (splits_accepted l bytes s && (nodes_accepted l bytes s && state_accepted l bytes s (state_place l s))))

-- the bytes of a record are accepted in their own version's layout
unfoldable pub accepted_bytes : List ℕ → Bool
accepted_bytes bytes = accepted_in (layout_of (version_at bytes)) bytes (split_count (layout_of (version_at bytes)) bytes)
