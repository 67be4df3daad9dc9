-- 01, "The record", as the plain trainer writes it: "Big-endian", one field after another.
use Rattle.std.specs.Prelude.{Bool, List, [], ◌∷◌, ◌++◌, map, ℕ, length, Float}
use Rattle.std.specs.Float.{binary64}
use Rattle.std.specs.Float.Ieee.{to_bits}
use Rattle.std.specs.Int.{w32}
use Rattle.std.proofs.Common.{of_z}
use Rattle.remy.specs.declared.action.Action.{Action}
use Rattle.remy.specs.Cube.{ack, send, ratio}
use Rattle.trainer.specs.declared.settings.Settings.{Settings}
use Rattle.wire.specs.Bytes.{bytes_of, flag_byte}
use Rattle.promise.specs.PlainTree.{Tree, Rule}

abbrev pub joined : List (List ℕ) → List ℕ
joined [] = []
joined (field ∷ fields) = field ++ joined fields

-- ---- single fields
abbrev pub byte : ℕ → List ℕ
byte x = x ∷ []

-- "bytes are 0 or 1 where flags"
abbrev pub flag : Bool → List ℕ
flag b = byte (flag_byte b)

abbrev pub u16 : ℕ → List ℕ
u16 x = bytes_of 2 x

abbrev pub u32 : ℕ → List ℕ
u32 x = bytes_of 4 x

-- a float's "bits 8"
abbrev pub bits8 : Float → List ℕ
bits8 x = bytes_of 8 (to_bits binary64 x)

-- ---- the parts
-- "multiplier bits 8, increment 4, delay bits 8"
abbrev pub action_part : Action → List ℕ
action_part a =
    joined (bits8 a.window_multiplier ∷ u32 (of_z w32 a.window_increment) ∷ bits8 a.intersend_delay.0 ∷ [])

-- "u32 splits, rounds, multiplier; drill byte; five actions in the order above": "min, max, initial change, max change, default"
abbrev pub settings_part : Settings → List ℕ
settings_part s =
    joined
    (u32 s.rule_splits ∷ u32 s.optimization_rounds_per_split ∷ u32 s.action_change_multiplier ∷ flag s.drill_down
    ∷ action_part s.min_action ∷ action_part s.max_action ∷ action_part s.initial_action_change ∷ action_part s.max_action_change
    ∷ action_part s.default_action ∷ [])

-- 02, wish 8: "24 bytes after the five actions (ack, send, ratio)"
abbrev pub ends_part : Settings → List ℕ
ends_part s = joined (bits8 (ack s.ends) ∷ bits8 (send s.ends) ∷ bits8 (ratio s.ends) ∷ [])

-- "its action and mark byte"
abbrev pub rule_part : Rule → List ℕ
rule_part r = joined (action_part r.action ∷ flag r.marked ∷ [])

-- "u16 split count; each split's node u16"; action and mark "for every node by rising number"
abbrev pub tree_part : Tree → List ℕ
tree_part t = joined (u16 (length t.splits) ∷ joined (map u16 t.splits) ∷ joined (map rule_part t.rules) ∷ [])
