-- The elements of a record are bytes. Assumes nothing.
use mathlib.Core.Bool.{Bool, true, false, cond}
use mathlib.Core.List.{List, [], ◌∷◌, ◌++◌}
use Prim.Native.Nat.{ℕ, zero, suc, ◌<◌}
use native.Mathlib.Omega.{arith}
use lib.ListN.{length, get_or, take}
use Rattle.remy.specs.declared.action.Action.{Action}
use Rattle.rule_tree.specs.declared.Node.{Node}
use Rattle.rule_tree.specs.Nodes.{node_at_of, node_count, children_of, action_in}
use Rattle.rule_tree.specs.Cubes.{split_nodes}
use Rattle.trainer.specs.declared.settings.Settings.{Settings}
use Rattle.trainer.specs.declared.Trainer.{Trainer}
use Rattle.record.specs.declared.inner.layout.Layout.{Layout}
use Rattle.wire.specs.Bytes.{bytes_of, flag_byte, shorts_bytes}
use Rattle.record.specs.Layout.{carries}
use Rattle.wire.specs.Fields.{action_bytes, point_bytes}
use Rattle.record.specs.Write.{settings_bytes, end_bytes, splits_bytes, node_bytes, payload_bytes, state_bytes, body_in, record_in}
use Rattle.record.specs.Parts.{node_fields}
use Rattle.wire.proofs.Bytes.{bytes_below}
use Rattle.record.proofs.NumbersAgain.{Bytes}

-- every element of the list is a byte
record Small (xs : List ℕ) : Type 0 where
  at : Bytes xs

small_none : Small []
small_none = record { at = λ i. omega arith }

small_cons : {x : ℕ} {xs : List ℕ} → x < 256 → Small xs → Small (x ∷ xs)
small_cons {x} {xs} l h = record { at = go }
  where
    go : (i : ℕ) → get_or (x ∷ xs) i 0 < 256
    go zero = l
    go (suc i) = h.at i

small_join : (xs : List ℕ) {ys : List ℕ} → Small xs → Small ys → Small (xs ++ ys)
small_join [] h g = g
small_join (x ∷ xs) h g = small_cons (h.at 0) (small_join xs (record { at = λ i. h.at (suc i) }) g)

small_number : (n x : ℕ) → Small (bytes_of n x)
small_number n x = record { at = bytes_below n x }

-- a number of n bytes, and what follows it
small_then : (n x : ℕ) {ys : List ℕ} → Small ys → Small (bytes_of n x ++ ys)
small_then n x h = small_join (bytes_of n x) (small_number n x) h

small_flag : (b : Bool) {xs : List ℕ} → Small xs → Small (flag_byte b ∷ xs)
small_flag true h = small_cons (omega arith) h
small_flag false h = small_cons (omega arith) h

small_action : (a : Action) → Small (action_bytes a)
small_action a = small_then 8 _ (small_then 4 _ (small_number 8 _))

small_action_then : (a : Action) {ys : List ℕ} → Small ys → Small (action_bytes a ++ ys)
small_action_then a h = small_join (action_bytes a) (small_action a) h

small_settings : (s : Settings) → Small (settings_bytes s)
small_settings s =
    small_then 4 _ (small_then 4 _ (small_then 4 _ (small_flag s.drill_down
    (small_action_then s.min_action (small_action_then s.max_action
    (small_action_then s.initial_action_change (small_action_then s.max_action_change
    (small_action s.default_action))))))))

small_list : (xs : List ℕ) → Small (shorts_bytes xs)
unfolding shorts_bytes
small_list [] = small_none
small_list (x ∷ xs) = small_then 2 x (small_list xs)

small_ends : (lay : Layout) (s : Settings) → Small (end_bytes lay s)
small_ends lay s = go lay.ends
  where
    go : (b : Bool) → Small (cond b (point_bytes s.ends) [])
    go true = small_then 8 _ (small_then 8 _ (small_number 8 _))
    go false = small_none

small_node : (lay : Layout) (x : Node) → Small (node_fields lay x)
small_node lay x = go (carries lay x.children)
  where
    go : (b : Bool) → Small (cond b (node_bytes x) [])
    go true = small_action_then (action_in x) (small_flag x.optimized small_none)
    go false = small_none

small_payload : (lay : Layout) (nodes : List Node) (n : ℕ) → Small (payload_bytes lay nodes n)
unfolding payload_bytes
small_payload lay nodes zero = small_none
small_payload lay nodes (suc n) = small_join (payload_bytes lay nodes n) (small_payload lay nodes n) (small_node lay (node_at_of nodes n))

small_state : (t : Trainer) → t.phase < 256 → Small (state_bytes t)
small_state t l =
    small_cons l (small_then 4 _ (small_then 4 _ (small_then 2 _ (small_then 8 _ (small_then 2 _ (small_then 2 _ (small_number 8 _)))))))

small_record : (lay : Layout) (v : ℕ) (t : Trainer) → v < 256 → t.phase < 256 → Small (record_in lay v t)
unfolding record_in
small_record lay v t l p =
    small_then 4 (length (body_in lay v t))
    (small_cons l
    (small_join (settings_bytes t.settings) (small_settings t.settings)
    (small_join (end_bytes lay t.settings) (small_ends lay t.settings)
    (small_join (splits_bytes t.tree) (small_then 2 t.tree.splits (small_list (take t.tree.splits (split_nodes (children_of t.tree.nodes)))))
    (small_join (payload_bytes lay t.tree.nodes (node_count t.tree.splits)) (small_payload lay t.tree.nodes (node_count t.tree.splits))
    (small_state t p))))))

pub record_bytes_lem : (lay : Layout) (v : ℕ) (t : Trainer) → v < 256 → t.phase < 256 → Bytes (record_in lay v t)
record_bytes_lem lay v t l p = (small_record lay v t l p).at
