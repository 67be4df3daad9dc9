-- Where the parts of a record stand in it, for a trainer whose tree is grown. Assumes nothing.
use mathlib.Core.Path.{◌≡◌, refl}
use mathlib.Core.Bool.{true}
use mathlib.Core.List.{List, [], ◌∷◌, ◌++◌}
use Prim.Native.Nat.{ℕ, ◌+◌, ◌*◌}
use native.Mathlib.Omega.{arith}
use lib.ListN.{length}
use Rattle.rule_tree.specs.Nodes.{node_count}
use Rattle.rule_tree.specs.Grown.{grown_of}
use Rattle.trainer.specs.declared.Trainer.{Trainer}
use Rattle.record.specs.declared.inner.layout.Layout.{Layout}
use Rattle.wire.specs.Bytes.{bytes_of}
use Rattle.record.specs.Layout.{ends_size, nodes_in, nodes_place, state_place}
use Rattle.record.specs.Write.{settings_bytes, splits_bytes, end_bytes, payload_bytes, state_bytes, body_in, record_in}
use Rattle.wire.proofs.Bytes.{bytes_count}
use Rattle.record.proofs.Writing.{settings_count}
use Rattle.record.proofs.Size.{few, ends_count, splits_count, nodes_length}
use Rattle.record.proofs.Stands.{Stands, stands_all, moved, first, next}

module _ (lay : Layout) (v : ℕ) (t : Trainer) (g : grown_of t.tree ≡ true) (full : length t.tree.nodes ≡ 513) where
  abbrev bytes : List ℕ
  bytes = record_in lay v t

  abbrev s : ℕ
  s = t.tree.splits

  abbrev nodes : List ℕ
  nodes = payload_bytes lay t.tree.nodes (node_count s)

  abbrev after : List ℕ
  after = end_bytes lay t.settings ++ (splits_bytes t.tree ++ (nodes ++ state_bytes t))

  body_place : Stands bytes 4 (body_in lay v t)
  unfolding record_in
  body_place = next bytes 0 4 (bytes_of 4 (length (body_in lay v t))) (body_in lay v t) (bytes_count 4 (length (body_in lay v t))) (stands_all (record_in lay v t))

  from_settings : Stands bytes 5 (settings_bytes t.settings ++ after)
  from_settings = next bytes 4 1 (v ∷ []) (settings_bytes t.settings ++ after) refl body_place

  from_ends : Stands bytes 118 after
  from_ends = next bytes 5 113 (settings_bytes t.settings) after (settings_count t.settings) from_settings

  from_splits : Stands bytes (118 + ends_size lay) (splits_bytes t.tree ++ (nodes ++ state_bytes t))
  from_splits = next bytes 118 (ends_size lay) (end_bytes lay t.settings) (splits_bytes t.tree ++ (nodes ++ state_bytes t)) (ends_count lay t.settings) from_ends

  from_nodes : Stands bytes (nodes_place lay s) (nodes ++ state_bytes t)
  from_nodes =
      moved bytes (118 + ends_size lay + (2 + 2 * s)) (nodes_place lay s) (nodes ++ state_bytes t) (omega arith)
      (next bytes (118 + ends_size lay) (2 + 2 * s) (splits_bytes t.tree) (nodes ++ state_bytes t) (splits_count t.tree (few t.tree g full)) from_splits)

  pub settings_place_lem : Stands bytes 5 (settings_bytes t.settings)
  settings_place_lem = first bytes 5 (settings_bytes t.settings) after from_settings

  pub ends_place_lem : Stands bytes 118 (end_bytes lay t.settings)
  ends_place_lem = first bytes 118 (end_bytes lay t.settings) (splits_bytes t.tree ++ (nodes ++ state_bytes t)) from_ends

  pub splits_place : Stands bytes (118 + ends_size lay) (splits_bytes t.tree)
  splits_place = first bytes (118 + ends_size lay) (splits_bytes t.tree) (nodes ++ state_bytes t) from_splits

  pub nodes_place_lem : Stands bytes (nodes_place lay s) nodes
  nodes_place_lem = first bytes (nodes_place lay s) nodes (state_bytes t) from_nodes

  pub state_place_lem : Stands bytes (state_place lay s) (state_bytes t)
  state_place_lem = next bytes (nodes_place lay s) (21 * nodes_in lay s) nodes (state_bytes t) (nodes_length lay v t g full) from_nodes
