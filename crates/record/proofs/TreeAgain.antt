-- The tree that is read from accepted bytes is grown, and its parts are written again as the bytes that they were read from. Assumes nothing.
use mathlib.Core.Path.{◌≡◌, refl, sym, ap, subst, ◌∙◌}
use mathlib.Core.Bool.{Bool, true, false, cond}
use mathlib.Core.List.{List, []}
use Prim.Native.Nat.{ℕ, zero, suc, ◌+◌, ◌*◌, ◌<◌, ◌≤◌}
use native.Mathlib.Omega.{arith}
use lib.ListN.{length, get_or, take}
use lib.Seq.{get_or-take, length-take-le}
use Rattle.remy.specs.declared.action.Action.{Action}
use Rattle.remy.specs.Cube.{usual_ends}
use Rattle.rule_tree.specs.declared.Node.{Node}
use Rattle.rule_tree.specs.declared.RuleTree.{RuleTree}
use Rattle.rule_tree.specs.Lists.{tabulate}
use Rattle.rule_tree.specs.Nodes.{node_at_of, node_count, children_of}
use Rattle.rule_tree.specs.Cubes.{split_nodes, owner_below}
use Rattle.rule_tree.specs.Grown.{ends_hold, grown_of}
use Rattle.rule_tree.proofs.Lists.{length_tabulate}
use Rattle.rule_tree.proofs.Links as links
use Rattle.trainer.specs.declared.Trainer.{Trainer}
use Rattle.trainer.proofs.Holds.{parts}
use Rattle.record.specs.declared.inner.layout.Layout.{Layout}
use Rattle.wire.specs.Bytes.{bytes_of, shorts_bytes}
use Rattle.record.specs.Layout.{given_action, ends_size, list_place, nodes_place}
use Rattle.wire.specs.Fields.{action_bytes, point_bytes}
use Rattle.record.specs.Write.{splits_bytes, end_bytes, node_bytes, payload_bytes}
use Rattle.wire.specs.Fields.{action_at, point_at}
use Rattle.record.specs.Read.{settings_at, split_count, split_at_place, carried_at, payload_place, node_at_place, tree_at, trainer_at}
use Rattle.record.specs.Parts.{node_fields}
use Rattle.wire.proofs.Bytes.{bytes_count}
use Rattle.record.proofs.Writing.{action_count, node_count_lem, payload_grows}
use Rattle.record.proofs.Size.{payload_count, nodes_length}
use Rattle.record.proofs.Stands.{Stands, moved}
use Rattle.record.proofs.NumbersAgain.{Bytes}
use Rattle.record.proofs.PartsAgain.{actions_valid, joined, nothing_stands, flag_stands, number_stands_again, action_stands, point_stands, list_again}
use Rattle.record.proofs.TreeRead.{nodes_long, carried_read, held_same, place_same}
use Rattle.record.proofs.SplitsTest.{owner_node}
use Rattle.record.proofs.AcceptedParts.{Accepted}
use Rattle.record.proofs.GrownRead.{node_at, node_valid, node_flag, read_grown}

module _ (lay : Layout) (bytes : List ℕ) (all : Bytes bytes) (h : Accepted lay bytes (split_count lay bytes)) where
  abbrev s : ℕ
  s = split_count lay bytes

  abbrev given : Action
  given = given_action (settings_at lay bytes 5)

  abbrev nodes : List Node
  nodes = tabulate 513 (node_at_place lay given bytes s)

  abbrev tree : RuleTree
  tree = tree_at lay given bytes s

  abbrev t : Trainer
  t = trainer_at lay bytes s

  pub tree_grown : grown_of tree ≡ true
  tree_grown =
      read_grown lay given bytes s h.few h.splits h.nodes (actions_valid (settings_at lay bytes 5) h.settings).default (parts (settings_at lay bytes 5) h.settings).4

  pub nodes_full : length nodes ≡ 513
  nodes_full = nodes_long lay given bytes s h.few

  -- ---- the nodes
  place_is : (i : ℕ) → i ≤ node_count s → nodes_place lay s + length (payload_bytes lay nodes i) ≡ payload_place lay bytes s i
  place_is i l = ap (λ (k : ℕ). nodes_place lay s + k) (payload_count lay nodes i) ∙ place_same lay given bytes s h.few i l

  -- one node, which ends before the state
  node_stand : (i : ℕ) → i < node_count s → Stands bytes (payload_place lay bytes s i) (node_fields lay (node_at_of nodes i))
  node_stand i l = go (carried_at lay bytes s i) refl
    where
      go : (c : Bool) → carried_at lay bytes s i ≡ c → Stands bytes (payload_place lay bytes s i) (node_fields lay (node_at_of nodes i))
      go false c =
          subst (λ (b : Bool). Stands bytes (payload_place lay bytes s i) (cond b (node_bytes (node_at_of nodes i)) [])) (sym (held_same lay given bytes s h.few i l ∙ c))
          (nothing_stands bytes (payload_place lay bytes s i))
      go true c =
          let at = payload_place lay bytes s i in
          let x = node_at_of nodes i in
          let e = held_same lay given bytes s h.few i l ∙ c in
          let ok = node_at lay given bytes s h.few h.nodes i l c in
          let size = h.size in
          let grows = payload_grows lay nodes i (node_count s) l in
          let whole = nodes_length lay 0 t tree_grown nodes_full in
          let p = place_is i (omega arith) in
          let n : length (node_fields lay x) ≡ 21 = node_count_lem lay x e in
          let room : at + 21 ≤ length bytes = omega arith in
          subst (λ (b : Bool). Stands bytes at (cond b (node_bytes x) [])) (sym e)
          (subst (λ (y : Node). Stands bytes at (node_bytes y)) (sym (carried_read lay given bytes s h.few i l c))
          (joined bytes at 20 (action_bytes (action_at bytes at)) _ (action_count (action_at bytes at))
          (action_stands bytes all at (omega arith) (node_valid lay given bytes s h.few at ok))
          (flag_stands bytes (at + 20) (omega arith) (node_flag lay given bytes s h.few at ok))))

  pub payload_stand : (n : ℕ) → n ≤ node_count s → Stands bytes (nodes_place lay s) (payload_bytes lay nodes n)
  unfolding payload_bytes
  payload_stand zero l = nothing_stands bytes (nodes_place lay s)
  payload_stand (suc n) l =
      joined bytes (nodes_place lay s) (length (payload_bytes lay nodes n)) (payload_bytes lay nodes n) (node_fields lay (node_at_of nodes n)) refl
      (payload_stand n (omega arith))
      (moved bytes (payload_place lay bytes s n) (nodes_place lay s + length (payload_bytes lay nodes n)) (node_fields lay (node_at_of nodes n))
      (sym (place_is n (omega arith))) (node_stand n (omega arith)))

  -- ---- the ends and the splits
  pub ends_stand : Stands bytes 118 (end_bytes lay (settings_at lay bytes 5))
  ends_stand = go lay.ends refl
    where
      go : (b : Bool) → lay.ends ≡ b → Stands bytes 118 (end_bytes lay (settings_at lay bytes 5))
      go true e =
          let size = h.size in
          subst (λ (b : Bool). Stands bytes 118 (cond b (point_bytes (cond b (point_at bytes 118) usual_ends)) [])) (sym e)
          (point_stands bytes all 118 (omega arith)
          (ap (λ (b : Bool). ends_hold (cond b (point_at bytes 118) usual_ends)) (sym e) ∙ (parts (settings_at lay bytes 5) h.settings).4))
      go false e =
          subst (λ (b : Bool). Stands bytes 118 (cond b (point_bytes (cond b (point_at bytes 118) usual_ends)) [])) (sym e) (nothing_stands bytes 118)

  abbrev ps : List ℕ
  ps = take s (split_nodes (children_of nodes))

  ps_long : length ps ≡ s
  ps_long =
      length-take-le s (split_nodes (children_of nodes))
      (omega (arith, h.few, length_tabulate 64 (λ k. owner_below 513 (children_of nodes) (8 * k + 1))))

  split_again : (k : ℕ) → k < length ps → get_or ps k 0 ≡ split_at_place bytes (list_place lay) k
  split_again k l =
      let m : k < s = omega (arith, ps_long) in
      get_or-take s (split_nodes (children_of nodes)) k 0 m ∙ (links.grown_owner tree tree_grown (nodes_long lay given bytes s h.few) k m).split
      ∙ sym (owner_node lay given bytes s h.few tree_grown k m)

  pub splits_stand : Stands bytes (118 + ends_size lay) (splits_bytes tree)
  splits_stand =
      let size = h.size in
      let e = ps_long in
      joined bytes (118 + ends_size lay) 2 (bytes_of 2 s) (shorts_bytes ps) (bytes_count 2 s)
      (number_stands_again bytes all (118 + ends_size lay) 2 (omega arith))
      (moved bytes (list_place lay) (118 + ends_size lay + 2) (shorts_bytes ps) (omega arith)
      (list_again bytes all (list_place lay) ps (omega arith) split_again))
