-- Bytes that are the record of an accepted trainer are accepted, rule by rule. Assumes nothing.
use mathlib.Core.Path.{◌≡◌, refl, sym, ap, subst, ◌∙◌}
use mathlib.Core.Bool.{Bool, true, false, ◌&&◌, cond}
use mathlib.Core.List.{List, [], ◌∷◌, ◌++◌}
use Prim.Native.Nat.{ℕ, ◌+◌, ◌*◌, ◌<◌, ◌≤◌}
use native.Mathlib.Omega.{arith}
use lib.Dec.{eqb, leb}
use lib.Ieee.{binary64, to_bits}
use lib.ListN.{length}
use Rattle.floats.proofs.Bits.{bits_below, read_fits}
use Rattle.remy.specs.declared.action.Action.{Action}
use Rattle.rule_tree.specs.declared.Node.{Node}
use Rattle.rule_tree.specs.Lists.{tabulate, count_below}
use Rattle.rule_tree.specs.Nodes.{node_at_of, node_count, action_in}
use Rattle.rule_tree.specs.Grown.{grown_of}
use Rattle.rule_tree.proofs.Links as links
use Rattle.rule_tree.proofs.Plain.{and_l, and_r}
use Rattle.trainer.specs.declared.Trainer.{Trainer}
use Rattle.trainer.specs.Settings.{settings_hold}
use Rattle.trainer.specs.State.{box_holds, phase_holds, accepted_of}
use Rattle.record.specs.declared.inner.layout.Layout.{Layout}
use Rattle.wire.specs.Bytes.{bytes_of, number_at, flag_byte}
use Rattle.record.specs.Layout.{given_action, nodes_place, state_place}
use Rattle.wire.specs.Fields.{float_bytes, action_bytes}
use Rattle.record.specs.Write.{settings_bytes, node_bytes, payload_bytes, state_bytes, record_in}
use Rattle.record.specs.Read.{settings_at, split_count, carried_at, payload_place, node_at_place, tree_at, trainer_at}
use Rattle.record.specs.Accepted.{flag_accepted, accepted_in, nan_accepted}
use Rattle.wire.proofs.Bytes.{bytes_count}
use Rattle.record.proofs.Writing.{action_count}
use Rattle.record.proofs.Size.{carried, record_size}
use Rattle.record.proofs.Stands.{Stands, moved, first, next, onward, number_back, byte_back, node_stands}
use Rattle.record.proofs.Loading.{accepted_grown}
use Rattle.record.proofs.Places.{settings_place_lem, nodes_place_lem, state_place_lem}
use Rattle.record.proofs.NumbersAgain.{Bytes, Plain, accepted_plain, number_below}
use Rattle.record.proofs.TreeRead.{nodes_long, held_same, place_same}
use Rattle.record.proofs.SplitsTest.{linked_splits}
use Rattle.record.proofs.StateTest.{best_number, state_is}
use Rattle.record.proofs.GrownRead.{nodes_from_lem}
use Rattle.record.proofs.AcceptedParts.{parts_accepted}

-- ---- a flag that is written is 0 or 1
flag_place : (bytes : List ℕ) (at : ℕ) (b : Bool) (y : List ℕ) → Stands bytes at (flag_byte b ∷ y) → flag_accepted bytes at ≡ true
flag_place bytes at b y h = ap (λ (k : ℕ). leb k 1) (byte_back bytes at (flag_byte b) y h) ∙ small b
  where
    small : (b : Bool) → leb (flag_byte b) 1 ≡ true
    small true = refl
    small false = refl

-- ---- bytes that are the record of an accepted trainer
module _ (lay : Layout) (v : ℕ) (bytes : List ℕ) (all : Bytes bytes) (a : accepted_of (trainer_at lay bytes (split_count lay bytes)) ≡ true)
    (again : record_in lay v (trainer_at lay bytes (split_count lay bytes)) ≡ bytes) where
  abbrev s : ℕ
  s = split_count lay bytes

  abbrev given : Action
  given = given_action (settings_at lay bytes 5)

  abbrev nodes : List Node
  nodes = tabulate 513 (node_at_place lay given bytes s)

  abbrev t : Trainer
  t = trainer_at lay bytes s

  grown : grown_of (tree_at lay given bytes s) ≡ true
  grown = accepted_grown t a

  few : s ≤ 64
  few = links.grown_splits (tree_at lay given bytes s) grown

  full : length nodes ≡ 513
  full = nodes_long lay given bytes s few

  holds : phase_holds t ≡ true
  unfolding accepted_of
  holds =
      and_r (box_holds t) (phase_holds t)
      (and_r (grown_of t.tree) (box_holds t && phase_holds t) (and_r (settings_hold t.settings) (grown_of t.tree && (box_holds t && phase_holds t)) a))

  settled : settings_hold (settings_at lay bytes 5) ≡ true
  unfolding accepted_of
  settled = and_l (settings_hold t.settings) (grown_of t.tree && (box_holds t && phase_holds t)) a

  settings_in_lem : Stands bytes 5 (settings_bytes t.settings)
  settings_in_lem = subst (λ (r : List ℕ). Stands r 5 (settings_bytes t.settings)) again (settings_place_lem lay v t grown full)

  drill_in : flag_accepted bytes 17 ≡ true
  drill_in =
      let b = bytes_of 4 t.settings.rule_splits in
      let d = bytes_of 4 t.settings.optimization_rounds_per_split in
      let e = bytes_of 4 t.settings.action_change_multiplier in
      let h4 = next bytes 5 4 b (d ++ (e ++ _)) (bytes_count 4 _) settings_in_lem in
      let h8 = onward bytes 5 4 4 8 d (e ++ _) (bytes_count 4 _) refl h4 in
      flag_place bytes 17 t.settings.drill_down _ (onward bytes 5 8 4 12 e _ (bytes_count 4 _) refl h8)

  mark_in : (i : ℕ) → i < node_count s → carried_at lay bytes s i ≡ true → flag_accepted bytes (payload_place lay bytes s i + 20) ≡ true
  mark_in i l c =
      let x = node_at_of nodes i in
      let at = payload_place lay bytes s i in
      let h =
      moved bytes (nodes_place lay s + 21 * count_below i (carried lay nodes)) at (node_bytes x) (place_same lay given bytes s few i (omega arith))
      (node_stands bytes lay (nodes_place lay s) nodes i (node_count s) l (held_same lay given bytes s few i l ∙ c)
      (subst (λ (r : List ℕ). Stands r (nodes_place lay s) (payload_bytes lay nodes (node_count s))) again (nodes_place_lem lay v t grown full))) in
      flag_place bytes (at + 20) x.optimized [] (next bytes at 20 (action_bytes (action_in x)) (_ ∷ []) (action_count (action_in x)) h)

  best_in : Plain (number_at bytes (state_place lay s + 11) 8)
  best_in =
      let at = state_place lay s in
      let h = subst (λ (r : List ℕ). Stands r (state_place lay s) (state_bytes t)) again (state_place_lem lay v t grown full) in
      let h1 = next bytes at 1 (t.phase ∷ []) (bytes_of 4 t.stage ++ (bytes_of 4 t.round ++ (bytes_of 2 t.leaf ++ (float_bytes t.best ++ _)))) refl h in
      let h5 = onward bytes at 1 4 5 (bytes_of 4 t.stage) (bytes_of 4 t.round ++ (bytes_of 2 t.leaf ++ (float_bytes t.best ++ _))) (bytes_count 4 _) refl h1 in
      let h9 = onward bytes at 5 4 9 (bytes_of 4 t.round) (bytes_of 2 t.leaf ++ (float_bytes t.best ++ _)) (bytes_count 4 _) refl h5 in
      let h11 = onward bytes at 9 2 11 (bytes_of 2 t.leaf) (float_bytes t.best ++ _) (bytes_count 2 _) refl h9 in
      sym (number_back bytes (at + 11) 8 (to_bits binary64 t.best) (bits_below t.best (read_fits (number_at bytes (at + 11) 8)))
      (first bytes (at + 11) (float_bytes t.best) _ h11))

  number_in : best_number bytes (state_place lay s) ≡ true
  number_in = go (eqb t.phase 5)
    where
      go : (b : Bool)
          → cond b (nan_accepted (number_at bytes (state_place lay s + 11) 8)) true ≡ true
      go true = accepted_plain (number_at bytes (state_place lay s + 11) 8) (number_below bytes (state_place lay s + 11) 8 all) best_in
      go false = refl

  pub record_accepted : accepted_in lay bytes s ≡ true
  record_accepted =
      parts_accepted lay bytes s
      (record {
        few = few;
        size = sym (ap length again) ∙ record_size lay v t grown full;
        settings = settled;
        drill = drill_in;
        splits = linked_splits lay given bytes s few grown;
        nodes = nodes_from_lem lay given bytes s few grown mark_in;
        state = state_is lay given bytes s (state_place lay s) few all ∙ both;
      })
    where
      both : phase_holds t && best_number bytes (state_place lay s) ≡ true
      both = rw (holds, number_in)
