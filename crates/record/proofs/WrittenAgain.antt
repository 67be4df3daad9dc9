-- Accepted bytes are an accepted trainer's, which is written again as the same bytes. Assumes nothing.
use mathlib.Core.Path.{◌≡◌, refl, sym, subst, ◌∙◌}
use mathlib.Core.Bool.{Bool, true, false, ◌&&◌, cond}
use mathlib.Core.List.{List, [], ◌∷◌, ◌++◌}
use Prim.Native.Nat.{ℕ, ◌+◌, ◌*◌, ◌<◌, ◌^◌}
use native.Mathlib.Omega.{arith}
use borrow.Author.Tests.{eqb-true}
use lib.Dec.{eqb, ltb}
use lib.Ieee.{binary64, of_bits, lt}
use lib.ListN.{length, get_or}
use Rattle.remy.specs.declared.action.Action.{Action}
use Rattle.rule_tree.specs.declared.Node.{Node}
use Rattle.rule_tree.specs.declared.RuleTree.{RuleTree}
use Rattle.rule_tree.specs.Lists.{tabulate}
use Rattle.rule_tree.specs.Nodes.{node_count}
use Rattle.rule_tree.proofs.Plain.{and_l, and_r}
use Rattle.trainer.specs.declared.Trainer.{Trainer}
use Rattle.trainer.specs.State.{none, box_holds, phase_holds, accepted_of}
use Rattle.trainer.proofs.Holds.{parts}
use Rattle.remy.proofs.Ends.{ends_themselves}
use Rattle.rule_tree.proofs.Plain.{ends_admitted_lem}
use Rattle.record.specs.declared.inner.layout.Layout.{Layout}
use Rattle.wire.specs.Bytes.{bytes_of, number_at}
use Rattle.record.specs.Layout.{given_action, ends_size, nodes_in, nodes_place, state_place}
use Rattle.wire.specs.Fields.{float_bytes}
use Rattle.record.specs.Write.{settings_bytes, splits_bytes, end_bytes, payload_bytes, state_bytes, body_in, record_in}
use Rattle.record.specs.Read.{settings_at, ends_at, split_count, node_at_place, tree_at, trainer_at}
use Rattle.record.specs.Accepted.{phase_accepted, stage_accepted, leaf_accepted, best_accepted, tried_accepted, kept_accepted, list_length, state_accepted, nan_accepted}
use Rattle.wire.proofs.Bytes.{bytes_count}
use Rattle.record.proofs.Writing.{settings_count}
use Rattle.record.proofs.Size.{ends_count, splits_count, nodes_length, body_size, record_size}
use Rattle.record.proofs.Stands.{Stands, moved}
use Rattle.record.proofs.NumbersAgain.{Bytes, Plain, plain_accepted, plain_not_nan, not_nan_above, zero_plain, number_below}
use Rattle.record.proofs.PartsAgain.{joined, then, fills, byte_stands, number_stands_again, float_stands, settings_stand}
use Rattle.record.proofs.StateTest.{best_number, state_is}
use Rattle.record.proofs.AcceptedParts.{Accepted}
use Rattle.record.proofs.TreeAgain.{tree_grown, nodes_full, payload_stand, ends_stand, splits_stand}

-- ---- the floats of the state
best_plain : (p b : ℕ) → b < 2 ^ 64 → best_accepted p b ≡ true → Plain b
unfolding best_accepted
best_plain p b l h = go (eqb p 5) h
  where
    go : (five : Bool) → cond five (nan_accepted b) (eqb b 0) ≡ true → Plain b
    go true h = plain_accepted b l h
    go false h = zero_plain b (eqb-true b 0 h)

score_plain : (p best k kept b : ℕ) → b < 2 ^ 64 → kept_accepted p best k kept b ≡ true → Plain b
unfolding kept_accepted
score_plain p best k kept b l h = go (eqb kept none) h
  where
    go : (free : Bool) → cond free (eqb b 0) (eqb p 5 && (ltb kept k && lt (of_bits binary64 best) (of_bits binary64 b))) ≡ true → Plain b
    go true h = zero_plain b (eqb-true b 0 h)
    go false h =
        plain_not_nan b l (not_nan_above (of_bits binary64 best) (of_bits binary64 b) (and_r (ltb kept k) _ (and_r (eqb p 5) _ h)))

module _ (lay : Layout) (bytes : List ℕ) (all : Bytes bytes) (h : Accepted lay bytes (split_count lay bytes)) where
  abbrev s : ℕ
  s = split_count lay bytes

  abbrev given : Action
  given = given_action (settings_at lay bytes 5)

  abbrev nodes : List Node
  nodes = tabulate 513 (node_at_place lay given bytes s)

  abbrev tree : RuleTree
  tree = tree_at lay given bytes s

  abbrev t : Trainer
  t = trainer_at lay bytes s

  holds : phase_holds t ≡ true
  holds =
      and_l (phase_holds t) (best_number bytes (state_place lay s))
      (sym (state_is lay given bytes s (state_place lay s) h.few all) ∙ h.state)

  boxed : box_holds t ≡ true
  unfolding box_holds
  boxed = let e = ends_at lay bytes 118 in ends_themselves e (ends_admitted_lem e (parts (settings_at lay bytes 5) h.settings).4)

  pub read_accepted : accepted_of t ≡ true
  unfolding accepted_of
  read_accepted = rw (h.settings, tree_grown lay bytes all h, boxed, holds)

  -- ---- its parts stand where they were read
  state_stand : Stands bytes (state_place lay s) (state_bytes t)
  unfolding state_accepted
  state_stand =
      let at = state_place lay s in
      let size = h.size in
      let r1 = and_r (phase_accepted (get_or bytes at 0)) _ h.state in
      let r2 = and_r (stage_accepted (settings_at lay bytes 5) (get_or bytes at 0) (number_at bytes (at + 1) 4) (number_at bytes (at + 5) 4)) _ r1 in
      let r3 = and_r (leaf_accepted lay bytes s (get_or bytes at 0) (number_at bytes (at + 9) 2)) _ r2 in
      let r4 = and_r (best_accepted (get_or bytes at 0) (number_at bytes (at + 11) 8)) _ r3 in
      let r5 = and_r (tried_accepted (get_or bytes at 0) (list_length lay bytes s (number_at bytes (at + 9) 2)) (number_at bytes (at + 19) 2)) _ r4 in
      let pb = best_plain (get_or bytes at 0) (number_at bytes (at + 11) 8) (number_below bytes (at + 11) 8 all) (and_l (best_accepted (get_or bytes at 0) (number_at bytes (at + 11) 8)) _ r3) in
      let ps = score_plain (get_or bytes at 0) (number_at bytes (at + 11) 8) (number_at bytes (at + 19) 2) (number_at bytes (at + 21) 2) (number_at bytes (at + 23) 8) (number_below bytes (at + 23) 8 all) r5 in
      let a = bytes_of 4 t.stage in
      let b = bytes_of 4 t.round in
      let d = bytes_of 2 t.leaf in
      let e = float_bytes t.best in
      let u = bytes_of 2 t.k in
      let v = bytes_of 2 t.kept in
      let w = float_bytes t.kept_score in
      let h23 = float_stands bytes all (at + 23) (omega arith) ps in
      let h21 = then bytes at 21 2 23 v w (bytes_count 2 _) refl (number_stands_again bytes all (at + 21) 2 (omega arith)) h23 in
      let h19 = then bytes at 19 2 21 u (v ++ w) (bytes_count 2 _) refl (number_stands_again bytes all (at + 19) 2 (omega arith)) h21 in
      let h11 = then bytes at 11 8 19 e (u ++ (v ++ w)) (bytes_count 8 _) refl (float_stands bytes all (at + 11) (omega arith) pb) h19 in
      let h9 = then bytes at 9 2 11 d (e ++ (u ++ (v ++ w))) (bytes_count 2 _) refl (number_stands_again bytes all (at + 9) 2 (omega arith)) h11 in
      let h5 = then bytes at 5 4 9 b (d ++ (e ++ (u ++ (v ++ w)))) (bytes_count 4 _) refl (number_stands_again bytes all (at + 5) 4 (omega arith)) h9 in
      let h1 = then bytes at 1 4 5 a (b ++ (d ++ (e ++ (u ++ (v ++ w))))) (bytes_count 4 _) refl (number_stands_again bytes all (at + 1) 4 (omega arith)) h5 in
      joined bytes at 1 (t.phase ∷ []) (a ++ (b ++ (d ++ (e ++ (u ++ (v ++ w)))))) refl (byte_stands bytes at (omega arith)) h1

  -- ---- the whole
  module _ (v : ℕ) (told : 4 + number_at bytes 0 4 ≡ length bytes) (is : get_or bytes 4 0 ≡ v) where
    body_stand : Stands bytes 4 (body_in lay v t)
    body_stand =
        let size = h.size in
        let z = end_bytes lay (settings_at lay bytes 5) in
        let y = splits_bytes tree in
        let x = payload_bytes lay nodes (node_count s) in
        let w = state_bytes t in
        let n = nodes_length lay v t (tree_grown lay bytes all h) (nodes_full lay bytes all h) in
        let h4 = joined bytes (nodes_place lay s) (21 * nodes_in lay s) x w n (payload_stand lay bytes all h (node_count s) (omega arith)) state_stand in
        let h3 = joined bytes (118 + ends_size lay) (2 + 2 * s) y (x ++ w) (splits_count tree h.few) (splits_stand lay bytes all h)
        (moved bytes (nodes_place lay s) (118 + ends_size lay + (2 + 2 * s)) (x ++ w) (omega arith) h4) in
        let h2 = joined bytes 118 (ends_size lay) z (y ++ (x ++ w)) (ends_count lay (settings_at lay bytes 5)) (ends_stand lay bytes all h) h3 in
        let h1 = joined bytes 5 113 (settings_bytes (settings_at lay bytes 5)) (z ++ (y ++ (x ++ w))) (settings_count (settings_at lay bytes 5))
        (settings_stand bytes all lay 5 (omega arith) h.settings h.drill) h2 in
        joined bytes 4 1 (v ∷ []) (settings_bytes (settings_at lay bytes 5) ++ (z ++ (y ++ (x ++ w)))) refl
        (subst (λ (b : ℕ). Stands bytes 4 (b ∷ [])) is (byte_stands bytes 4 (omega arith))) h1

    pub written_again : record_in lay v t ≡ bytes
    unfolding record_in
    written_again =
        let size = h.size in
        let n = length (body_in lay v t) in
        let e : n ≡ number_at bytes 0 4 = (let b = body_size lay v t (tree_grown lay bytes all h) (nodes_full lay bytes all h) in omega arith) in
        fills bytes (bytes_of 4 n ++ body_in lay v t) (record_size lay v t (tree_grown lay bytes all h) (nodes_full lay bytes all h) ∙ sym h.size)
        (joined bytes 0 4 (bytes_of 4 n) (body_in lay v t) (bytes_count 4 n)
        (subst (λ (k : ℕ). Stands bytes 0 (bytes_of 4 k)) (sym e) (number_stands_again bytes all 0 4 (omega arith)))
        body_stand)
