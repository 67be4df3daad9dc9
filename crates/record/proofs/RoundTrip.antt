-- A record that is read gives the trainer that was written: reading undoes writing, in every layout, for every accepted trainer that
-- the layout can carry and whose values fit their types. Assumes nothing.
use mathlib.Core.Path.{◌≡◌, refl, sym, ap, subst, ◌∙◌}
use mathlib.Core.Bool.{Bool, true, false, ◌||◌, cond}
use mathlib.Core.List.{List, [], ◌∷◌, ◌++◌}
use mathlib.Core.Logic.{⊎_elim}
use Prim.Native.Nat.{ℕ, ◌+◌, ◌*◌, ◌/◌, ◌^◌, ◌<◌, ◌≤◌}
use native.Mathlib.Omega.{arith}
use lib.Dec.{T, eqb}
use lib.Ieee.{binary64, fits}
use lib.ListN.{length, get_or, take}
use lib.Seq.{get_or-take, length-take-le, ext_get_or}
use Rattle.remy.specs.declared.action.Action.{Action}
use Rattle.remy.specs.Cube.{usual_ends}
use Rattle.rule_tree.specs.Lists.{tabulate, count_below}
use Rattle.rule_tree.specs.Nodes.{no_node, node_at_of, node_count, children_of, node_holding, action_in}
use Rattle.rule_tree.specs.Cubes.{split_nodes, owner_below}
use Rattle.rule_tree.specs.Grown.{grown_of}
use Rattle.rule_tree.proofs.Lists.{length_tabulate, get_d_tabulate, count_below_same}
use Rattle.rule_tree.proofs.LinkWays.{children_at}
use Rattle.rule_tree.proofs.Owners.{same_or_not, below_or_not}
use Rattle.rule_tree.proofs.Links as links
use Rattle.rule_tree_laws.proofs.Sound.{kids, TreeFits, Sound, grown_sound}
use Rattle.trainer.specs.declared.Trainer.{Trainer}
use Rattle.record.specs.declared.inner.layout.Layout.{Layout}
use Rattle.wire.specs.Bytes.{bytes_of, shorts_bytes}
use Rattle.record.specs.Layout.{carries, given_action, ends_size, list_place, nodes_place, state_place}
use Rattle.wire.specs.Fields.{float_bytes, point_bytes, action_bytes}
use Rattle.record.specs.Write.{node_bytes, state_bytes, record_in}
use Rattle.record.specs.Read.{settings_at, ends_at, split_count, split_at_place, link_of, carried_at, payload_place, node_at_place, tree_at, trainer_at, read_in}
use Rattle.wire.proofs.Bytes.{bytes_count, never}
use Rattle.record.proofs.Reading.{node_is, unused_is, node_read, node_given, ends_read, ends_given, tree_given, tree_read, trainer_read}
use Rattle.record.proofs.Writing.{action_count}
use Rattle.record.proofs.Size.{carried, few}
use Rattle.record.proofs.LinksRead.{link_leaf, link_last}
use Rattle.record.proofs.Places.{settings_place_lem, ends_place_lem, splits_place, nodes_place_lem, state_place_lem}
use Rattle.record.proofs.Stands.{Stands, moved, first, next, onward, number_back, byte_back, flag_back, float_back, action_back, point_back, list_stands, node_stands, SettingsFits, settings_back}

-- the values of a trainer fit their types, as in every trainer that a program holds
pub record TrainerFits (t : Trainer) : Type 0 where
  pub settings : SettingsFits t.settings
  pub tree : TreeFits t.tree
  pub stage : t.stage < 2 ^ 32
  pub round : t.round < 2 ^ 32
  pub leaf : t.leaf < 2 ^ 16
  pub best : T (fits binary64 t.best)
  pub k : t.k < 2 ^ 16
  pub kept : t.kept < 2 ^ 16
  pub score : T (fits binary64 t.kept_score)

-- a layout can carry a trainer: what it does not write is what is read in its place
pub record Carried (lay : Layout) (t : Trainer) : Type 0 where
  pub parents : (i : ℕ) → i < 513 → carried lay t.tree.nodes i ≡ false
      → node_at_of t.tree.nodes i ≡ node_holding (given_action t.settings) (kids t.tree i) false
  pub ends : lay.ends ≡ false → t.settings.ends ≡ usual_ends
  pub box : t.tree.ends ≡ t.settings.ends

module _ (lay : Layout) (v : ℕ) (t : Trainer) (f : TrainerFits t) (g : grown_of t.tree ≡ true) (can : Carried lay t) where
  full : length t.tree.nodes ≡ 513
  full = f.tree.full

  sound : Sound t.tree
  sound = grown_sound t.tree f.tree g

  abbrev bytes : List ℕ
  bytes = record_in lay v t

  abbrev s : ℕ
  s = t.tree.splits

  abbrev list : ℕ
  list = list_place lay

  -- ---- the splits
  count_back : split_count lay bytes ≡ s
  count_back =
      let l = few t.tree g full in
      number_back bytes (118 + ends_size lay) 2 s (omega arith)
      (first bytes (118 + ends_size lay) (bytes_of 2 s) (shorts_bytes (take s (split_nodes (children_of t.tree.nodes)))) (splits_place lay v t g full))

  split_back : (k : ℕ) (l : k < s) → split_at_place bytes list k ≡ (links.grown_owner t.tree g full k l).at
  split_back k l =
      let m = few t.tree g full in
      let ps = split_nodes (children_of t.tree.nodes) in
      let o = links.grown_owner t.tree g full k l in
      let long = length-take-le s ps (omega (arith, length_tabulate 64 (λ k. owner_below 513 (children_of t.tree.nodes) (8 * k + 1)))) in
      let e : get_or (take s ps) k 0 ≡ o.at = get_or-take s ps k 0 l ∙ o.split in
      number_back bytes (list + 2 * k) 2 (get_or (take s ps) k 0) (omega (arith, o.low))
      (list_stands bytes list k (take s ps) (omega arith)
      (moved bytes (118 + ends_size lay + 2) list (shorts_bytes (take s ps)) (omega arith)
      (next bytes (118 + ends_size lay) 2 (bytes_of 2 s) (shorts_bytes (take s ps)) (bytes_count 2 s) (splits_place lay v t g full))))
      ∙ e

  owner_kids : (k : ℕ) (l : k < s) → kids t.tree (links.grown_owner t.tree g full k l).at ≡ 8 * k + 1
  owner_kids k l = let o = links.grown_owner t.tree g full k l in sym (children_at t.tree.nodes o.at) ∙ o.is

  -- a split that names node i says that node's first child
  split_kids : (k i : ℕ) → k < s → split_at_place bytes list k ≡ i → kids t.tree i ≡ 8 * k + 1
  split_kids k i l e = ap (kids t.tree) (sym e ∙ split_back k l) ∙ owner_kids k l

  link_back : (i : ℕ) → i < 513 → link_of bytes list s i ≡ kids t.tree i
  link_back i l =
      ⊎_elim
      (λ (z : kids t.tree i ≡ 0).
      link_leaf bytes list s i (λ k b e. let w = split_kids k i b e in omega arith) ∙ sym z)
      (λ (n : kids t.tree i ≡ 0 → ⊥).
      let c = kids t.tree i in
      let h = sound.link i l n in
      let q : c ≡ 8 * (c / 8) + 1 = omega (arith, h.first) in
      let b : c / 8 < s = omega (arith, h.first, h.inside) in
      let o = links.grown_owner t.tree g full (c / 8) b in
      let same : o.at ≡ i = sound.only i o.at l (omega (arith, o.low, few t.tree g full)) n (owner_kids (c / 8) b ∙ sym q) in
      link_last bytes list s i (c / 8) b (split_back (c / 8) b ∙ same)
      (λ m p d e. let w = split_kids m i d e in omega arith)
      ∙ sym q)
      (same_or_not (kids t.tree i) 0)

  -- ---- the nodes
  abbrev held : ℕ → Bool
  held = carried lay t.tree.nodes

  held_same : (i : ℕ) → i < 513 → carried_at lay bytes s i ≡ held i
  held_same i l = ap (carries lay) (link_back i l)

  count_same : (n : ℕ) → n ≤ 513 → count_below n (carried_at lay bytes s) ≡ count_below n held
  count_same n l = count_below_same n (carried_at lay bytes s) held (λ i h. held_same i (omega arith))

  place_same : (i : ℕ) → i ≤ 513 → payload_place lay bytes s i ≡ nodes_place lay s + 21 * count_below i held
  place_same i l = ap (λ (k : ℕ). nodes_place lay s + 21 * k) (count_same i l)

  abbrev given : Action
  given = given_action t.settings

  written_back : (i : ℕ) → i < node_count s → held i ≡ true → node_at_of t.tree.nodes i ≡ node_at_place lay given bytes s i
  written_back i l z =
      let m = few t.tree g full in
      let b : i < 513 = omega arith in
      let x = node_at_of t.tree.nodes i in
      let at = payload_place lay bytes s i in
      let h =
      moved bytes (nodes_place lay s + 21 * count_below i held) at (node_bytes x) (sym (place_same i (omega arith)))
      (node_stands bytes lay (nodes_place lay s) t.tree.nodes i (node_count s) l z (nodes_place_lem lay v t g full)) in
      let a = action_back bytes at (action_in x) (f.tree.actions i b) (first bytes at (action_bytes (action_in x)) (_ ∷ []) h) in
      let d = flag_back bytes (at + 20) x.optimized [] (next bytes at 20 (action_bytes (action_in x)) (_ ∷ []) (action_count (action_in x)) h) in
      let e = sym (link_back i b) in
      (λ j. node_holding (action_in x) (e j) x.optimized)
      ∙ node_read lay given bytes at (link_of bytes list s i) (held_same i b ∙ z) (sym a) (sym d)
      ∙ node_is lay given bytes s i l

  given_back : (i : ℕ) → i < node_count s → held i ≡ false → node_at_of t.tree.nodes i ≡ node_at_place lay given bytes s i
  given_back i l z =
      let m = few t.tree g full in
      let b : i < 513 = omega arith in
      let e = sym (link_back i b) in
      can.parents i b z
      ∙ (λ j. node_holding given (e j) false)
      ∙ node_given lay given bytes (payload_place lay bytes s i) (link_of bytes list s i) (held_same i b ∙ z)
      ∙ node_is lay given bytes s i l

  node_back : (i : ℕ) → i < 513 → node_at_of t.tree.nodes i ≡ node_at_place lay given bytes s i
  node_back i l =
      ⊎_elim
      (λ (b : i < node_count s). by b (held i) refl)
      (λ (b : node_count s ≤ i). sound.unused i b l ∙ sym (unused_is lay given bytes s i b))
      (below_or_not i (node_count s))
    where
      by : i < node_count s → (h : Bool) → held i ≡ h → node_at_of t.tree.nodes i ≡ node_at_place lay given bytes s i
      by b true e = written_back i b e
      by b false e = given_back i b e

  -- ---- the ends
  ends_back : t.settings.ends ≡ ends_at lay bytes 118
  ends_back = by lay.ends refl
    where
      by : (b : Bool) → lay.ends ≡ b → t.settings.ends ≡ ends_at lay bytes 118
      by true e =
          ends_read lay bytes 118 e
          (sym (point_back bytes 118 t.settings.ends f.settings.ends (subst (λ (b : Bool). Stands bytes 118 (cond b (point_bytes t.settings.ends) [])) e (ends_place_lem lay v t g full))))
      by false e = ends_given lay bytes 118 e (can.ends e)

  tree_back : t.tree ≡ tree_at lay given bytes s
  tree_back =
      tree_read lay given bytes s
      (ext_get_or no_node t.tree.nodes (tabulate 513 (node_at_place lay given bytes s)) (full ∙ sym (length_tabulate 513 (node_at_place lay given bytes s)))
      (λ i l. node_back i (omega (arith, full)) ∙ sym (get_d_tabulate 513 i (node_at_place lay given bytes s) no_node (omega (arith, full)))))
      (can.box ∙ ends_back)

  settings_same : t.settings ≡ settings_at lay bytes 5
  settings_same =
      settings_back lay bytes 5 t.settings f.settings
      (settings_place_lem lay v t g full) ends_back

  -- ---- the state
  state_stands : Stands bytes (state_place lay s) (state_bytes t)
  state_stands = state_place_lem lay v t g full

  trainer_back : t ≡ trainer_at lay bytes s
  trainer_back =
      let at = state_place lay s in
      let p = t.phase ∷ [] in
      let a = bytes_of 4 t.stage in
      let b = bytes_of 4 t.round in
      let d = bytes_of 2 t.leaf in
      let e = float_bytes t.best in
      let u = bytes_of 2 t.k in
      let v = bytes_of 2 t.kept in
      let w = float_bytes t.kept_score in
      let h1 = next bytes at 1 p (a ++ (b ++ (d ++ (e ++ (u ++ (v ++ w)))))) refl state_stands in
      let h5 = onward bytes at 1 4 5 a (b ++ (d ++ (e ++ (u ++ (v ++ w))))) (bytes_count 4 _) refl h1 in
      let h9 = onward bytes at 5 4 9 b (d ++ (e ++ (u ++ (v ++ w)))) (bytes_count 4 _) refl h5 in
      let h11 = onward bytes at 9 2 11 d (e ++ (u ++ (v ++ w))) (bytes_count 2 _) refl h9 in
      let h19 = onward bytes at 11 8 19 e (u ++ (v ++ w)) (bytes_count 8 _) refl h11 in
      let h21 = onward bytes at 19 2 21 u (v ++ w) (bytes_count 2 _) refl h19 in
      let h23 = onward bytes at 21 2 23 v w (bytes_count 2 _) refl h21 in
      trainer_read lay bytes s at refl settings_same (tree_given lay bytes s t.settings given settings_same refl tree_back)
      (sym (byte_back bytes at t.phase (a ++ (b ++ (d ++ (e ++ (u ++ (v ++ w)))))) state_stands))
      (sym (number_back bytes (at + 1) 4 _ f.stage (first bytes (at + 1) a (b ++ (d ++ (e ++ (u ++ (v ++ w))))) h1)))
      (sym (number_back bytes (at + 5) 4 _ f.round (first bytes (at + 5) b (d ++ (e ++ (u ++ (v ++ w)))) h5)))
      (sym (number_back bytes (at + 9) 2 _ f.leaf (first bytes (at + 9) d (e ++ (u ++ (v ++ w))) h9)))
      (sym (float_back bytes (at + 11) _ f.best (first bytes (at + 11) e (u ++ (v ++ w)) h11)))
      (sym (number_back bytes (at + 19) 2 _ f.k (first bytes (at + 19) u (v ++ w) h19)))
      (sym (number_back bytes (at + 21) 2 _ f.kept (first bytes (at + 21) v w h21)))
      (sym (float_back bytes (at + 23) _ f.score h23))

  -- reading undoes writing
  pub read_back : read_in lay (record_in lay v t) ≡ t
  read_back = ap (trainer_at lay bytes) count_back ∙ sym trainer_back

-- ---- which trainers a layout carries
-- one that writes every node and the ends carries every trainer
pub carried_whole : (lay : Layout) (t : Trainer) → lay.parents ≡ true → lay.ends ≡ true → t.tree.ends ≡ t.settings.ends → Carried lay t
carried_whole lay t p e b =
    record {
      parents = λ i l z. absurd (never (sym z ∙ ap (λ (b : Bool). b || eqb (kids t.tree i) 0) p));
      ends = λ z. absurd (never (sym z ∙ e));
      box = b;
    }

-- one that writes every node carries every trainer whose ends it carries
pub carried_parents : (lay : Layout) (t : Trainer) → lay.parents ≡ true → (lay.ends ≡ false → t.settings.ends ≡ usual_ends) → t.tree.ends ≡ t.settings.ends → Carried lay t
carried_parents lay t p e b =
    record {
      parents = λ i l z. absurd (never (sym z ∙ ap (λ (b : Bool). b || eqb (kids t.tree i) 0) p));
      ends = e;
      box = b;
    }
