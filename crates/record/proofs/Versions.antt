-- What each version's bytes load as: a trainer that the version carries, which loads again from what is saved of it. Those of version 1 give
-- parents the default action, unmarked, which taking a split back then gives. Assumes nothing.
use mathlib.Core.Path.{◌≡◌, refl, sym, ap, subst, ◌∙◌}
use mathlib.Core.Bool.{Bool, true, false, ◌||◌, cond}
use mathlib.Core.List.{List}
use Prim.Native.Nat.{ℕ, ◌+◌, ◌*◌, ◌<◌}
use native.Mathlib.Omega.{arith}
use borrow.Author.Tests.{ne_eqb}
use lib.Dec.{eqb, ltb}
use lib.ListN.{length}
use Rattle.std.specs.Prelude.{Ok}
use Rattle.remy.specs.declared.action.Action.{Action}
use Rattle.remy.specs.Cube.{usual_ends}
use Rattle.rule_tree.specs.declared.Node.{Node}
use Rattle.rule_tree.specs.Nodes.{no_node, node_at_of, leaf_with, node_count, blank_node, node_holding, action_in}
use Rattle.rule_tree.specs.Grown.{grown_of}
use Rattle.rule_tree.specs.Change.{newest_parent, undone}
use Rattle.rule_tree.proofs.Lists.{get_d_tabulate}
use Rattle.rule_tree.proofs.Links.{grown_splits}
use Rattle.rule_tree.proofs.Undoing.{newest_before, newest_children, undo_parent}
use Rattle.rule_tree_laws.proofs.Sound.{kids}
use Rattle.trainer.specs.declared.Trainer.{Trainer}
use Rattle.trainer.specs.State.{accepted_of}
use Rattle.record.specs.declared.inner.layout.Layout.{Layout}
use Rattle.wire.specs.Bytes.{bytes_of}
use Rattle.record.specs.Layout.{layout_of, carries, given_action, list_place}
use Rattle.record.specs.Write.{record_in, record_of}
use Rattle.wire.specs.Fields.{action_at, flag_at, point_at}
use Rattle.record.specs.Read.{settings_at, split_count, link_of, payload_place, node_at_place, read_in, version_at}
use Rattle.record.specs.Calls.{load_of}
use Rattle.wire.proofs.Bytes.{never}
use Rattle.record.proofs.Layouts.{size_first, size_second}
use Rattle.record.proofs.Size.{record_size}
use Rattle.record.proofs.RoundTrip.{TrainerFits, Carried, carried_parents}
use Rattle.record.proofs.Loading.{accepted_ends, load_carried, load_saved, load_again, accepted_grown}
use Rattle.record.proofs.NumbersAgain.{Bytes}
use Rattle.record.proofs.BytesFit.{loaded_is, loaded_fits}

-- ---- a layout carries what is read in it
-- what a node that is not written is read as
abbrev given : Action → ℕ → Node
given a c = node_holding a c false

module _ (lay : Layout) (a : Action) (bytes : List ℕ) (s i : ℕ) where
  abbrev at : ℕ
  at = payload_place lay bytes s i

  abbrev link : ℕ
  link = link_of bytes (list_place lay) s i

  abbrev by : Bool → Bool → Node
  by b c = cond b (cond c (node_holding (action_at bytes at) link (flag_at bytes (at + 20))) (given a link)) blank_node

  place_given : carries lay (node_at_place lay a bytes s i).children ≡ false → node_at_place lay a bytes s i ≡ given a (node_at_place lay a bytes s i).children
  unfolding node_at_place
  place_given = go (ltb i (node_count s)) (carries lay link) refl
    where
      leaf : (b : Bool) → (b || true) ≡ false → ⊥
      leaf true e = never (sym e)
      leaf false e = never (sym e)

      go : (b c : Bool) → carries lay link ≡ c → carries lay (by b c).children ≡ false → by b c ≡ given a (by b c).children
      go true true e z = absurd (never (sym z ∙ e))
      go true false e z = refl
      go false c e z = absurd (leaf lay.parents z)

read_carried : (lay : Layout) (bytes : List ℕ) → Carried lay (read_in lay bytes)
read_carried lay bytes =
    let s = split_count lay bytes in
    let a = given_action (settings_at lay bytes 5) in
    record {
      parents = λ i l z.
          subst (λ (x : Node). carries lay x.children ≡ false → x ≡ given a x.children) (sym (get_d_tabulate 513 i (node_at_place lay a bytes s) no_node l)) (place_given lay a bytes s i) z;
      ends = λ z. ap (λ (b : Bool). cond b (point_at bytes 118) usual_ends) z;
      box = refl;
    }

pub loaded_carried : (bytes : List ℕ) (t : Trainer) → load_of bytes ≡ Ok t → Carried (layout_of (version_at bytes)) t
loaded_carried bytes t e = subst (Carried (layout_of (version_at bytes))) (loaded_is bytes t e) (read_carried (layout_of (version_at bytes)) bytes)

-- ---- "written again as version 3"
pub saved_version : (t : Trainer) → version_at (record_of t) ≡ 3
unfolding record_in bytes_of
saved_version t = refl

-- what is saved of a loaded trainer loads as that trainer, whatever version it came from
pub load_saved_again : (bytes : List ℕ) (t : Trainer) → Bytes bytes → load_of bytes ≡ Ok t → load_of (record_of t) ≡ Ok t
load_saved_again bytes t h e = load_saved t (loaded_fits bytes t h e) (load_again bytes t e).accepted

-- ---- "A version 1 record still loads, its parents holding the default action, unmarked"
-- t is what the version 1 record says: an accepted trainer of these bytes, with all that they do not say as it is given
pub record FirstLoaded (bytes : List ℕ) (t : Trainer) : Type 0 where
  pub accepted : accepted_of t ≡ true
  pub written : record_in (layout_of 1) 1 t ≡ bytes
  pub parents : (i : ℕ) → i < 513 → (kids t.tree i ≡ 0 → ⊥)
      → node_at_of t.tree.nodes i ≡ node_holding t.settings.default_action (kids t.tree i) false
  pub ends : t.settings.ends ≡ usual_ends

module _ (bytes : List ℕ) (t : Trainer) (e : load_of bytes ≡ Ok t) (v : version_at bytes ≡ 1) where
  first_carried : Carried (layout_of 1) t
  first_carried = subst (λ (n : ℕ). Carried (layout_of n) t) v (loaded_carried bytes t e)

  pub load_first_is : FirstLoaded bytes t
  load_first_is =
      record {
        accepted = (load_again bytes t e).accepted;
        written = ap (λ (n : ℕ). record_in (layout_of n) n t) (sym v) ∙ (load_again bytes t e).again;
        parents = λ i l n. first_carried.parents i l (ne_eqb (kids t.tree i) 0 n);
        ends = first_carried.ends refl;
      }

  -- "which taking back then gives"
  pub first_taken_back : TrainerFits t → 0 < t.tree.splits → node_at_of (undone t.tree).nodes (newest_parent t.tree) ≡ leaf_with t.settings.default_action
  first_taken_back f s =
      let g = accepted_grown t (load_again bytes t e).accepted in
      let full = f.tree.full in
      let i = newest_parent t.tree in
      let c = newest_children t.tree full g s in
      let b = newest_before t.tree full g s in
      undo_parent t.tree full g s
      ∙ ap (λ (x : Node). node_holding (action_in x) 0 x.optimized)
      (load_first_is.parents i (omega (arith, b, grown_splits t.tree g)) (λ z. absurd (omega (arith, z, c))))

-- every such trainer loads from its version 1 record
pub load_first : (t : Trainer) → TrainerFits t → FirstLoaded (record_in (layout_of 1) 1 t) t → load_of (record_in (layout_of 1) 1 t) ≡ Ok t
load_first t f h =
    load_carried 1 refl t f h.accepted
    (record { parents = λ i l z. h.parents i l (λ q. never (sym z ∙ ap (λ (c : ℕ). eqb c 0) q)); ends = λ z. h.ends; box = accepted_ends t f h.accepted })

-- "64 splits 9,708" in version 1
pub first_count : (t : Trainer) → grown_of t.tree ≡ true → length t.tree.nodes ≡ 513 → length (record_in (layout_of 1) 1 t) ≡ 172 + 149 * t.tree.splits
first_count t g full = record_size (layout_of 1) 1 t g full ∙ size_first t.tree.splits

-- ---- "older versions load with 600, 600, 1000": version 2, which says all of an accepted trainer but its upper ends
pub record SecondLoaded (bytes : List ℕ) (t : Trainer) : Type 0 where
  pub accepted : accepted_of t ≡ true
  pub written : record_in (layout_of 2) 2 t ≡ bytes
  pub ends : t.settings.ends ≡ usual_ends

pub load_second_is : (bytes : List ℕ) (t : Trainer) → load_of bytes ≡ Ok t → version_at bytes ≡ 2 → SecondLoaded bytes t
load_second_is bytes t e v =
    record {
      accepted = (load_again bytes t e).accepted;
      written = ap (λ (n : ℕ). record_in (layout_of n) n t) (sym v) ∙ (load_again bytes t e).again;
      ends = (subst (λ (n : ℕ). Carried (layout_of n) t) v (loaded_carried bytes t e)).ends refl;
    }

pub load_second : (t : Trainer) → TrainerFits t → SecondLoaded (record_in (layout_of 2) 2 t) t → load_of (record_in (layout_of 2) 2 t) ≡ Ok t
load_second t f h =
    load_carried 2 refl t f h.accepted (carried_parents (layout_of 2) t refl (λ z. h.ends) (accepted_ends t f h.accepted))

-- "64 splits 11,052" in version 2
pub second_count : (t : Trainer) → grown_of t.tree ≡ true → length t.tree.nodes ≡ 513 → length (record_in (layout_of 2) 2 t) ≡ 172 + 170 * t.tree.splits
second_count t g full = record_size (layout_of 2) 2 t g full ∙ size_second t.tree.splits
