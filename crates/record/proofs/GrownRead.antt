-- The tree that is read is grown where each split names a leaf then, each node that is written is valid, and so are the given action and
-- the ends. Assumes nothing.
use mathlib.Core.Path.{◌≡◌, refl, sym, ap, ◌∙◌}
use mathlib.Core.Bool.{Bool, true, false, ◌&&◌, cond}
use mathlib.Core.List.{List}
use mathlib.Core.Logic.{⊎_elim}
use Prim.Native.Nat.{ℕ, ◌+◌, ◌<◌, ◌≤◌}
use borrow.Author.Tests.{lt-ltb, le-ltb}
use lib.Dec.{ltb}
use Rattle.remy.specs.declared.action.Action.{Action}
use Rattle.remy.specs.Action.{valid_of}
use Rattle.rule_tree.specs.declared.Node.{Node}
use Rattle.rule_tree.specs.Lists.{tabulate}
use Rattle.rule_tree.specs.Nodes.{node_at_of, node_count, action_in}
use Rattle.rule_tree.specs.Grown.{plain_of, slot_holds, ends_hold, grown_of}
use Rattle.rule_tree.proofs.Lists.{all_below_at, all_below_all}
use Rattle.rule_tree.proofs.LinkWays.{slot_used, slot_unused, grown_rest}
use Rattle.rule_tree.proofs.Links as links
use Rattle.rule_tree.proofs.Owners.{below_or_not}
use Rattle.rule_tree.proofs.Plain.{and_l, and_r}
use Rattle.rule_tree.proofs.Changing.{blank_plain}
use Rattle.record.specs.declared.inner.layout.Layout.{Layout}
use Rattle.record.specs.Layout.{list_place}
use Rattle.wire.specs.Fields.{action_at}
use Rattle.record.specs.Read.{link_of, carried_at, payload_place, node_at_place, ends_at, tree_at}
use Rattle.record.specs.Accepted.{flag_accepted, node_accepted, splits_accepted, nodes_accepted}
use Rattle.record.proofs.Reading.{node_given}
use Rattle.record.proofs.TreeRead.{used_read, unused_read, carried_read}
use Rattle.record.proofs.SplitsTest.{splits_linked}

-- what is asked of node i, where it is written
abbrev pub node_test : Layout → List ℕ → ℕ → ℕ → Bool
node_test lay bytes s i = cond (carried_at lay bytes s i) (node_accepted bytes (payload_place lay bytes s i)) true

module _ (lay : Layout) (a : Action) (bytes : List ℕ) (s : ℕ) (few : s ≤ 64) where
  abbrev nodes : List Node
  nodes = tabulate 513 (node_at_place lay a bytes s)

  pub node_at : nodes_accepted lay bytes s ≡ true → (i : ℕ) → i < node_count s → carried_at lay bytes s i ≡ true
      → node_accepted bytes (payload_place lay bytes s i) ≡ true
  unfolding nodes_accepted
  node_at h i l c =
      ap (λ (b : Bool). cond b (node_accepted bytes (payload_place lay bytes s i)) true) (sym c)
      ∙ all_below_at (node_count s) i (node_test lay bytes s) h l

  pub node_valid : (at : ℕ) → node_accepted bytes at ≡ true → valid_of (action_at bytes at) ≡ true
  unfolding node_accepted
  node_valid at h = and_l (valid_of (action_at bytes at)) _ h

  pub node_flag : (at : ℕ) → node_accepted bytes at ≡ true → flag_accepted bytes (at + 20) ≡ true
  unfolding node_accepted
  node_flag at h = and_r (valid_of (action_at bytes at)) _ h

  module _ (h : splits_accepted lay bytes s ≡ true) (n : nodes_accepted lay bytes s ≡ true) (v : valid_of a ≡ true) where
    used_valid : (i : ℕ) → i < node_count s → valid_of (action_in (node_at_of nodes i)) ≡ true
    used_valid i l = go (carried_at lay bytes s i) refl
      where
        go : (c : Bool) → carried_at lay bytes s i ≡ c → valid_of (action_in (node_at_of nodes i)) ≡ true
        go true c =
            ap (λ (x : Node). valid_of (action_in x)) (carried_read lay a bytes s few i l c)
            ∙ node_valid (payload_place lay bytes s i) (node_at n i l c)
        go false c =
            ap (λ (x : Node). valid_of (action_in x))
            (used_read lay a bytes s few i l ∙ sym (node_given lay a bytes (payload_place lay bytes s i) (link_of bytes (list_place lay) s i) c))
            ∙ v

    slots : (i : ℕ) → i < 513 → slot_holds (node_at_of nodes i) (ltb i (node_count s)) ≡ true
    slots i l =
        ⊎_elim
        (λ (u : i < node_count s). sym (slot_used (node_at_of nodes i) (ltb i (node_count s)) (lt-ltb i (node_count s) u)) ∙ used_valid i u)
        (λ (u : node_count s ≤ i).
        sym (slot_unused (node_at_of nodes i) (ltb i (node_count s)) (le-ltb i (node_count s) u)) ∙ ap plain_of (unused_read lay a bytes s few i u l) ∙ blank_plain)
        (below_or_not i (node_count s))

    pub read_grown : ends_hold (ends_at lay bytes 118) ≡ true → grown_of (tree_at lay a bytes s) ≡ true
    read_grown e =
        sym (grown_rest (tree_at lay a bytes s) (splits_linked lay a bytes s few h)
        (all_below_all 513 (λ i. slot_holds (node_at_of nodes i) (ltb i (node_count s))) slots))
        ∙ e

  -- ---- and back: a grown tree's nodes are valid where they are written, so that the marks are left
  pub nodes_from_lem : grown_of (tree_at lay a bytes s) ≡ true
      → ((i : ℕ) → i < node_count s → carried_at lay bytes s i ≡ true → flag_accepted bytes (payload_place lay bytes s i + 20) ≡ true)
      → nodes_accepted lay bytes s ≡ true
  unfolding nodes_accepted node_accepted
  nodes_from_lem g m = all_below_all (node_count s) (node_test lay bytes s) (λ i l. go i l (carried_at lay bytes s i) refl)
    where
      both : (x y : Bool) → x ≡ true → y ≡ true → x && y ≡ true
      both true y p q = q
      both false y p q = p

      go : (i : ℕ) → i < node_count s → (c : Bool) → carried_at lay bytes s i ≡ c → cond c (node_accepted bytes (payload_place lay bytes s i)) true ≡ true
      go i l false e = refl
      go i l true e =
          both (valid_of (action_at bytes (payload_place lay bytes s i))) _
          (ap (λ (x : Node). valid_of (action_in x)) (sym (carried_read lay a bytes s few i l e)) ∙ links.grown_valid (tree_at lay a bytes s) g i l)
          (m i l e)
