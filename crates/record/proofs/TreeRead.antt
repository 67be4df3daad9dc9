-- The nodes of the tree that is read: what each is, which of them are written, and where. Assumes nothing.
use mathlib.Core.Path.{◌≡◌, refl, sym, ap, ◌∙◌}
use mathlib.Core.Bool.{Bool, true, false, ◌||◌, cond}
use mathlib.Core.List.{List}
use mathlib.Core.Logic.{⊎_elim}
use Prim.Native.Nat.{ℕ, ◌+◌, ◌*◌, ◌<◌, ◌≤◌}
use native.Mathlib.Omega.{arith}
use borrow.Author.Tests.{eq-eqb}
use lib.ListN.{length, get_or, get_or-eq_default}
use Rattle.remy.specs.declared.action.Action.{Action}
use Rattle.rule_tree.specs.declared.Node.{Node}
use Rattle.rule_tree.specs.Lists.{tabulate, count_below}
use Rattle.rule_tree.specs.Nodes.{no_node, node_at_of, node_count, children_of, blank_node, node_holding}
use Rattle.rule_tree.proofs.Lists.{length_tabulate, get_d_tabulate, count_below_same}
use Rattle.rule_tree.proofs.LinkWays.{children_at, children_count}
use Rattle.rule_tree.proofs.Owners.{below_or_not}
use Rattle.record.specs.declared.inner.layout.Layout.{Layout}
use Rattle.record.specs.Layout.{carries, list_place, nodes_place}
use Rattle.wire.specs.Fields.{action_at, flag_at}
use Rattle.record.specs.Read.{link_of, carried_at, payload_place, node_with, node_at_place}
use Rattle.record.proofs.Reading.{node_is, unused_is, node_read}
use Rattle.record.proofs.Size.{carried}

pub leaf_carried : (lay : Layout) (c : ℕ) → c ≡ 0 → carries lay c ≡ true
leaf_carried lay c e = ap (λ (b : Bool). lay.parents || b) (eq-eqb c 0 e) ∙ go lay.parents
  where
    go : (b : Bool) → b || true ≡ true
    go true = refl
    go false = refl

with_children : (lay : Layout) (a : Action) (bytes : List ℕ) (at c : ℕ) → (node_with lay a bytes at c).children ≡ c
with_children lay a bytes at c = go (carries lay c)
  where
    go : (b : Bool) → (cond {A = Node} b (node_holding (action_at bytes at) c (flag_at bytes (at + 20))) (node_holding a c false)).children ≡ c
    go true = refl
    go false = refl

module _ (lay : Layout) (a : Action) (bytes : List ℕ) (s : ℕ) (few : s ≤ 64) where
  abbrev list : ℕ
  list = list_place lay

  abbrev nodes : List Node
  nodes = tabulate 513 (node_at_place lay a bytes s)

  abbrev cs : List ℕ
  cs = children_of nodes

  pub nodes_long : length nodes ≡ 513
  nodes_long = length_tabulate 513 (node_at_place lay a bytes s)

  pub used_read : (i : ℕ) → i < node_count s → node_at_of nodes i ≡ node_with lay a bytes (payload_place lay bytes s i) (link_of bytes list s i)
  used_read i l = get_d_tabulate 513 i (node_at_place lay a bytes s) no_node (omega arith) ∙ sym (node_is lay a bytes s i l)

  pub unused_read : (i : ℕ) → node_count s ≤ i → i < 513 → node_at_of nodes i ≡ blank_node
  unused_read i l b = get_d_tabulate 513 i (node_at_place lay a bytes s) no_node b ∙ unused_is lay a bytes s i l

  pub used_link : (i : ℕ) → i < node_count s → (node_at_of nodes i).children ≡ link_of bytes list s i
  used_link i l =
      ap (λ (x : Node). x.children) (used_read i l) ∙ with_children lay a bytes (payload_place lay bytes s i) (link_of bytes list s i)

  pub child_used : (i : ℕ) → i < node_count s → get_or cs i 0 ≡ link_of bytes list s i
  child_used i l = children_at nodes i ∙ used_link i l

  pub child_unused : (i : ℕ) → node_count s ≤ i → get_or cs i 0 ≡ 0
  child_unused i l =
      ⊎_elim (λ (b : i < 513). children_at nodes i ∙ ap (λ (x : Node). x.children) (unused_read i l b))
      (λ (b : 513 ≤ i). get_or-eq_default cs 0 (omega (arith, children_count nodes, nodes_long)))
      (below_or_not i 513)

  -- a node with children is one that is in use
  pub child_parent : (i : ℕ) → (get_or cs i 0 ≡ 0 → ⊥) → i < node_count s
  child_parent i n = ⊎_elim (λ (l : i < node_count s). l) (λ (l : node_count s ≤ i). absurd (n (child_unused i l))) (below_or_not i (node_count s))

  pub carried_read : (i : ℕ) → i < node_count s → carried_at lay bytes s i ≡ true
      → node_at_of nodes i
      ≡ node_holding (action_at bytes (payload_place lay bytes s i)) (link_of bytes list s i) (flag_at bytes (payload_place lay bytes s i + 20))
  carried_read i l c =
      used_read i l
      ∙ sym (node_read lay a bytes (payload_place lay bytes s i) (link_of bytes list s i) c refl refl)

  -- ---- those that are written
  pub held_same : (i : ℕ) → i < node_count s → carried lay nodes i ≡ carried_at lay bytes s i
  held_same i l = ap (carries lay) (used_link i l)

  pub count_same : (n : ℕ) → n ≤ node_count s → count_below n (carried lay nodes) ≡ count_below n (carried_at lay bytes s)
  count_same n l = count_below_same n (carried lay nodes) (carried_at lay bytes s) (λ i h. held_same i (omega arith))

  pub place_same : (i : ℕ) → i ≤ node_count s → nodes_place lay s + 21 * count_below i (carried lay nodes) ≡ payload_place lay bytes s i
  place_same i l = ap (λ (k : ℕ). nodes_place lay s + 21 * k) (count_same i l)
