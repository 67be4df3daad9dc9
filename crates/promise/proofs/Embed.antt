-- The trainer's tree that a plain tree stands for, node by node. Assumes nothing.
use mathlib.Core.Path.{◌≡◌, sym, ap, ◌∙◌}
use mathlib.Core.Bool.{true, false, cond}
use mathlib.Core.List.{List}
use Prim.Native.Nat.{ℕ, ◌*◌, ◌<◌, ◌≤◌}
use native.Mathlib.Omega.{arith}
use borrow.Author.Tests.{lt-ltb, le-ltb, ltb-true, not-true}
use lib.Dec.{ltb}
use lib.ListN.{length, get_or, take}
use lib.Seq.{ext_get_or}
use Rattle.std.proofs.lemmas.Bool.{and_parts}
use Rattle.remy.specs.declared.point.Point.{Point}
use Rattle.remy.specs.Action.{valid_of}
use Rattle.rule_tree.specs.declared.Node.{Node}
use Rattle.rule_tree.specs.declared.RuleTree.{RuleTree}
use Rattle.rule_tree.specs.Lists.{tabulate}
use Rattle.rule_tree.specs.Nodes.{no_node, node_at_of, blank_node, node_holding}
use Rattle.rule_tree.specs.Grown.{ends_hold}
use Rattle.rule_tree.proofs.Lists.{length_tabulate, get_d_tabulate}
use Rattle.rule_tree.proofs.Plain.{PointFits}
use Rattle.promise.specs.PlainTree.{Tree, Rule, nodes, member, is_leaf_of, rule_at}
use Rattle.promise.proofs.Links.{link, link_owner, link_leaf}

-- the node with a rule and a first child, 0 for a leaf
abbrev pub node_with : Rule → ℕ → Node
node_with r c = node_holding r.action c r.marked

abbrev pub leaf_node : Rule → Node
leaf_node r = node_with r 0

-- "parents keep action and mark"
unfoldable pub node_of : Tree → ℕ → Node
node_of t i = cond (ltb i (nodes t)) (node_with (rule_at t i) (link 0 t.splits i)) blank_node

abbrev pub embed_tree : Tree → RuleTree
embed_tree t = record { nodes = tabulate 513 (node_of t); splits = length t.splits; ends = t.ends }

-- "at most 64 splits, each names a leaf then", one rule a node, the actions valid, and upper ends that a tree may have
pub record ValidTree (t : Tree) : Type 0 where
  pub few : length t.splits ≤ 64
  pub sized : length t.rules ≡ nodes t
  pub grew : (k : ℕ) → k < length t.splits → get_or t.splits k 0 ≤ 8 * k
  pub once : (k : ℕ) → k < length t.splits → member (get_or t.splits k 0) (take k t.splits) ≡ false
  pub actions : (i : ℕ) → i < nodes t → valid_of (rule_at t i).action ≡ true
  pub box : ends_hold t.ends ≡ true
  pub floats : PointFits t.ends

-- ---- leaves
module _ (t : Tree) (i : ℕ) where
  pub leaf_below : is_leaf_of t i ≡ true → i < nodes t
  leaf_below h = ltb-true i (nodes t) (and_parts (ltb i (nodes t)) _ h).0

  pub leaf_unsplit : is_leaf_of t i ≡ true → member i t.splits ≡ false
  leaf_unsplit h = not-true (member i t.splits) (and_parts (ltb i (nodes t)) _ h).1

  pub leaf_from : i < nodes t → member i t.splits ≡ false → is_leaf_of t i ≡ true
  leaf_from l m = rw (lt-ltb i (nodes t) l, m)

  pub parent_below : ValidTree t → member i t.splits ≡ true → i < nodes t
  parent_below v h =
      let o = link_owner 0 t.splits i h in
      omega (arith, o.is, o.below, v.grew o.at o.below)

  -- ---- nodes
  pub node_used : i < nodes t → node_of t i ≡ node_with (rule_at t i) (link 0 t.splits i)
  unfolding node_of
  node_used l = rw (lt-ltb i (nodes t) l)

  pub node_leaf : i < nodes t → member i t.splits ≡ false → node_of t i ≡ leaf_node (rule_at t i)
  node_leaf l m = node_used l ∙ ap (node_with (rule_at t i)) (link_leaf 0 t.splits i m)

  pub node_blank : nodes t ≤ i → node_of t i ≡ blank_node
  unfolding node_of
  node_blank l = rw (le-ltb i (nodes t) l)

  pub embed_at : i < 513 → node_at_of (embed_tree t).nodes i ≡ node_of t i
  embed_at l = get_d_tabulate 513 i (node_of t) no_node l

pub embed_length : (t : Tree) → length (embed_tree t).nodes ≡ 513
embed_length t = length_tabulate 513 (node_of t)

pub nodes_same :
    (xs ys : List Node) → length xs ≡ 513 → length ys ≡ 513 → ((i : ℕ) → i < 513 → node_at_of xs i ≡ node_at_of ys i) → xs ≡ ys
nodes_same xs ys p q h = ext_get_or no_node xs ys (p ∙ sym q) (λ i l. h i (omega arith))

tree_parts :
    (m n : List Node) (r s : ℕ) (d e : Point) → m ≡ n → r ≡ s → d ≡ e
    → ◌≡◌ {A = RuleTree} (record { nodes = m; splits = r; ends = d }) (record { nodes = n; splits = s; ends = e })
tree_parts m n r s d e p q f = rw (p, q, f)

pub tree_same : (a b : RuleTree) → a.nodes ≡ b.nodes → a.splits ≡ b.splits → a.ends ≡ b.ends → a ≡ b
tree_same a b p q r = tree_parts _ _ _ _ _ _ p q r
