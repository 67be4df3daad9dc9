-- The plain tree that a grown tree stands for: its splits and its rules, read off the nodes. Assumes nothing.
use mathlib.Core.Path.{◌≡◌, refl, sym, ap, subst, ◌∙◌}
use mathlib.Core.Bool.{Bool, true, false}
use mathlib.Core.Logic.{⊎_elim}
use mathlib.Core.List.{List, [], ◌∷◌}
use Prim.Native.Nat.{ℕ, zero, suc, ◌+◌, ◌*◌, ◌/◌, ◌<◌, ◌≤◌}
use native.Mathlib.Omega.{arith}
use borrow.Author.Tests.{eq-eqb, ltb-true, ltb-false}
use lib.Dec.{eqb, ltb}
use lib.ListN.{length, get_or, take}
use lib.Seq.{get_or-take, length-take-le}
use Rattle.std.proofs.lemmas.Bool.{or_right, cases_eq, false_from_ne_true}
use Rattle.remy.specs.declared.action.Action.{Action}
use Rattle.remy.specs.Action.{valid_of}
use Rattle.rule_tree.specs.declared.Node.{Node}
use Rattle.rule_tree.specs.declared.RuleTree.{RuleTree}
use Rattle.rule_tree.specs.Lists.{tabulate}
use Rattle.rule_tree.specs.Nodes.{node_at_of, no_action, blank_node, children_of, node_count, action_in, node_holding}
use Rattle.rule_tree.specs.Grown.{grown_of, plain_of}
use Rattle.rule_tree.specs.Cubes.{owner_below, split_nodes}
use Rattle.rule_tree.specs.Calls.{leaf_in}
use Rattle.rule_tree.proofs.Lists.{length_tabulate, get_d_tabulate}
use Rattle.rule_tree.proofs.GrownTree.{child-at}
use Rattle.rule_tree.proofs.GrownTree as tree
use Rattle.rule_tree.proofs.Plain.{ActionFits, PointFits, plain_action, plain_unmarked}
use Rattle.rule_tree.proofs.Links.{grown_splits, grown_link, grown_split, grown_owner, grown_valid, grown_unused_leaf, grown_unused_plain, grown_ends_hold}
use Rattle.promise.specs.PlainTree.{Tree, Rule, nodes, member, is_leaf_of, rule_at}
use Rattle.promise.proofs.Links.{link, link_leaf, link_owner}
use Rattle.promise.proofs.Embed.{node_with, node_of, embed_tree, ValidTree, leaf_from, node_used, node_blank, embed_at, embed_length, nodes_same, tree_same}
use Rattle.promise.proofs.TreeSteps.{no_rule}

-- ---- lists
member_at : (xs : List ℕ) (j : ℕ) → j < length xs → member (get_or xs j 0) xs ≡ true
unfolding member
member_at [] j l = absurd (omega arith)
member_at (x ∷ xs) zero l = rw (eq-eqb x x refl)
member_at (x ∷ xs) (suc j) l = or_right (eqb x (get_or xs j 0)) (member (get_or xs j 0) xs) (member_at xs j (omega arith))

-- ---- the plain tree
abbrev pub rule_of : Node → Rule
rule_of x = record { action = action_in x; marked = x.optimized }

abbrev pub plain_tree : RuleTree → Tree
plain_tree t =
    record {
      splits = take t.splits (split_nodes (children_of t.nodes));
      rules = tabulate (node_count t.splits) (λ i. rule_of (node_at_of t.nodes i));
      ends = t.ends;
    }

node_rebuilt :
    (x : Node) (a : Action) (c : ℕ) (m : Bool) → action_in x ≡ a → x.children ≡ c → x.optimized ≡ m
    → ◌≡◌ {A = Node} x (node_holding a c m)
node_rebuilt x a c m p q r = λ j. node_holding (p j) (q j) (r j)

-- a slot that is not in use
unused_blank : (x : Node) → plain_of x ≡ true → ActionFits (action_in x) → x.children ≡ 0 → x ≡ blank_node
unused_blank x h f e = node_rebuilt x no_action 0 false (plain_action x h f) e (plain_unmarked x h)

module _ (t : RuleTree) (g : grown_of t ≡ true) where
  splits_count : length (plain_tree t).splits ≡ t.splits
  splits_count =
      let cs = children_of t.nodes in
      length-take-le t.splits (split_nodes cs) (omega (arith, length_tabulate 64 (λ k. owner_below 513 cs (8 * k + 1)), grown_splits t g))

  pub nodes_count : nodes (plain_tree t) ≡ node_count t.splits
  nodes_count = omega (arith, splits_count)

  pub rule_back : (i : ℕ) → i < node_count t.splits → rule_at (plain_tree t) i ≡ rule_of (node_at_of t.nodes i)
  rule_back i l = get_d_tabulate (node_count t.splits) i (λ i. rule_of (node_at_of t.nodes i)) no_rule l

module _ (t : RuleTree) (g : grown_of t ≡ true) (full : length t.nodes ≡ 513) where
  -- ---- the splits
  split_low : (k : ℕ) → k < t.splits → get_or (plain_tree t).splits k 0 ≤ 8 * k
  split_low k l =
      let cs = children_of t.nodes in
      let o = grown_owner t g full k l in
      omega (arith, get_or-take t.splits (split_nodes cs) k 0 l, o.split, o.low)

  split_child : (k : ℕ) → k < t.splits → get_or (children_of t.nodes) (get_or (plain_tree t).splits k 0) 0 ≡ 8 * k + 1
  split_child k l =
      let cs = children_of t.nodes in
      let o = grown_owner t g full k l in
      ap (λ (i : ℕ). get_or cs i 0) (get_or-take t.splits (split_nodes cs) k 0 l ∙ o.split) ∙ o.is

  split_once : (k : ℕ) → k < t.splits → member (get_or (plain_tree t).splits k 0) (take k (plain_tree t).splits) ≡ false
  split_once k l =
      let cs = children_of t.nodes in
      let ps = (plain_tree t).splits in
      false_from_ne_true (member (get_or ps k 0) (take k ps))
      (λ e. let o = link_owner 0 (take k ps) (get_or ps k 0) e in
      let n = length-take-le k ps (omega (arith, splits_count t g)) in
      let b : o.at < k = omega (arith, o.below) in
      let q : get_or ps o.at 0 ≡ get_or ps k 0 = sym (get_or-take k ps o.at 0 b) ∙ o.is in
      omega (arith, split_child o.at (omega arith), split_child k l, ap (λ (j : ℕ). get_or cs j 0) q))

  -- ---- the nodes that were split are the parents
  member_child : (i : ℕ) → member i (plain_tree t).splits ≡ true → link 0 (plain_tree t).splits i ≡ (node_at_of t.nodes i).children
  member_child i m =
      let cs = children_of t.nodes in
      let o = link_owner 0 (plain_tree t).splits i m in
      let l : o.at < t.splits = omega (arith, o.below, splits_count t g) in
      omega (arith, o.gives, split_child o.at l, ap (λ (j : ℕ). get_or cs j 0) o.is, child-at t.nodes i)

  member_parent : (i : ℕ) → member i (plain_tree t).splits ≡ true → (node_at_of t.nodes i).children ≡ 0 → ⊥
  member_parent i m z =
      let o = link_owner 0 (plain_tree t).splits i m in
      omega (arith, z, o.gives, member_child i m)

  parent_member : (i : ℕ) → i < 513 → ((node_at_of t.nodes i).children ≡ 0 → ⊥) → member i (plain_tree t).splits ≡ true
  parent_member i b n =
      let cs = children_of t.nodes in
      let z : get_or cs i 0 ≡ 0 → ⊥ = (λ e. n (sym (child-at t.nodes i) ∙ e)) in
      let k = grown_link t g i b z in
      let m = get_or cs i 0 / 8 in
      let l : m < t.splits = omega (arith, k.first, k.inside) in
      let e : get_or (plain_tree t).splits m 0 ≡ i = get_or-take t.splits (split_nodes cs) m 0 l ∙ grown_split t g i b z in
      subst (λ (j : ℕ). member j (plain_tree t).splits ≡ true) e (member_at (plain_tree t).splits m (omega (arith, splits_count t g)))

  unsplit_childless : (i : ℕ) → i < 513 → member i (plain_tree t).splits ≡ false → (node_at_of t.nodes i).children ≡ 0
  unsplit_childless i b m =
      ⊎_elim (λ (z : (node_at_of t.nodes i).children ≡ 0). z) (λ (n : (node_at_of t.nodes i).children ≡ 0 → ⊥). cc (parent_member i b n, m))
      (cases_eq (node_at_of t.nodes i).children 0)

  link_children : (i : ℕ) → i < 513 → link 0 (plain_tree t).splits i ≡ (node_at_of t.nodes i).children
  link_children i b = go (member i (plain_tree t).splits) refl
    where
      go : (z : Bool) → member i (plain_tree t).splits ≡ z → link 0 (plain_tree t).splits i ≡ (node_at_of t.nodes i).children
      go true e = member_child i e
      go false e = link_leaf 0 (plain_tree t).splits i e ∙ sym (unsplit_childless i b e)

  childless_unsplit : (i : ℕ) → (node_at_of t.nodes i).children ≡ 0 → member i (plain_tree t).splits ≡ false
  childless_unsplit i z = false_from_ne_true (member i (plain_tree t).splits) (λ e. member_parent i e z)

  pub leaf_back : (i : ℕ) → leaf_in t i ≡ true → is_leaf_of (plain_tree t) i ≡ true
  leaf_back i h =
      leaf_from (plain_tree t) i (omega (arith, tree.leaf_below t i h, nodes_count t g)) (childless_unsplit i (tree.leaf_childless t i h))

  node_action : (i : ℕ) → i < nodes (plain_tree t) → valid_of (rule_at (plain_tree t) i).action ≡ true
  node_action i h =
      let l : i < node_count t.splits = omega (arith, nodes_count t g) in
      ap (λ (r : Rule). valid_of r.action) (rule_back t g i l) ∙ grown_valid t g i l

  pub tree_valid : PointFits t.ends → ValidTree (plain_tree t)
  tree_valid e =
      record {
        few = omega (arith, splits_count t g, grown_splits t g);
        sized = length_tabulate (node_count t.splits) (λ i. rule_of (node_at_of t.nodes i)) ∙ sym (nodes_count t g);
        grew = λ k l. split_low k (omega (arith, splits_count t g));
        once = λ k l. split_once k (omega (arith, splits_count t g));
        actions = node_action;
        box = grown_ends_hold t g;
        floats = e;
      }

  -- ---- node by node
  node_back : (i : ℕ) → i < 513 → ActionFits (action_in (node_at_of t.nodes i)) → node_of (plain_tree t) i ≡ node_at_of t.nodes i
  node_back i b f = go (ltb i (nodes (plain_tree t))) refl
    where
      x : Node
      x = node_at_of t.nodes i

      go : (y : Bool) → ltb i (nodes (plain_tree t)) ≡ y → node_of (plain_tree t) i ≡ x
      go true p =
          let l = ltb-true i (nodes (plain_tree t)) p in
          node_used (plain_tree t) i l
          ∙ ap (λ (r : Rule). node_with r (link 0 (plain_tree t).splits i)) (rule_back t g i (omega (arith, nodes_count t g)))
          ∙ ap (node_with (rule_of x)) (link_children i b)
      go false p =
          let l = ltb-false i (nodes (plain_tree t)) p in
          let u : node_count t.splits ≤ i = omega (arith, nodes_count t g) in
          node_blank (plain_tree t) i l ∙ sym (unused_blank x (grown_unused_plain t g i u b) f (grown_unused_leaf t g i u b))

  pub tree_back : ((i : ℕ) → i < 513 → ActionFits (action_in (node_at_of t.nodes i))) → embed_tree (plain_tree t) ≡ t
  tree_back f =
      tree_same (embed_tree (plain_tree t)) t
      (nodes_same (embed_tree (plain_tree t)).nodes t.nodes (embed_length (plain_tree t)) full
      (λ i l. embed_at (plain_tree t) i l ∙ node_back i l (f i l)))
      (splits_count t g)
      refl
