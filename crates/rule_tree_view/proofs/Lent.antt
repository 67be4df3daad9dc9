-- The tree that uses a slice's nodes: its nodes, its parents, and its links, which are those that are gathered. Assumes nothing.
use mathlib.Core.Path.{◌≡◌, sym, ap, subst, ◌∙◌}
use mathlib.Core.Bool.{Bool, false, not}
use mathlib.Core.Logic.{⊎_elim}
use mathlib.Core.List.{List, ◌++◌}
use Prim.Native.Nat.{ℕ, zero, suc, ◌+◌, ◌-◌, ◌<◌, ◌≤◌}
use native.Mathlib.Nat.{eq-or-lt_of_le}
use native.Mathlib.Omega.{arith}
use lib.Dec.{eqb}
use lib.ListN.{length, get_or, take, drop, replicate, length-append, length-replicate, length-drop, get_or-replicate, get_or-append}
use lib.Seq.{length-take-le, get_or-take, get_or-drop, get_or-append-add, ext_get_or}
use Rattle.rule_tree.specs.declared.Node.{Node}
use Rattle.rule_tree.specs.Lists.{count_below}
use Rattle.rule_tree.specs.Nodes.{no_node, node_at_of, is_leaf_of, blank_node, children_of, links_of}
use Rattle.rule_tree.proofs.Lists.{count_below_same}
use Rattle.rule_tree.proofs.LinkWays.{children_at, children_count}
use Rattle.rule_tree.proofs.Owners.{below_or_not}
use Rattle.rule_tree_view.specs.View.{parents_in, lent_nodes, linked_parents}

-- what f and g have below n, and none from there on
count_past : (m n : ℕ) (f g : ℕ → Bool) → n ≤ m → ((i : ℕ) → i < n → f i ≡ g i) → ((i : ℕ) → n ≤ i → i < m → f i ≡ false)
    → count_below m f ≡ count_below n g
unfolding count_below
count_past zero n f g l s z = let e : 0 ≡ n = omega arith in ap (λ (k : ℕ). count_below k g) e
count_past (suc m) n f g l s z =
    ⊎_elim
    (λ (e : n ≡ suc m). count_below_same (suc m) f g (λ i b. s i (omega (arith, e))) ∙ ap (λ (k : ℕ). count_below k g) (sym e))
    (λ (b : n < suc m).
    let h = count_past m n f g (omega arith) s (λ i p q. z i p (omega arith)) in
    let y : f m ≡ false = z m (omega arith) (omega arith) in
    rw y (omega (arith, h)))
    (eq-or-lt_of_le l)

module _ (nodes : List Node) where
  abbrev all : List Node
  all = lent_nodes nodes

  abbrev n : ℕ
  n = length nodes

  -- ---- the tree's nodes
  pub lent_full : n ≤ 513 → length all ≡ 513
  lent_full l = omega (arith, length-append nodes (replicate (513 - n) blank_node), length-replicate (513 - n) blank_node)

  pub lent_used : (i : ℕ) → i < n → node_at_of all i ≡ node_at_of nodes i
  lent_used i l = get_or-append nodes (replicate (513 - n) blank_node) no_node i l

  pub lent_blank : (i : ℕ) → n ≤ i → i < 513 → node_at_of all i ≡ blank_node
  lent_blank i l m =
      subst (λ (k : ℕ). node_at_of all k ≡ blank_node) (omega arith)
      (get_or-append-add nodes (replicate (513 - n) blank_node) (i - n) no_node ∙ get_or-replicate (513 - n) (i - n) blank_node no_node (omega arith))

  pub parents_counted : n ≤ 513 → linked_parents (children_of all) ≡ parents_in nodes
  parents_counted l =
      count_past 513 n (λ i. not (eqb (get_or (children_of all) i 0) 0)) (λ i. not (is_leaf_of nodes i)) l
      (λ i b. ap (λ (k : ℕ). not (eqb k 0)) (children_at all i ∙ ap (λ (x : Node). x.children) (lent_used i b)))
      (λ i b m. ap (λ (k : ℕ). not (eqb k 0)) (children_at all i ∙ ap (λ (x : Node). x.children) (lent_blank i b m)))

  -- ---- the links that are gathered
  module _ (few : n ≤ 513) where
    heads : length (take n (children_of nodes)) ≡ n
    heads = length-take-le n (children_of nodes) (omega (arith, children_count nodes))

    links_full : length (links_of nodes n) ≡ 513
    unfolding links_of
    links_full =
        omega (arith, length-append (take n (children_of nodes)) (drop n (replicate 513 0)), heads, length-drop {A = ℕ} n (replicate 513 0), length-replicate {A = ℕ} 513 0)

    links_at : (i : ℕ) → i < n → get_or (links_of nodes n) i 0 ≡ (node_at_of nodes i).children
    unfolding links_of
    links_at i l =
        get_or-append (take n (children_of nodes)) (drop n (replicate 513 0)) 0 i (omega (arith, heads))
        ∙ get_or-take n (children_of nodes) i 0 l
        ∙ children_at nodes i

    links_past : (i : ℕ) → n ≤ i → i < 513 → get_or (links_of nodes n) i 0 ≡ 0
    unfolding links_of
    links_past i l m =
        let h = heads in
        subst (λ (k : ℕ). get_or (take n (children_of nodes) ++ drop n (replicate 513 0)) k 0 ≡ 0) (omega arith)
        (get_or-append-add (take n (children_of nodes)) (drop n (replicate 513 0)) (i - n) 0
        ∙ get_or-drop n (replicate 513 0) (i - n) 0
        ∙ get_or-replicate 513 (n + (i - n)) 0 0 (omega arith))

    pub links_all : links_of nodes n ≡ children_of all
    links_all =
        ext_get_or 0 (links_of nodes n) (children_of all) (links_full ∙ sym (children_count all ∙ lent_full few))
        (λ i b. ⊎_elim
        (λ (l : i < n).
        links_at i l ∙ sym (children_at all i ∙ ap (λ (x : Node). x.children) (lent_used i l)))
        (λ (l : n ≤ i).
        let m : i < 513 = omega (arith, b, links_full) in
        links_past i l m ∙ sym (children_at all i ∙ ap (λ (x : Node). x.children) (lent_blank i l m)))
        (below_or_not i n))
