-- What the code answers is the definition, and lookup through a view of the nodes that a grown tree uses is lookup through the tree. Assumes nothing.
use mathlib.Core.Path.{◌≡◌, refl, sym, ap, subst, ◌∙◌}
use mathlib.Core.Bool.{Bool, true, false, not, ◌&&◌, cond}
use mathlib.Core.Logic.{⊎_elim}
use mathlib.Core.List.{List}
use Prim.Native.Nat.{ℕ, ◌<◌, ◌≤◌}
use native.Mathlib.Omega.{arith}
use borrow.Author.Tests.{eqb-true, eqb-false, eq-eqb, ltb-true}
use lib.Dec.{eqb, ltb}
use lib.ListN.{length, get_or, take}
use lib.Seq.{length-take-le, get_or-take, ext_get_or}
use Rattle.std.specs.Prelude.{Option, Some, None, Ok, Err}
use Rattle.std.specs.Option.{option_map}
use Rattle.refusal.specs.declared.Refusal.TheVariants.{NotGrown, NoLeaf, NotAdmitted}
use Rattle.remy.specs.declared.action.Action.{Action}
use Rattle.remy.specs.declared.point.Point.{Point}
use Rattle.remy.specs.Action.{valid_of}
use Rattle.remy.specs.Cube.{root_of}
use Rattle.rule_tree.specs.declared.Node.{Node}
use Rattle.rule_tree.specs.declared.RuleTree.{RuleTree}
use Rattle.rule_tree.specs.Nodes.{no_node, node_at_of, is_leaf_of, children_of, links_of, node_count, action_in}
use Rattle.rule_tree.specs.Grown.{linked_of, ends_hold, grown_of}
use Rattle.rule_tree.specs.Walk.{walk_of}
use Rattle.rule_tree.specs.Change.{with_action}
use Rattle.rule_tree.specs.Calls.{leaf_in, found_in, replaced_of}
use Rattle.rule_tree.specs.Leaf.{leaf_holding}
use Rattle.rule_tree.proofs.Lists.{all_below_all}
use Rattle.rule_tree.proofs.LinkWays.{children_at, children_count}
use Rattle.rule_tree.proofs.Links.{grown_linked, grown_ends_hold, grown_splits, grown_own_links, grown_whole, grown_valid, grown_unused_leaf}
use Rattle.rule_tree.proofs.Plain.{PointFits, and_l, and_r}
use Rattle.rule_tree.proofs.Owners.{below_or_not}
use Rattle.rule_tree.proofs.Leaf.{inside, outside}
use Rattle.rule_tree.proofs.Looking.{replaced_same, replaced_other, replaced_nothing}
use Rattle.rule_tree.proofs.Walking.{walk_leaf}
use Rattle.rule_tree.proofs.Lists.{count_below_same}
use Rattle.rule_tree_laws.proofs.Sound.{TreeFits}
use Rattle.rule_tree_view.specs.View.{parents_in, lent_nodes, lent_tree, lent_grown, view_of, replaced_in, linked_parents, all_valid, linked_in}
use Rattle.rule_tree_view.proofs.Held as held
use Rattle.rule_tree_view.proofs.Lent as lent
use Rattle.rule_tree_view.proofs.Parents.{parents_splits}

-- the slice has the nodes that a grown tree uses
pub record Uses (t : RuleTree) (nodes : List Node) : Type 0 where
  pub full : length t.nodes ≡ 513
  pub grown : grown_of t ≡ true
  pub fits : PointFits t.ends
  pub long : length nodes ≡ node_count t.splits
  pub same : (i : ℕ) → i < length nodes → node_at_of t.nodes i ≡ node_at_of nodes i

-- the action of the leaf reached, with one leaf's replaced
abbrev pub read : List Node → ℕ → Action → Option ℕ → Option Action
read nodes leaf a o = option_map (λ i. cond (eqb i leaf) a (action_in (node_at_of nodes i))) o

module _ (t : RuleTree) (nodes : List Node) (u : Uses t nodes) (p : Point) where
  -- a leaf reached is one of the slice's nodes
  pub reached_used : (i : ℕ) → leaf_holding (children_of t.nodes) (root_of t.ends) p ≡ Some i → i < length nodes
  reached_used i e =
      let h = inside (children_of t.nodes) (root_of t.ends) p i e in
      let w = walk_leaf (children_of t.nodes) (root_of t.ends) p t.splits (grown_splits t u.grown) (grown_own_links t u.grown) (grown_whole t u.grown u.fits) h.0 in
      omega (arith, h.1, w.node, u.long)

  pub read_found : (leaf : ℕ) (a : Action) → read nodes leaf a (leaf_holding (children_of t.nodes) (root_of t.ends) p) ≡ found_in (with_action t leaf a) p
  read_found leaf a = go (leaf_holding (children_of t.nodes) (root_of t.ends) p) refl
    where
      go : (o : Option ℕ) → leaf_holding (children_of t.nodes) (root_of t.ends) p ≡ o → read nodes leaf a o ≡ found_in (with_action t leaf a) p
      go None e = replaced_nothing t leaf a p (outside (children_of t.nodes) (root_of t.ends) p e)
      go (Some i) e = which (eqb i leaf) refl
        where
          which : (b : Bool) → eqb i leaf ≡ b → Some (cond b a (action_in (node_at_of nodes i))) ≡ found_in (with_action t leaf a) p
          which true f =
              let h = inside (children_of t.nodes) (root_of t.ends) p i e in
              let l = reached_used i e in
              let q = eqb-true i leaf f in
              replaced_same t leaf a p (walk_of (children_of t.nodes) (root_of t.ends) p) h.0 refl (omega (arith, u.full, u.long, grown_splits t u.grown)) (h.1 ∙ q)
          which false f =
              let h = inside (children_of t.nodes) (root_of t.ends) p i e in
              ap (λ (x : Node). Some (action_in x)) (sym (u.same i (reached_used i e)))
              ∙ ap (λ (k : ℕ). Some (action_in (node_at_of t.nodes k))) (sym h.1)
              ∙ replaced_other t leaf a p (walk_of (children_of t.nodes) (root_of t.ends) p) h.0 refl (λ q. eqb-false i leaf f (sym h.1 ∙ q))

-- ---- the ways of a call
module _ (nodes : List Node) (ends : Point) (leaf : ℕ) (a : Action) (p : Point) where
  abbrev t : RuleTree
  t = lent_tree nodes ends

  pub not_grown : lent_grown nodes ends ≡ false → Err NotGrown ≡ view_of nodes ends leaf a p
  unfolding view_of replaced_of
  not_grown = go (eqb (length nodes) (node_count (parents_in nodes))) refl
    where
      go : (b : Bool) → eqb (length nodes) (node_count (parents_in nodes)) ≡ b → lent_grown nodes ends ≡ false → Err NotGrown ≡ view_of nodes ends leaf a p
      go true e f = let g : grown_of t ≡ false = rw e at f in rw (e, g)
      go false e f = rw e

  module _ (g : lent_grown nodes ends ≡ true) where
    long : eqb (length nodes) (node_count (parents_in nodes)) ≡ true
    long = and_l _ (grown_of t) g

    grown : grown_of t ≡ true
    grown = and_r (eqb (length nodes) (node_count (parents_in nodes))) _ g

    pub few : length nodes ≤ 513
    few = omega (arith, eqb-true _ _ long, grown_splits t grown)

    -- the code's test of the leaf, by the slice
    pub leaf_tested : (ltb leaf (length nodes) && is_leaf_of nodes leaf) ≡ leaf_in t leaf
    leaf_tested = ap (λ (b : Bool). b && is_leaf_of nodes leaf) count ∙ same_tail (ltb leaf (node_count t.splits)) refl
      where
        count : ltb leaf (length nodes) ≡ ltb leaf (node_count t.splits)
        count = ap (ltb leaf) (eqb-true _ _ long)

        same_tail : (b : Bool) → ltb leaf (node_count t.splits) ≡ b → (b && is_leaf_of nodes leaf) ≡ (b && is_leaf_of t.nodes leaf)
        same_tail true e = ap (λ (x : Node). eqb x.children 0) (sym (lent.lent_used nodes leaf (ltb-true leaf (length nodes) (count ∙ e))))
        same_tail false e = refl

    pub no_leaf : leaf_in t leaf ≡ false → Err NoLeaf ≡ view_of nodes ends leaf a p
    unfolding view_of replaced_of
    no_leaf l = rw (long, grown, l)

    module _ (l : leaf_in t leaf ≡ true) where
      pub not_valid : valid_of a ≡ false → Err NotAdmitted ≡ view_of nodes ends leaf a p
      unfolding view_of replaced_of
      not_valid v = rw (long, grown, l, v)

      module _ (v : valid_of a ≡ true) (fits : PointFits ends) where
        used : Uses t nodes
        used = record { full = lent.lent_full nodes few; grown = grown; fits = fits; long = eqb-true _ _ long; same = lent.lent_used nodes }

        pub answered : (o : Option ℕ) → o ≡ leaf_holding (children_of t.nodes) (root_of ends) p → Ok (read nodes leaf a o) ≡ view_of nodes ends leaf a p
        unfolding view_of replaced_of
        answered o e = rw (long, grown, l, v) (ap Ok (ap (read nodes leaf a) e ∙ read_found t nodes used p leaf a))

        pub answered_used : (i : ℕ) → Some i ≡ leaf_holding (children_of t.nodes) (root_of ends) p → i < length nodes
        answered_used i e = reached_used t nodes used p i (sym e)

-- ---- the nodes that a grown tree uses
module _ (t : RuleTree) (full : length t.nodes ≡ 513) (g : grown_of t ≡ true) (f : PointFits t.ends) where
  abbrev nodes : List Node
  nodes = take (node_count t.splits) t.nodes

  abbrev other : RuleTree
  other = lent_tree nodes t.ends

  long_used : length nodes ≡ node_count t.splits
  long_used = length-take-le (node_count t.splits) t.nodes (omega (arith, full, grown_splits t g))

  few_used : length nodes ≤ 513
  few_used = omega (arith, long_used, grown_splits t g)

  same : (i : ℕ) → i < length nodes → node_at_of t.nodes i ≡ node_at_of nodes i
  same i l = sym (get_or-take (node_count t.splits) t.nodes i no_node (omega (arith, long_used)))

  -- the tree of these nodes has the tree's links
  links_same : children_of (lent_nodes nodes) ≡ children_of t.nodes
  links_same =
      let n : length (children_of (lent_nodes nodes)) ≡ 513 = children_count (lent_nodes nodes) ∙ lent.lent_full nodes few_used in
      ext_get_or 0 (children_of (lent_nodes nodes)) (children_of t.nodes) (n ∙ sym (children_count t.nodes ∙ full))
      (λ i b.
      children_at (lent_nodes nodes) i
      ∙ ⊎_elim (λ (l : i < length nodes). ap (λ (x : Node). x.children) (lent.lent_used nodes i l ∙ sym (same i l)))
      (λ (l : length nodes ≤ i).
      let m : i < 513 = omega (arith, b, n) in
      ap (λ (x : Node). x.children) (lent.lent_blank nodes i l m) ∙ sym (grown_unused_leaf t g i (omega (arith, l, long_used)) m))
      (below_or_not i (length nodes))
      ∙ sym (children_at t.nodes i))

  gathered : links_of nodes (length nodes) ≡ children_of t.nodes
  gathered = lent.links_all nodes few_used ∙ links_same

  splits_counted : linked_parents (children_of t.nodes) ≡ t.splits
  splits_counted =
      count_below_same 513 (λ i. not (eqb (get_or (children_of t.nodes) i 0) 0)) (λ i. not (is_leaf_of t.nodes i)) (λ i l. ap (λ (k : ℕ). not (eqb k 0)) (children_at t.nodes i))
      ∙ parents_splits t full g

  valid_used : all_valid nodes ≡ true
  valid_used =
      all_below_all (length nodes) (λ i. valid_of (action_in (node_at_of nodes i)))
      (λ i l. ap (λ (x : Node). valid_of (action_in x)) (sym (same i l)) ∙ grown_valid t g i (omega (arith, l, long_used)))

  taken : held.Held nodes t.ends
  taken =
      held.tested_held nodes t.ends
      (subst (λ (cs : List ℕ). linked_in nodes cs t.ends ≡ true) (sym gathered)
      (subst (λ (k : ℕ). eqb (length nodes) (node_count k) && (linked_of (children_of t.nodes) k && (all_valid nodes && ends_hold t.ends)) ≡ true) (sym splits_counted)
      (rw (eq-eqb (length nodes) (node_count t.splits) long_used, grown_linked t g, valid_used) (grown_ends_hold t g))))

  leaf_same : (leaf : ℕ) → leaf_in other leaf ≡ leaf_in t leaf
  leaf_same leaf =
      ap (λ (k : ℕ). ltb leaf k && eqb (node_at_of (lent_nodes nodes) leaf).children 0) (sym taken.long ∙ long_used)
      ∙ ap (λ (c : ℕ). ltb leaf (node_count t.splits) && eqb c 0)
      (sym (children_at (lent_nodes nodes) leaf) ∙ ap (λ (cs : List ℕ). get_or cs leaf 0) links_same ∙ children_at t.nodes leaf)

  found_same : (leaf : ℕ) (a : Action) (p : Point) → found_in (with_action other leaf a) p ≡ found_in (with_action t leaf a) p
  found_same leaf a p =
      sym (read_found other nodes (record { full = lent.lent_full nodes few_used; grown = taken.grown; fits = f; long = taken.long; same = lent.lent_used nodes }) p leaf a)
      ∙ ap (λ (cs : List ℕ). read nodes leaf a (leaf_holding cs (root_of t.ends) p)) links_same
      ∙ read_found t nodes (record { full = full; grown = g; fits = f; long = long_used; same = same }) p leaf a

  pub view_grown : (leaf : ℕ) (a : Action) (p : Point) → view_of nodes t.ends leaf a p ≡ replaced_in t leaf a p
  unfolding view_of replaced_of
  view_grown leaf a p =
      rw (eq-eqb _ _ taken.long, taken.grown, g, leaf_same leaf)
      (ap (λ (o : Option Action). cond (leaf_in t leaf) (cond (valid_of a) (Ok o) (Err NotAdmitted)) (Err NoLeaf)) (found_same leaf a p))

-- of every grown tree that a program holds
pub view_held : (t : RuleTree) → TreeFits t → grown_of t ≡ true
    → (leaf : ℕ) (a : Action) (p : Point) → view_of (take (node_count t.splits) t.nodes) t.ends leaf a p ≡ replaced_in t leaf a p
view_held t f g = view_grown t f.full g f.ends
