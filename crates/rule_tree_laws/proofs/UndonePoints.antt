-- What points find after the newest split is taken back: in its parent's cube what the parent kept, elsewhere what they found. Assumes nothing.
use mathlib.Core.Path.{◌≡◌, refl, sym, ap, ◌∙◌}
use mathlib.Core.Bool.{Bool, true, false}
use mathlib.Core.Logic.{⊎_elim, inl, inr}
use Prim.Native.Nat.{ℕ, ◌+◌, ◌<◌, ◌≤◌}
use native.Mathlib.Omega.{arith}
use lib.ListN.{length-map}
use lib.Seq.{ext_get_or}
use borrow.Author.Tests.{eq-eqb, both_ways}
use Rattle.remy.specs.declared.point.Point.{Point}
use Rattle.remy.specs.declared.cube.Cube.{Cube}
use Rattle.remy.specs.Cube.{contains_of, root_of}
use Rattle.rule_tree.specs.declared.Node.{Node}
use Rattle.rule_tree.specs.declared.RuleTree.{RuleTree}
use Rattle.std.specs.Prelude.{Some}
use Rattle.rule_tree.specs.Nodes.{node_at_of, children_of, node_count, action_in}
use Rattle.rule_tree.specs.Grown.{grown_of}
use Rattle.rule_tree.specs.Cubes.{split_nodes, cube_at, cube_of}
use Rattle.rule_tree.specs.Walk.{walk_of, leaf_of}
use Rattle.rule_tree.specs.Change.{split_at_of, newest_parent, undone}
use Rattle.rule_tree.specs.Calls.{found_in}
use Rattle.rule_tree.proofs.LinkWays.{children_at}
use Rattle.rule_tree.proofs.Owners.{below_or_not}
use Rattle.rule_tree.proofs.Links.{grown_linked, grown_splits, grown_whole}
use Rattle.rule_tree.proofs.GrownTree.{leaf_childless}
use Rattle.rule_tree.proofs.Changing.{split_length, split_ends}
use Rattle.rule_tree.proofs.Undoing.{newest_first, undo_length, undo_splits, undo_ends, newest_before, newest_leaf, undo_parent, undo_other, undo_grown}
use Rattle.rule_tree_laws.specs.Leaves.{InOneLeaf}
use Rattle.rule_tree_laws.proofs.Sound.{TreeFits}
use Rattle.rule_tree_laws.proofs.Partition.{grown_one_leaf, grown_none}
use Rattle.rule_tree_laws.proofs.Splitting.{cubes_kept, reach_other}
use Rattle.rule_tree_laws.proofs.Undone.{undo_fits, undo_leaf, resplit_old, resplit_new}

module _ (t : RuleTree) (f : TreeFits t) (g : grown_of t ≡ true) (s : 0 < t.splits) where
  abbrev before : RuleTree
  before = undone t

  abbrev again : RuleTree
  again = split_at_of (undone t) (newest_parent t)

  grown : grown_of before ≡ true
  grown = undo_grown t f.full g s

  room : before.splits < 64
  room = omega (arith, undo_splits t, grown_splits t g)

  in_use : newest_parent t < node_count before.splits
  in_use = omega (arith, newest_before t f.full g s, undo_splits t)

  -- split again the tree has the links that it had, and so the same cubes and ways
  again_links : children_of again.nodes ≡ children_of t.nodes
  again_links =
      let a = length-map again.nodes (λ (x : Node). x.children) in
      let b = length-map t.nodes (λ (x : Node). x.children) in
      let c = split_length before (newest_parent t) in
      ext_get_or 0 (children_of again.nodes) (children_of t.nodes) (a ∙ c ∙ undo_length t ∙ sym b)
      (λ j l. children_at again.nodes j ∙ at j (omega (arith, l, a, c, undo_length t, f.full)) ∙ sym (children_at t.nodes j))
    where
      at : (j : ℕ) → j < 513 → (node_at_of again.nodes j).children ≡ (node_at_of t.nodes j).children
      at j l =
          ⊎_elim (λ (a : j < newest_first t). ap (λ (x : Node). x.children) (resplit_old t f g s j (inl a)))
          (λ (a : newest_first t ≤ j).
          ⊎_elim
          (λ (b : j < newest_first t + 8). ap (λ (x : Node). x.children) (resplit_new t f g s j a b) ∙ sym (newest_leaf t f.full g s j a l))
          (λ (b : newest_first t + 8 ≤ j). ap (λ (x : Node). x.children) (resplit_old t f g s j (inr b)))
          (below_or_not j (newest_first t + 8)))
          (below_or_not j (newest_first t))

  again_ends : again.ends ≡ t.ends
  again_ends = split_ends before (newest_parent t) ∙ undo_ends t

  again_leaf : (x : Point) → leaf_of again x ≡ leaf_of t x
  again_leaf x = λ j. (walk_of (again_links j) (root_of (again_ends j)) x).node

  again_cube : (i : ℕ) → cube_of again i ≡ cube_of t i
  again_cube i = λ j. cube_at i (split_nodes (again_links j)) (root_of (again_ends j)) i

  -- the nodes that are left have their cubes
  pub undo_cube : (i : ℕ) → i < node_count before.splits → cube_of before i ≡ cube_of t i
  undo_cube i b =
      sym (cubes_kept before (newest_parent t) (undo_fits t f g s).full (grown_linked before grown) (undo_leaf t f g s) room i b) ∙ again_cube i

  module _ (x : Point) where
    -- a point of the box
    one : contains_of (root_of before.ends) x ≡ true → InOneLeaf before x
    one e = grown_one_leaf before grown (undo_fits t f g s).full (undo_fits t f g s).ends x e

    -- in the parent's cube
    pub undo_inside : contains_of (cube_of t (newest_parent t)) x ≡ true → found_in before x ≡ Some (action_in (node_at_of t.nodes (newest_parent t)))
    undo_inside h = go (contains_of (root_of before.ends) x) refl
      where
        holds : contains_of (cube_of before (newest_parent t)) x ≡ true
        holds = ap (λ (c : Cube). contains_of c x) (undo_cube (newest_parent t) in_use) ∙ h

        go : (b : Bool) → contains_of (root_of before.ends) x ≡ b → found_in before x ≡ Some (action_in (node_at_of t.nodes (newest_parent t)))
        go true e =
            (one e).found
            ∙ ap (λ (j : ℕ). Some (action_in (node_at_of before.nodes j)))
            (sym ((one e).only (newest_parent t) in_use (eq-eqb _ 0 (leaf_childless before (newest_parent t) (undo_leaf t f g s))) holds))
            ∙ ap (λ (y : Node). Some (action_in y)) (undo_parent t f.full g s)
        go false e =
            absurd
            (both_ways _ ((grown_none before grown (undo_fits t f g s).full (undo_fits t f g s).ends x e).none (newest_parent t) in_use) holds)

    -- elsewhere
    pub undo_outside : contains_of (cube_of t (newest_parent t)) x ≡ false → found_in before x ≡ found_in t x
    undo_outside h = go (contains_of (root_of before.ends) x) refl
      where
        aside : (e : contains_of (root_of before.ends) x ≡ true) → leaf_of before x ≡ newest_parent t → ⊥
        aside e z =
            both_ways _
            (ap (λ (j : ℕ). contains_of (cube_of before j) x) z ∙ ap (λ (c : Cube). contains_of c x) (undo_cube (newest_parent t) in_use) ∙ h)
            (one e).inside

        go : (b : Bool) → contains_of (root_of before.ends) x ≡ b → found_in before x ≡ found_in t x
        go true e =
            let w = grown_whole before grown (undo_fits t f g s).ends in
            let r = reach_other before (newest_parent t) (undo_fits t f g s).full (grown_linked before grown) (undo_leaf t f g s) room w x e (aside e) in
            let b = (one e).node in
            (one e).found
            ∙ ap (λ (y : Node). Some (action_in y)) (undo_other t f.full g s (leaf_of before x) (aside e) (inl (omega (arith, undo_splits t))))
            ∙ ap (λ (j : ℕ). Some (action_in (node_at_of t.nodes j))) (sym r ∙ again_leaf x)
            ∙ sym (grown_one_leaf t g f.full f.ends x (ap (λ (p : Point). contains_of (root_of p) x) (sym (undo_ends t)) ∙ e)).found
        go false e =
            (grown_none before grown (undo_fits t f g s).full (undo_fits t f g s).ends x e).nothing
            ∙ sym (grown_none t g f.full f.ends x (ap (λ (p : Point). contains_of (root_of p) x) (sym (undo_ends t)) ∙ e)).nothing
