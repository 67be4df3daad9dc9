-- The table's rows are the leaves of the even tree: row r has the cube of node 9 + r, and the row that holds a point is that of the leaf which the point reaches.
-- Assumes nothing.
use mathlib.Core.Path.{◌≡◌, refl, sym, ap, ap₂, ◌∙◌}
use mathlib.Core.Bool.{Bool, true, false, cond}
use mathlib.Core.Logic.{⊎_elim}
use mathlib.Core.List.{List}
use Prim.Native.Nat.{ℕ, ◌+◌, ◌-◌, ◌*◌, ◌/◌, ◌%◌, ◌<◌, ◌≤◌}
use native.Mathlib.Omega.{arith}
use lib.Dec.{eqb}
use lib.ListN.{get_or}
use borrow.Author.Tests.{eqb-true, eq-eqb}
use Rattle.std.specs.Prelude.{Ok, Some, None}
use Rattle.remy.specs.declared.action.Action.{Action}
use Rattle.remy.specs.declared.point.Point.{Point}
use Rattle.remy.specs.declared.cube.Cube.{Cube}
use Rattle.remy.specs.Action.{valid_of}
use Rattle.remy.specs.Cube.{usual_ends, root_of, child_cube, contains_of, Whole}
use Rattle.rule_tree.specs.declared.RuleTree.{RuleTree}
use Rattle.rule_tree.specs.Lists.{tabulate, occurrences, all_below}
use Rattle.rule_tree.specs.Nodes.{node_at_of, children_of, is_leaf_of, action_in}
use Rattle.rule_tree.specs.Grown.{linked_of, grown_of}
use Rattle.rule_tree.specs.Cubes.{cube_of}
use Rattle.rule_tree.specs.Walk.{leaf_of}
use Rattle.rule_tree.specs.Change.{with_action, with_mark}
use Rattle.rule_tree.specs.Calls.{found_in, lookup_of}
use Rattle.rule_tree.proofs.Lists.{all_below_at}
use Rattle.rule_tree.proofs.LinkWays.{children_at}
use Rattle.rule_tree.proofs.Owners.{below_or_not}
use Rattle.rule_tree.proofs.Changing.{action_links, action_length, mark_links, mark_length, usual_ends_lem}
use Rattle.rule_tree_laws.specs.Growth.{Growth}
use Rattle.rule_tree_laws.specs.Growth as growth
use Rattle.rule_tree_laws.proofs.GrowthTest.{growth_grown}
use Rattle.rule_tree_laws.proofs.Family.{child_of, cube_in, cube_root, cube_child}
use Rattle.rule_tree_laws.proofs.Partition.{InOneLeaf, in_one_leaf, in_none}
use Rattle.even.specs.Even.{even_cube, row_of}
use Rattle.even.proofs.Rows.{first_row, no_row}
use Rattle.even.proofs.Toward.{usual_whole}
use Rattle.even_laws.specs.EvenTree.{split_in_order, even_tree, even_links, Even, row_in, found_at}

-- ---- the links
even_linked : linked_of even_links 9 ≡ true
unfolding linked_of tabulate occurrences
even_linked = refl

links_test : all_below 9 (λ i. eqb (get_or even_links i 0) (8 * i + 1)) ≡ true
unfolding all_below
links_test = refl

link_at : (i : ℕ) → i < 9 → get_or even_links i 0 ≡ 8 * i + 1
link_at i l = eqb-true (get_or even_links i 0) (8 * i + 1) (all_below_at 9 i (λ j. eqb (get_or even_links j 0) (8 * j + 1)) links_test l)

leaf_from : (i : ℕ) → get_or even_links i 0 ≡ 0 → 9 ≤ i
leaf_from i z = ⊎_elim (λ (l : i < 9). absurd (let e = link_at i l in omega arith)) (λ (l : 9 ≤ i). l) (below_or_not i 9)

leaves_test : all_below 64 (λ r. eqb (get_or even_links (9 + r) 0) 0) ≡ true
unfolding all_below
leaves_test = refl

leaf_at_lem : (r : ℕ) → r < 64 → get_or even_links (9 + r) 0 ≡ 0
leaf_at_lem r l = eqb-true (get_or even_links (9 + r) 0) 0 (all_below_at 64 r (λ j. eqb (get_or even_links (9 + j) 0) 0) leaves_test l)

-- ---- the cubes
child_cube_lem : (root : Cube) (i k : ℕ) → i < 9 → k < 8 → cube_in even_links root (8 * i + 1 + k) ≡ child_cube (cube_in even_links root i) k
child_cube_lem root i k l b =
    let e : get_or even_links i 0 ≡ 8 * i + 1 = link_at i l in
    let c = child_of even_links 9 even_linked refl i k (omega arith) (λ z. absurd (omega (arith, z))) b in
    ap (λ (x : ℕ). cube_in even_links root (x + k)) (sym e) ∙ cube_child even_links 9 even_linked refl root i k (get_or even_links i 0 + k) (omega arith) c

row_node : (r : ℕ) → 9 + r ≡ 8 * (8 * 0 + 1 + r / 8) + 1 + r % 8
row_node r = omega arith

row_cube : (root : Cube) (r : ℕ) → r < 64 → cube_in even_links root (9 + r) ≡ child_cube (child_cube root (r / 8)) (r % 8)
row_cube root r l =
    ap (cube_in even_links root) (row_node r)
    ∙ child_cube_lem root (8 * 0 + 1 + r / 8) (r % 8) (omega arith) (omega arith)
    ∙ ap (λ (x : Cube). child_cube x (r % 8)) (child_cube_lem root 0 (r / 8) (omega arith) (omega arith) ∙ ap (λ (x : Cube). child_cube x (r / 8)) (cube_root even_links root))

module _ (t : RuleTree) (v : Even t) where
  -- row r is node 9 + r
  pub even_cube_lem : (r : ℕ) → r < 64 → cube_of t (9 + r) ≡ even_cube r
  unfolding even_cube
  even_cube_lem r l =
      ap₂ (λ (cs : List ℕ) (e : Point). cube_in cs (root_of e) (9 + r)) v.links v.ends ∙ row_cube (root_of usual_ends) r l

  linked : linked_of (children_of t.nodes) t.splits ≡ true
  linked = ap₂ linked_of v.links v.splits ∙ even_linked

  whole : Whole (root_of t.ends)
  whole = rw v.ends usual_whole

  node_link : (i : ℕ) → (node_at_of t.nodes i).children ≡ get_or even_links i 0
  node_link i = sym (children_at t.nodes i) ∙ ap (λ (cs : List ℕ). get_or cs i 0) v.links

  row_leaf : (r : ℕ) → r < 64 → is_leaf_of t.nodes (9 + r) ≡ true
  row_leaf r l = eq-eqb (node_at_of t.nodes (9 + r)).children 0 (node_link (9 + r) ∙ leaf_at_lem r l)

  module _ (p : Point) where
    -- a point of the box lies in the row of the leaf that it reaches, and in no other
    module _ (e : contains_of (root_of t.ends) p ≡ true) where
      reached : InOneLeaf t p
      reached = in_one_leaf t p linked v.full whole e

      above : 9 ≤ leaf_of t p
      above = leaf_from (leaf_of t p) (sym (node_link (leaf_of t p)) ∙ eqb-true (node_at_of t.nodes (leaf_of t p)).children 0 reached.leaf)

      pub reached_row : 9 + (leaf_of t p - 9) ≡ leaf_of t p
      reached_row = let a = above in omega arith

      row_below : leaf_of t p - 9 < 64
      row_below = let n = reached.node in let s = v.splits in let a = above in omega arith

      holds : contains_of (even_cube (leaf_of t p - 9)) p ≡ true
      holds = ap (λ (c : Cube). contains_of c p) (sym (even_cube_lem (leaf_of t p - 9) row_below) ∙ ap (cube_of t) reached_row) ∙ reached.inside

      one_row : (j : ℕ) → j < 64 → contains_of (even_cube j) p ≡ true → 9 + j ≡ leaf_of t p
      one_row j l x =
          reached.only (9 + j) (let s = v.splits in omega arith) (row_leaf j l) (ap (λ (c : Cube). contains_of c p) (even_cube_lem j l) ∙ x)

      others : (j : ℕ) → j < leaf_of t p - 9 → contains_of (even_cube j) p ≡ false
      others j l = go (contains_of (even_cube j) p) refl
        where
          go : (b : Bool) → contains_of (even_cube j) p ≡ b → b ≡ false
          go true x = absurd (let y = row_below in let z = one_row j (omega arith) x in let a = above in omega arith)
          go false x = refl

      row_inside : row_of p ≡ Some (leaf_of t p - 9)
      row_inside = first_row 64 0 (leaf_of t p - 9) p (omega arith) row_below (λ j a l. others j l) holds

    row_outside : contains_of (root_of t.ends) p ≡ false → row_of p ≡ None
    row_outside e =
        let n = in_none t p linked v.full whole e in
        no_row 64 0 p
        (λ j a l. ap (λ (c : Cube). contains_of c p) (sym (even_cube_lem j (omega arith))) ∙ n.none (9 + j) (let s = v.splits in omega arith))

    -- the row that holds p is that of the leaf which p reaches, or none
    pub rows_agree : row_of p ≡ row_in t p
    rows_agree = go (contains_of (root_of t.ends) p) refl
      where
        go : (b : Bool) → contains_of (root_of t.ends) p ≡ b → row_of p ≡ cond b (Some (leaf_of t p - 9)) None
        go true e = row_inside e
        go false e = row_outside e

    -- and the row finds what the tree finds
    found_agrees : found_at t (row_of p) ≡ found_in t p
    unfolding found_at
    found_agrees = go (contains_of (root_of t.ends) p) refl
      where
        go : (b : Bool) → contains_of (root_of t.ends) p ≡ b → found_at t (row_of p) ≡ found_in t p
        go true e =
            ap (found_at t) (row_inside e) ∙ ap (λ (i : ℕ). Some (action_in (node_at_of t.nodes i))) (reached_row e) ∙ sym (reached e).found
        go false e = ap (found_at t) (row_outside e) ∙ sym (in_none t p linked v.full whole e).nothing

    pub lookups_agree : grown_of t ≡ true → lookup_of t p ≡ Ok (found_at t (row_of p))
    unfolding lookup_of
    lookups_agree g = rw g (ap Ok (sym found_agrees))

-- ---- the grown tree
pub even_growth : (a : Action) → valid_of a ≡ true → Growth (even_tree a)
unfolding split_in_order
even_growth a w =
    growth.split _ 8 (growth.split _ 7 (growth.split _ 6 (growth.split _ 5 (growth.split _ 4 (growth.split _ 3 (growth.split _ 2 (growth.split _ 1 (growth.split _ 0 (growth.root usual_ends a usual_ends_lem w)
    refl (omega arith)) refl (omega arith)) refl (omega arith)) refl (omega arith)) refl (omega arith)) refl (omega arith)) refl (omega arith)) refl (omega arith)) refl (omega arith)

pub even_tree_lem : (a : Action) → Even (even_tree a)
unfolding split_in_order
even_tree_lem a = record { links = refl; splits = refl; ends = refl; full = refl }

pub even_grown : (a : Action) → valid_of a ≡ true → grown_of (even_tree a) ≡ true
even_grown a w = growth_grown (even_tree a) (even_growth a w)

-- it stays even whatever actions and marks its leaves get
pub even_acted : (t : RuleTree) (i : ℕ) (a : Action) → Even t → Even (with_action t i a)
even_acted t i a v = record { links = action_links t i a ∙ v.links; splits = v.splits; ends = v.ends; full = action_length t i a ∙ v.full }

pub even_marked : (t : RuleTree) (i : ℕ) → Even t → Even (with_mark t i)
even_marked t i v = record { links = mark_links t i ∙ v.links; splits = v.splits; ends = v.ends; full = mark_length t i ∙ v.full }
