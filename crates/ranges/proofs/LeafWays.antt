-- Over a tree: a leaf is the one that lookup reaches from some point within the ranges exactly where its cube passes the test.
-- Assumes nothing.
use mathlib.Core.Path.{◌≡◌, sym, ap, subst, ◌∙◌}
use mathlib.Core.Bool.{true}
use mathlib.Core.Logic.{◌↔◌}
use Prim.Native.Nat.{ℕ, ◌<◌}
use borrow.Author.Tests.{ltb-true}
use lib.Dec.{ltb}
use lib.ListN.{length, length-map}
use Rattle.remy.specs.declared.point.Point.{Point}
use Rattle.remy.specs.Cube.{root_of, contains_of, Whole}
use Rattle.rule_tree.specs.declared.Node.{Node}
use Rattle.rule_tree.specs.declared.RuleTree.{RuleTree}
use Rattle.std.specs.Prelude.{Some, Ok}
use Rattle.rule_tree.specs.Nodes.{node_at_of, children_of, node_count, is_leaf_of, action_in}
use Rattle.rule_tree.specs.Grown.{grown_of}
use Rattle.rule_tree.specs.Cubes.{cube_of}
use Rattle.rule_tree.specs.Walk.{leaf_of}
use Rattle.rule_tree.specs.Calls.{leaf_in}
use Rattle.rule_tree.proofs.Plain.{PointFits, and_l, and_r}
use Rattle.rule_tree.proofs.Links.{grown_linked, grown_whole}
use Rattle.rule_tree_laws.proofs.Partition.{node_whole, node_inside, grown_one_leaf, lookup_found}
use Rattle.ranges.specs.declared.Ranges.{Ranges}
use Rattle.ranges.specs.Ranges.{lowest_of, ordered_of, reachable}
use Rattle.ranges.specs.Reached.{Fits, Met, Reached, point_ranges}
use Rattle.ranges.proofs.Axis.{met_exactly, point_range}

module _ (t : RuleTree) (g : grown_of t ≡ true) (n : length t.nodes ≡ 513) (f : PointFits t.ends) where
  module _ (i : ℕ) (l : leaf_in t i ≡ true) where
    below : i < node_count t.splits
    below = ltb-true i (node_count t.splits) (and_l (ltb i (node_count t.splits)) (is_leaf_of t.nodes i) l)

    is_leaf : is_leaf_of t.nodes i ≡ true
    is_leaf = and_r (ltb i (node_count t.splits)) (is_leaf_of t.nodes i) l

    links_full : length (children_of t.nodes) ≡ 513
    links_full = length-map t.nodes (λ (x : Node). x.children) ∙ n

    leaf_whole : Whole (cube_of t i)
    leaf_whole = node_whole (children_of t.nodes) t.splits (grown_linked t g) links_full (root_of t.ends) (grown_whole t g f) i below

    min_fits : Fits (cube_of t i).min
    min_fits =
        let w = leaf_whole in
        record { acks = w.acks.from.fitting; sends = w.sends.from.fitting; ratios = w.ratios.from.fitting }

    in_box_lem : (p : Point) → contains_of (cube_of t i) p ≡ true → contains_of (root_of t.ends) p ≡ true
    in_box_lem p e = node_inside (children_of t.nodes) t.splits (grown_linked t g) links_full (root_of t.ends) (grown_whole t g f) p i below e

    -- a point of the leaf's cube reaches the leaf
    reaches : (p : Point) → contains_of (cube_of t i) p ≡ true → leaf_of t p ≡ i
    reaches p e = sym ((grown_one_leaf t g n f p (in_box_lem p e)).only i below is_leaf e)

    met_reached : (r : Ranges) → Met (cube_of t i) r → Reached t r i
    met_reached r m =
        let p = m.point in
        let b = in_box_lem p m.inside in
        let e = reaches p m.inside in
        record {
          point = p;
          fitting = m.fitting;
          within = m.within;
          box = b;
          leaf = e;
          found = lookup_found t g n f p b ∙ ap (λ (j : ℕ). Ok (Some (action_in (node_at_of t.nodes j)))) e;
        }

    pub reached_met : (r : Ranges) → Reached t r i → Met (cube_of t i) r
    reached_met r m =
        let p = m.point in
        record {
          point = p;
          fitting = m.fitting;
          within = m.within;
          inside = subst (λ (j : ℕ). contains_of (cube_of t j) p ≡ true) m.leaf (grown_one_leaf t g n f p m.box).inside;
        }

    -- leaf i is reached from some point within the ranges exactly where its cube passes the test
    pub reached_exactly : (r : Ranges) → Fits (lowest_of r) → ordered_of r ≡ true → Reached t r i ↔ (reachable (cube_of t i) r ≡ true)
    reached_exactly r q o =
        let e = met_exactly (cube_of t i) r min_fits q o in
        (λ m. e.0 (reached_met r m), λ b. met_reached r (e.1 b))

    -- with both ends p on each axis the leaf that passes is the one that lookup finds, and none outside the box
    pub point_reached : (p : Point)
        → (reachable (cube_of t i) (point_ranges p) ≡ true) ↔ ((contains_of (root_of t.ends) p ≡ true) × (leaf_of t p ≡ i))
    point_reached p =
        let e = point_range (cube_of t i) p in (
          λ b. let k = sym e ∙ b in (in_box_lem p k, reaches p k),
          λ w. e ∙ subst (λ (j : ℕ). contains_of (cube_of t j) p ≡ true) w.1 (grown_one_leaf t g n f p w.0).inside,
        )
