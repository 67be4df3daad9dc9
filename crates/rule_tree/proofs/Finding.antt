-- What a point finds in a tree, by its links and its root. Assumes nothing.
use mathlib.Core.Path.{◌≡◌, sym, ap, ◌∙◌}
use mathlib.Core.List.{List}
use Prim.Native.Nat.{ℕ}
use Rattle.std.specs.Prelude.{Option, Some, None}
use Rattle.remy.specs.declared.cube.Cube.{Cube}
use Rattle.remy.specs.declared.point.Point.{Point}
use Rattle.remy.specs.Cube.{root_of}
use Rattle.rule_tree.specs.declared.RuleTree.{RuleTree}
use Rattle.rule_tree.specs.Nodes.{node_at_of, children_of, action_in}
use Rattle.rule_tree.specs.Calls.{found_in}
use Rattle.rule_tree.specs.Leaf.{leaf_holding, found_by}
use Rattle.rule_tree.proofs.Leaf.{found_by_lem}

module _ (t : RuleTree) (p : Point) {cs : List ℕ} {root : Cube} (l : cs ≡ children_of t.nodes) (z : root ≡ root_of t.ends) {r : Option ℕ}
    (is : r ≡ leaf_holding cs root p)
  where
    by : found_by t.nodes r ≡ found_in t p
    by = ap (found_by t.nodes) (is ∙ (λ j. leaf_holding (l j) (z j) p)) ∙ found_by_lem t p

    pub nothing : r ≡ None → None ≡ found_in t p
    unfolding found_by
    nothing e = sym (ap (found_by t.nodes) e) ∙ by

    pub found : {i : ℕ} → r ≡ Some i → Some (action_in (node_at_of t.nodes i)) ≡ found_in t p
    unfolding found_by
    found e = sym (ap (found_by t.nodes) e) ∙ by
