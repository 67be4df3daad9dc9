-- One law for each way through `node_equal` and `children_equal`. Assumes nothing.
use mathlib.Core.Path.{◌≡◌, sym, ◌∙◌}
use mathlib.Core.Bool.{Bool, true, false, not}
use mathlib.Core.List.{List}
use Prim.Native.Nat.{ℕ, ◌+◌, ◌-◌, ◌<◌, ◌≤◌}
use native.Mathlib.Omega.{arith}
use mir.Val.{SFits}
use mir.Syntax.{w32}
use borrow.Author.Tests.{eq-eqb, ne_eqb, not-true, not-false}
use lib.ListN.{length}
use Rattle.remy.specs.declared.action.Action.{Action}
use Rattle.remy.specs.declared.cube.Cube.{Cube}
use Rattle.remy.specs.contracts.action.ActionPartialEq.TheImpl as of_actions
use Rattle.remy.specs.contracts.cube.CubePartialEq.TheImpl as of_cubes
use Rattle.remy.specs.Cube.{child_cube}
use Rattle.remy.proofs.Equality.{actions_equal, cubes_equal}
use Rattle.rule_tree.specs.declared.Node.{Node}
use Rattle.rule_tree.specs.Lists.{all_below}
use Rattle.rule_tree.specs.Nodes.{node_at_of, action_in}
use Rattle.rule_tree.specs.Equal.{cube_equal, action_equal, node_equal, children_equal}
use Rattle.rule_tree.proofs.Lists.{all_below_more, all_below_fails}
use Rattle.rule_tree.proofs.EqualLevel.{level_of, level, none_deep, past_left, past_right}

-- ---- what `==` and `!=` tell
pub actions_same : (a b : Action) → SFits w32 a.window_increment → SFits w32 b.window_increment → of_actions.ghosts.eq a b ≡ action_equal a b
unfolding action_equal
actions_same a b f g = actions_equal a b f g

pub cubes_other : (c d : Cube) (r : Bool) → r ≡ not (of_cubes.ghosts.eq c d) → r ≡ true → cube_equal c d ≡ false
unfolding cube_equal
cubes_other c d r e h = sym (cubes_equal c d) ∙ not-true _ (sym e ∙ h)

pub cubes_same : (c d : Cube) (r : Bool) → r ≡ not (of_cubes.ghosts.eq c d) → r ≡ false → cube_equal c d ≡ true
unfolding cube_equal
cubes_same c d r e h = sym (cubes_equal c d) ∙ not-false _ (sym e ∙ h)

-- ---- the ways through `node_equal` and `children_equal`
module _ (a b : List Node) (c d : Cube) (n : ℕ) where
  module _ (i j : ℕ) where
    pub at_zero : n ≡ 0 → false ≡ node_equal n a b i j c d
    at_zero e = sym (none_deep n a b i j c d e)

    abbrev first : ℕ
    first = (node_at_of a i).children

    abbrev other : ℕ
    other = (node_at_of b j).children

    module _ (deep : n ≡ 0 → ⊥) where
      pub cubes_differ : cube_equal c d ≡ false → false ≡ node_equal n a b i j c d
      unfolding level_of
      cubes_differ f = rw (level n a b i j c d deep, f)

      module _ (same : cube_equal c d ≡ true) where
        pub both_leaves : first ≡ 0 → other ≡ 0 → action_equal (action_in (node_at_of a i)) (action_in (node_at_of b j)) ≡ node_equal n a b i j c d
        unfolding level_of
        both_leaves p q = rw (level n a b i j c d deep, same, eq-eqb _ 0 p, eq-eqb _ 0 q)

        pub leaf_parent : first ≡ 0 → (other ≡ 0 → ⊥) → false ≡ node_equal n a b i j c d
        unfolding level_of
        leaf_parent p q = rw (level n a b i j c d deep, same, eq-eqb _ 0 p, ne_eqb _ 0 q)

        pub parent_leaf : (first ≡ 0 → ⊥) → other ≡ 0 → false ≡ node_equal n a b i j c d
        unfolding level_of
        parent_leaf p q = rw (level n a b i j c d deep, same, ne_eqb _ 0 p, eq-eqb _ 0 q)

        pub both_parents : (first ≡ 0 → ⊥) → (other ≡ 0 → ⊥) → children_equal (n - 1) a b first other c d ≡ node_equal n a b i j c d
        unfolding level_of
        both_parents p q = rw (level n a b i j c d deep, same, ne_eqb _ 0 p, ne_eqb _ 0 q)

  -- x and y are the first children
  module _ (x y : ℕ) where
    -- the first k children are equal, pair by pair
    abbrev pub children_same : ℕ → Type 0
    children_same k = all_below k (λ m. node_equal n a b (x + m) (y + m) (child_cube c m) (child_cube d m)) ≡ true

    pub far_left : length a ≤ 513 → 505 < x → false ≡ children_equal n a b x y c d
    far_left l h = sym (all_below_fails 8 7 _ (omega arith) (past_left n a b (x + 7) (y + 7) (child_cube c 7) (child_cube d 7) (omega arith)))

    pub far_right : length b ≤ 513 → 505 < y → false ≡ children_equal n a b x y c d
    far_right l h = sym (all_below_fails 8 7 _ (omega arith) (past_right n a b (x + 7) (y + 7) (child_cube c 7) (child_cube d 7) (omega arith)))

    -- what the call for child k answers
    module _ (k : ℕ) (c' d' : Cube) (p : c' ≡ child_cube c k) (q : d' ≡ child_cube d k) (r : Bool) (e : r ≡ node_equal n a b (x + k) (y + k) c' d') where
      turn : r ≡ node_equal n a b (x + k) (y + k) (child_cube c k) (child_cube d k)
      turn = e ∙ (λ z. node_equal n a b (x + k) (y + k) (p z) (q z))

      pub one_more : children_same k → r ≡ true → children_same (k + 1)
      one_more h f = all_below_more k _ h (sym turn ∙ f)

      pub one_differs : k < 8 → r ≡ false → false ≡ children_equal n a b x y c d
      one_differs h f = sym (all_below_fails 8 k _ h (sym turn ∙ f))
