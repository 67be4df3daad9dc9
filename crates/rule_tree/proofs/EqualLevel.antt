-- Laws of equality: one level of the definition, what it looks at, and what lies past the end of the nodes. Assumes nothing.
use mathlib.Core.Path.{◌≡◌, refl}
use mathlib.Core.Bool.{Bool, true, false, ◌&&◌, cond}
use mathlib.Core.List.{List}
use Prim.Native.Nat.{ℕ, zero, suc, ◌-◌, ◌≤◌}
use native.Mathlib.Numerals.{sub-one}
use lib.Dec.{eqb}
use lib.ListN.{length, get_or-eq_default}
use lib.Ieee.{Float, nan, inf, fin, eq}
use Rattle.remy.specs.declared.action.Action.{Action}
use Rattle.remy.specs.declared.cube.Cube.{Cube}
use Rattle.rule_tree.specs.declared.Node.{Node}
use Rattle.rule_tree.specs.Nodes.{node_at_of, no_node, action_in}
use Rattle.rule_tree.specs.Equal.{cube_equal, action_equal, node_equal, children_equal}
use Rattle.rule_tree.proofs.Lists.{and-false}

-- two nodes by their cubes, links and actions, and by what is known of their children
unfoldable pub level_of : Cube → Cube → ℕ → Action → ℕ → Action → Bool → Bool
level_of c d x p y q below =
    cube_equal c d && cond (eqb x 0) (cond (eqb y 0) (action_equal p q) false) (cond (eqb y 0) false below)

pub level : (n : ℕ) (s t : List Node) (i j : ℕ) (c d : Cube) → (n ≡ 0 → ⊥) → node_equal n s t i j c d ≡ level_of c d (node_at_of s i).children (action_in (node_at_of s i)) (node_at_of t j).children (action_in (node_at_of t j)) (children_equal (n - 1) s t (node_at_of s i).children (node_at_of t j).children c d)
unfolding node_equal level_of
level zero s t i j c d f = absurd (f refl)
level (suc n) s t i j c d f = rw (sub-one (suc n))

pub none_deep : (n : ℕ) (s t : List Node) (i j : ℕ) (c d : Cube) → n ≡ 0 → node_equal n s t i j c d ≡ false
unfolding node_equal
none_deep n s t i j c d e = rw e

-- a node past the end is a leaf whose action is not a number, so it equals none
eq_nan : (x : Float) → eq x nan ≡ false
unfolding eq
eq_nan nan = refl
eq_nan (inf s) = refl
eq_nan (fin s m e) = refl

cond_same : (b : Bool) → cond b false false ≡ false
cond_same true = refl
cond_same false = refl

pub past_left : (n : ℕ) (s t : List Node) (i j : ℕ) (c d : Cube) → length s ≤ i → node_equal n s t i j c d ≡ false
unfolding node_equal action_equal eq
past_left zero s t i j c d h = refl
past_left (suc n) s t i j c d h =
    rw (get_or-eq_default s no_node h, cond_same (eqb (node_at_of t j).children 0), and-false (cube_equal c d))

pub past_right : (n : ℕ) (s t : List Node) (i j : ℕ) (c d : Cube) → length t ≤ j → node_equal n s t i j c d ≡ false
unfolding node_equal action_equal
past_right zero s t i j c d h = refl
past_right (suc n) s t i j c d h =
    rw (get_or-eq_default t no_node h, eq_nan (node_at_of s i).window_multiplier, cond_same (eqb (node_at_of s i).children 0), and-false (cube_equal c d))
