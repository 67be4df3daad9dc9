-- More depth changes no equality: no way down in a grown tree has more nodes than the tree, so a depth of 513 is enough. Assumes nothing.
use mathlib.Core.Path.{◌≡◌, ap}
use mathlib.Core.Bool.{true}
use mathlib.Core.List.{List}
use Prim.Native.Nat.{ℕ, zero, suc, ◌+◌, ◌<◌, ◌≤◌}
use native.Mathlib.Omega.{arith}
use borrow.Author.Tests.{eq-eqb}
use Rattle.remy.specs.declared.cube.Cube.{Cube}
use Rattle.remy.specs.Cube.{child_cube, root_of}
use Rattle.rule_tree.specs.declared.Node.{Node}
use Rattle.rule_tree.specs.declared.RuleTree.{RuleTree}
use Rattle.rule_tree.specs.Nodes.{node_at_of, node_count, action_in}
use Rattle.rule_tree.specs.Grown.{grown_of}
use Rattle.rule_tree.specs.Equal.{node_equal, trees_equal}
use Rattle.rule_tree.proofs.Lists.{all_below_same}
use Rattle.rule_tree.proofs.EqualLevel.{level_of}
use Rattle.rule_tree.proofs.Links.{grown_splits}
use Rattle.rule_tree_laws.proofs.Slots.{Slot, leaf, parent, grown_slot}

module _ (s t : List Node) where
  abbrev SameAt : ℕ → ℕ → ℕ → ℕ → Cube → Cube → Type 0
  SameAt n m i j c d = node_equal n s t i j c d ≡ node_equal m s t i j c d

  module _ (n m i j : ℕ) (c d : Cube) where
    leaf_same : (node_at_of s i).children ≡ 0 → SameAt (suc n) (suc m) i j c d
    unfolding node_equal
    leaf_same f = rw (eq-eqb (node_at_of s i).children 0 f)

    parent-same :
        ((k : ℕ) → k < 8 → SameAt n m ((node_at_of s i).children + k) ((node_at_of t j).children + k) (child_cube c k) (child_cube d k))
        → SameAt (suc n) (suc m) i j c d
    unfolding node_equal level_of
    parent-same h =
        ap (level_of c d (node_at_of s i).children (action_in (node_at_of s i)) (node_at_of t j).children (action_in (node_at_of t j))) (all_below_same 8 _ _ h)

  module _ (r : ℕ) (slots : (i : ℕ) → i < node_count r → Slot r i (node_at_of s i)) where
    -- node i needs no more depth than there are nodes from i on
    abbrev Deep : ℕ → ℕ → Type 0
    Deep n m = (i j : ℕ) (c d : Cube) → i < node_count r → node_count r ≤ n + i → node_count r ≤ m + i → SameAt n m i j c d

    deeper : (n m : ℕ) → Deep n m → (i j : ℕ) (c d : Cube) → node_count r ≤ suc n + i → node_count r ≤ suc m + i → Slot r i (node_at_of s i) → SameAt (suc n) (suc m) i j c d
    deeper n m below i j c d h k (leaf f v) = leaf_same n m i j c d f
    deeper n m below i j c d h k (parent a w) =
        parent-same n m i j c d
        (λ q l. below ((node_at_of s i).children + q) ((node_at_of t j).children + q) (child_cube c q) (child_cube d q) (omega arith) (omega arith) (omega arith))

    enough : (n m : ℕ) → Deep n m
    enough zero m i j c d l h k = absurd (omega arith)
    enough (suc n) zero i j c d l h k = absurd (omega arith)
    enough (suc n) (suc m) i j c d l h k = deeper n m (enough n m) i j c d h k (slots i l)

pub depth_enough : (t u : RuleTree) → grown_of t ≡ true → (d : ℕ) → 513 ≤ d → node_equal d t.nodes u.nodes 0 0 (root_of t.ends) (root_of u.ends) ≡ trees_equal t u
depth_enough t u g d h =
    let few = grown_splits t g in
    enough t.nodes u.nodes t.splits (grown_slot t g) d 513 0 0 (root_of t.ends) (root_of u.ends) (omega arith) (omega arith) (omega arith)
