-- Equality of trees: marks don't count, and a grown tree equals itself. Assumes nothing.
use mathlib.Core.Path.{◌≡◌, refl}
use mathlib.Core.Bool.{Bool, true, false, cond, ◌&&◌}
use mathlib.Core.List.{List, [], ◌∷◌, map}
use Prim.Native.Nat.{ℕ, zero, suc, ◌+◌}
use native.Mathlib.Omega.{arith}
use lib.Dec.{eqb}
use lib.ListN.{set}
use Rattle.remy.specs.declared.cube.Cube.{Cube}
use Rattle.remy.specs.Cube.{child_cube, root_of}
use Rattle.rule_tree.specs.declared.Node.{Node}
use Rattle.rule_tree.specs.declared.RuleTree.{RuleTree}
use Rattle.rule_tree.specs.Nodes.{node_at_of, action_in, node_holding}
use Rattle.rule_tree.specs.Change.{with_mark, without_marks, unmarked_node}
use Rattle.rule_tree.specs.Grown.{grown_of}
use Rattle.rule_tree.specs.Lists.{all_below}
use Rattle.rule_tree.specs.Equal.{cube_equal, action_equal, node_equal, trees_equal}
use Rattle.rule_tree.proofs.Links.{grown_splits, grown_admitted}
use Rattle.rule_tree_laws.proofs.Slots.{grown_slot}
use Rattle.rule_tree_laws.proofs.EqualSelf.{itself, root_rising}

-- two nodes that differ in their marks alone, and lists of such
pub record Alike (x y : Node) : Type 0 where
  pub links : x.children ≡ y.children
  pub actions : action_in x ≡ action_in y

abbrev pub AllAlike : List Node → List Node → Type 0
AllAlike s t = (k : ℕ) → Alike (node_at_of s k) (node_at_of t k)

-- equality looks at links and actions alone
pub same_fields : (n : ℕ) (s s' t t' : List Node) → AllAlike s s' → AllAlike t t' → (i j : ℕ) (c d : Cube) → node_equal n s t i j c d ≡ node_equal n s' t' i j c d
unfolding node_equal
same_fields zero s s' t t' p q i j c d = refl
same_fields (suc n) s s' t t' p q i j c d =
    λ z. cube_equal c d
    && cond (eqb ((p i).links z) 0)
    (cond (eqb ((q j).links z) 0) (action_equal ((p i).actions z) ((q j).actions z)) false)
    (cond (eqb ((q j).links z) 0) false
    (all_below 8 (λ k. same_fields n s s' t t' p q ((p i).links z + k) ((q j).links z + k) (child_cube c k) (child_cube d k) z)))

alike_self : (x : Node) → Alike x x
alike_self x = record { links = refl; actions = refl }

all_self : (s : List Node) → AllAlike s s
all_self s k = alike_self (node_at_of s k)

-- one node replaced by one like it
alike_set : (s : List Node) (i : ℕ) (y : Node) → Alike y (node_at_of s i) → AllAlike (set s i y) s
alike_set [] i y e k = alike_self (node_at_of [] k)
alike_set (x ∷ xs) zero y e zero = e
alike_set (x ∷ xs) zero y e (suc k) = alike_self (node_at_of xs k)
alike_set (x ∷ xs) (suc i) y e zero = alike_self x
alike_set (x ∷ xs) (suc i) y e (suc k) = alike_set xs i y e k

-- every node replaced by one like it
alike_map : (f : Node → Node) → ((x : Node) → Alike (f x) x) → (s : List Node) → AllAlike (map f s) s
alike_map f e [] k = alike_self (node_at_of [] k)
alike_map f e (x ∷ xs) zero = e x
alike_map f e (x ∷ xs) (suc k) = alike_map f e xs k

unmarked_alike : (x : Node) → Alike (unmarked_node x) x
unfolding unmarked_node
unmarked_alike x = go (eqb x.children 0)
  where
    go : (b : Bool) → Alike (cond b (node_holding (action_in x) x.children false) x) x
    go true = record { links = refl; actions = refl }
    go false = alike_self x

module _ (t u : RuleTree) where
  pub marked_left : (i : ℕ) → trees_equal (with_mark t i) u ≡ trees_equal t u
  marked_left i =
      same_fields 513 _ _ _ _ (alike_set t.nodes i _ (record { links = refl; actions = refl })) (all_self u.nodes) 0 0
      (root_of t.ends)
      (root_of u.ends)

  pub marked_right : (i : ℕ) → trees_equal t (with_mark u i) ≡ trees_equal t u
  marked_right i =
      same_fields 513 _ _ _ _ (all_self t.nodes) (alike_set u.nodes i _ (record { links = refl; actions = refl })) 0 0
      (root_of t.ends)
      (root_of u.ends)

  pub cleared_left : trees_equal (without_marks t) u ≡ trees_equal t u
  cleared_left =
      same_fields 513 _ _ _ _ (alike_map unmarked_node unmarked_alike t.nodes) (all_self u.nodes) 0 0 (root_of t.ends) (root_of u.ends)

  pub cleared_right : trees_equal t (without_marks u) ≡ trees_equal t u
  cleared_right =
      same_fields 513 _ _ _ _ (all_self t.nodes) (alike_map unmarked_node unmarked_alike u.nodes) 0 0 (root_of t.ends) (root_of u.ends)

pub equals_itself : (t : RuleTree) → grown_of t ≡ true → trees_equal t t ≡ true
equals_itself t g =
    let f = grown_splits t g in
    itself t.nodes t.splits (grown_slot t g) 513 0 (root_of t.ends) (omega arith) (omega arith) (root_rising t.ends (grown_admitted t g))
