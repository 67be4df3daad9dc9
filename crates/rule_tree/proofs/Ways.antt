-- A definition that picks by a test, and code that ran the test: what each way returns. Assumes nothing.
use mathlib.Core.Path.{◌≡◌, sym, ◌∙◌}
use mathlib.Core.Bool.{Bool, true, false, cond}
use Prim.Native.Nat.{ℕ, ◌<◌, ◌≤◌}
use native.Mathlib.Omega.{arith}
use lib.ListN.{length}
use lib.Dec.{ltb}
use borrow.Author.Tests.{ltb-true}
use mathlib.Core.List.{List}
use Rattle.rule_tree.specs.declared.RuleTree.{RuleTree}
use Rattle.rule_tree.specs.Nodes.{node_count, slots}
use Rattle.rule_tree.specs.Grown.{grown_of}
use Rattle.rule_tree.specs.Counts.{counts_hold}
use Rattle.rule_tree.specs.Calls.{leaf_in}
use Rattle.rule_tree.proofs.Links.{grown_splits}
use Rattle.rule_tree.proofs.GrownTree.{leaf_below}
use Rattle.rule_tree.proofs.Counting.{counts_accepted}

-- r is what the test b gave
pub via_true : {A : Type 0} {r b : Bool} {v x : A} (y : A) → r ≡ b → r ≡ true → v ≡ x → v ≡ cond b x y
via_true {r} y e f g = rw (← e, f) g

pub via_false : {A : Type 0} {r b : Bool} {v y : A} (x : A) → r ≡ b → r ≡ false → v ≡ y → v ≡ cond b x y
via_false {r} x e f g = rw (← e, f) g

pub was_true : {r b : Bool} → r ≡ b → r ≡ true → b ≡ true
was_true e f = sym e ∙ f

pub was_false : {r b : Bool} → r ≡ b → r ≡ false → b ≡ false
was_false e f = sym e ∙ f

-- what the tests of a tree, a leaf and counts show
pub few_splits : (t : RuleTree) {r : Bool} → r ≡ grown_of t → r ≡ true → t.splits ≤ 64
few_splits t e f = grown_splits t (was_true e f)

pub leaf_fits : (t : RuleTree) (i : ℕ) → grown_of t ≡ true → leaf_in t i ≡ true → i < 513
leaf_fits t i g l = let a = grown_splits t g in let b = leaf_below t i l in omega arith

pub few_counts : (t : RuleTree) (xs : List ℕ) → grown_of t ≡ true → counts_hold t xs ≡ true → length xs ≤ 513
few_counts t xs g h = let a = grown_splits t g in let b = (counts_accepted t xs h).one_a_node in omega arith

pub node_fits : (t : RuleTree) (i : ℕ) → grown_of t ≡ true → ltb i (node_count t.splits) ≡ true → i < slots
node_fits t i g l = let a = grown_splits t g in let b : i < node_count t.splits = ltb-true _ _ l in omega arith
