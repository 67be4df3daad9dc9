-- What a grown tree has at each node in use. Assumes nothing.
use mathlib.Core.Path.{◌≡◌, sym, ◌∙◌}
use mathlib.Core.Bool.{true}
use mathlib.Core.Logic.{⊎_elim}
use Prim.Native.Nat.{ℕ, ◌+◌, ◌<◌}
use native.Mathlib.Omega.{arith}
use Rattle.remy.specs.Action.{valid_of}
use Rattle.rule_tree.specs.declared.Node.{Node}
use Rattle.rule_tree.specs.declared.RuleTree.{RuleTree}
use Rattle.rule_tree.specs.Nodes.{node_at_of, node_count, action_in}
use Rattle.rule_tree.specs.Grown.{grown_of}
use Rattle.rule_tree.proofs.LinkWays.{children_at}
use Rattle.rule_tree.proofs.Owners.{same_or_not}
use Rattle.rule_tree.proofs.Links.{grown_splits, grown_valid, grown_link, grown_family}

-- a leaf with a valid action, or a parent whose children come after it and are in use
pub data Slot (s i : ℕ) (x : Node) : Type 0 where
  leaf : x.children ≡ 0 → valid_of (action_in x) ≡ true → Slot s i x
  parent : i < x.children → x.children + 7 < node_count s → Slot s i x

pub grown_slot : (t : RuleTree) → grown_of t ≡ true → (i : ℕ) → i < node_count t.splits → Slot t.splits i (node_at_of t.nodes i)
grown_slot t g i l =
    let few = grown_splits t g in
    let e = children_at t.nodes i in
    ⊎_elim (λ (z : (node_at_of t.nodes i).children ≡ 0). leaf z (grown_valid t g i l))
    (λ (n : (node_at_of t.nodes i).children ≡ 0 → ⊥).
    let h = grown_link t g i (omega arith) (λ z. n (sym e ∙ z)) in
    parent (omega (arith, h.after)) (grown_family t g i (omega arith) n 7 (omega arith)))
    (same_or_not (node_at_of t.nodes i).children 0)
