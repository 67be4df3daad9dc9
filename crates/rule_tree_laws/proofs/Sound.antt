-- The test of a tree as facts: each link, each split's owner, what each node holds. Assumes nothing.
use mathlib.Core.Path.{◌≡◌, sym, ◌∙◌}
use mathlib.Core.Bool.{Bool, true, false}
use Prim.Native.Nat.{ℕ, ◌+◌, ◌*◌, ◌<◌, ◌≤◌}
use native.Mathlib.Omega.{arith}
use lib.ListN.{length}
use Rattle.remy.specs.declared.action.Action.{Action}
use Rattle.remy.specs.Action.{valid_of}
use Rattle.rule_tree.specs.declared.Node.{Node}
use Rattle.rule_tree.specs.declared.RuleTree.{RuleTree}
use Rattle.rule_tree.specs.Nodes.{node_at_of, node_count, no_action, blank_node, action_in, node_holding}
use Rattle.rule_tree.specs.Grown.{plain_of, ends_hold, grown_of}
use Rattle.rule_tree.proofs.LinkWays.{children_at}
use Rattle.rule_tree.proofs.Plain.{ActionFits, PointFits, plain_action, plain_unmarked}
use Rattle.rule_tree.proofs.Links as links

-- the first child of node i
abbrev pub kids : RuleTree → ℕ → ℕ
kids t i = (node_at_of t.nodes i).children

-- the numbers of a tree fit their types, and its array has its length, as in every value that a program holds
pub record TreeFits (t : RuleTree) : Type 0 where
  pub full : length t.nodes ≡ 513
  pub ends : PointFits t.ends
  pub actions : (i : ℕ) → i < 513 → ActionFits (action_in (node_at_of t.nodes i))

pub record Owning (t : RuleTree) (k : ℕ) : Type 0 where
  pub at : ℕ
  pub below : at < 513
  pub is : kids t at ≡ 8 * k + 1

pub record Sound (t : RuleTree) : Type 0 where
  pub full : length t.nodes ≡ 513
  pub few : t.splits ≤ 64
  pub ends : ends_hold t.ends ≡ true
  pub link : (i : ℕ) → i < 513 → (kids t i ≡ 0 → ⊥) → links.Link t.splits (kids t i) i
  pub owner : (k : ℕ) → k < t.splits → Owning t k
  pub only : (i j : ℕ) → i < 513 → j < 513 → (kids t i ≡ 0 → ⊥) → kids t j ≡ kids t i → j ≡ i
  pub held : (i : ℕ) → i < node_count t.splits → valid_of (action_in (node_at_of t.nodes i)) ≡ true
  pub unused : (i : ℕ) → node_count t.splits ≤ i → i < 513 → node_at_of t.nodes i ≡ blank_node

pub rebuilt : (x : Node) (a : Action) (c : ℕ) (m : Bool) → action_in x ≡ a → x.children ≡ c → x.optimized ≡ m
    → x ≡ node_holding a c m
rebuilt x a c m p q r = λ j. node_holding (p j) (q j) (r j)

plain_node : (x : Node) → ActionFits (action_in x) → plain_of x ≡ true → x.children ≡ 0 → x ≡ blank_node
plain_node x f h e = rebuilt x no_action 0 false (plain_action x h f) e (plain_unmarked x h)

pub grown_sound : (t : RuleTree) → TreeFits t → grown_of t ≡ true → Sound t
grown_sound t f g =
    let at = children_at t.nodes in
    record {
      full = f.full;
      few = links.grown_splits t g;
      ends = links.grown_ends_hold t g;
      link = λ i l n. linked i l n;
      owner = λ k l. owned k l;
      only = λ i j a b n e. links.grown_only t g i j a (λ z. n (sym (at i) ∙ z)) (at j ∙ e ∙ sym (at i));
      held = links.grown_valid t g;
      unused = λ i a l.
          plain_node (node_at_of t.nodes i) (f.actions i l) (links.grown_unused_plain t g i a l) (links.grown_unused_leaf t g i a l);
    }
  where
    linked : (i : ℕ) → i < 513 → (kids t i ≡ 0 → ⊥) → links.Link t.splits (kids t i) i
    linked i l n =
        let e = children_at t.nodes i in
        let h = links.grown_link t g i l (λ z. n (sym e ∙ z)) in
        record { first = omega (arith, h.first); after = omega (arith, h.after); inside = omega (arith, h.inside) }

    owned : (k : ℕ) → k < t.splits → Owning t k
    owned k l =
        let o = links.grown_owner t g f.full k l in
        let s = links.grown_splits t g in
        record { at = o.at; below = omega (arith, o.low); is = sym (children_at t.nodes o.at) ∙ o.is }
