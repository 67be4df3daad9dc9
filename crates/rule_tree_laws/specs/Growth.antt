-- 01, refusal 10: which trees are "grown from the root leaf by splits".
use Rattle.std.specs.Prelude.{◌≡◌, true, ℕ, ◌<◌}
use Rattle.remy.specs.declared.action.Action.{Action}
use Rattle.remy.specs.declared.point.Point.{Point}
use Rattle.remy.specs.Action.{valid_of}
use Rattle.rule_tree.specs.declared.RuleTree.{RuleTree}
use Rattle.rule_tree.specs.Nodes.{most_splits}
use Rattle.rule_tree.specs.Grown.{ends_hold}
use Rattle.rule_tree.specs.Change.{fresh_tree, with_action, with_mark, split_at_of}
use Rattle.rule_tree.specs.Calls.{leaf_in}

-- "Node 0 is the root leaf"; a split "makes one leaf a parent", "At most 64 splits"; "set action; mark"
pub data Growth : RuleTree → Type 0 where
  root : (e : Point) (a : Action) → ends_hold e ≡ true → valid_of a ≡ true → Growth (fresh_tree e a)
  split : (t : RuleTree) (i : ℕ) → Growth t → leaf_in t i ≡ true → t.splits < most_splits → Growth (split_at_of t i)
  act : (t : RuleTree) (i : ℕ) (a : Action) → Growth t → leaf_in t i ≡ true → valid_of a ≡ true → Growth (with_action t i a)
  mark : (t : RuleTree) (i : ℕ) → Growth t → leaf_in t i ≡ true → Growth (with_mark t i)
