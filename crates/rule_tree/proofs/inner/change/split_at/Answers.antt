-- `split_at` meets its contract.
use Rattle.rule_tree.proofs.ChangeWays.{split_done}
use Rattle.rule_tree.proofs.inner.change.split_at.Goals as goal

pub returns : goal.returns
returns c = split_done c.args.t _ _ _ _ c.eight_filled-grown.ensures c.new-child.ensures c.action.ensures
