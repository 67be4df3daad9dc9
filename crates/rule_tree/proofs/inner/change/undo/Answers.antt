-- `undo` meets its contract.
use Rattle.rule_tree.proofs.ChangeWays.{newest_fits, undo_done}
use Rattle.rule_tree.proofs.inner.change.undo.Goals as goal

pub bounds-t-at : goal.bounds-t-at
bounds-t-at c = newest_fits c.args.t _ c.newest_parent-at.ensures

pub returns : goal.returns
returns c = undo_done c.args.t _ _ _ c.newest_parent-at.ensures c.blank_node-blank.ensures c.eight_filled-before.ensures
