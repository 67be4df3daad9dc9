-- `host_trainer::inner::lookups::found_by_replaced` finds what the tree with the action replaced gives. Assumes nothing.
use Rattle.std.proofs.Common.{sym, ◌∙◌}
use Rattle.host_trainer.proofs.LookupWays as law
use Rattle.host_trainer.proofs.inner.lookups.found_by_replaced.Goals as goal

pub returns : goal.returns
returns c =
    law.replaced_taken c.args.tree.tree.now c.args.leaf c.args.action.now c.args.points.now c.args.out.now c.args.tree.grown c.in_ok-leaf.ensures.0
    c.if-action-ne20.false c.action_at-other.ensures (sym c.valid.ensures ∙ c.if-not-valid.false) c.with_action-changed.ensures c.found_by_each.ensures
