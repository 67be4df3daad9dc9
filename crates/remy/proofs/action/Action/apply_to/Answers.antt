-- `Action::apply_to` is the window of `applied`. Assumes nothing.
use Rattle.remy.proofs.Window.{window_is}
use Rattle.remy.proofs.action.Action.apply_to.Goals as goal

pub returns : goal.returns
returns c = window_is _ _ _ c.applied.ensures
