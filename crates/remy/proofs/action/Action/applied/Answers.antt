-- `Action::applied` cuts the product, adds the increment in i64, where the sum fits, and holds it to the range. Assumes nothing.
use borrow.Author.Rules.{rules}
use Rattle.remy.proofs.Window.{applied_is}
use Rattle.remy.proofs.action.Action.applied.Goals as goal

pub returns : goal.returns
returns c =
    applied_is _ _ _ _ _ (search rules) c.to_i32-whole.ensures c.cut_outside-cut.ensures c.held.ensures
