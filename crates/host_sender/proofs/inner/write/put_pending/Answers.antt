-- `put_pending` stores the flag, what is left and the action. Assumes nothing.
use borrow.Author.Rules.{rules}
use Rattle.host_sender.proofs.Writing as law
use Rattle.host_sender.proofs.inner.write.put_pending.Goals as goal

pub returns-in-Some : goal.returns-in-Some
returns-in-Some c =
    law.pending_there c.args.buf.now c.args.at c.in-Some.repeat c.in-Some.is c.put-in-Some.ensures c.put_action.ensures (search rules)
