-- `put_reply` stores a reply's bytes. Assumes nothing.
use mathlib.Core.Path.{refl}
use borrow.Author.Rules.{rules}
use Rattle.host_sender.proofs.Running as law
use Rattle.host_sender.proofs.inner.run.put_reply.Goals as goal

pub returns-in-Ok : goal.returns-in-Ok
returns-in-Ok c = law.taken_written c.args.out.now c.args.at c.in-Ok.is c.flag_of.ensures c.put.ensures refl (search rules)

pub returns-in-Err : goal.returns-in-Err
returns-in-Err c = law.refused_written c.args.out.now c.args.at c.in-Err.is c.put-in-Err.ensures c.put-in-Err-2.ensures (search rules)
