-- `store` writes where there is room. Assumes nothing.
use native.Mathlib.Omega.{arith}
use Rattle.host_sender.proofs.NewWays as law
use Rattle.host_sender.proofs.inner.write.store.Goals as goal

pub returns : goal.returns
returns c = law.room c.args.s c.args.out.now (omega arith) c.write_sender.ensures
