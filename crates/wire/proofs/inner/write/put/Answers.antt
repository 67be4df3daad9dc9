-- `put` stores the last byte first. Assumes nothing.
use Rattle.std.proofs.Common.{◌∙◌}
use Rattle.wire.proofs.Stores as law
use Rattle.wire.proofs.inner.write.put.Goals as goal

pub loop-i-preserved : goal.loop-i-preserved
loop-i-preserved c = law.put_turn _ _ _ _ c.loop-i-test.true ∙ c.loop-i.invariant

pub returns : goal.returns
returns c = law.put_done _ _ _ _ c.loop-i-test.false ∙ c.loop-i.invariant
