-- `host_trainer::inner::records::settings_of`: the bytes are settings where both tests hold. Assumes nothing.
use native.Mathlib.Omega.{arith}
use Rattle.host_trainer.proofs.RecordWays as law
use Rattle.host_trainer.proofs.inner.records.settings_of.Goals as goal

pub returns : goal.returns
returns c = law.settings_read c.args.bytes.now (omega (arith, c.if-bytes.false)) c.byte_at.ensures (omega (arith, c.if-byte_at-gt1.false)) c.settings_in.ensures
