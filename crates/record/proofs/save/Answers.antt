-- `save` meets its contract. Assumes nothing.
use Rattle.record.proofs.CallWays as law
use mathlib.Core.Path.{sym, ◌∙◌}
use Rattle.record.proofs.Loading.{accepted_grown}
use native.Mathlib.Omega.{arith}
use borrow.Author.Rules.{rules}
use Rattle.record.proofs.save.Goals as goal

pub write-requires : goal.write-requires
write-requires c = (accepted_grown c.args.t (sym c.accepted.ensures ∙ c.if-not-accepted.false), omega (arith, c.size-size.ensures, c.if-size-buf.false))

pub returns-then-size-buf : goal.returns-then-size-buf
returns-then-size-buf c = law.save_short c.args.t c.args.buf.now (sym c.accepted.ensures ∙ c.if-not-accepted.false) (search rules)
    c.of_version-l.result c.of_version-l.ensures _ c.size-size.ensures.0 c.if-size-buf.true

pub returns : goal.returns
returns c = law.save_taken c.args.t c.args.buf.now (sym c.accepted.ensures ∙ c.if-not-accepted.false) (search rules)
    c.of_version-l.result c.of_version-l.ensures _ c.size-size.ensures.0 c.if-size-buf.false c.write.ensures.stored
