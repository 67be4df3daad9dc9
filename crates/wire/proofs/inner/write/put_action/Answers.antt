-- `put_action` stores three fields, one after the other. Assumes nothing.
use Rattle.std.proofs.Common.{rules, ap, ◌∙◌, of_z}
use Rattle.std.specs.Int.{w32}
use Rattle.std.proofs.lemmas.Int.{to_z-of_z}
use Rattle.wire.proofs.Fields as law
use Rattle.wire.proofs.inner.write.put_action.Goals as goal

pub returns : goal.returns
returns c =
    law.action_written c.args.buf.now c.args.at c.args.a _ _ _ c.to_bits-multiplier.ensures
    (c.from.ensures ∙ c.cast_unsigned-increment.ensures ∙ ap (of_z w32) (to_z-of_z w32 c.args.a.window_increment (search rules)))
    c.to_bits-delay.ensures c.put.ensures c.put-2.ensures c.put-3.ensures
