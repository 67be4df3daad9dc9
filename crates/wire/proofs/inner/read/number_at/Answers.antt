-- `number_at` reads byte by byte. Assumes nothing.
use Rattle.std.proofs.Common.{arith}
use Rattle.wire.proofs.Bytes as law
use Rattle.wire.proofs.inner.read.number_at.Goals as goal

pub loop-b-init : goal.loop-b-init
loop-b-init c = law.read_none _

pub overflow_mul-x : goal.overflow_mul-x
overflow_mul-x c =
    let l = law.field_length c.args.bytes.now c.args.at c.args.n c.field-field.ensures in
    omega (arith, law.read_seven _ c.loop-b.b-index c.loop-b.x c.loop-b.invariant (omega arith))

pub overflow_add-x : goal.overflow_add-x
overflow_add-x c =
    let l = law.field_length c.args.bytes.now c.args.at c.args.n c.field-field.ensures in
    omega (
      arith,
      law.read_seven _ c.loop-b.b-index c.loop-b.x c.loop-b.invariant (omega arith),
      c.from.ensures,
      c.type_inv.field c.loop-b.b-index,
    )

pub loop-b-preserved : goal.loop-b-preserved
loop-b-preserved c =
    law.read_more _ _ _ _ c.loop-b-test.true c.loop-b.invariant c.from.ensures
    (omega (arith, c.from.ensures, c.type_inv.field c.loop-b.b-index))

pub returns : goal.returns
returns c =
    law.read_all _ _ _ c.args.bytes.now c.args.at c.args.n c.field-field.ensures c.loop-b.invariant c.loop-b-test.false
    c.loop-b.auto.b-index-end

pub returns-in-len8 : goal.returns-in-len8
returns-in-len8 c =
    law.eight_read _ c.args.bytes.now c.args.at c.args.n c.field-field.ensures c.in-len8.len_at_least c.in-len8.len_below
    (λ i. (c.type_inv.bytes i).fits) c.from_be_bytes.ensures
