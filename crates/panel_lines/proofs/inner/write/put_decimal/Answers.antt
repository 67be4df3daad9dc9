-- `put_decimal` puts what the library prints. Assumes nothing.
use Rattle.std.proofs.Common.{rules, arith, ◌≡◌, ◌∙◌, ap, length}
use Rattle.panel_lines.specs.Panel.{decimal}
use Rattle.panel_lines.proofs.Decimal.{printed_decimal}
use Rattle.panel_lines.proofs.Lines.{named}
use Rattle.panel_lines.proofs.inner.write.put_decimal.Goals as goal

pub put-requires : goal.put-requires
put-requires c =
    let e : c.as_bytes.result.now ≡ decimal c.args.x = c.as_bytes.ensures.value ∙ c.format.ensures.text ∙ printed_decimal c.args.x (search rules) in
    omega (arith, ap length e, c.requires)

pub returns : goal.returns
returns c = named (c.as_bytes.ensures.value ∙ c.format.ensures.text ∙ printed_decimal c.args.x (search rules)) c.put.ensures
