-- `counts_shown` meets its contract. Assumes nothing.
use Rattle.panel_lines.proofs.Ways as law
use mathlib.Core.Path.{ap, ◌∙◌}
use native.Mathlib.Omega.{arith}
use Prim.Native.Nat.{ℕ, ◌*◌}
use Rattle.rule_tree.proofs.Lists.{take_tabulate}
use Rattle.wire.specs.Bytes.{number_at}
use Rattle.panel_lines.specs.Panel.{counts_in}
use Rattle.panel_lines.proofs.inner.show.counts_shown.Goals as goal

pub returns-then-bytes-n : goal.returns-then-bytes-n
returns-then-bytes-n c =
    law.counts_few c.args.t.now c.args.bytes.now c.args.out.now (λ e. c.if-bytes-n.true (omega (arith, e, c.from.ensures)))

pub returns : goal.returns
returns c =
    law.counts_whole c.args.t.now c.args.bytes.now c.args.out.now _ (omega (arith, c.if-bytes-n.false, c.from.ensures))
    (take_tabulate _ (λ (i : ℕ). number_at c.args.bytes.now (8 * i) 8) c.counts_at-xs.result 0 (omega (arith, c.from.ensures)) c.counts_at-xs.ensures
    ∙ ap (counts_in c.args.bytes.now) (omega (arith, c.from.ensures))) c.lines_shown.ensures.0 c.lines_shown.ensures.1
