-- `panel_lines::inner::write::put_first` meets its contract. Assumes nothing.
use Rattle.panel_lines.proofs.Lines as law
use Rattle.panel_lines.proofs.inner.write.put_first.Goals as goal

pub returns : goal.returns
returns c =
    law.first_written c.args.s c.put-at.ensures (rw c.from-splits.ensures at c.put_decimal-at.ensures) c.put-at-2.ensures
    (rw c.from-splits.ensures at c.put_decimal-at-2.ensures)
