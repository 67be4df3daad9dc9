-- `panel_lines::inner::write::put_leaf` meets its contract. Assumes nothing.
use Rattle.panel_lines.proofs.Lines as law
use Rattle.panel_lines.proofs.inner.write.put_leaf.Goals as goal

pub returns : goal.returns
returns c = law.leaf_written c.args.i c.args.share c.put_decimal-space.ensures c.put_decimal-end.ensures
