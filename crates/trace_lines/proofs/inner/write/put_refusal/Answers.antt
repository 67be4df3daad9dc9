-- `put_refusal` writes the word, the number and the line's end. Assumes nothing.
use Rattle.trace_lines.proofs.Lines as law
use Rattle.trace_lines.proofs.inner.write.put_refusal.Goals as goal

pub returns : goal.returns
returns c =
    law.refusal_written c.args.k c.put-end.ensures c.put_decimal-end.ensures c.put.ensures
