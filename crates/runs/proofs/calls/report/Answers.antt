-- The number and the size, the bytes, and the question after the call.
use Rattle.runs.proofs.Turning as law
use Rattle.runs.proofs.calls.report.Goals as goal

pub returns : goal.returns
returns c =
    law.reported c.args.t c.args.answer c.args.saved.now c.err.ensures.value c.of_refusal.ensures c.unwrap_or-after.ensures c.question.ensures
    c.put_all.ensures c.put_bytes.ensures c.put_question.ensures
