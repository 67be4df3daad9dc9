-- The question of the start, and all that follows it.
use mathlib.Core.Path.{sym, ◌∙◌}
use Rattle.runs.proofs.Looping as law
use Rattle.runs.proofs.run_all.Goals as goal

pub returns-in-Ok : goal.returns-in-Ok
returns-in-Ok c =
    law.started c.args.script.now c.in-Ok.state (sym c.in-Ok.is ∙ c.begin.ensures) c.question.ensures c.put.ensures c.put_question.ensures
    c.make_calls.ensures
