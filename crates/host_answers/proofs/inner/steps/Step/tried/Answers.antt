-- `host_answers::inner::steps::Step::tried` goes on, or ends after the last candidate. Assumes nothing.
use native.Mathlib.Omega.{arith}
use Rattle.host_answers.proofs.StepWays as law
use Rattle.host_answers.proofs.inner.steps.Step.tried.Goals as goal

pub overflow_add-k : goal.overflow_add-k
overflow_add-k c = record { fits = omega (arith, law.k_few c.args.self.settings.now c.args.self.from c.args.self.tuning) }

pub returns-then-from-self : goal.returns-then-from-self
returns-then-from-self c =
    law.tried_more c.args.self.settings.now c.args.self.from c.args.kept c.args.score (omega (arith, c.from.ensures, c.if-from-self.true))

pub returns : goal.returns
returns c =
    law.tried_last c.args.self.settings.now c.args.self.from c.args.kept c.args.score (omega (arith, c.from.ensures, c.if-from-self.false))
    c.adopted.ensures
