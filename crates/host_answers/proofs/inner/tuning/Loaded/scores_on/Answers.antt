-- `host_answers::inner::tuning::Loaded::scores_on`: no score at all, or those of a phase. Assumes nothing.
use native.Mathlib.Omega.{arith}
use Rattle.std.proofs.Common.{sym, ◌∙◌}
use Rattle.host_answers.proofs.Begins as law
use Rattle.host_answers.proofs.inner.tuning.Loaded.scores_on.Goals as goal

pub returns-then-scores-lt8 : goal.returns-then-scores-lt8
returns-then-scores-lt8 c = law.no_scores c.args.self.trainer.now c.args.self.ready c.args.scores.now _ (omega (arith, c.if-scores-lt8.true))

pub returns-in-None : goal.returns-in-None
returns-in-None c =
    law.unwanted_nowhere c.args.self.trainer.now c.args.self.ready c.args.scores.now _ (omega (arith, c.if-scores-lt8.false)) (sym c.of.ensures ∙ c.in-None.is)
