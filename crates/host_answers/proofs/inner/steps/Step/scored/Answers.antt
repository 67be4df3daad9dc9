-- `host_answers::inner::steps::Step::scored` goes on with what is kept. Assumes nothing.
use Rattle.host_answers.proofs.StepWays as law
use Rattle.host_answers.proofs.inner.steps.Step.scored.Goals as goal

pub tried-requires : goal.tried-requires
tried-requires c =
    law.noted_among c.args.self.settings.now c.args.self.from c.args.x c.args.self.tuning c.args.self.among c.noted-kept.ensures

pub returns : goal.returns
returns c = law.step_noted c.args.self.settings.now c.args.self.from c.args.x c.noted-kept.ensures c.tried.ensures
