-- `host_answers::inner::steps::Step::adopted`: the one kept becomes the action, or the leaf is finished. Assumes nothing.
use Rattle.std.proofs.Common.{sym, ◌∙◌}
use Rattle.host_answers.proofs.StepWays as law
use Rattle.host_answers.proofs.inner.steps.Step.adopted.Goals as goal

pub returns-in_default : goal.returns-in_default
returns-in_default c =
    law.last_none c.args.self.settings.now c.args.self.from c.args.kept c.args.score (sym c.kept_of.ensures ∙ c.in_default.is)

pub invariant_of-next : goal.invariant_of-next
invariant_of-next c =
    record {
      set = c.args.self.tuning.settings;
      valid =
          law.kept_valid c.args.self.settings.now c.args.self.from c.args.kept c.args.self.tuning c.requires
          (sym c.kept_of.ensures ∙ c.in-Some.is) c.at.ensures;
    }

pub returns : goal.returns
returns c =
    c.begun_by.ensures
    ∙ law.last_kept c.args.self.settings.now c.args.self.from c.args.kept c.args.score (sym c.kept_of.ensures ∙ c.in-Some.is) c.at.ensures
