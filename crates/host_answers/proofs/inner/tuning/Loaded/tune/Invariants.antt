-- The loop's invariant: the small state stands for the trainer after the scores so far. Assumes nothing.
use Rattle.std.proofs.Common.{◌≡◌, ◌≤◌, ◌-◌, ◌/◌, length}
use Rattle.std.specs.Prelude.{Ok}
use Rattle.host_answers.specs.Answers.{scores_on}
use Rattle.host_answers.specs.Parts.{Counted, trainer_of}
use Rattle.host_answers.proofs.inner.tuning.Loaded.tune.Given as goal

abbrev pub invariant-loop-i : goal.invariant-loop-i
invariant-loop-i l = record {
  few : l.i ≤ length l.scores / 8;
  counted : Counted l.self.trainer.now.settings l.u;
  stands : scores_on l.self.trainer.now l.scores l.i ≡ Ok (trainer_of l.self.trainer.now l.u);
}

abbrev pub decreases-loop-i : goal.decreases-loop-i
decreases-loop-i l = length l.scores / 8 - l.i
