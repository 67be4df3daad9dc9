-- `host_answers::inner::tuning::built` is the trainer that the small state stands for. Assumes nothing.
use Rattle.host_answers.proofs.Small as law
use Rattle.host_answers.proofs.inner.tuning.built.Goals as goal

pub returns-then-u-eq0 : goal.returns-then-u-eq0
returns-then-u-eq0 c =
    law.built_finished c.args.t.now c.args.u c.with_action-tree.ensures c.if-u-eq0.true c.with_mark.ensures c.stand_at.ensures

pub returns : goal.returns
returns c = rw c.number.ensures (law.built_trying c.args.t.now c.args.u c.with_action-tree.ensures c.if-u-eq0.false)
