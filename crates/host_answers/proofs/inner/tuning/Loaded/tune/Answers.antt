-- `host_answers::inner::tuning::Loaded::tune`: one score more. Assumes nothing.
use Rattle.std.proofs.Common.{arith, ◌+◌, ◌-◌, ◌*◌}
use Rattle.host_answers.proofs.Tunes as law
use Rattle.host_answers.proofs.inner.tuning.Loaded.tune.Goals as goal

pub returns-then-u-eq0 : goal.returns-then-u-eq0
returns-then-u-eq0 c =
    law.tune_refused c.args.self.trainer.now c.args.scores.now c.args.self.ready c.requires.leaf c.loop-i.i c.loop-i.u c.loop-i.invariant.stands _
    c.if-u-eq0.true c.loop-i-test.true

pub invariant_of-scored : goal.invariant_of-scored
invariant_of-scored c =
    let r =
    law.tune_ready c.args.self.trainer.now c.args.scores.now c.args.self.ready c.requires.leaf c.loop-i.i c.loop-i.u c.loop-i.invariant.stands
    c.loop-i.invariant.counted c.if-u-eq0.false in
    record { tuning = r.0; among = r.1 }

pub loop-i-preserved : goal.loop-i-preserved
loop-i-preserved c =
    let x = law.one_score c.args.scores.now c.loop-i.i (8 * c.loop-i.i + 8 - 8 * c.loop-i.i) (omega arith) c.float_at-x.ensures in
    let v =
    law.tune_next c.args.self.trainer.now c.args.scores.now c.args.self.ready c.requires.leaf c.loop-i.i c.loop-i.u c.loop-i.invariant.stands
    c.loop-i.invariant.counted c.if-u-eq0.false x c.scored-u.ensures in
    record { few = omega (arith, c.loop-i-test.true); counted = v.0; stands = v.1 }
