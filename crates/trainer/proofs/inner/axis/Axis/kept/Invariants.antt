-- What is kept so far, and the sums of what is left of the axis, are the sums of the whole. Assumes nothing.
use Rattle.std.proofs.Common.{◌≡◌, ◌≤◌, ◌++◌, ◌-◌, ◌+◌, length}
use Rattle.trainer.specs.Settings.{axis}
use Rattle.trainer.specs.Axes.{kept_sums}
use Rattle.trainer.proofs.inner.axis.Axis.kept.Given as goal

abbrev pub invariant-loop-turn : goal.invariant-loop-turn
invariant-loop-turn g l = record {
  change : g.T.Part.Change l.change;
  few : length l.kept.items ≤ l.turn + l.turn;
  sums : l.kept.items ++ kept_sums g.T.Part.le g.T.Part.sum g.T.Part.minus l.part l.low l.high (axis g.T.Part.le (g.T.Part.product l.self.factor) (8 - l.turn) l.change l.self.max)
      ≡ kept_sums g.T.Part.le g.T.Part.sum g.T.Part.minus l.part l.low l.high (axis g.T.Part.le (g.T.Part.product l.self.factor) 8 l.self.first l.self.max);
}
