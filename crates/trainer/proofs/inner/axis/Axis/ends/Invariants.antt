-- What is left of the axis comes to what the whole does. Assumes nothing.
use Rattle.std.proofs.Common.{◌≡◌, suc, ◌-◌, length}
use lib.Dec.{leb}
use Rattle.trainer.specs.Settings.{axis}
use Rattle.trainer.proofs.inner.axis.Axis.ends.Given as goal

abbrev pub invariant-loop-turn : goal.invariant-loop-turn
invariant-loop-turn g l = record {
  change : g.T.Part.Change l.x;
  count : leb (length (axis g.T.Part.le (g.T.Part.product l.self.factor) (suc (8 - l.turn)) l.x l.self.max)) (8 - l.turn)
      ≡ leb (length (axis g.T.Part.le (g.T.Part.product l.self.factor) 9 l.self.first l.self.max)) 8;
}
