-- Each turn keeps one value's sums. Assumes nothing.
use Rattle.std.proofs.Common.{◌+◌, ◌-◌, ◌≡◌, suc, sym, refl, arith}
use Rattle.trainer.proofs.Axis.{one_more, kept_turn, kept_stop, kept_done}
use Rattle.trainer.proofs.inner.axis.Axis.kept.Goals as goal

pub returns-then-not-at_most : goal.returns-then-not-at_most
returns-then-not-at_most g c =
    let p = g.T.Part in
    let a = c.args in
    let l = c.loop-turn in
    kept_stop p.le (p.product a.self.factor) (8 - l.turn) l.change a.self.max _ refl p.sum p.minus a.part a.low a.high _ _
    (sym c.if-not-at_most.ensures) l.invariant.sums

pub keep-requires-in-loop-turn : goal.keep-requires-in-loop-turn
keep-requires-in-loop-turn g c = omega (arith, one_more _ _ _ _ c.keep.ensures)

pub loop-turn-preserved : goal.loop-turn-preserved
loop-turn-preserved g c =
    let p = g.T.Part in
    let a = c.args in
    let l = c.loop-turn in
    let left : 8 - l.turn ≡ suc (8 - (l.turn + 1)) = omega arith in
    record {
      change = c.times-change.ensures.change;
      few = omega (arith, one_more _ _ _ _ c.keep.ensures, one_more _ _ _ _ c.keep-in-loop-turn.ensures);
      sums =
          kept_turn p.le (p.product a.self.factor) (8 - l.turn) l.change a.self.max _ refl p.sum p.minus a.part a.low a.high _ _ _ _ _ _ _ _ left
          (sym c.if-not-at_most.ensures) c.times-change.ensures.value c.plus.ensures c.less.ensures c.keep.ensures c.keep-in-loop-turn.ensures l.invariant.sums;
    }

pub returns : goal.returns
returns g c =
    let p = g.T.Part in
    let a = c.args in
    let l = c.loop-turn in
    kept_done p.le (p.product a.self.factor) (8 - l.turn) l.change a.self.max _ refl p.sum p.minus a.part a.low a.high _ _ (omega arith) l.invariant.sums
