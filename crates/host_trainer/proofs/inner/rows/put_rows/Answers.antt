-- `host_trainer::inner::rows::put_rows`: one row more. Assumes nothing.
use Rattle.std.proofs.Common.{refl, sym, ap, ◌∙◌, ℕ, ◌+◌, ◌-◌, ◌*◌, length}
use Rattle.std.proofs.lemmas.List.Edits.{sets}
use native.Mathlib.Omega.{arith}
use Rattle.remy.specs.declared.point.Point.{Point}
use Rattle.host_trainer.proofs.LookupWays as law
use Rattle.host_trainer.proofs.inner.rows.put_rows.Goals as goal

pub loop-i-init : goal.loop-i-init
loop-i-init g c = (
  omega arith,
  refl,
  law.rows_empty (g.R.Row.bytes c.args.rows.now) c.args.points.now g.R.Row.width,
  law.rows_none (g.R.Row.bytes c.args.rows.now) c.args.points.now c.args.out.now,
)

pub loop-i-preserved : goal.loop-i-preserved
loop-i-preserved g c =
    let i = c.loop-i.i in
    let at = law.read_point (g.R.Row.bytes c.args.rows.now) c.args.points.now i (24 * i + 24 - 24 * i) (omega arith) c.point_at-p.ensures in (
      omega (arith, c.loop-i-test.true),
      c.put.auto.out ∙ c.loop-i.invariant.1,
      law.rows_longer (g.R.Row.bytes c.args.rows.now) c.args.points.now g.R.Row.width i
          (ap (λ (p : Point). length (g.R.Row.bytes c.args.rows.now p)) (sym at) ∙ c.put.ensures.filled) c.loop-i.invariant.2,
      law.rows_turn (g.R.Row.bytes c.args.rows.now) c.args.points.now g.R.Row.width c.args.out.now c.loop-i.out i c.loop-i.invariant.3 c.loop-i.invariant.2 at
          (c.put.ensures.stored ∙ ap (λ (k : ℕ). sets c.loop-i.out (k * i) (g.R.Row.bytes c.args.rows.now c.point_at-p.result)) c.size-size.ensures.value),
    )
