-- `count_events` counts whole events. The loop's invariant: n events stand before place at, and the rest is as whole as all. Assumes nothing.
use Rattle.std.proofs.Common.{◌≡◌, ◌∙◌, None}
use Rattle.std.proofs.lemmas.Grind.{common_steps}
use native.Mathlib.Omega.{arith}
use Rattle.trace_lines.proofs.Counting as law
use Rattle.trace_lines.proofs.inner.read.count_events.Goals as goal

pub returns-in_err-size : goal.returns-in_err-size
returns-in_err-size c =
    let e : c.from_residual.result ≡ None = grind (arith, common_steps) in
    e ∙ law.counted_broken _ c.loop-at.at c.loop-at.n c.loop-at.invariant c.loop-at-test.true c.event_size.ensures c.in_err-size.was

pub overflow_add-at : goal.overflow_add-at
overflow_add-at c =
    let i = law.counting_inside _ c.loop-at.at c.loop-at.n c.loop-at.invariant c.loop-at-test.true c.event_size.ensures c.in_ok-size.size c.in_ok-size.was in
    omega arith

pub loop-at-preserved : goal.loop-at-preserved
loop-at-preserved c =
    law.counting_turn _ c.loop-at.at c.loop-at.n c.loop-at.invariant c.loop-at-test.true c.event_size.ensures c.in_ok-size.size c.in_ok-size.was

pub loop-at-smaller : goal.loop-at-smaller
loop-at-smaller c =
    let i = law.counting_inside _ c.loop-at.at c.loop-at.n c.loop-at.invariant c.loop-at-test.true c.event_size.ensures c.in_ok-size.size c.in_ok-size.was in
    omega arith

pub returns : goal.returns
returns c = law.counted_whole _ c.loop-at.at c.loop-at.n c.loop-at.invariant c.loop-at-test.false
