-- The loop's invariant: the most used among the nodes passed.
use mathlib.Core.Path.{sym, ◌∙◌}
use Rattle.rule_tree.proofs.Counting.{holding_none, holding_skip, holding_taken, holding_kept}
use Rattle.rule_tree.proofs.inner.counts.most_used.Goals as goal
use Rattle.rule_tree.proofs.inner.counts.most_used.Goals.{then-is_eligible+then-most-n, else-is_eligible, else-is_eligible-via-then-is_eligible+else-most-n, else-is_eligible-via-else-is_eligible}

pub loop-i-init : goal.loop-i-init
loop-i-init c = holding_none _ _ _

pub loop-i-preserved : goal.loop-i-preserved
loop-i-preserved c =
    let h = c.loop-i.invariant in
    let e = c.is_eligible.ensures in
    elim (c.if-is_eligible.branch) [
      | then-is_eligible+then-most-n w ↦ rw (w.best-is, w.most-is) (holding_taken _ _ _ _ _ _ h (sym e ∙ w.if-is_eligible.true) w.if-most-n.true)
      | else-is_eligible w ↦ rw (w.best-is, w.most-is) (elim (w.else-is_eligible.branch) [
        | else-is_eligible-via-then-is_eligible+else-most-n v ↦ holding_kept _ _ _ _ _ _ h (sym e ∙ v.if-is_eligible.true) v.if-most-n.false
        | else-is_eligible-via-else-is_eligible v ↦ holding_skip _ _ _ _ _ _ h (sym e ∙ v.if-is_eligible.false)
      ])
    ]
