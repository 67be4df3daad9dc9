-- The loop's invariant: each bucket counts the owners passed.
use mathlib.Core.Path.{refl, sym, ◌∙◌}
use Prim.Native.Nat.{◌/◌, ◌<◌}
use native.Mathlib.Omega.{arith}
use lib.ListN.{length, get_or, get_or-replicate}
use Rattle.rule_tree.proofs.Owners as law
use Rattle.rule_tree.proofs.inner.links.owners.Goals as goal
use Rattle.rule_tree.proofs.inner.links.owners.Goals.{then-c-eq1+then-k-lt-MOST_SPLITS, else-c-eq1, else-c-eq1-via-then-c-eq1+else-k-lt-MOST_SPLITS, else-c-eq1-via-else-c-eq1}

pub loop-c-init : goal.loop-c-init
loop-c-init c = (refl, λ k l. get_or-replicate 64 k 0 0 l ∙ sym (law.seen_none _))

pub overflow_add-out : goal.overflow_add-out
overflow_add-out c =
    let cs = c.args.children.now in
    let i = c.loop-c.c-index in
    omega (arith, law.owned_le cs c.loop-c.out i (get_or cs i 0 / 8) c.loop-c.invariant c.if-k-lt-MOST_SPLITS.true)

pub loop-c-preserved : goal.loop-c-preserved
loop-c-preserved c =
    let cs = c.args.children.now in
    let out = c.loop-c.out in
    let i = c.loop-c.c-index in
    let h = c.loop-c.invariant in
    let l : i < length cs = omega arith in
    elim (c.if-c-eq1.branch) [
      | then-c-eq1+then-k-lt-MOST_SPLITS w ↦ law.owned_hit cs out i h l c.if-c-eq1.out w.out-is w.if-c-eq1.true w.if-k-lt-MOST_SPLITS.true
      | else-c-eq1 w ↦ elim (w.else-c-eq1.branch) [
        | else-c-eq1-via-then-c-eq1+else-k-lt-MOST_SPLITS v ↦ law.owned_far cs out i h l c.if-c-eq1.out w.out-is v.if-k-lt-MOST_SPLITS.false
        | else-c-eq1-via-else-c-eq1 v ↦ law.owned_odd cs out i h l c.if-c-eq1.out w.out-is v.if-c-eq1.false
      ]
    ]

pub returns : goal.returns
returns c = law.owned_all _ _ c.loop-c.c-index (omega arith) c.loop-c.invariant
