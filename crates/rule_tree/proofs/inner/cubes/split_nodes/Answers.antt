-- The loop's invariant: each bucket holds the last owner below i.
use mathlib.Core.Path.{refl, sym, ◌∙◌}
use native.Mathlib.Omega.{arith}
use lib.ListN.{get_or-replicate}
use Rattle.rule_tree.proofs.Owners as law
use Rattle.rule_tree.proofs.inner.cubes.split_nodes.Goals as goal
use Rattle.rule_tree.proofs.inner.cubes.split_nodes.Goals.{then-x-eq1+then-k-lt-MOST_SPLITS, else-x-eq1, else-x-eq1-via-then-x-eq1+else-k-lt-MOST_SPLITS, else-x-eq1-via-else-x-eq1}

pub loop-i-init : goal.loop-i-init
loop-i-init c = (refl, λ k l. get_or-replicate 64 k 0 0 l ∙ sym (law.owner_none _ _))

pub loop-i-preserved : goal.loop-i-preserved
loop-i-preserved c =
    let cs = c.args.children.now in
    let out = c.loop-i.out in
    let i = c.loop-i.i in
    let h = c.loop-i.invariant in
    elim (c.if-x-eq1.branch) [
      | then-x-eq1+then-k-lt-MOST_SPLITS w ↦ law.split_hit cs out c.if-x-eq1.out i h w.out-is w.if-x-eq1.true w.if-k-lt-MOST_SPLITS.true
      | else-x-eq1 w ↦ elim (w.else-x-eq1.branch) [
        | else-x-eq1-via-then-x-eq1+else-k-lt-MOST_SPLITS v ↦ law.split_far cs out c.if-x-eq1.out i h w.out-is v.if-k-lt-MOST_SPLITS.false
        | else-x-eq1-via-else-x-eq1 v ↦ law.split_odd cs out c.if-x-eq1.out i h w.out-is v.if-x-eq1.false
      ]
    ]

pub returns : goal.returns
returns c = law.split_all c.args.children.now c.loop-i.out c.loop-i.i (omega arith) (omega arith) c.loop-i.invariant
