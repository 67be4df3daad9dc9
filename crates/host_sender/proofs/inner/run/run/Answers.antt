-- What the loop of `run` keeps: the first i events left the sender, and their replies are in out. Assumes nothing.
use mathlib.Core.Path.{refl, ◌∙◌}
use Prim.Native.Nat.{◌+◌, ◌-◌, ◌*◌}
use native.Mathlib.Omega.{arith}
use borrow.Author.Rules.{rules}
use Rattle.host_sender.proofs.Running as law
use Rattle.host_sender.proofs.inner.run.run.Goals as goal

pub loop-i-init : goal.loop-i-init
loop-i-init c =
    let t = c.args.rules.now.grown.tree.now in
    (search rules, refl, (law.none_yet t c.args.s c.args.list.now, law.none_put t c.args.s c.args.list.now c.args.out.now))

pub loop-i-preserved : goal.loop-i-preserved
loop-i-preserved c =
    let t = c.args.rules.now.grown.tree.now in
    let size = 22 * c.loop-i.i + 22 - 22 * c.loop-i.i in
    let before = c.loop-i.invariant.2 in (
      omega (arith, c.loop-i-test.true),
      c.put_reply.auto.out ∙ c.loop-i.invariant.1,
      (
        law.sender_turn t c.args.s c.args.list.now c.loop-i.i size (omega arith) before.0 c.event_at.ensures c.event_by-reply.ensures c.left_by-left.ensures,
        law.replies_turn t c.args.s c.args.list.now c.loop-i.i size (omega arith) before.0 c.event_at.ensures c.event_by-reply.ensures c.args.out.now before.1 c.put_reply.ensures,
      ),
    )
