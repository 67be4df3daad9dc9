-- What the loop of `run` keeps: the first i events left the sender and the generator, and their replies are in out. Assumes nothing.
use mathlib.Core.Path.{refl, ◌∙◌}
use Prim.Native.Nat.{◌+◌, ◌-◌, ◌*◌}
use native.Mathlib.Omega.{arith}
use borrow.Author.Rules.{rules}
use Rattle.host_draws.proofs.Turns as law
use Rattle.host_draws.proofs.run.Goals as goal

pub loop-i-init : goal.loop-i-init
loop-i-init c =
    let t = c.args.rules.now.grown.tree.now in
    let s = c.args.from.sender in
    let g = c.args.from.generator in
    let none = law.none_yet t s g c.args.list.now in
    (search rules, refl, (none.0, (none.1, law.none_put t s g c.args.list.now c.args.out.now)))

pub loop-i-preserved : goal.loop-i-preserved
loop-i-preserved c =
    let t = c.args.rules.now.grown.tree.now in
    let s = c.args.from.sender in
    let g = c.args.from.generator in
    let list = c.args.list.now in
    let size = 22 * c.loop-i.i + 22 - 22 * c.loop-i.i in
    let before = c.loop-i.invariant.2 in (
      omega (arith, c.loop-i-test.true),
      c.put_reply.auto.out ∙ c.loop-i.invariant.1,
      (
        law.sender_turn t s g list c.requires.0 c.loop-i.i size (omega arith) before.0 before.1.0 c.event_at.ensures c.drawn-reply.ensures c.left_by.ensures,
        (
          law.generator_turn t s g list c.requires.0 c.loop-i.i size (omega arith) before.0 before.1.0 c.event_at.ensures c.drawn-reply.ensures,
          law.replies_turn t s g list c.requires.0 c.loop-i.i size (omega arith) before.0 before.1.0 c.event_at.ensures c.drawn-reply.ensures c.args.out.now before.1.1 c.put_reply.ensures,
        ),
      ),
    )
