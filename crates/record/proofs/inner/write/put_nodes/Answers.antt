-- `put_nodes` meets its contract. Assumes nothing.
use Rattle.record.proofs.Writing as law
use native.Mathlib.Omega.{arith}
use mathlib.Core.Path.{◌≡◌, refl, ◌∙◌}
use lib.ListN.{length}
use Rattle.record.proofs.inner.write.put_nodes.Goals as goal

pub loop-x-init : goal.loop-x-init
loop-x-init c =
    let w = law.nodes_none c.args.buf.now c.args.at c.args.l c.args.nodes.now in
    record { long = refl; place = w.0; stored = w.1 }

pub put_node-next-requires : goal.put_node-next-requires
put_node-next-requires c =
    let m = law.payload_grows c.args.l c.args.nodes.now c.loop-x.x-index (length c.args.nodes.now) (omega arith) in
    omega (arith, m, c.loop-x.invariant.long, c.loop-x.invariant.place)

pub loop-x-preserved : goal.loop-x-preserved
loop-x-preserved c =
    let e = c.put_node-next.ensures in
    let w = law.nodes_turn c.args.buf.now c.args.at c.args.l c.args.nodes.now c.loop-x.x-index _
    c.loop-x.invariant.place c.loop-x.invariant.stored e.0 e.1 in
    record { long = c.put_node-next.auto.buf ∙ c.loop-x.invariant.long; place = w.0; stored = w.1 }

pub returns : goal.returns
returns c =
    let e : c.loop-x.x-index ≡ length c.args.nodes.now = omega arith in
    rw (← e) (c.loop-x.invariant.place, c.loop-x.invariant.stored)
