-- `put_leaves` meets its contract. Assumes nothing.
use Rattle.panel_lines.proofs.Lines as law
use mathlib.Core.Path.{refl, ◌∙◌}
use native.Mathlib.Omega.{arith}
use Prim.Native.Nat.{◌+◌, ◌*◌}
use Rattle.panel_lines.specs.Parts.{listed}
use Rattle.panel_lines.proofs.inner.write.put_leaves.Goals as goal

pub loop-i-init : goal.loop-i-init
loop-i-init c = record { long = refl; wrote = law.lines_none c.args.t.now.nodes (listed c.args.shares.now) _ _ }

pub put_node-next-requires : goal.put_node-next-requires
put_node-next-requires c =
    let w = c.loop-i in
    law.line_room c.args.t.now.nodes (listed c.args.shares.now) w.i c.args.at (1 + 8 * c.args.t.now.splits)
    (omega (arith, c.loop-i-test.true, c.requires.one_a_node)) w.invariant.wrote.place (omega (arith, c.requires.room, w.invariant.long))

pub loop-i-preserved : goal.loop-i-preserved
loop-i-preserved c = record {
  long = c.put_node-next.auto.buf ∙ c.loop-i.invariant.long;
  wrote = law.lines_turn c.args.t.now.nodes (listed c.args.shares.now) c.loop-i.i c.loop-i.invariant.wrote c.put_node-next.ensures;
}

pub returns : goal.returns
returns c = law.lines_done c.args.t.now.nodes (listed c.args.shares.now) c.loop-i.i _
    (omega (arith, c.loop-i.auto.i-end, c.loop-i-test.false, c.requires.one_a_node)) c.loop-i.invariant.wrote
