-- `nodes` meets its contract. Assumes nothing.
use mathlib.Core.Path.{◌≡◌, refl, ap, ◌∙◌}
use Prim.Native.Nat.{ℕ, ◌+◌, ◌*◌, ◌<◌}
use native.Mathlib.Omega.{arith}
use lib.ListN.{length}
use borrow.Author.Rules.{rules}
use Rattle.std.proofs.lemmas.List.{length-take}
use Rattle.rule_tree.specs.Nodes.{node_count}
use Rattle.record.specs.Layout.{list_place}
use Rattle.record.proofs.Reading as law
use Rattle.record.proofs.Writing.{taken}
use Rattle.record.proofs.inner.fields.Fields.nodes.Goals as goal

pub loop-i-init : goal.loop-i-init
loop-i-init c =
    law.gathered_none c.args.self.layout c.args.given c.args.self.bytes.now c.args.self.splits c.blank_node-nodes.result _ c.blank_node-nodes.ensures
    c.nodes_place-at.ensures.0

pub node-requires : goal.node-requires
node-requires c =
    let t = taken 0 c.links-children.result (1 + 8 * c.from.result) c.loop-i.i c.loop-i-test.true in
    let n = law.gathered_near c.args.self.layout c.args.given c.args.self.bytes.now c.args.self.splits c.loop-i.nodes c.loop-i.at c.loop-i.i
    c.args.self.few (omega (arith, t.1, c.from.ensures, c.args.self.few)) c.loop-i.invariant in
    omega (arith, n)

pub overflow_add-at : goal.overflow_add-at
overflow_add-at c =
    let t = taken 0 c.links-children.result (1 + 8 * c.from.result) c.loop-i.i c.loop-i-test.true in
    let n = law.gathered_near c.args.self.layout c.args.given c.args.self.bytes.now c.args.self.splits c.loop-i.nodes c.loop-i.at c.loop-i.i
    c.args.self.few (omega (arith, t.1, c.from.ensures, c.args.self.few)) c.loop-i.invariant in
    omega (arith, n, c.node_size-at.ensures.1)

pub loop-i-preserved : goal.loop-i-preserved
loop-i-preserved c =
    let t = taken 0 c.links-children.result (1 + 8 * c.from.result) c.loop-i.i c.loop-i-test.true in
    let l : c.loop-i.i < node_count c.args.self.splits = omega (arith, t.1, c.from.ensures) in
    law.gathered_more c.args.self.layout c.args.given c.args.self.bytes.now c.args.self.splits c.loop-i.nodes c.loop-i.at c.loop-i.i _ _ l
    c.args.self.few c.loop-i.invariant
    (t.0 ∙ law.child_is c.args.self.bytes.now c.links-children.result (list_place c.args.self.layout) _ c.args.self.splits c.loop-i.i c.links-children.ensures refl c.args.self.few l)
    c.node.ensures (ap (λ (k : ℕ). c.loop-i.at + k) c.node_size-at.ensures.0)

pub returns : goal.returns
returns c =
    let long : length c.links-children.result ≡ 513 = search rules in
    law.gathered_all c.args.self.layout c.args.given c.args.self.bytes.now c.args.self.splits c.loop-i.nodes c.loop-i.at c.loop-i.i
    (omega (arith, c.loop-i-test.false, c.from.ensures, c.args.self.few, length-take (1 + 8 * c.from.result) c.links-children.result)) c.loop-i.invariant
