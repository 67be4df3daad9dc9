-- `links` meets its contract. Assumes nothing.
use mathlib.Core.Path.{◌≡◌, ap, ◌∙◌}
use Prim.Native.Nat.{ℕ}
use native.Mathlib.Omega.{arith}
use Rattle.wire.specs.Bytes.{number_at}
use Rattle.record.specs.Layout.{list_place}
use Rattle.record.specs.Read.{split_at_place}
use Rattle.record.proofs.Reading as law
use Rattle.record.proofs.inner.fields.Fields.links.Goals as goal
use Rattle.record.proofs.inner.fields.Fields.links.Goals.{then-node-lt-NODES, else-node-lt-NODES}

pub loop-k-init : goal.loop-k-init
loop-k-init c = law.link_none c.args.self.bytes.now (list_place c.args.self.layout)

pub loop-k-preserved : goal.loop-k-preserved
loop-k-preserved c =
    let list = list_place c.args.self.layout in
    let e : c.from-node.result ≡ split_at_place c.args.self.bytes.now list c.loop-k.k =
    c.from-node.ensures ∙ c.short_at.ensures
    ∙ ap (λ (p : ℕ). number_at c.args.self.bytes.now p 2) (omega (arith, c.list_place-list.ensures.0, c.from.ensures)) in
    elim c.if-node-lt-NODES.branch [
      | then-node-lt-NODES w ↦ law.link_hit c.args.self.bytes.now list c.loop-k.out c.loop-k.k _ e w.if-node-lt-NODES.true c.loop-k.invariant w.out-is
      | else-node-lt-NODES w ↦ law.link_miss c.args.self.bytes.now list c.loop-k.out c.loop-k.k _ e w.if-node-lt-NODES.false c.loop-k.invariant w.out-is
    ]

pub returns : goal.returns
returns c =
    law.link_all c.args.self.bytes.now (list_place c.args.self.layout) c.loop-k.out c.loop-k.k _ c.loop-k.auto.k-end c.loop-k-test.false c.loop-k.invariant
