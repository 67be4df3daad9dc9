-- Links, payloads and ends.
use mathlib.Core.List.{List}
use mathlib.Core.Path.{◌≡◌, sym, ap, ◌∙◌}
use Prim.Native.Nat.{ℕ}
use Rattle.rule_tree.specs.Nodes.{children_of}
use Rattle.rule_tree.specs.Grown.{linked_of}
use Rattle.rule_tree.proofs.LinkWays as law
use Rattle.rule_tree.proofs.inner.links.grown.Goals as goal
use Rattle.rule_tree.proofs.inner.links.grown.Goals.{then-linked, else-linked}

pub returns-then-payloads_hold : goal.returns-then-payloads_hold
returns-then-payloads_hold c =
    let t = c.args.t.now in
    let own : c.linked.result ≡ linked_of (children_of t.nodes) t.splits = c.linked.ensures ∙ ap (λ (cs : List ℕ). linked_of cs t.splits) c.children_of.ensures in
    elim (c.if-linked.branch) [
      | then-linked w ↦ c.ends_hold.ensures ∙ law.grown_rest t (sym own ∙ w.if-linked.true) (sym w.payloads_hold.ensures ∙ sym w.value-is ∙ c.if-payloads_hold.true)
      | else-linked w ↦ cc
    ]

pub returns-else-payloads_hold : goal.returns-else-payloads_hold
returns-else-payloads_hold c =
    let t = c.args.t.now in
    let own : c.linked.result ≡ linked_of (children_of t.nodes) t.splits = c.linked.ensures ∙ ap (λ (cs : List ℕ). linked_of cs t.splits) c.children_of.ensures in
    c.if-payloads_hold.false ∙ elim (c.if-linked.branch) [
      | then-linked w ↦ law.grown_payload t (sym own ∙ w.if-linked.true) (sym w.payloads_hold.ensures ∙ sym w.value-is ∙ c.if-payloads_hold.false)
      | else-linked w ↦ law.grown_loose t (sym own ∙ w.if-linked.false)
    ]
