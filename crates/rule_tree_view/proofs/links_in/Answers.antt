-- A slice is taken where the tree that uses its nodes is grown, and only there.
use mathlib.Core.Path.{refl, sym, ap, ◌∙◌}
use mathlib.Core.List.{List}
use Prim.Native.Nat.{ℕ}
use borrow.Author.Rules.{rules}
use Rattle.rule_tree_view.specs.View.{linked_in}
use Rattle.rule_tree.proofs.Links.{grown_whole}
use Rattle.rule_tree.proofs.Leaf.{ready}
use Rattle.rule_tree_view.specs.View.{lent_tree}
use Rattle.rule_tree_view.proofs.Held as held
use Rattle.rule_tree_view.proofs.links_in.Goals as goal

pub returns-then-nodes-gt-NODES : goal.returns-then-nodes-gt-NODES
returns-then-nodes-gt-NODES c = (refl, held.too_long c.args.nodes.now c.args.ends c.if-nodes-gt-NODES.true)

pub returns-then-not-linked : goal.returns-then-not-linked
returns-then-not-linked c =
    (refl, held.not_tested c.args.nodes.now c.args.ends (ap (λ (cs : List ℕ). linked_in c.args.nodes.now cs c.args.ends) (sym c.gathered-children.ensures) ∙ sym c.linked.ensures ∙ c.if-not-linked.true))

pub invariant_of-result : goal.invariant_of-result
invariant_of-result c =
    let nodes = c.args.nodes.now in
    let h = held.tested_held nodes c.args.ends (ap (λ (cs : List ℕ). linked_in nodes cs c.args.ends) (sym c.gathered-children.ensures) ∙ sym c.linked.ensures ∙ c.if-not-linked.false) in
    record { ready = ready (lent_tree nodes c.args.ends) h.grown (grown_whole (lent_tree nodes c.args.ends) h.grown (record { acks = search rules; sends = search rules; ratios = search rules })) (c.gathered-children.ensures ∙ h.links) c.root.ensures }

pub returns : goal.returns
returns c =
    let nodes = c.args.nodes.now in
    let h = held.tested_held nodes c.args.ends (ap (λ (cs : List ℕ). linked_in nodes cs c.args.ends) (sym c.gathered-children.ensures) ∙ sym c.linked.ensures ∙ c.if-not-linked.false) in
    (held.held_grown nodes c.args.ends h, c.gathered-children.ensures ∙ h.links, c.root.ensures)
