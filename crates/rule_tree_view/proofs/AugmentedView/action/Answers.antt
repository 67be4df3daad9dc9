-- `action` tests in the order 10, 3, 1, and reads the leaf that the point reaches.
use Rattle.std.proofs.Common.{◌≡◌, ◌∙◌, Some, None, Ok, Err, ap, sym, rules, arith}
use borrow.Author.Tests.{eq-eqb, ne_eqb}
use Rattle.std.proofs.lemmas.Grind.{common_steps}
use Rattle.refusal.specs.declared.Refusal.TheVariants.{NotGrown}
use Rattle.rule_tree.specs.Leaf.{leaf_holding}
use Rattle.rule_tree_view.proofs.Viewed as law
use Rattle.rule_tree_view.proofs.AugmentedView.action.Goals as goal

pub returns-in_err-links : goal.returns-in_err-links
returns-in_err-links c =
    let v = c.args.self in
    let e : c.from_residual.result ≡ Err NotGrown = grind (arith, common_steps) in
    e ∙ law.not_grown v.nodes.now v.ends v.leaf v.action c.args.p c.in_err-links.ensures.1

pub returns-then-not-is_leaf : goal.returns-then-not-is_leaf
returns-then-not-is_leaf c =
    let v = c.args.self in
    let h = c.in_ok-links.ensures in
    law.no_leaf v.nodes.now v.ends v.leaf v.action c.args.p h.0
    (sym (law.leaf_tested v.nodes.now v.ends v.leaf v.action c.args.p h.0) ∙ sym c.is_leaf.ensures ∙ c.if-not-is_leaf.true)

pub returns-then-not-valid : goal.returns-then-not-valid
returns-then-not-valid c =
    let v = c.args.self in
    let h = c.in_ok-links.ensures in
    law.not_valid v.nodes.now v.ends v.leaf v.action c.args.p h.0
    (sym (law.leaf_tested v.nodes.now v.ends v.leaf v.action c.args.p h.0) ∙ sym c.is_leaf.ensures ∙ c.if-not-is_leaf.false)
    (sym c.valid.ensures ∙ c.if-not-valid.true)

pub returns-in_default : goal.returns-in_default
returns-in_default c =
    let v = c.args.self in
    let h = c.in_ok-links.ensures in
    law.answered v.nodes.now v.ends v.leaf v.action c.args.p h.0
    (sym (law.leaf_tested v.nodes.now v.ends v.leaf v.action c.args.p h.0) ∙ sym c.is_leaf.ensures ∙ c.if-not-is_leaf.false)
    (sym c.valid.ensures ∙ c.if-not-valid.false)
    (record { acks = search rules; sends = search rules; ratios = search rules })
    None (sym c.in_default.is ∙ c.leaf.ensures ∙ (λ z. leaf_holding (h.1 z) (h.2 z) c.args.p))

pub returns-then-node-self : goal.returns-then-node-self
returns-then-node-self c =
    let v = c.args.self in
    let h = c.in_ok-links.ensures in
    rw (eq-eqb c.in-Some.node c.args.self.leaf c.if-node-self.true) at
    (law.answered v.nodes.now v.ends v.leaf v.action c.args.p h.0
    (sym (law.leaf_tested v.nodes.now v.ends v.leaf v.action c.args.p h.0) ∙ sym c.is_leaf.ensures ∙ c.if-not-is_leaf.false)
    (sym c.valid.ensures ∙ c.if-not-valid.false)
    (record { acks = search rules; sends = search rules; ratios = search rules })
    (Some c.in-Some.node) (sym c.in-Some.is ∙ c.leaf.ensures ∙ (λ z. leaf_holding (h.1 z) (h.2 z) c.args.p)))

pub bounds-self-node : goal.bounds-self-node
bounds-self-node c =
    let v = c.args.self in
    let h = c.in_ok-links.ensures in
    law.answered_used v.nodes.now v.ends v.leaf v.action c.args.p h.0
    (sym (law.leaf_tested v.nodes.now v.ends v.leaf v.action c.args.p h.0) ∙ sym c.is_leaf.ensures ∙ c.if-not-is_leaf.false)
    (sym c.valid.ensures ∙ c.if-not-valid.false)
    (record { acks = search rules; sends = search rules; ratios = search rules })
    c.in-Some.node (sym c.in-Some.is ∙ c.leaf.ensures ∙ (λ z. leaf_holding (h.1 z) (h.2 z) c.args.p))

pub returns : goal.returns
returns c =
    ap (λ x. Ok (Some x)) c.action.ensures ∙ (
    let v = c.args.self in
    let h = c.in_ok-links.ensures in
    rw (ne_eqb c.in-Some.node c.args.self.leaf c.if-node-self.false) at
    (law.answered v.nodes.now v.ends v.leaf v.action c.args.p h.0
    (sym (law.leaf_tested v.nodes.now v.ends v.leaf v.action c.args.p h.0) ∙ sym c.is_leaf.ensures ∙ c.if-not-is_leaf.false)
    (sym c.valid.ensures ∙ c.if-not-valid.false)
    (record { acks = search rules; sends = search rules; ratios = search rules })
    (Some c.in-Some.node) (sym c.in-Some.is ∙ c.leaf.ensures ∙ (λ z. leaf_holding (h.1 z) (h.2 z) c.args.p)))
    )
