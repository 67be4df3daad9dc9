-- Few splits, links that hold, and one owner each.
use mathlib.Core.List.{List}
use mathlib.Core.Path.{sym, ap, ◌∙◌}
use Prim.Native.Nat.{ℕ}
use native.Mathlib.Omega.{arith}
use borrow.Author.Tests.{leb-true}
use Rattle.rule_tree.specs.Grown.{all_ones}
use Rattle.rule_tree.proofs.LinkWays as law
use Rattle.rule_tree.proofs.inner.links.linked.Goals as goal
use Rattle.rule_tree.proofs.inner.links.linked.Goals.{then-splits-le-MOST_SPLITS, else-splits-le-MOST_SPLITS}

pub returns-then-links_hold : goal.returns-then-links_hold
returns-then-links_hold c =
    elim (c.if-splits-le-MOST_SPLITS.branch) [
      | then-splits-le-MOST_SPLITS w ↦ c.all_ones.ensures ∙ ap (λ (o : List ℕ). all_ones o c.args.splits) c.owners.ensures ∙ law.linked_ones _ _ w.if-splits-le-MOST_SPLITS.true (sym w.links_hold.ensures ∙ sym w.value-is ∙ c.if-links_hold.true)
      | else-splits-le-MOST_SPLITS w ↦ absurd (omega (arith, leb-true _ _ (sym w.value-is ∙ c.if-links_hold.true)))
    ]
