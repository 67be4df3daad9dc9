-- The test lets through exactly the trees that are grown. Assumes nothing.
use mathlib.Core.Path.{◌≡◌, ◌∙◌}
use mathlib.Core.Bool.{true}
use lib.ListN.{length}
use Rattle.rule_tree.specs.declared.RuleTree.{RuleTree}
use Rattle.rule_tree.specs.Grown.{grown_of}
use Rattle.rule_tree_laws.specs.Growth.{Growth, root, split, act, mark}
use Rattle.rule_tree.proofs.Changing as change

pub growth_full : (t : RuleTree) → Growth t → length t.nodes ≡ 513
growth_full _ (root e a h v) = change.fresh_length e a
growth_full _ (split t i g l b) = change.split_length t i ∙ growth_full t g
growth_full _ (act t i a g l v) = change.action_length t i a ∙ growth_full t g
growth_full _ (mark t i g l) = change.mark_length t i ∙ growth_full t g

pub growth_grown : (t : RuleTree) → Growth t → grown_of t ≡ true
growth_grown _ (root e a h v) = change.fresh_grown e a v h
growth_grown _ (split t i g l b) = change.split_grown t i (growth_full t g) (growth_grown t g) l b
growth_grown _ (act t i a g l v) = change.action_grown t i a (growth_grown t g) l v
growth_grown _ (mark t i g l) = change.mark_grown t i (growth_grown t g) l
