-- The bytes of a node and of a tree in memory, by the layout that the program logic gives a type. Assumes nothing.
use mathlib.Core.Path.{◌≡◌, refl}
use denote.Memory.{mem}
use Rattle.rule_tree.specs.contracts.Node as N
use Rattle.rule_tree.specs.contracts.RuleTree as R

pub node_size_lem : (mem N.the_row).size ≡ 24
node_size_lem = refl

pub tree_size : (mem R.the_row).size ≡ 12344
tree_size = refl
