-- Clearing a plain tree's marks, which is of leaves, is clearing those of the trainer's tree. Assumes nothing.
use mathlib.Core.Path.{◌≡◌, refl, sym, ap, ◌∙◌}
use mathlib.Core.Bool.{Bool, true, false}
use mathlib.Core.Logic.{◌≢◌}
use mathlib.Core.List.{map}
use Prim.Native.Nat.{ℕ, zero, suc, ◌+◌, ◌<◌}
use native.Mathlib.Omega.{arith}
use borrow.Author.Tests.{lt-ltb, ne_eqb, ltb-true, ltb-false}
use lib.Dec.{ltb}
use lib.ListN.{length, get_or}
use Rattle.rule_tree.specs.Nodes.{blank_node}
use Rattle.rule_tree.specs.Change.{without_marks, unmarked_node}
use Rattle.rule_tree.proofs.Changing.{clear_length, clear_at}
use Rattle.promise.specs.PlainTree.{Tree, Rule, nodes, member, rule_at, unmarked, from, cleared_rule, clear_marks}
use Rattle.promise.proofs.Links.{link, link_owner}
use Rattle.promise.proofs.Embed.{node_with, leaf_node, node_of, embed_tree, node_used, node_leaf, node_blank, embed_at, embed_length, nodes_same, tree_same}
use Rattle.promise.proofs.TreeSteps.{no_rule}

-- ---- the numbers of the nodes
pub length_from : (a n : ℕ) → length (from a n) ≡ n
unfolding from
length_from a zero = refl
length_from a (suc n) = ap suc (length_from (suc a) n)

mapped_from : (f : ℕ → Rule) (a n j : ℕ) → j < n → get_or (map f (from a n)) j no_rule ≡ f (a + j)
unfolding from
mapped_from f a zero j l = absurd (omega arith)
mapped_from f a (suc n) zero l = ap f (omega arith)
mapped_from f a (suc n) (suc j) l = mapped_from f (suc a) n j (omega arith) ∙ ap f (omega arith)

-- ---- the rules
module _ (t : Tree) (j : ℕ) (b : j < nodes t) where
  pub cleared_rule_lem : rule_at (clear_marks t) j ≡ cleared_rule t j
  cleared_rule_lem = mapped_from (cleared_rule t) 0 (nodes t) j b ∙ ap (cleared_rule t) (omega arith)

  cleared_leaf : member j t.splits ≡ false → rule_at (clear_marks t) j ≡ unmarked (rule_at t j).action
  cleared_leaf m = cleared_rule_lem ∙ rw (lt-ltb j (nodes t) b, m)

  cleared_parent : member j t.splits ≡ true → rule_at (clear_marks t) j ≡ rule_at t j
  cleared_parent m = cleared_rule_lem ∙ rw (lt-ltb j (nodes t) b, m)

-- ---- the nodes
clear_leaf : (r : Rule) → unmarked_node (leaf_node r) ≡ leaf_node (unmarked r.action)
unfolding unmarked_node
clear_leaf r = refl

clear_parent : (r : Rule) (c : ℕ) → c ≢ 0 → unmarked_node (node_with r c) ≡ node_with r c
unfolding unmarked_node
clear_parent r c n = rw (ne_eqb c 0 n)

clear_blank : unmarked_node blank_node ≡ blank_node
unfolding unmarked_node
clear_blank = refl

cleared_at : (t : Tree) (j : ℕ) → node_of (clear_marks t) j ≡ unmarked_node (node_of t j)
cleared_at t j = go (ltb j (nodes t)) refl (member j t.splits) refl
  where
    go : (x : Bool) → ltb j (nodes t) ≡ x → (y : Bool) → member j t.splits ≡ y → node_of (clear_marks t) j ≡ unmarked_node (node_of t j)
    go true p true q =
        let b = ltb-true j (nodes t) p in
        let o = link_owner 0 t.splits j q in
        node_used (clear_marks t) j b
        ∙ ap (λ (r : Rule). node_with r (link 0 t.splits j)) (cleared_parent t j b q)
        ∙ sym (clear_parent (rule_at t j) (link 0 t.splits j) (λ e. omega (arith, o.gives)))
        ∙ ap unmarked_node (sym (node_used t j b))
    go true p false q =
        let b = ltb-true j (nodes t) p in
        node_leaf (clear_marks t) j b q
        ∙ ap leaf_node (cleared_leaf t j b q)
        ∙ sym (clear_leaf (rule_at t j))
        ∙ ap unmarked_node (sym (node_leaf t j b q))
    go false p y q =
        let b = ltb-false j (nodes t) p in
        node_blank (clear_marks t) j b ∙ sym clear_blank ∙ ap unmarked_node (sym (node_blank t j b))

pub clear_embeds : (t : Tree) → embed_tree (clear_marks t) ≡ without_marks (embed_tree t)
clear_embeds t =
    tree_same (embed_tree (clear_marks t)) (without_marks (embed_tree t))
    (nodes_same (embed_tree (clear_marks t)).nodes (without_marks (embed_tree t)).nodes (embed_length (clear_marks t)) (clear_length (embed_tree t) ∙ embed_length t)
    (λ j b. embed_at (clear_marks t) j b ∙ cleared_at t j ∙ ap unmarked_node (sym (embed_at t j b)) ∙ sym (clear_at (embed_tree t) j)))
    refl
    refl
