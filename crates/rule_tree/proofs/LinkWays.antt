-- One law for each way through the code of inner::links, over plain values. Assumes nothing.
use mathlib.Core.Path.{◌≡◌, refl, sym, ap, ◌∙◌}
use mathlib.Core.Bool.{Bool, true, false}
use mathlib.Core.List.{List, [], ◌∷◌, ◌++◌, append-nil}
use Prim.Native.Nat.{ℕ, zero, suc, ◌+◌, ◌<◌, ◌≤◌}
use native.Mathlib.Numerals.{add-one}
use native.Mathlib.Omega.{arith}
use borrow.Author.Tests.{le-leb}
use lib.ListN.{length, get_or, set, take, drop, replicate, length-map, length-replicate, get_or-map, drop_of_length-le}
use lib.Seq.{take_all}
use Rattle.remy.specs.Action.{valid_of}
use Rattle.rule_tree.specs.declared.Node.{Node}
use Rattle.rule_tree.specs.declared.RuleTree.{RuleTree}
use Rattle.rule_tree.specs.Nodes.{no_node, node_at_of, links_of, children_of, action_in}
use Rattle.rule_tree.specs.Grown.{links_hold, owners_of, all_ones, linked_of, plain_of, slot_holds, payloads_hold, ends_hold, grown_of}

-- ---- the links of nodes
pub children_at : (nodes : List Node) (i : ℕ) → get_or (children_of nodes) i 0 ≡ (node_at_of nodes i).children
children_at nodes i = get_or-map (λ (x : Node). x.children) nodes i no_node

pub children_count : (nodes : List Node) → length (children_of nodes) ≡ length nodes
children_count nodes = length-map nodes (λ (x : Node). x.children)

-- ---- gathered
-- the first i elements of a list laid over another
laid_suc : {A : Type 0} (xs ys : List A) (i : ℕ) (d : A) → i < length xs → i < length ys
    → set (take i xs ++ drop i ys) i (get_or xs i d) ≡ take (suc i) xs ++ drop (suc i) ys
laid_suc [] ys i d l m = absurd (omega arith)
laid_suc (x ∷ xs) [] i d l m = absurd (omega arith)
laid_suc (x ∷ xs) (y ∷ ys) zero d l m = refl
laid_suc (x ∷ xs) (y ∷ ys) (suc i) d l m = ap (λ zs. x ∷ zs) (laid_suc xs ys i d (omega arith) (omega arith))

pub links_none : (nodes : List Node) → replicate 513 0 ≡ links_of nodes 0
unfolding links_of
links_none nodes = refl

pub links_more : (nodes : List Node) (i : ℕ) → i < length nodes → i < 513
    → set (links_of nodes i) i (node_at_of nodes i).children ≡ links_of nodes (i + 1)
unfolding links_of
links_more nodes i l m =
    ap (set (take i (children_of nodes) ++ drop i (replicate 513 0)) i) (sym (children_at nodes i))
    ∙ laid_suc (children_of nodes) (replicate 513 0) i 0 (omega (arith, children_count nodes)) (omega (arith, length-replicate {A = ℕ} 513 0))
    ∙ ap (λ k. take k (children_of nodes) ++ drop k (replicate 513 0)) (sym (add-one i))

-- where there are 513
pub gathered_all : (nodes : List Node) → length nodes ≡ 513 → links_of nodes (length nodes) ≡ children_of nodes
unfolding links_of
gathered_all nodes e =
    let past : drop (length nodes) (replicate {A = ℕ} 513 0) ≡ [] = drop_of_length-le (replicate {A = ℕ} 513 0) {i = length nodes} (omega (arith, e, length-replicate {A = ℕ} 513 0)) in
    ap (λ (xs : List ℕ). xs ++ drop (length nodes) (replicate 513 0)) (take_all (length nodes) (children_of nodes) (omega (arith, children_count nodes)))
    ∙ ap (λ (xs : List ℕ). children_of nodes ++ xs) past
    ∙ append-nil (children_of nodes)

-- ---- slot_holds
module _ (x : Node) where
  pub slot_used : (used : Bool) → used ≡ true → valid_of (action_in x) ≡ slot_holds x used
  unfolding slot_holds
  slot_used used u = rw u

  pub slot_unused : (used : Bool) → used ≡ false → plain_of x ≡ slot_holds x used
  unfolding slot_holds
  slot_unused used u = rw u

-- ---- linked
module _ (cs : List ℕ) (s : ℕ) where
  pub linked_ones : s ≤ 64 → links_hold cs s ≡ true → all_ones (owners_of cs) s ≡ linked_of cs s
  unfolding linked_of
  linked_ones l h = rw (le-leb s 64 l, h)

-- ---- grown
module _ (t : RuleTree) where
  pub grown_rest : linked_of (children_of t.nodes) t.splits ≡ true → payloads_hold t.nodes t.splits ≡ true
      → ends_hold t.ends ≡ grown_of t
  unfolding grown_of
  grown_rest a b = rw (a, b)

  pub grown_payload : linked_of (children_of t.nodes) t.splits ≡ true → payloads_hold t.nodes t.splits ≡ false
      → false ≡ grown_of t
  unfolding grown_of
  grown_payload a b = rw (a, b)

  pub grown_loose : linked_of (children_of t.nodes) t.splits ≡ false → false ≡ grown_of t
  unfolding grown_of
  grown_loose a = rw a
