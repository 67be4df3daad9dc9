-- One law for each way through the functions that change a tree, over plain values. Assumes nothing.
use mathlib.Core.Path.{◌≡◌, refl, sym, ap, ◌∙◌}
use mathlib.Core.Bool.{false}
use mathlib.Core.Logic.{⊎_elim}
use mathlib.Core.List.{List, [], ◌∷◌, ◌++◌, map, append-nil}
use Prim.Native.Nat.{ℕ, zero, suc, ◌+◌, ◌-◌, ◌*◌, ◌<◌, ◌≤◌}
use native.Mathlib.Numerals.{add-one}
use native.Mathlib.Omega.{arith}
use borrow.Author.Tests.{eq-eqb}
use lib.ListN.{length, get_or, set, take, drop, replicate, drop_of_length-le}
use lib.Seq.{take_all, paste}
use Rattle.std.proofs.lemmas.List.{length-drop, length-take-le, drop-drop}
use Rattle.std.proofs.lemmas.List.Edits.{paste_none, paste_all, fill_from_more}
use Rattle.remy.specs.declared.action.Action.{Action}
use Rattle.rule_tree.specs.declared.Node.{Node}
use Rattle.rule_tree.specs.declared.RuleTree.{RuleTree}
use Rattle.rule_tree.specs.Lists.{fill}
use Rattle.rule_tree.specs.Nodes.{no_node, node_at_of, leaf_with, linked_to, blank_node, children_of, action_in, node_holding}
use Rattle.rule_tree.specs.Cubes.{owner_below, split_nodes}
use Rattle.rule_tree.specs.Change.{with_nodes, unmarked_node, split_at_of, newest_parent, undone}
use Rattle.rule_tree.proofs.Lists.{get_d_tabulate}
use Rattle.rule_tree.proofs.Owners.{owner_found}

-- ---- a list whose first i elements went through f
abbrev pub swept : {A : Type 0} → (A → A) → List A → ℕ → List A
swept f xs i = map f (take i xs) ++ drop i xs

swept_suc : {A : Type 0} (f : A → A) (xs : List A) (i : ℕ) (d : A) → i < length xs → set (swept f xs i) i (f (get_or xs i d)) ≡ swept f xs (suc i)
swept_suc f [] i d l = absurd (omega arith)
swept_suc f (x ∷ xs) zero d l = refl
swept_suc f (x ∷ xs) (suc i) d l = ap (λ ys. f x ∷ ys) (swept_suc f xs i d (omega arith))

pub swept_more : {A : Type 0} (f : A → A) (xs : List A) (i : ℕ) (d : A) → i < length xs → set (swept f xs i) i (f (get_or xs i d)) ≡ swept f xs (i + 1)
swept_more f xs i d l = swept_suc f xs i d l ∙ ap (swept f xs) (sym (add-one i))

-- the element at i comes next
swept_later : {A : Type 0} (f : A → A) (xs : List A) (i : ℕ) (d : A) → get_or (swept f xs i) i d ≡ get_or xs i d
swept_later f [] zero d = refl
swept_later f [] (suc i) d = refl
swept_later f (x ∷ xs) zero d = refl
swept_later f (x ∷ xs) (suc i) d = swept_later f xs i d

pub swept_all : {A : Type 0} (f : A → A) (xs : List A) (i : ℕ) → length xs ≤ i → swept f xs i ≡ map f xs
swept_all f xs i l = rw (take_all i xs l, drop_of_length-le xs l) (append-nil _)

-- ---- one law for each way through the functions of src/inner/change
pub unmarked_leaf_lem : (x : Node) → x.children ≡ 0 → ◌≡◌ {A = Node} (node_holding (action_in x) x.children false) (unmarked_node x)
unfolding unmarked_node
unmarked_leaf_lem x h = rw (eq-eqb _ 0 h)

pub marks_more :
    (xs out : List Node) (i : ℕ) (y : Node) → i < length xs → out ≡ swept unmarked_node xs i
    → y ≡ unmarked_node (node_at_of out i) → set out i y ≡ swept unmarked_node xs (i + 1)
marks_more xs out i y l e h =
    ap (λ (z : Node). set out i z) (h ∙ ap (λ (o : List Node). unmarked_node (node_at_of o i)) e ∙ ap unmarked_node (swept_later unmarked_node xs i no_node))
    ∙ ap (λ (o : List Node). set o i (unmarked_node (node_at_of xs i))) e
    ∙ swept_more unmarked_node xs i no_node l

-- ---- eight nodes filled
fill_paste : (l : List Node) (at n : ℕ) (v : Node) → at + n ≤ length l → fill l at n v ≡ paste l at (replicate n v) n
unfolding fill
fill_paste l at zero v h = paste_none l at (replicate 0 v)
fill_paste l at (suc n) v h =
    ap (λ (m : List Node). set m (at + n) v) (fill_paste l at n v (omega arith)) ∙ fill_from_more l at n v (omega arith)
    ∙ ap (λ (k : ℕ). paste l at (replicate k v) k) (add-one n)

pub eight_put :
    (t : RuleTree) (at : ℕ) (new : List Node) (v : Node) → at + 8 ≤ length t.nodes → new ≡ replicate (length (take ((at + 8) - at) (drop at t.nodes))) v
    → with_nodes t (take at t.nodes ++ (new ++ drop ((at + 8) - at) (drop at t.nodes))) ≡ with_nodes t (fill t.nodes at 8 v)
eight_put t at new v h e =
    let w : (at + 8) - at ≡ 8 = omega arith in
    let k : length (take ((at + 8) - at) (drop at t.nodes)) ≡ 8 =
    ap (λ (n : ℕ). length (take n (drop at t.nodes))) w ∙ length-take-le 8 (drop at t.nodes) (omega (arith, length-drop at t.nodes)) in
    let x : new ≡ replicate 8 v = e ∙ ap (λ (n : ℕ). replicate n v) k in
    ap (with_nodes t)
    (rw (w, x, drop-drop 8 at t.nodes) (sym (paste_all t.nodes at (replicate 8 v) 8 refl))
    ∙ sym (fill_paste t.nodes at 8 v h))

pub split_done :
    (t out : RuleTree) (i : ℕ) (child : Node) (a : Action)
    → out ≡ with_nodes t (fill (set t.nodes i (linked_to (node_at_of t.nodes i) (8 * t.splits + 1))) (8 * t.splits + 1) 8 child)
    → child ≡ leaf_with a → a ≡ action_in (node_at_of t.nodes i) → ◌≡◌ {A = RuleTree} (record { nodes = out.nodes; splits = out.splits + 1; ends = out.ends }) (split_at_of t i)
unfolding split_at_of
split_done t out i child a e p q =
    ap (λ (o : RuleTree). record { nodes = o.nodes; splits = o.splits + 1; ends = o.ends })
    (e ∙ ap (λ (x : Node). with_nodes t (fill (set t.nodes i (linked_to (node_at_of t.nodes i) (8 * t.splits + 1))) (8 * t.splits + 1) 8 x)) (p ∙ ap leaf_with q))

pub newest_is : (t : RuleTree) (xs : List ℕ) → 0 < t.splits → t.splits ≤ 64 → xs ≡ split_nodes (children_of t.nodes) → get_or xs (t.splits - 1) 0 ≡ newest_parent t
newest_is t xs l g p =
    ap (λ (ys : List ℕ). get_or ys (t.splits - 1) 0) p
    ∙ get_d_tabulate 64 (t.splits - 1) (λ k. owner_below 513 (children_of t.nodes) (8 * k + 1)) 0 (omega arith)

pub newest_fits : (t : RuleTree) (i : ℕ) → i ≡ newest_parent t → i < 513
newest_fits t i e =
    ⊎_elim (λ (z : newest_parent t ≡ 0). omega (arith, z))
    (λ (w : (newest_parent t < 513) × (get_or (children_of t.nodes) (newest_parent t) 0 ≡ 8 * (t.splits - 1) + 1)). let b = w.0 in omega arith)
    (owner_found 513 (children_of t.nodes) (8 * (t.splits - 1) + 1))

pub undo_done :
    (t out : RuleTree) (i : ℕ) (blank : Node) → i ≡ newest_parent t → blank ≡ blank_node
    → out ≡ with_nodes t (fill (set t.nodes i (linked_to (node_at_of t.nodes i) 0)) (8 * (t.splits - 1) + 1) 8 blank)
    → ◌≡◌ {A = RuleTree} (record { nodes = out.nodes; splits = out.splits - 1; ends = out.ends }) (undone t)
unfolding undone
undo_done t out i blank p q e =
    ap (λ (o : RuleTree). record { nodes = o.nodes; splits = o.splits - 1; ends = o.ends })
    (e
    ∙ ap (λ (j : ℕ). with_nodes t (fill (set t.nodes j (linked_to (node_at_of t.nodes j) 0)) (8 * (t.splits - 1) + 1) 8 blank)) p
    ∙ ap (λ (x : Node). with_nodes t (fill (set t.nodes (newest_parent t) (linked_to (node_at_of t.nodes (newest_parent t)) 0)) (8 * (t.splits - 1) + 1) 8 x)) q)
