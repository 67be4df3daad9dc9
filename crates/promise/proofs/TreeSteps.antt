-- Each change of a plain tree is that change of the trainer's tree. Assumes nothing.
use mathlib.Core.Path.{◌≡◌, refl, sym, ap, subst, ◌∙◌}
use mathlib.Core.Bool.{Bool, true, false, cond}
use mathlib.Core.Logic.{⊎_elim, ◌⊎◌, ◌≢◌}
use mathlib.Core.List.{List, [], ◌∷◌, ◌++◌}
use Prim.Native.Nat.{ℕ, ◌+◌, ◌-◌, ◌*◌, ◌<◌, ◌≤◌}
use native.Mathlib.Omega.{arith}
use borrow.Author.Tests.{lt-ltb, le-ltb, ltb-true, ltb-false}
use lib.Dec.{ltb}
use lib.ListN.{length, get_or, set, replicate, length-append, length-set, get_or-replicate, get_or-append}
use lib.Seq.{get_or-set_same, get_or-set_other, get_or-append-add}
use lib.IntN.{pos}
use Rattle.std.proofs.lemmas.Bool.{cases_eq, false_from_ne_true}
use Rattle.remy.specs.declared.action.Action.{Action}
use Rattle.remy.specs.Action.{action_of}
use Rattle.remy.specs.declared.point.Point.{Point}
use Rattle.remy.specs.Cube as cube
use Rattle.rule_tree.specs.declared.Node.{Node}
use Rattle.rule_tree.specs.declared.RuleTree.{RuleTree}
use Rattle.rule_tree.specs.Nodes.{no_node, node_at_of, leaf_with, linked_to, blank_node, node_count, action_in, node_holding}
use Rattle.rule_tree.specs.Change.{fresh_tree, with_action, with_mark, split_at_of}
use Rattle.rule_tree.proofs.Changing.{split_length, split_splits, split_ends, split_parent, split_child, split_other, fresh_length}
use Rattle.promise.specs.PlainTree.{Tree, Rule, nodes, member, is_leaf_of, rule_at, unmarked, root_leaf, split, set_action, mark}
use Rattle.promise.proofs.Links.{link, link_old, link_new, member_old}
use Rattle.promise.proofs.Embed.{node_with, leaf_node, node_of, embed_tree, ValidTree, leaf_below, leaf_unsplit, parent_below, node_used, node_leaf, node_blank, embed_at, embed_length, nodes_same, tree_same}

abbrev pub no_rule : Rule
no_rule = unmarked (action_of cube.zero (pos 0) cube.zero)

-- a node that the same splits and the same rule make
node_same :
    (t u : Tree) (i : ℕ) → ltb i (nodes t) ≡ ltb i (nodes u) → link 0 t.splits i ≡ link 0 u.splits i
    → (i < nodes u → rule_at t i ≡ rule_at u i) → node_of t i ≡ node_of u i
unfolding node_of
node_same t u i a b c = rw (a, b) (go (ltb i (nodes u)) refl)
  where
    go :
        (z : Bool) → ltb i (nodes u) ≡ z
        → cond z (node_with (rule_at t i) (link 0 u.splits i)) blank_node
        ≡ cond z (node_with (rule_at u i) (link 0 u.splits i)) blank_node
    go true e = rw (c (ltb-true i (nodes u) e))
    go false e = refl

-- a node that no split has made is no parent
pub new_unsplit : (t : Tree) → ValidTree t → (j : ℕ) → nodes t ≤ j → member j t.splits ≡ false
new_unsplit t v j b = false_from_ne_true (member j t.splits) (λ e. omega (arith, parent_below t j v e))

pub new_rule : (t : Tree) (i : ℕ) → ValidTree t → (k : ℕ) → k < 8 → rule_at (split t i) (8 * length t.splits + 1 + k) ≡ unmarked (rule_at t i).action
new_rule t i v k b =
    let new = replicate 8 (unmarked (rule_at t i).action) in
    ap (λ (m : ℕ). get_or (t.rules ++ new) m no_rule) (omega (arith, v.sized))
    ∙ get_or-append-add t.rules new k no_rule
    ∙ get_or-replicate 8 k (unmarked (rule_at t i).action) no_rule b

-- ---- a split
module _ (t : Tree) (i : ℕ) (v : ValidTree t) (l : is_leaf_of t i ≡ true) (r : length t.splits < 64) where
  abbrev old : RuleTree
  old = embed_tree t

  grown_nodes : nodes (split t i) ≡ nodes t + 8
  grown_nodes = omega (arith, length-append t.splits (i ∷ []))

  leaf_now : node_at_of old.nodes i ≡ leaf_node (rule_at t i)
  leaf_now =
      let b = leaf_below t i l in
      embed_at t i (omega arith) ∙ node_leaf t i b (leaf_unsplit t i l)

  kept_rule : (j : ℕ) → j < nodes t → rule_at (split t i) j ≡ rule_at t j
  kept_rule j b = get_or-append t.rules (replicate 8 (unmarked (rule_at t i).action)) no_rule j (omega (arith, v.sized))

  at_split : node_of (split t i) i ≡ node_at_of (split_at_of old i).nodes i
  at_split =
      let b = leaf_below t i l in
      node_used (split t i) i (omega (arith, grown_nodes))
      ∙ ap (node_with (rule_at (split t i) i)) (link_new 0 t.splits i (leaf_unsplit t i l) ∙ omega arith)
      ∙ ap (λ (r : Rule). node_with r (8 * length t.splits + 1)) (kept_rule i b)
      ∙ ap (λ (x : Node). linked_to x (8 * length t.splits + 1)) (sym leaf_now)
      ∙ sym (split_parent old i (omega (arith, embed_length t)) b)

  at_new : (k : ℕ) → k < 8 → node_of (split t i) (8 * length t.splits + 1 + k) ≡ node_at_of (split_at_of old i).nodes (8 * length t.splits + 1 + k)
  at_new k b =
      let j = 8 * length t.splits + 1 + k in
      let c = leaf_below t i l in
      node_leaf (split t i) j (omega (arith, grown_nodes)) (member_old t.splits i j (λ e. omega arith) ∙ new_unsplit t v j (omega arith))
      ∙ ap leaf_node (new_rule t i v k b)
      ∙ ap (λ (x : Node). leaf_with (action_in x)) (sym leaf_now)
      ∙ sym (split_child old i (omega (arith, embed_length t)) k b)

  at_old :
      (j : ℕ) → j < 513 → j ≢ i → (j < node_count (length t.splits)) ⊎ (node_count (length t.splits + 1) ≤ j)
      → node_of (split t i) j ≡ node_at_of (split_at_of old i).nodes j
  at_old j b n o =
      node_same (split t i) t j
      (⊎_elim (λ (p : j < node_count (length t.splits)). lt-ltb j (nodes (split t i)) (omega (arith, grown_nodes)) ∙ sym (lt-ltb j (nodes t) p))
      (λ (p : node_count (length t.splits + 1) ≤ j). le-ltb j (nodes (split t i)) (omega (arith, grown_nodes)) ∙ sym (le-ltb j (nodes t) (omega arith))) o)
      (link_old 0 t.splits i j n)
      (kept_rule j)
      ∙ sym (embed_at t j b)
      ∙ sym (split_other old i j n o)

  at_any : (j : ℕ) → j < 513 → node_of (split t i) j ≡ node_at_of (split_at_of old i).nodes j
  at_any j b =
      ⊎_elim (λ (p : j ≡ i). subst (λ (m : ℕ). node_of (split t i) m ≡ node_at_of (split_at_of old i).nodes m) (sym p) at_split)
      (λ (n : j ≢ i). go n (ltb j (nodes t)) refl (ltb j (nodes t + 8)) refl) (cases_eq j i)
    where
      go :
          j ≢ i → (x : Bool) → ltb j (nodes t) ≡ x → (y : Bool) → ltb j (nodes t + 8) ≡ y → node_of (split t i) j ≡ node_at_of (split_at_of old i).nodes j
      go n true p y q = at_old j b n (◌⊎◌.inl (ltb-true j (nodes t) p))
      go n false p true q =
          let a = ltb-false j (nodes t) p in
          let c = ltb-true j (nodes t + 8) q in
          let e : 8 * length t.splits + 1 + (j - (8 * length t.splits + 1)) ≡ j = omega arith in
          subst (λ (m : ℕ). node_of (split t i) m ≡ node_at_of (split_at_of old i).nodes m) e (at_new (j - (8 * length t.splits + 1)) (omega arith))
      go n false p false q = at_old j b n (◌⊎◌.inr (omega (arith, ltb-false j (nodes t + 8) q)))

  pub split_embeds : embed_tree (split t i) ≡ split_at_of (embed_tree t) i
  split_embeds =
      tree_same (embed_tree (split t i)) (split_at_of old i)
      (nodes_same (embed_tree (split t i)).nodes (split_at_of old i).nodes (embed_length (split t i)) (split_length old i ∙ embed_length t)
      (λ j b. embed_at (split t i) j b ∙ at_any j b))
      (length-append t.splits (i ∷ []) ∙ sym (split_splits old i))
      (sym (split_ends old i))

-- ---- one leaf's rule replaced
module _ (t u : Tree) (i : ℕ) (v : ValidTree t) (l : is_leaf_of t i ≡ true) (e : u.splits ≡ t.splits) (d : u.ends ≡ t.ends) (y : Node) where
  stored_at :
      leaf_node (rule_at u i) ≡ y → ((j : ℕ) → j ≢ i → rule_at u j ≡ rule_at t j) → (j : ℕ) → j < 513
      → node_of u j ≡ node_at_of (set (embed_tree t).nodes i y) j
  stored_at p q j b =
      ⊎_elim
      (λ (w : j ≡ i). subst (λ (m : ℕ). node_of u m ≡ node_at_of (set (embed_tree t).nodes i y) m) (sym w)
      (node_leaf u i (subst (λ (ps : List ℕ). i < 1 + 8 * length ps) (sym e) (leaf_below t i l)) (ap (member i) e ∙ leaf_unsplit t i l)
      ∙ p
      ∙ sym (get_or-set_same (embed_tree t).nodes i y no_node (omega (arith, leaf_below t i l, v.few, embed_length t)))))
      (λ (n : j ≢ i). node_same u t j (ap (λ (ps : List ℕ). ltb j (1 + 8 * length ps)) e) (ap (λ (ps : List ℕ). link 0 ps j) e) (λ c. q j n)
      ∙ sym (embed_at t j b)
      ∙ sym (get_or-set_other (embed_tree t).nodes i j y no_node n))
      (cases_eq j i)

  pub stored_embeds :
      leaf_node (rule_at u i) ≡ y → ((j : ℕ) → j ≢ i → rule_at u j ≡ rule_at t j)
      → embed_tree u ≡ record { nodes = set (embed_tree t).nodes i y; splits = length t.splits; ends = t.ends }
  stored_embeds p q =
      tree_same (embed_tree u) _
      (nodes_same (embed_tree u).nodes (set (embed_tree t).nodes i y) (embed_length u) (length-set (embed_tree t).nodes i y ∙ embed_length t)
      (λ j b. embed_at u j b ∙ stored_at p q j b))
      (ap length e)
      d

module _ (t : Tree) (i : ℕ) (v : ValidTree t) (l : is_leaf_of t i ≡ true) where
  leaf_held : node_at_of (embed_tree t).nodes i ≡ leaf_node (rule_at t i)
  leaf_held = embed_at t i (omega (arith, leaf_below t i l, v.few)) ∙ node_leaf t i (leaf_below t i l) (leaf_unsplit t i l)

  rule_stored : (r : Rule) → get_or (set t.rules i r) i no_rule ≡ r
  rule_stored r = get_or-set_same t.rules i r no_rule (omega (arith, leaf_below t i l, v.sized))

  pub action_embeds : (a : Action) → embed_tree (set_action t i a) ≡ with_action (embed_tree t) i a
  action_embeds a =
      stored_embeds t (set_action t i a) i v l refl refl _
      (ap leaf_node (rule_stored (record { action = a; marked = (rule_at t i).marked }))
      ∙ ap (λ (x : Node). node_holding a x.children x.optimized) (sym leaf_held))
      (λ j n. get_or-set_other t.rules i j _ no_rule n)

  pub mark_embeds : embed_tree (mark t i) ≡ with_mark (embed_tree t) i
  mark_embeds =
      stored_embeds t (mark t i) i v l refl refl _
      (ap leaf_node (rule_stored (record { action = (rule_at t i).action; marked = true }))
      ∙ ap (λ (x : Node). node_holding (action_in x) x.children true) (sym leaf_held))
      (λ j n. get_or-set_other t.rules i j _ no_rule n)

-- ---- the root leaf
root_at : (ends : Point) (a : Action) (j : ℕ) → j < 513 → node_of (root_leaf ends a) j ≡ node_at_of (fresh_tree ends a).nodes j
unfolding member
root_at ends a j b =
    ⊎_elim
    (λ (p : j ≡ 0). subst (λ (m : ℕ). node_of (root_leaf ends a) m ≡ node_at_of (fresh_tree ends a).nodes m) (sym p) (node_leaf (root_leaf ends a) 0 (omega arith) refl))
    (λ (n : j ≢ 0). node_blank (root_leaf ends a) j (omega arith)
    ∙ sym (get_or-replicate 513 j blank_node no_node b)
    ∙ sym (get_or-set_other (replicate 513 blank_node) 0 j (leaf_with a) no_node n))
    (cases_eq j 0)

pub root_embeds : (ends : Point) (a : Action) → embed_tree (root_leaf ends a) ≡ fresh_tree ends a
root_embeds ends a =
    tree_same (embed_tree (root_leaf ends a)) (fresh_tree ends a)
    (nodes_same (embed_tree (root_leaf ends a)).nodes (fresh_tree ends a).nodes (embed_length (root_leaf ends a)) (fresh_length ends a)
    (λ j b. embed_at (root_leaf ends a) j b ∙ root_at ends a j b))
    refl
    refl
