-- A valid plain tree stays valid, and what it says of its leaves is what the trainer's tree says. Assumes nothing.
use mathlib.Core.Path.{◌≡◌, refl, sym, ap, subst, ◌∙◌}
use mathlib.Core.Bool.{Bool, true, false, not, ◌&&◌}
use mathlib.Core.Logic.{⊎_elim, ◌≢◌}
use mathlib.Core.List.{List, [], ◌∷◌}
use Prim.Native.Nat.{ℕ, ◌+◌, ◌-◌, ◌*◌, ◌<◌, ◌≤◌}
use native.Mathlib.Nat.{eq-or-lt_of_le}
use native.Mathlib.Omega.{arith}
use borrow.Author.Tests.{ne_eqb, ltb-true, ltb-false}
use lib.Dec.{ltb, eqb}
use lib.ListN.{length, get_or, set, take, replicate, length-append, length-set, length-map, length-replicate, get_or-append}
use lib.Seq.{get_or-set_same, get_or-set_other, get_or-append_seam, take-append-le, take-append_seam}
use Rattle.std.proofs.lemmas.Bool.{cases_eq}
use Rattle.refusal.proofs.Guards.{either}
use Rattle.remy.specs.declared.action.Action.{Action}
use Rattle.remy.specs.declared.point.Point.{Point}
use Rattle.remy.specs.Action.{valid_of}
use Rattle.rule_tree.specs.declared.Node.{Node}
use Rattle.rule_tree.specs.Nodes.{node_at_of}
use Rattle.rule_tree.specs.Grown.{ends_hold}
use Rattle.rule_tree.specs.Calls.{leaf_in}
use Rattle.rule_tree.proofs.Plain.{PointFits}
use Rattle.promise.specs.PlainTree.{Tree, Rule, nodes, member, is_leaf_of, rule_at, unmarked, root_leaf, split, with_rules, set_action, mark, from, cleared_rule, clear_marks}
use Rattle.promise.proofs.Links.{link, link_owner}
use Rattle.promise.proofs.Embed.{leaf_node, embed_tree, ValidTree, leaf_below, leaf_unsplit, node_used, node_leaf, embed_at}
use Rattle.promise.proofs.TreeSteps.{no_rule, new_rule}
use Rattle.promise.proofs.TreeClears.{length_from, cleared_rule_lem}

-- ---- what the trainer's tree says of a node
module _ (t : Tree) (v : ValidTree t) (i : ℕ) where
  pub children_is : i < nodes t → eqb (node_at_of (embed_tree t).nodes i).children 0 ≡ not (member i t.splits)
  children_is b = go (member i t.splits) refl
    where
      go : (m : Bool) → member i t.splits ≡ m → eqb (node_at_of (embed_tree t).nodes i).children 0 ≡ not m
      go true e =
          let o = link_owner 0 t.splits i e in
          ap (λ (x : Node). eqb x.children 0) (embed_at t i (omega (arith, v.few)) ∙ node_used t i b)
          ∙ ne_eqb (link 0 t.splits i) 0 (λ z. omega (arith, o.gives))
      go false e = ap (λ (x : Node). eqb x.children 0) (embed_at t i (omega (arith, v.few)) ∙ node_leaf t i b e)

  pub leaf_embeds : leaf_in (embed_tree t) i ≡ is_leaf_of t i
  leaf_embeds = go (ltb i (nodes t)) refl
    where
      go : (z : Bool) → ltb i (nodes t) ≡ z → z && eqb (node_at_of (embed_tree t).nodes i).children 0 ≡ z && not (member i t.splits)
      go true e = children_is (ltb-true i (nodes t) e)
      go false e = refl

  pub leaf_node_lem : is_leaf_of t i ≡ true → node_at_of (embed_tree t).nodes i ≡ leaf_node (rule_at t i)
  leaf_node_lem l = embed_at t i (omega (arith, leaf_below t i l, v.few)) ∙ node_leaf t i (leaf_below t i l) (leaf_unsplit t i l)

-- ---- a new tree
pub root_valid : (ends : Point) (a : Action) → ends_hold ends ≡ true → PointFits ends → valid_of a ≡ true → ValidTree (root_leaf ends a)
root_valid ends a b f h =
    record {
      few = omega arith;
      sized = refl;
      grew = λ k l. absurd (omega arith);
      once = λ k l. absurd (omega arith);
      actions =
          λ i l. let e : i ≡ 0 = omega arith in
          subst (λ (m : ℕ). valid_of (rule_at (root_leaf ends a) m).action ≡ true) (sym e) h;
      box = b;
      floats = f;
    }

-- ---- the same splits
same_splits :
    (t u : Tree) → ValidTree t → u.splits ≡ t.splits → u.ends ≡ t.ends → length u.rules ≡ length t.rules
    → ((i : ℕ) → i < nodes t → valid_of (rule_at u i).action ≡ true) → ValidTree u
same_splits t u v e d n h =
    record {
      few = rw e v.few;
      sized = n ∙ v.sized ∙ ap (λ (ps : List ℕ). 1 + 8 * length ps) (sym e);
      grew = rw e v.grew;
      once = rw e v.once;
      actions = λ i l. h i (subst (λ (ps : List ℕ). i < 1 + 8 * length ps) e l);
      box = rw d v.box;
      floats = rw d v.floats;
    }

module _ (t : Tree) (v : ValidTree t) (i : ℕ) (l : is_leaf_of t i ≡ true) where
  stored_valid : (r : Rule) → valid_of r.action ≡ true → ValidTree (with_rules t (set t.rules i r))
  stored_valid r h =
      same_splits t (with_rules t (set t.rules i r)) v refl refl (length-set t.rules i r)
      (λ j b. ⊎_elim
      (λ (p : j ≡ i). subst (λ (m : ℕ). valid_of (get_or (set t.rules i r) m no_rule).action ≡ true) (sym p)
      (ap (λ (x : Rule). valid_of x.action) (get_or-set_same t.rules i r no_rule (omega (arith, leaf_below t i l, v.sized))) ∙ h))
      (λ (n : j ≢ i). ap (λ (x : Rule). valid_of x.action) (get_or-set_other t.rules i j r no_rule n) ∙ v.actions j b)
      (cases_eq j i))

  pub action_valid : (a : Action) → valid_of a ≡ true → ValidTree (set_action t i a)
  action_valid a h = stored_valid (record { action = a; marked = (rule_at t i).marked }) h

  pub mark_valid : ValidTree (mark t i)
  mark_valid = stored_valid (record { action = (rule_at t i).action; marked = true }) (v.actions i (leaf_below t i l))

pub clear_valid : (t : Tree) → ValidTree t → ValidTree (clear_marks t)
clear_valid t v =
    same_splits t (clear_marks t) v refl refl (length-map (from 0 (nodes t)) (cleared_rule t) ∙ length_from 0 (nodes t) ∙ sym v.sized)
    (λ i l. ap (λ (r : Rule). valid_of r.action) (cleared_rule_lem t i l)
    ∙ either (λ (r : Rule). valid_of r.action ≡ valid_of (rule_at t i).action) (is_leaf_of t i) refl refl ∙ v.actions i l)

-- ---- one split more
module _ (t : Tree) (v : ValidTree t) (i : ℕ) (l : is_leaf_of t i ≡ true) (r : length t.splits < 64) where
  more : length (split t i).splits ≡ length t.splits + 1
  more = length-append t.splits (i ∷ [])

  split_grew : (k : ℕ) → k < length (split t i).splits → get_or (split t i).splits k 0 ≤ 8 * k
  split_grew k b =
      ⊎_elim
      (λ (p : k ≡ length t.splits). subst (λ (m : ℕ). get_or (split t i).splits m 0 ≤ 8 * m) (sym p)
      (omega (arith, get_or-append_seam t.splits i [] 0, leaf_below t i l)))
      (λ (q : k < length t.splits). omega (arith, get_or-append t.splits (i ∷ []) 0 k q, v.grew k q))
      (eq-or-lt_of_le (omega (arith, more)))

  split_once : (k : ℕ) → k < length (split t i).splits → member (get_or (split t i).splits k 0) (take k (split t i).splits) ≡ false
  split_once k b =
      ⊎_elim
      (λ (p : k ≡ length t.splits). subst (λ (m : ℕ). member (get_or (split t i).splits m 0) (take m (split t i).splits) ≡ false) (sym p)
      (ap (λ (x : ℕ). member x (take (length t.splits) (split t i).splits)) (get_or-append_seam t.splits i [] 0)
      ∙ ap (member i) (take-append_seam t.splits (i ∷ []))
      ∙ leaf_unsplit t i l))
      (λ (q : k < length t.splits). ap (λ (x : ℕ). member x (take k (split t i).splits)) (get_or-append t.splits (i ∷ []) 0 k q)
      ∙ ap (member (get_or t.splits k 0)) (take-append-le k t.splits (i ∷ []) (omega arith))
      ∙ v.once k q)
      (eq-or-lt_of_le (omega (arith, more)))

  split_action : (j : ℕ) → j < nodes (split t i) → valid_of (rule_at (split t i) j).action ≡ true
  split_action j b = go (ltb j (nodes t)) refl
    where
      go : (z : Bool) → ltb j (nodes t) ≡ z → valid_of (rule_at (split t i) j).action ≡ true
      go true e =
          let c = ltb-true j (nodes t) e in
          ap (λ (x : Rule). valid_of x.action) (get_or-append t.rules (replicate 8 (unmarked (rule_at t i).action)) no_rule j (omega (arith, v.sized)))
          ∙ v.actions j c
      go false e =
          let a = ltb-false j (nodes t) e in
          let p : 8 * length t.splits + 1 + (j - (8 * length t.splits + 1)) ≡ j = omega arith in
          subst (λ (m : ℕ). valid_of (rule_at (split t i) m).action ≡ true) p
          (ap (λ (x : Rule). valid_of x.action) (new_rule t i v (j - (8 * length t.splits + 1)) (omega (arith, more))) ∙ v.actions i (leaf_below t i l))

  pub split_valid : ValidTree (split t i)
  split_valid =
      record {
        few = omega (arith, more);
        sized = omega (arith, more, v.sized, length-append t.rules (replicate 8 (unmarked (rule_at t i).action)), length-replicate 8 (unmarked (rule_at t i).action));
        grew = split_grew;
        once = split_once;
        actions = split_action;
        box = v.box;
        floats = v.floats;
      }
