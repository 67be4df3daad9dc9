-- What each change of a tree leaves where, and that a grown tree stays grown. Assumes nothing.
use mathlib.Core.Path.{◌≡◌, refl, sym, ap, subst, ◌∙◌}
use mathlib.Core.Bool.{Bool, true, false, not, ◌&&◌, cond, and-false}
use mathlib.Core.Logic.{⊎_elim, ◌⊎◌, ◌≢◌}
use mathlib.Core.List.{List, [], ◌∷◌, map}
use Prim.Native.Nat.{ℕ, zero, suc, ◌+◌, ◌-◌, ◌*◌, ◌<◌, ◌≤◌}
use native.Mathlib.Omega.{arith}
use borrow.Author.Tests.{lt-ltb, le-ltb, eq-eqb, ne_eqb, eqb-true, eqb-false, ltb-true, ltb-false}
use lib.Dec.{eqb, ltb}
use lib.ListN.{length, get_or, set, replicate, length-set, length-map, length-replicate, get_or-replicate, get_or-map}
use lib.Seq.{get_or-set_same, get_or-set_other, set-get_or, map-set_same}
use lib.Ieee.{binary64, to_bits}
use mir.Syntax.{w32}
use mir.Val.{of_z}
use Rattle.remy.specs.declared.action.Action.{Action}
use Rattle.remy.specs.declared.point.Point.{Point}
use Rattle.remy.specs.Action.{valid_of}
use Rattle.remy.specs.Cube.{usual_ends}
use Rattle.remy.proofs.Ends.{usual_admitted}
use Rattle.rule_tree.specs.declared.Node.{Node}
use Rattle.rule_tree.specs.declared.RuleTree.{RuleTree}
use Rattle.rule_tree.specs.Lists.{occurrences, fill}
use Rattle.rule_tree.specs.Nodes.{no_node, node_at_of, is_leaf_of, node_count, leaf_with, linked_to, blank_node, children_of, action_in, node_holding}
use Rattle.rule_tree.specs.Grown.{link_holds, plain_of, slot_holds, ends_hold, grown_of}
use Rattle.rule_tree.specs.Change.{fresh_tree, with_nodes, with_action, with_mark, unmarked_node, without_marks, split_at_of}
use Rattle.rule_tree.specs.Calls.{leaf_in}
use Rattle.rule_tree.proofs.Lists.{length_fill, get_d_fill, get_d_fill_other}
use Rattle.rule_tree.proofs.ChangeWays.{unmarked_leaf_lem}
use Rattle.rule_tree.proofs.Links.{link_more}
use Rattle.rule_tree.proofs.GrownTree.{Grown, Parent, child-at, grown_facts, facts_grown, grown_long, link_none, link_from, link_parts, slot_used, slot_unused, leaf_below, leaf_childless, leaf_valid, unused_childless}

same_or : (i j : ℕ) → (i ≡ j) ⊎ (i ≢ j)
same_or i j = go (eqb i j) refl
  where
    go : (b : Bool) → eqb i j ≡ b → (i ≡ j) ⊎ (i ≢ j)
    go true e = ◌⊎◌.inl (eqb-true i j e)
    go false e = ◌⊎◌.inr (eqb-false i j e)

-- ---- the same links: the leaves are the same, and what is left to show is what the slots hold
pub links_leaves : (t : RuleTree) (nodes : List Node) → children_of nodes ≡ children_of t.nodes → (j : ℕ) → leaf_in (with_nodes t nodes) j ≡ leaf_in t j
links_leaves t nodes e j =
    ap (λ (c : ℕ). ltb j (node_count t.splits) && eqb c 0) (sym (child-at nodes j) ∙ ap (λ (cs : List ℕ). get_or cs j 0) e ∙ child-at t.nodes j)

links_grown :
    (t : RuleTree) (nodes : List Node) → Grown t → children_of nodes ≡ children_of t.nodes
    → ((i : ℕ) → i < 513 → slot_holds (node_at_of nodes i) (ltb i (node_count t.splits)) ≡ true) → Grown (with_nodes t nodes)
links_grown t nodes g e h =
    record {
      few = g.few;
      links =
          λ i l. subst (λ (c : ℕ). link_holds t.splits c i ≡ true)
          (sym (child-at t.nodes i) ∙ ap (λ (cs : List ℕ). get_or cs i 0) (sym e) ∙ child-at nodes i) (g.links i l);
      owners = λ k l. ap (occurrences (8 * k + 1)) e ∙ g.owners k l;
      slots = h;
      box = g.box;
    }

-- ---- one node stored, with the children that it had
module _ (t : RuleTree) (i : ℕ) (x : Node) where
  pub stored_links : x.children ≡ (node_at_of t.nodes i).children → children_of (set t.nodes i x) ≡ children_of t.nodes
  stored_links e = map-set_same (λ (y : Node). y.children) t.nodes i x no_node e

  stored-grown :
      Grown t → i < 513 → x.children ≡ (node_at_of t.nodes i).children → slot_holds x (ltb i (node_count t.splits)) ≡ true
      → Grown (with_nodes t (set t.nodes i x))
  stored-grown g l e h =
      links_grown t (set t.nodes i x) g (stored_links e)
      (λ j b. ⊎_elim
      (λ (p : j ≡ i). subst (λ (k : ℕ). slot_holds (node_at_of (set t.nodes i x) k) (ltb k (node_count t.splits)) ≡ true) (sym p)
      (ap (λ (y : Node). slot_holds y (ltb i (node_count t.splits))) (get_or-set_same t.nodes i x no_node (omega (arith, grown_long t g))) ∙ h))
      (λ (p : j ≢ i). ap (λ (y : Node). slot_holds y (ltb j (node_count t.splits))) (get_or-set_other t.nodes i j x no_node p) ∙ g.slots j b)
      (same_or j i))

-- ---- another action
module _ (t : RuleTree) (i : ℕ) (a : Action) where
  pub action_length : length (with_action t i a).nodes ≡ length t.nodes
  action_length = length-set t.nodes i _

  pub action_at_lem :
      i < length t.nodes
      → node_at_of (with_action t i a).nodes i ≡ node_holding a (node_at_of t.nodes i).children (node_at_of t.nodes i).optimized
  action_at_lem l = get_or-set_same t.nodes i _ no_node l

  pub action_other : (j : ℕ) → j ≢ i → node_at_of (with_action t i a).nodes j ≡ node_at_of t.nodes j
  action_other j n = get_or-set_other t.nodes i j _ no_node n

  pub action_links : children_of (with_action t i a).nodes ≡ children_of t.nodes
  action_links = stored_links t i _ refl

  pub action_leaves : (j : ℕ) → leaf_in (with_action t i a) j ≡ leaf_in t j
  action_leaves = links_leaves t (with_action t i a).nodes action_links

  pub action_grown : grown_of t ≡ true → leaf_in t i ≡ true → valid_of a ≡ true → grown_of (with_action t i a) ≡ true
  action_grown h l v =
      let g = grown_facts t h in
      let b = leaf_below t i l in
      facts_grown (with_action t i a)
      (stored-grown t i _ g (omega (arith, g.few)) refl (slot_used _ _ (lt-ltb i (node_count t.splits) b) ∙ v))

-- ---- a mark
module _ (t : RuleTree) (i : ℕ) where
  pub mark_length : length (with_mark t i).nodes ≡ length t.nodes
  mark_length = length-set t.nodes i _

  pub mark_at :
      i < length t.nodes
      → node_at_of (with_mark t i).nodes i ≡ node_holding (action_in (node_at_of t.nodes i)) (node_at_of t.nodes i).children true
  mark_at l = get_or-set_same t.nodes i _ no_node l

  pub mark_other : (j : ℕ) → j ≢ i → node_at_of (with_mark t i).nodes j ≡ node_at_of t.nodes j
  mark_other j n = get_or-set_other t.nodes i j _ no_node n

  pub mark_links : children_of (with_mark t i).nodes ≡ children_of t.nodes
  mark_links = stored_links t i _ refl

  pub mark_leaves : (j : ℕ) → leaf_in (with_mark t i) j ≡ leaf_in t j
  mark_leaves = links_leaves t (with_mark t i).nodes mark_links

  pub mark_grown : grown_of t ≡ true → leaf_in t i ≡ true → grown_of (with_mark t i) ≡ true
  mark_grown h l =
      let g = grown_facts t h in
      let b = leaf_below t i l in
      facts_grown (with_mark t i)
      (stored-grown t i _ g (omega (arith, g.few)) refl
      (slot_used _ _ (lt-ltb i (node_count t.splits) b) ∙ leaf_valid t g i l))

-- ---- marks cleared
unmarked_children : (x : Node) → (unmarked_node x).children ≡ x.children
unfolding unmarked_node
unmarked_children x = go (eqb x.children 0)
  where
    go : (b : Bool) → (cond b (node_holding (action_in x) x.children false) x).children ≡ x.children
    go true = refl
    go false = refl

unmarked_links : (nodes : List Node) → children_of (map unmarked_node nodes) ≡ children_of nodes
unmarked_links [] = refl
unmarked_links (x ∷ nodes) =
    ap (λ (c : ℕ). c ∷ children_of (map unmarked_node nodes)) (unmarked_children x) ∙ ap (λ (cs : List ℕ). x.children ∷ cs) (unmarked_links nodes)

last_true : (a b c m : Bool) → a && (b && (c && m)) ≡ true → a && (b && (c && true)) ≡ true
last_true true true true m h = refl
last_true true true false m h = h
last_true true false c m h = h
last_true false b c m h = h

unmarked_plain : (x : Node) → plain_of x ≡ true → plain_of (node_holding (action_in x) x.children false) ≡ true
unfolding plain_of
unmarked_plain x h =
    last_true (eqb (to_bits binary64 x.window_multiplier) 0) (eqb (of_z w32 x.window_increment) 0)
    (eqb (to_bits binary64 x.intersend_delay.0) 0) (not x.optimized) h

unmarked_slot : (x : Node) (u : Bool) → slot_holds x u ≡ true → slot_holds (unmarked_node x) u ≡ true
unfolding unmarked_node
unmarked_slot x u h = go (eqb x.children 0) refl u refl
  where
    go :
        (b : Bool) → eqb x.children 0 ≡ b → (v : Bool) → u ≡ v
        → slot_holds (cond b (node_holding (action_in x) x.children false) x) u ≡ true
    go true e true p = slot_used _ u p ∙ sym (slot_used x u p) ∙ h
    go true e false p = slot_unused _ u p ∙ unmarked_plain x (sym (slot_unused x u p) ∙ h)
    go false e v p = h

unmarked_action : (x : Node) → action_in (unmarked_node x) ≡ action_in x
unfolding unmarked_node
unmarked_action x = go (eqb x.children 0)
  where
    go : (b : Bool) → action_in (cond b (node_holding (action_in x) x.children false) x) ≡ action_in x
    go true = refl
    go false = refl

module _ (t : RuleTree) where
  pub clear_length : length (without_marks t).nodes ≡ length t.nodes
  clear_length = length-map t.nodes unmarked_node

  pub clear_at : (j : ℕ) → node_at_of (without_marks t).nodes j ≡ unmarked_node (node_at_of t.nodes j)
  unfolding unmarked_node
  clear_at j = get_or-map unmarked_node t.nodes j no_node

  pub clear_links : children_of (without_marks t).nodes ≡ children_of t.nodes
  clear_links = unmarked_links t.nodes

  pub clear_leaves : (j : ℕ) → leaf_in (without_marks t) j ≡ leaf_in t j
  clear_leaves = links_leaves t (without_marks t).nodes clear_links

  pub clear_action : (j : ℕ) → action_in (node_at_of (without_marks t).nodes j) ≡ action_in (node_at_of t.nodes j)
  clear_action j = ap action_in (clear_at j) ∙ unmarked_action (node_at_of t.nodes j)

  pub clear_mark : (j : ℕ) → leaf_in t j ≡ true → (node_at_of (without_marks t).nodes j).optimized ≡ false
  clear_mark j l = ap (λ (x : Node). x.optimized) (clear_at j ∙ sym (unmarked_leaf_lem (node_at_of t.nodes j) (leaf_childless t j l)))

  pub clear_grown : grown_of t ≡ true → grown_of (without_marks t) ≡ true
  clear_grown h =
      let g = grown_facts t h in
      facts_grown (without_marks t)
      (links_grown t (without_marks t).nodes g clear_links
      (λ i l. ap (λ (y : Node). slot_holds y (ltb i (node_count t.splits))) (clear_at i) ∙ unmarked_slot _ _ (g.slots i l)))

-- ---- a new tree
fresh_at : (e : Point) (a : Action) → node_at_of (fresh_tree e a).nodes 0 ≡ leaf_with a
fresh_at e a = refl

fresh_other : (e : Point) (a : Action) (i : ℕ) → i < 513 → i ≢ 0 → node_at_of (fresh_tree e a).nodes i ≡ blank_node
fresh_other e a i l n = get_or-set_other (replicate 513 blank_node) 0 i (leaf_with a) no_node n ∙ get_or-replicate 513 i blank_node no_node l

pub blank_plain : plain_of blank_node ≡ true
unfolding plain_of to_bits
blank_plain = refl

pub fresh_length : (e : Point) (a : Action) → length (fresh_tree e a).nodes ≡ 513
fresh_length e a = length-set (replicate 513 blank_node) 0 (leaf_with a) ∙ length-replicate 513 blank_node

fresh_facts : (e : Point) (a : Action) → valid_of a ≡ true → ends_hold e ≡ true → Grown (fresh_tree e a)
fresh_facts e a v h =
    record {
      few = omega arith;
      links =
          λ i l. ⊎_elim (λ (p : i ≡ 0). link_none 0 _ i (ap (λ (k : ℕ). (node_at_of (fresh_tree e a).nodes k).children) p ∙ ap (λ (x : Node). x.children) (fresh_at e a)))
          (λ (n : i ≢ 0). link_none 0 _ i (ap (λ (x : Node). x.children) (fresh_other e a i l n)))
          (same_or i 0);
      owners = λ k l. absurd (omega arith);
      slots =
          λ i l. ⊎_elim
          (λ (p : i ≡ 0). subst (λ (k : ℕ). slot_holds (node_at_of (fresh_tree e a).nodes k) (ltb k (node_count 0)) ≡ true) (sym p) (slot_used (leaf_with a) true refl ∙ v))
          (λ (n : i ≢ 0). ap (λ (x : Node). slot_holds x (ltb i (node_count 0))) (fresh_other e a i l n) ∙ slot_unused blank_node _ (le-ltb i 1 (omega arith)) ∙ blank_plain)
          (same_or i 0);
      box = h;
    }

pub fresh_grown : (e : Point) (a : Action) → valid_of a ≡ true → ends_hold e ≡ true → grown_of (fresh_tree e a) ≡ true
fresh_grown e a v h = facts_grown (fresh_tree e a) (fresh_facts e a v h)

pub usual_ends_lem : ends_hold usual_ends ≡ true
unfolding ends_hold
usual_ends_lem = usual_admitted

-- ---- a split
pub map_set : {A B : Type 0} (g : A → B) (l : List A) (i : ℕ) (y : A) → map g (set l i y) ≡ set (map g l) i (g y)
map_set g [] i y = refl
map_set g (x ∷ l) zero y = refl
map_set g (x ∷ l) (suc i) y = ap (λ zs. g x ∷ zs) (map_set g l i y)

pub map_fill : {A B : Type 0} (g : A → B) (l : List A) (at n : ℕ) (v : A) → map g (fill l at n v) ≡ fill (map g l) at n (g v)
unfolding fill
map_fill g l at zero v = refl
map_fill g l at (suc n) v = map_set g (fill l at n v) (at + n) v ∙ ap (λ zs. set zs (at + n) (g v)) (map_fill g l at n v)

pub fill_same : {A : Type 0} (l : List A) (at n : ℕ) (v d : A) → ((k : ℕ) → k < n → get_or l (at + k) d ≡ v) → fill l at n v ≡ l
unfolding fill
fill_same l at zero v d h = refl
fill_same l at (suc n) v d h =
    ap (λ zs. set zs (at + n) v) (fill_same l at n v d (λ k b. h k (omega arith)))
    ∙ ap (λ w. set l (at + n) w) (sym (h n (omega arith)))
    ∙ set-get_or l (at + n) d

pub occurrences_set : (x v : ℕ) (cs : List ℕ) (i : ℕ) → i < length cs → get_or cs i 0 ≢ x → occurrences x (set cs i v) ≡ cond (eqb v x) 1 0 + occurrences x cs
unfolding occurrences
occurrences_set x v [] i l n = absurd (omega arith)
occurrences_set x v (c ∷ cs) zero l n = rw (ne_eqb c x n) (omega arith)
occurrences_set x v (c ∷ cs) (suc i) l n = let h = occurrences_set x v cs i (omega arith) n in omega arith

pub occurrences_none : (x : ℕ) (cs : List ℕ) → ((j : ℕ) → j < length cs → get_or cs j 0 ≢ x) → occurrences x cs ≡ 0
unfolding occurrences
occurrences_none x [] h = refl
occurrences_none x (c ∷ cs) h =
    let a = occurrences_none x cs (λ j l. h (suc j) (omega arith)) in
    rw (ne_eqb c x (h 0 (omega arith))) (omega arith)

-- what a split makes, with fill shut
abbrev split_tree : RuleTree → ℕ → RuleTree
split_tree t i =
    record {
      nodes = fill (set t.nodes i (linked_to (node_at_of t.nodes i) (8 * t.splits + 1))) (8 * t.splits + 1) 8 (leaf_with (action_in (node_at_of t.nodes i)));
      splits = t.splits + 1;
      ends = t.ends;
    }

split_is : (t : RuleTree) (i : ℕ) → split_tree t i ≡ split_at_of t i
unfolding split_at_of
split_is t i = refl

module _ (t : RuleTree) (i : ℕ) where
  pub split_length : length (split_at_of t i).nodes ≡ length t.nodes
  split_length =
      ap (λ (r : RuleTree). length r.nodes) (sym (split_is t i))
      ∙ length_fill (set t.nodes i (linked_to (node_at_of t.nodes i) (8 * t.splits + 1))) (8 * t.splits + 1) 8 _
      ∙ length-set t.nodes i _

  pub split_splits : (split_at_of t i).splits ≡ t.splits + 1
  split_splits = ap (λ (r : RuleTree). r.splits) (sym (split_is t i))

  pub split_ends : (split_at_of t i).ends ≡ t.ends
  split_ends = ap (λ (r : RuleTree). r.ends) (sym (split_is t i))

  pub split_parent : i < length t.nodes → i < node_count t.splits → node_at_of (split_at_of t i).nodes i ≡ linked_to (node_at_of t.nodes i) (8 * t.splits + 1)
  split_parent l b =
      ap (λ (r : RuleTree). node_at_of r.nodes i) (sym (split_is t i))
      ∙ get_d_fill_other (set t.nodes i (linked_to (node_at_of t.nodes i) (8 * t.splits + 1))) (8 * t.splits + 1) 8 _ no_node i (λ k p e. absurd (omega arith))
      ∙ get_or-set_same t.nodes i _ no_node l

  pub split_child :
      8 * t.splits + 9 ≤ length t.nodes → (k : ℕ) → k < 8
      → node_at_of (split_at_of t i).nodes (8 * t.splits + 1 + k) ≡ leaf_with (action_in (node_at_of t.nodes i))
  split_child l k b =
      ap (λ (r : RuleTree). node_at_of r.nodes (8 * t.splits + 1 + k)) (sym (split_is t i))
      ∙ get_d_fill (set t.nodes i (linked_to (node_at_of t.nodes i) (8 * t.splits + 1))) (8 * t.splits + 1) 8 _ no_node k b
      (omega (arith, length-set t.nodes i (linked_to (node_at_of t.nodes i) (8 * t.splits + 1))))

  pub split_other :
      (j : ℕ) → j ≢ i → (j < node_count t.splits) ⊎ (node_count (t.splits + 1) ≤ j) → node_at_of (split_at_of t i).nodes j ≡ node_at_of t.nodes j
  split_other j n o =
      ap (λ (r : RuleTree). node_at_of r.nodes j) (sym (split_is t i))
      ∙ get_d_fill_other (set t.nodes i (linked_to (node_at_of t.nodes i) (8 * t.splits + 1))) (8 * t.splits + 1) 8 _ no_node j
      (λ k p e. ⊎_elim (λ (b : j < node_count t.splits). absurd (omega arith)) (λ (b : node_count (t.splits + 1) ≤ j). absurd (omega arith)) o)
      ∙ get_or-set_other t.nodes i j _ no_node n

-- where a number stands after a split: the node that was split, one of the eight new ones, or another
data Place (s i : ℕ) : ℕ → Type 0 where
  split : Place s i i
  new : (k : ℕ) → k < 8 → Place s i (8 * s + 1 + k)
  old : (j : ℕ) → j ≢ i → (j < node_count s) ⊎ (node_count (s + 1) ≤ j) → Place s i j

place : (s i j : ℕ) → Place s i j
place s i j =
    ⊎_elim (λ (p : j ≡ i). subst (Place s i) (sym p) split) (λ (n : j ≢ i). go n (ltb j (node_count s)) refl (ltb j (node_count (s + 1))) refl) (same_or j i)
  where
    go : j ≢ i → (a : Bool) → ltb j (node_count s) ≡ a → (b : Bool) → ltb j (node_count (s + 1)) ≡ b → Place s i j
    go n true p b q = old j n (◌⊎◌.inl (ltb-true j (node_count s) p))
    go n false p true q =
        let l = ltb-false j (node_count s) p in
        let u = ltb-true j (node_count (s + 1)) q in
        let e : 8 * s + 1 + (j - (8 * s + 1)) ≡ j = omega arith in
        subst (Place s i) e (new (j - (8 * s + 1)) (omega arith))
    go n false p false q = old j n (◌⊎◌.inr (ltb-false j (node_count (s + 1)) q))

pub old_used : (s j : ℕ) → (j < node_count s) ⊎ (node_count (s + 1) ≤ j) → ltb j (node_count (s + 1)) ≡ ltb j (node_count s)
old_used s j o =
    ⊎_elim (λ (l : j < node_count s). lt-ltb j (node_count (s + 1)) (omega arith) ∙ sym (lt-ltb j (node_count s) l))
    (λ (l : node_count (s + 1) ≤ j). le-ltb j (node_count (s + 1)) l ∙ sym (le-ltb j (node_count s) (omega arith))) o

-- a leaf of a grown tree with room for one more split
module _ (t : RuleTree) (i : ℕ) (n : length t.nodes ≡ 513) (g : Grown t) (l : leaf_in t i ≡ true) (r : t.splits < 64) where
  parent : node_at_of (split_at_of t i).nodes i ≡ linked_to (node_at_of t.nodes i) (8 * t.splits + 1)
  parent = split_parent t i (omega (arith, leaf_below t i l)) (leaf_below t i l)

  child : (k : ℕ) → k < 8 → node_at_of (split_at_of t i).nodes (8 * t.splits + 1 + k) ≡ leaf_with (action_in (node_at_of t.nodes i))
  child k b = split_child t i (omega arith) k b

  -- of the first children only the new parent's is another
  split_links : children_of (split_at_of t i).nodes ≡ set (children_of t.nodes) i (8 * t.splits + 1)
  split_links =
      let cs = children_of t.nodes in
      let b = leaf_below t i l in
      ap (λ (q : RuleTree). children_of q.nodes) (sym (split_is t i))
      ∙ map_fill (λ (x : Node). x.children) (set t.nodes i (linked_to (node_at_of t.nodes i) (8 * t.splits + 1))) (8 * t.splits + 1) 8 _
      ∙ ap (λ (zs : List ℕ). fill zs (8 * t.splits + 1) 8 0) (map_set (λ (x : Node). x.children) t.nodes i (linked_to (node_at_of t.nodes i) (8 * t.splits + 1)))
      ∙ fill_same (set cs i (8 * t.splits + 1)) (8 * t.splits + 1) 8 0 0
      (λ k p. get_or-set_other cs i (8 * t.splits + 1 + k) (8 * t.splits + 1) 0 (λ e. absurd (omega arith))
      ∙ child-at t.nodes (8 * t.splits + 1 + k)
      ∙ unused_childless t g (8 * t.splits + 1 + k) (omega arith) (omega arith))

  split_link : (j : ℕ) → j < 513 → link_holds (t.splits + 1) (node_at_of (split_at_of t i).nodes j).children j ≡ true
  split_link j b = go (place t.splits i j) b
    where
      go : {m : ℕ} → Place t.splits i m → m < 513 → link_holds (t.splits + 1) (node_at_of (split_at_of t i).nodes m).children m ≡ true
      go split b =
          subst (λ (x : Node). link_holds (t.splits + 1) x.children i ≡ true) (sym parent)
          (link_from (t.splits + 1) (8 * t.splits + 1) i
          (record { first = omega arith; later = omega (arith, leaf_below t i l); below = omega arith }))
      go (new k p) b =
          link_none (t.splits + 1) _ (8 * t.splits + 1 + k) (ap (λ (x : Node). x.children) (child k p))
      go (old m p o) b =
          subst (λ (x : Node). link_holds (t.splits + 1) x.children m ≡ true) (sym (split_other t i m p o)) (link_more t.splits (t.splits + 1) _ m (omega arith) (g.links m b))

  split_slot : (j : ℕ) → j < 513 → slot_holds (node_at_of (split_at_of t i).nodes j) (ltb j (node_count (t.splits + 1))) ≡ true
  split_slot j b = go (place t.splits i j) b
    where
      go : {m : ℕ} → Place t.splits i m → m < 513 → slot_holds (node_at_of (split_at_of t i).nodes m) (ltb m (node_count (t.splits + 1))) ≡ true
      go split b =
          ap (λ (x : Node). slot_holds x (ltb i (node_count (t.splits + 1)))) parent
          ∙ slot_used _ _ (lt-ltb i (node_count (t.splits + 1)) (omega (arith, leaf_below t i l)))
          ∙ leaf_valid t g i l
      go (new k p) b =
          ap (λ (x : Node). slot_holds x (ltb (8 * t.splits + 1 + k) (node_count (t.splits + 1)))) (child k p)
          ∙ slot_used _ _ (lt-ltb (8 * t.splits + 1 + k) (node_count (t.splits + 1)) (omega arith))
          ∙ leaf_valid t g i l
      go (old m p o) b =
          ap (λ (x : Node). slot_holds x (ltb m (node_count (t.splits + 1)))) (split_other t i m p o)
          ∙ ap (slot_holds (node_at_of t.nodes m)) (old_used t.splits m o)
          ∙ g.slots m b

  -- no node had the new nodes for children
  unowned : occurrences (8 * t.splits + 1) (children_of t.nodes) ≡ 0
  unowned =
      occurrences_none (8 * t.splits + 1) (children_of t.nodes)
      (λ j b e. ⊎_elim (λ (z : (node_at_of t.nodes j).children ≡ 0). absurd (omega (arith, e, child-at t.nodes j)))
      (λ (p : Parent t.splits (node_at_of t.nodes j).children j). absurd (omega (arith, e, child-at t.nodes j, p.below)))
      (link_parts _ _ _ (g.links j (omega (arith, length-map t.nodes (λ (x : Node). x.children))))))

  split-count :
      (k : ℕ)
      → occurrences (8 * k + 1) (children_of (split_at_of t i).nodes) ≡ cond (eqb (8 * t.splits + 1) (8 * k + 1)) 1 0 + occurrences (8 * k + 1) (children_of t.nodes)
  split-count k =
      ap (occurrences (8 * k + 1)) split_links
      ∙ occurrences_set (8 * k + 1) (8 * t.splits + 1) (children_of t.nodes) i
      (omega (arith, length-map t.nodes (λ (x : Node). x.children), leaf_below t i l))
      (λ e. absurd (omega (arith, e, child-at t.nodes i, leaf_childless t i l)))

  split_owner : (k : ℕ) → k < t.splits + 1 → occurrences (8 * k + 1) (children_of (split_at_of t i).nodes) ≡ 1
  split_owner k b = split-count k ∙ ⊎_elim newest older (same_or k t.splits)
    where
      newest : k ≡ t.splits → cond (eqb (8 * t.splits + 1) (8 * k + 1)) 1 0 + occurrences (8 * k + 1) (children_of t.nodes) ≡ 1
      newest p =
          rw (eq-eqb (8 * t.splits + 1) (8 * k + 1) (omega arith)) (omega (arith, ap (λ (m : ℕ). occurrences (8 * m + 1) (children_of t.nodes)) p, unowned))

      older : k ≢ t.splits → cond (eqb (8 * t.splits + 1) (8 * k + 1)) 1 0 + occurrences (8 * k + 1) (children_of t.nodes) ≡ 1
      older p = rw (ne_eqb (8 * t.splits + 1) (8 * k + 1) (λ e. p (omega arith))) (omega (arith, g.owners k (omega arith)))

  split_facts : Grown (split_at_of t i)
  split_facts =
      let e = sym (split_splits t i) in
      record {
        few = omega (arith, split_splits t i);
        links = λ j b. subst (λ (s : ℕ). link_holds s (node_at_of (split_at_of t i).nodes j).children j ≡ true) e (split_link j b);
        owners = λ k b. split_owner k (omega (arith, split_splits t i));
        slots = λ j b. subst (λ (s : ℕ). slot_holds (node_at_of (split_at_of t i).nodes j) (ltb j (node_count s)) ≡ true) e (split_slot j b);
        box = ap ends_hold (split_ends t i) ∙ g.box;
      }

pub split_grown :
    (t : RuleTree) (i : ℕ) → length t.nodes ≡ 513 → grown_of t ≡ true → leaf_in t i ≡ true → t.splits < 64 → grown_of (split_at_of t i) ≡ true
split_grown t i n h l r = facts_grown (split_at_of t i) (split_facts t i n (grown_facts t h) l r)

-- ---- the leaves after a split
leaf_split : (t : RuleTree) (i j : ℕ) → leaf_in (split_at_of t i) j ≡ (ltb j (node_count (t.splits + 1)) && eqb (node_at_of (split_at_of t i).nodes j).children 0)
leaf_split t i j = ap (λ (s : ℕ). ltb j (node_count s) && eqb (node_at_of (split_at_of t i).nodes j).children 0) (split_splits t i)

module _ (t : RuleTree) (i : ℕ) (n : length t.nodes ≡ 513) (b : i < node_count t.splits) (r : t.splits < 64) where
  pub split_no_leaf : leaf_in (split_at_of t i) i ≡ false
  split_no_leaf =
      leaf_split t i i
      ∙ ap (λ (x : Node). ltb i (node_count (t.splits + 1)) && eqb x.children 0) (split_parent t i (omega arith) b)
      ∙ ap (λ (z : Bool). ltb i (node_count (t.splits + 1)) && z) (ne_eqb (8 * t.splits + 1) 0 (λ e. absurd (omega arith)))
      ∙ and-false (ltb i (node_count (t.splits + 1)))

  pub split_new_leaf : (k : ℕ) → k < 8 → leaf_in (split_at_of t i) (8 * t.splits + 1 + k) ≡ true
  split_new_leaf k l =
      leaf_split t i (8 * t.splits + 1 + k)
      ∙ ap (λ (x : Node). ltb (8 * t.splits + 1 + k) (node_count (t.splits + 1)) && eqb x.children 0) (split_child t i (omega arith) k l)
      ∙ ap (λ (z : Bool). z && true) (lt-ltb (8 * t.splits + 1 + k) (node_count (t.splits + 1)) (omega arith))

  pub split_old_leaf : (j : ℕ) → j ≢ i → (j < node_count t.splits) ⊎ (node_count (t.splits + 1) ≤ j) → leaf_in (split_at_of t i) j ≡ leaf_in t j
  split_old_leaf j p o =
      leaf_split t i j
      ∙ ap (λ (x : Node). ltb j (node_count (t.splits + 1)) && eqb x.children 0) (split_other t i j p o)
      ∙ ap (λ (z : Bool). z && is_leaf_of t.nodes j) (old_used t.splits j o)
