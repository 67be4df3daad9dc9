-- A tree that passes the test is grown: it comes from a root leaf by splits, new actions and marks. Assumes nothing.
use mathlib.Core.Path.{◌≡◌, refl, sym, ap, subst, ◌∙◌}
use mathlib.Core.Bool.{Bool, true, false}
use mathlib.Core.Logic.{⊎_elim, ◌⊎◌, inl, inr}
use Prim.Native.Nat.{ℕ, zero, suc, ◌+◌, ◌<◌, ◌≤◌}
use native.Mathlib.Omega.{arith}
use borrow.Author.Tests.{eq-eqb, lt-ltb}
use lib.ListN.{length, replicate, length-set, get_or-replicate}
use lib.Seq.{get_or-set_same, get_or-set_other}
use Rattle.remy.specs.Action.{valid_of}
use Rattle.rule_tree.specs.declared.Node.{Node}
use Rattle.rule_tree.specs.declared.RuleTree.{RuleTree}
use Rattle.rule_tree.specs.Nodes.{no_node, node_at_of, node_count, leaf_with, blank_node, action_in}
use Rattle.rule_tree.specs.Grown.{ends_hold, grown_of}
use Rattle.rule_tree.specs.Change.{fresh_tree, with_action, with_mark, split_at_of, newest_parent, undone}
use Rattle.rule_tree.specs.Calls.{leaf_in}
use Rattle.rule_tree.proofs.Owners.{same_or_not, below_or_not}
use Rattle.rule_tree.proofs.Links.{grown_ends_hold}
use Rattle.rule_tree.proofs.Changing.{split_length, split_splits, split_ends}
use Rattle.rule_tree.proofs.Undoing.{newest_first, undo_length, undo_splits, undo_ends, newest_leaf, undo_grown}
pub use Rattle.rule_tree_laws.specs.Growth.{Growth, root, split, act, mark}
use Rattle.rule_tree_laws.proofs.Sound.{kids, TreeFits, Sound, rebuilt, grown_sound}
use Rattle.rule_tree_laws.proofs.Undone.{same_tree, same_nodes, undo_fits, undo_leaf, resplit_old, resplit_new}

leaf_in_lem : (t : RuleTree) (i : ℕ) → i < node_count t.splits → kids t i ≡ 0 → leaf_in t i ≡ true
leaf_in_lem t i l z = rw (lt-ltb i (node_count t.splits) l, eq-eqb (kids t i) 0 z)

-- ---- a leaf that is unmarked gets an action and, where it is asked for, a mark
record Dressed (u : RuleTree) (i : ℕ) (x : Node) : Type 0 where
  tree : RuleTree
  grown : Growth tree
  splits : tree.splits ≡ u.splits
  ends : tree.ends ≡ u.ends
  count : length tree.nodes ≡ length u.nodes
  at : node_at_of tree.nodes i ≡ x
  away : (j : ℕ) → (j ≡ i → ⊥) → node_at_of tree.nodes j ≡ node_at_of u.nodes j

module _ (u : RuleTree) (g : Growth u) (i : ℕ) (l : i < node_count u.splits) (b : i < length u.nodes) (z : kids u i ≡ 0)
    (m : (node_at_of u.nodes i).optimized ≡ false) where
  acted : (x : Node) → x.children ≡ 0 → x.optimized ≡ false → valid_of (action_in x) ≡ true → Dressed u i x
  acted x c o v = record {
    tree = with_action u i (action_in x);
    grown = act u i (action_in x) g (leaf_in_lem u i l z) v;
    splits = refl;
    ends = refl;
    count = length-set u.nodes i _;
    at = get_or-set_same u.nodes i _ no_node b ∙ sym (rebuilt x (action_in x) _ _ refl (c ∙ sym z) (o ∙ sym m));
    away = λ j n. get_or-set_other u.nodes i j _ no_node n;
  }

  marked : (x : Node) → x.children ≡ 0 → x.optimized ≡ true → valid_of (action_in x) ≡ true → Dressed u i x
  marked x c o v =
      let y = leaf_with (action_in x) in
      let d = acted y refl refl v in
      let w = d.tree in
      record {
        tree = with_mark w i;
        grown = mark w i d.grown (leaf_in_lem w i (omega (arith, d.splits)) (ap (λ (x : Node). x.children) d.at));
        splits = d.splits;
        ends = d.ends;
        count = length-set w.nodes i _ ∙ d.count;
        at = get_or-set_same w.nodes i _ no_node (omega (arith, d.count))
            ∙ sym (rebuilt x _ _ true (sym (ap action_in d.at)) (c ∙ sym (ap (λ (x : Node). x.children) d.at)) o);
        away = λ j n. get_or-set_other w.nodes i j _ no_node n ∙ d.away j n;
      }

  dressed : (x : Node) → x.children ≡ 0 → valid_of (action_in x) ≡ true → Dressed u i x
  dressed x c v = go x.optimized refl
    where
      go : (o : Bool) → x.optimized ≡ o → Dressed u i x
      go true e = marked x c e v
      go false e = acted x c e v

-- ---- the first n nodes of the newest split are dressed as those of t; the others of the eight are unmarked leaves, and all else is as in t
record Painted (t : RuleTree) (n : ℕ) : Type 0 where
  tree : RuleTree
  grown : Growth tree
  splits : tree.splits ≡ t.splits
  ends : tree.ends ≡ t.ends
  full : length tree.nodes ≡ 513
  bare : (i : ℕ) → newest_first t + n ≤ i → i < newest_first t + 8
      → node_at_of tree.nodes i ≡ leaf_with (action_in (node_at_of t.nodes (newest_parent t)))
  done : (i : ℕ) → i < 513 → (i < newest_first t + n) ⊎ (newest_first t + 8 ≤ i) → node_at_of tree.nodes i ≡ node_at_of t.nodes i

module _ (t : RuleTree) (f : TreeFits t) (g : grown_of t ≡ true) (s : 0 < t.splits) where
  first : Growth (undone t) → Painted t 0
  first w =
      let h = (grown_sound t f g).few in
      record {
        tree = split_at_of (undone t) (newest_parent t);
        grown = split (undone t) (newest_parent t) w (undo_leaf t f g s) (omega (arith, undo_splits t));
        splits = omega (arith, split_splits (undone t) (newest_parent t), undo_splits t);
        ends = split_ends (undone t) (newest_parent t) ∙ undo_ends t;
        full = split_length (undone t) (newest_parent t) ∙ undo_length t ∙ f.full;
        bare = λ i a b. resplit_new t f g s i (omega arith) b;
        done = λ i l a. resplit_old t f g s i (⊎_elim (λ (b : i < newest_first t + 0). inl (omega arith)) (λ b. inr b) a);
      }

  -- node n of the eight is dressed as in t
  dress : (n : ℕ) → n < 8 → (p : Painted t n) → Dressed p.tree (newest_first t + n) (node_at_of t.nodes (newest_first t + n))
  dress n l p =
      let h = grown_sound t f g in
      let e = h.few in
      let c : kids t (newest_first t + n) ≡ 0 = newest_leaf t f.full g s (newest_first t + n) (omega arith) (omega arith) in
      let y = p.bare (newest_first t + n) (omega arith) (omega arith) in
      dressed p.tree p.grown (newest_first t + n) (omega (arith, p.splits)) (omega (arith, p.full))
      (ap (λ (x : Node). x.children) y) (ap (λ (x : Node). x.optimized) y) (node_at_of t.nodes (newest_first t + n)) c
      (h.held (newest_first t + n) (omega arith))

  more : (n : ℕ) (p : Painted t n) → Dressed p.tree (newest_first t + n) (node_at_of t.nodes (newest_first t + n)) → Painted t (suc n)
  more n p d = record {
    tree = d.tree;
    grown = d.grown;
    splits = d.splits ∙ p.splits;
    ends = d.ends ∙ p.ends;
    full = d.count ∙ p.full;
    bare = λ i a b. d.away i (λ z. omega (arith, z)) ∙ p.bare i (omega arith) b;
    done = λ i b a. next i b a (same_or_not i (newest_first t + n));
  }
    where
      next : (i : ℕ) → i < 513 → (i < newest_first t + suc n) ⊎ (newest_first t + 8 ≤ i) → (i ≡ newest_first t + n) ⊎ (i ≡ newest_first t + n → ⊥)
          → node_at_of d.tree.nodes i ≡ node_at_of t.nodes i
      next i b a (inl z) =
          ap (λ (j : ℕ). node_at_of d.tree.nodes j) z ∙ d.at ∙ ap (λ (j : ℕ). node_at_of t.nodes j) (sym z)
      next i b a (inr m) = d.away i m ∙ p.done i b (⊎_elim under (λ c. inr c) a)
        where
          under : i < newest_first t + suc n → (i < newest_first t + n) ⊎ (newest_first t + 8 ≤ i)
          under c =
              ⊎_elim (λ (k : i < newest_first t + n). inl k) (λ (k : newest_first t + n ≤ i). absurd (m (omega arith))) (below_or_not i (newest_first t + n))

  painted : (n : ℕ) → n ≤ 8 → Growth (undone t) → Painted t n
  painted zero l g = first g
  painted (suc n) l g = let p = painted n (omega arith) g in more n p (dress n (omega arith) p)

  regrown : Growth (undone t) → Growth t
  regrown w =
      let p = painted 8 (omega arith) w in
      subst Growth
      (same_tree p.tree t p.splits p.ends
      (same_nodes 513 p.tree.nodes t.nodes p.full f.full (λ i l. p.done i l (below_or_not i (newest_first t + 8)))))
      p.grown

-- ---- no split: the root leaf
module _ (t : RuleTree) (h : Sound t) (b : ends_hold t.ends ≡ true) (e : t.splits ≡ 0) where
  root_kids : kids t 0 ≡ 0
  root_kids =
      ⊎_elim (λ (z : kids t 0 ≡ 0). z)
      (λ (n : kids t 0 ≡ 0 → ⊥).
      let k = h.link 0 (omega arith) n in
      absurd (omega (arith, k.first, k.after, k.inside)))
      (same_or_not (kids t 0) 0)

  abbrev fresh : RuleTree
  fresh = fresh_tree t.ends (action_in (node_at_of t.nodes 0))

  root_dressed : Dressed fresh 0 (node_at_of t.nodes 0)
  root_dressed =
      let v = h.held 0 (omega arith) in
      dressed fresh (root t.ends (action_in (node_at_of t.nodes 0)) b v) 0 (omega arith) (omega arith) refl refl (node_at_of t.nodes 0) root_kids v

  rooted : Growth t
  rooted =
      let d = root_dressed in
      subst Growth
      (same_tree d.tree t (d.splits ∙ sym e) d.ends
      (same_nodes 513 d.tree.nodes t.nodes d.count
      h.full (same d)))
      d.grown
    where
      same : (d : Dressed fresh 0 (node_at_of t.nodes 0)) (i : ℕ) → i < 513 → node_at_of d.tree.nodes i ≡ node_at_of t.nodes i
      same d i l =
          ⊎_elim
          (λ (z : i ≡ 0). ap (λ (j : ℕ). node_at_of d.tree.nodes j) z ∙ d.at ∙ ap (λ (j : ℕ). node_at_of t.nodes j) (sym z))
          (λ (n : i ≡ 0 → ⊥).
          d.away i n ∙ get_or-set_other (replicate 513 blank_node) 0 i _ no_node n ∙ get_or-replicate 513 i blank_node no_node l
          ∙ sym (h.unused i (positive i n) l))
          (same_or_not i 0)
        where
          positive : (i : ℕ) → (i ≡ 0 → ⊥) → node_count t.splits ≤ i
          positive zero n = absurd (n refl)
          positive (suc i) n = omega arith

-- ---- by the number of splits
from_splits : (s : ℕ) (t : RuleTree) → t.splits ≡ s → TreeFits t → grown_of t ≡ true → Growth t
from_splits zero t e f g = rooted t (grown_sound t f g) (grown_ends_hold t g) e
from_splits (suc r) t e f g =
    let s : 0 < t.splits = omega arith in
    regrown t f g s (from_splits r (undone t) (omega (arith, undo_splits t)) (undo_fits t f g s) (undo_grown t f.full g s))

pub grown_growth : (t : RuleTree) → TreeFits t → grown_of t ≡ true → Growth t
grown_growth t f g = from_splits t.splits t refl f g
