-- The newest split taken back: a split and its taking back leave the tree as it was, and splitting its parent again leaves all but the eight new
-- leaves as they were. Assumes nothing.
use mathlib.Core.Path.{◌≡◌, sym, ap, subst, ◌∙◌}
use mathlib.Core.Bool.{true}
use mathlib.Core.Logic.{⊎_elim, ◌⊎◌, inl, inr}
use mathlib.Core.List.{List}
use Prim.Native.Nat.{ℕ, ◌+◌, ◌-◌, ◌*◌, ◌<◌, ◌≤◌}
use native.Mathlib.Omega.{arith}
use borrow.Author.Tests.{lt-ltb}
use lib.Dec.{T}
use lib.ListN.{length}
use lib.Seq.{ext_get_or}
use lib.Ieee.{binary64, fits}
use Rattle.remy.specs.Cube.{zero}
use Rattle.rule_tree.specs.declared.Node.{Node}
use Rattle.rule_tree.specs.declared.RuleTree.{RuleTree}
use Rattle.rule_tree.specs.Nodes.{no_node, node_at_of, node_count, no_action, leaf_with, linked_to, action_in}
use Rattle.rule_tree.specs.Grown.{grown_of}
use Rattle.rule_tree.specs.Change.{split_at_of, newest_parent, undone}
use Rattle.std.specs.Prelude.{Result, Ok}
use Rattle.refusal.specs.declared.Refusal.{Refusal}
use Rattle.refusal.specs.Guards.{and_then}
use Rattle.rule_tree.specs.Calls.{leaf_in, split_of, undo_of}
use Rattle.rule_tree.proofs.Owners.{same_or_not}
use Rattle.rule_tree.proofs.Plain.{ActionFits, PointFits}
use Rattle.rule_tree.proofs.Patched.{Place, new, here, other, place}
use Rattle.rule_tree.proofs.GrownTree.{leaf_below, leaf_childless, leaf_from}
use Rattle.rule_tree.proofs.Links.{grown_splits}
use Rattle.rule_tree.proofs.Changing.{split_length, split_splits, split_ends, split_parent, split_child, split_other, split_grown}
use Rattle.rule_tree.proofs.Undoing.{newest_first, undo_length, undo_splits, undo_ends, newest_before, newest_children, newest_only, undo_parent, undo_new, undo_other}
use Rattle.rule_tree_laws.proofs.Sound.{TreeFits, grown_sound}

pub same_tree : (t u : RuleTree) → t.splits ≡ u.splits → t.ends ≡ u.ends → t.nodes ≡ u.nodes → t ≡ u
same_tree t u a b c = λ j. record { nodes = c j; splits = a j; ends = b j }

pub same_nodes : (n : ℕ) (xs ys : List Node) → length xs ≡ n → length ys ≡ n → ((i : ℕ) → i < n → node_at_of xs i ≡ node_at_of ys i) → xs ≡ ys
same_nodes n xs ys a b h = ext_get_or no_node xs ys (a ∙ sym b) (λ i l. h i (omega (arith, l)))

zero-fits : T (fits binary64 zero)
unfolding fits
zero-fits = tt

none_fits : ActionFits no_action
none_fits = record { multiplier = zero-fits; increment = record { sfits = omega arith }; delay = zero-fits }

-- ---- a grown tree with a split, as a program holds it
module _ (t : RuleTree) (f : TreeFits t) (g : grown_of t ≡ true) (s : 0 < t.splits) where
  pub undo_fits : TreeFits (undone t)
  undo_fits = record {
    full = undo_length t ∙ f.full;
    ends = subst PointFits (sym (undo_ends t)) f.ends;
    actions = λ i l. go i l (place (newest_first t) (newest_parent t) i (newest_before t f.full g s));
  }
    where
      go : (i : ℕ) → i < 513 → Place (newest_first t) (newest_parent t) i → ActionFits (action_in (node_at_of (undone t).nodes i))
      go i l (new a b) = subst (λ (x : Node). ActionFits (action_in x)) (sym (undo_new t f.full g s i a b)) none_fits
      go i l (here e) =
          subst (λ (x : Node). ActionFits (action_in x)) (sym (ap (node_at_of (undone t).nodes) e ∙ undo_parent t f.full g s))
          (f.actions (newest_parent t) (omega (arith, e)))
      go i l (other m a) = subst (λ (x : Node). ActionFits (action_in x)) (sym (undo_other t f.full g s i m a)) (f.actions i l)

  pub undo_leaf : leaf_in (undone t) (newest_parent t) ≡ true
  undo_leaf =
      leaf_from (undone t) (newest_parent t) (omega (arith, newest_before t f.full g s, undo_splits t))
      (ap (λ (x : Node). x.children) (undo_parent t f.full g s))

  -- the parent split again is what it was, and so is every node but its children
  pub resplit_old : (i : ℕ) → (i < newest_first t) ⊎ (newest_first t + 8 ≤ i) → node_at_of (split_at_of (undone t) (newest_parent t)).nodes i ≡ node_at_of t.nodes i
  resplit_old i a =
      ⊎_elim
      (λ (e : i ≡ newest_parent t).
      let b = newest_before t f.full g s in
      let first : 8 * (undone t).splits + 1 ≡ newest_first t = omega (arith, undo_splits t) in
      let x = node_at_of t.nodes (newest_parent t) in
      ap (node_at_of (split_at_of (undone t) (newest_parent t)).nodes) e
      ∙ split_parent (undone t) (newest_parent t) (omega (arith, undo_length t, f.full, grown_splits t g)) (omega (arith, undo_splits t))
      ∙ ap (λ (y : Node). linked_to y (8 * (undone t).splits + 1)) (undo_parent t f.full g s)
      ∙ ap (linked_to x) (first ∙ sym (newest_children t f.full g s))
      ∙ ap (node_at_of t.nodes) (sym e))
      (λ (m : i ≡ newest_parent t → ⊥).
      split_other (undone t) (newest_parent t) i m (aside a) ∙ undo_other t f.full g s i m a)
      (same_or_not i (newest_parent t))
    where
      aside : (i < newest_first t) ⊎ (newest_first t + 8 ≤ i) → (i < node_count (undone t).splits) ⊎ (node_count ((undone t).splits + 1) ≤ i)
      aside (inl l) = inl (omega (arith, undo_splits t))
      aside (inr l) = inr (omega (arith, undo_splits t))

  pub resplit_new :
      (i : ℕ) → newest_first t ≤ i → i < newest_first t + 8
      → node_at_of (split_at_of (undone t) (newest_parent t)).nodes i ≡ leaf_with (action_in (node_at_of t.nodes (newest_parent t)))
  resplit_new i a b =
      let e : 8 * (undone t).splits + 1 + (i - newest_first t) ≡ i = omega (arith, undo_splits t) in
      ap (node_at_of (split_at_of (undone t) (newest_parent t)).nodes) (sym e)
      ∙ split_child (undone t) (newest_parent t) (omega (arith, undo_splits t, undo_length t, f.full, grown_splits t g)) (i - newest_first t) (omega arith)
      ∙ ap (λ (x : Node). leaf_with (action_in x)) (undo_parent t f.full g s)

-- ---- "Split then take back must give the same tree, marks included"
module _ (t : RuleTree) (i : ℕ) (f : TreeFits t) (g : grown_of t ≡ true) (l : leaf_in t i ≡ true) (r : t.splits < 64) where
  full : length (split_at_of t i).nodes ≡ 513
  full = split_length t i ∙ f.full

  grown : grown_of (split_at_of t i) ≡ true
  grown = split_grown t i f.full g l r

  some : 0 < (split_at_of t i).splits
  some = omega (arith, split_splits t i)

  parent : node_at_of (split_at_of t i).nodes i ≡ linked_to (node_at_of t.nodes i) (8 * t.splits + 1)
  parent = split_parent t i (omega (arith, leaf_below t i l, f.full)) (leaf_below t i l)

  split_first : newest_first (split_at_of t i) ≡ 8 * t.splits + 1
  split_first = omega (arith, split_splits t i)

  split_newest : i ≡ newest_parent (split_at_of t i)
  split_newest = newest_only (split_at_of t i) full grown some i (ap (λ (x : Node). x.children) parent ∙ sym split_first)

  back : (j : ℕ) → j < 513 → node_at_of (undone (split_at_of t i)).nodes j ≡ node_at_of t.nodes j
  back j b = go (place (newest_first (split_at_of t i)) (newest_parent (split_at_of t i)) j (newest_before (split_at_of t i) full grown some))
    where
      aside : (j < newest_first (split_at_of t i)) ⊎ (newest_first (split_at_of t i) + 8 ≤ j) → (j < node_count t.splits) ⊎ (node_count (t.splits + 1) ≤ j)
      aside (inl a) = inl (omega (arith, split_first))
      aside (inr a) = inr (omega (arith, split_first))

      go : Place (newest_first (split_at_of t i)) (newest_parent (split_at_of t i)) j → node_at_of (undone (split_at_of t i)).nodes j ≡ node_at_of t.nodes j
      go (new a c) =
          undo_new (split_at_of t i) full grown some j a c ∙ sym ((grown_sound t f g).unused j (omega (arith, split_first)) b)
      go (here e) =
          ap (node_at_of (undone (split_at_of t i)).nodes) e
          ∙ undo_parent (split_at_of t i) full grown some
          ∙ ap (λ (k : ℕ). linked_to (node_at_of (split_at_of t i).nodes k) 0) (sym split_newest)
          ∙ ap (λ (x : Node). linked_to x 0) parent
          ∙ ap (linked_to (node_at_of t.nodes i)) (sym (leaf_childless t i l))
          ∙ ap (node_at_of t.nodes) (split_newest ∙ sym e)
      go (other m a) =
          undo_other (split_at_of t i) full grown some j m a ∙ split_other t i j (λ e. m (e ∙ split_newest)) (aside a)

  pub split_undone : undone (split_at_of t i) ≡ t
  split_undone =
      same_tree (undone (split_at_of t i)) t (omega (arith, undo_splits (split_at_of t i), split_splits t i)) (undo_ends (split_at_of t i) ∙ split_ends t i)
      (same_nodes 513 (undone (split_at_of t i)).nodes t.nodes (undo_length (split_at_of t i) ∙ full) f.full back)

  -- the same of the public calls
  pub split_gives : split_of t i ≡ Ok (split_at_of t i)
  unfolding split_of
  split_gives = rw (g, l, lt-ltb _ _ r)

  undo_gives : undo_of (split_at_of t i) ≡ Ok t
  unfolding undo_of
  undo_gives = rw (grown, lt-ltb _ _ some, split_undone)

  pub split_taken_back : and_then (split_of t i) undo_of ≡ Ok t
  split_taken_back = ap (λ (r : Result RuleTree Refusal). and_then r undo_of) split_gives ∙ undo_gives
