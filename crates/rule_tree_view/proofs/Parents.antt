-- A grown tree has as many parents as splits. Assumes nothing.
use mathlib.Core.Path.{◌≡◌, refl, sym, ap, subst, ◌∙◌}
use mathlib.Core.Bool.{Bool, true, false, not, ◌&&◌}
use mathlib.Core.Logic.{⊎_elim}
use Prim.Native.Nat.{ℕ, zero, suc, ◌+◌, ◌*◌, ◌<◌, ◌≤◌}
use native.Mathlib.Nat.{eq-or-lt_of_le}
use native.Mathlib.Omega.{arith}
use borrow.Author.Tests.{eq-eqb, ne_eqb, lt-ltb, le-ltb}
use lib.Dec.{eqb, ltb}
use lib.ListN.{length}
use Rattle.rule_tree.specs.declared.RuleTree.{RuleTree}
use Rattle.rule_tree.specs.Lists.{count_below}
use Rattle.rule_tree.specs.Nodes.{node_at_of, node_count, is_leaf_of}
use Rattle.rule_tree.specs.Grown.{grown_of}
use Rattle.rule_tree.proofs.LinkWays.{children_at}
use Rattle.rule_tree.proofs.Links as links
use Rattle.rule_tree.proofs.Owners.{same_or_not, below_or_not}
use Rattle.rule_tree.proofs.Lists.{count_below_same, count_below_none}

-- ---- counts of two tests
-- f holds where g does, and at q besides
count_one_more : (m : ℕ) (f g : ℕ → Bool) (q : ℕ) → q < m → f q ≡ true → g q ≡ false → ((i : ℕ) → i < m → (i ≡ q → ⊥) → f i ≡ g i)
    → count_below m f ≡ suc (count_below m g)
unfolding count_below
count_one_more zero f g q l a b h = absurd (omega arith)
count_one_more (suc m) f g q l a b h =
    ⊎_elim
    (λ (p : q ≡ m).
    let x : f m ≡ true = subst (λ (k : ℕ). f k ≡ true) p a in
    let y : g m ≡ false = subst (λ (k : ℕ). g k ≡ false) p b in
    let z = count_below_same m f g (λ i r. h i (omega arith) (λ e. omega (arith, e))) in
    rw (x, y) (omega (arith, z)))
    (λ (r : q < m).
    let x : f m ≡ g m = h m (omega arith) (λ e. omega (arith, e)) in
    let z = count_one_more m f g q r a b (λ i k n. h i (omega arith) n) in
    rw x (omega (arith, z)))
    (eq-or-lt_of_le (omega arith))

-- ---- the parents whose children the first s splits made
module _ (t : RuleTree) (full : length t.nodes ≡ 513) (g : grown_of t ≡ true) where
  abbrev kids : ℕ → ℕ
  kids i = (node_at_of t.nodes i).children

  abbrev early : ℕ → ℕ → Bool
  early s i = not (eqb (kids i) 0) && ltb (kids i) (node_count s)

  early_leaf : (s i : ℕ) → kids i ≡ 0 → early s i ≡ false
  early_leaf s i z = rw (eq-eqb (kids i) 0 z)

  early_before : (s i : ℕ) → (kids i ≡ 0 → ⊥) → kids i < node_count s → early s i ≡ true
  early_before s i n l = rw (ne_eqb (kids i) 0 n, lt-ltb (kids i) (node_count s) l)

  early_after : (s i : ℕ) → node_count s ≤ kids i → early s i ≡ false
  early_after s i l =
      rw (ne_eqb (kids i) 0 (λ z. omega (arith, z)), le-ltb (kids i) (node_count s) l)

  -- no other parent than the owner of split s comes in with it
  early_same : (s i : ℕ) → i < 513 → (kids i ≡ 8 * s + 1 → ⊥) → early (suc s) i ≡ early s i
  early_same s i l n =
      ⊎_elim (λ (z : kids i ≡ 0). early_leaf (suc s) i z ∙ sym (early_leaf s i z))
      (λ (p : kids i ≡ 0 → ⊥).
      let e = children_at t.nodes i in
      let h = links.grown_link t g i l (λ z. p (sym e ∙ z)) in
      ⊎_elim
      (λ (b : kids i < node_count s). early_before (suc s) i p (omega arith) ∙ sym (early_before s i p b))
      (λ (b : node_count s ≤ kids i).
      early_after (suc s) i (⊎_elim (λ (c : kids i < node_count (suc s)). absurd (n (omega (arith, h.first, e)))) (λ (c : node_count (suc s) ≤ kids i). c) (below_or_not (kids i) (node_count (suc s))))
      ∙ sym (early_after s i b))
      (below_or_not (kids i) (node_count s)))
      (same_or_not (kids i) 0)

  early_count : (s : ℕ) → s ≤ t.splits → count_below 513 (early s) ≡ s
  early_count zero l =
      count_below_none 513 (early zero) (λ i b.
      ⊎_elim (λ (z : kids i ≡ 0). early_leaf zero i z) (λ (p : kids i ≡ 0 → ⊥). early_after zero i (positive (kids i) p)) (same_or_not (kids i) 0))
    where
      positive : (k : ℕ) → (k ≡ 0 → ⊥) → 1 ≤ k
      positive zero p = absurd (p refl)
      positive (suc k) p = omega arith
  early_count (suc s) l =
      let o = links.grown_owner t g full s (omega arith) in
      let few = links.grown_splits t g in
      let k : kids o.at ≡ 8 * s + 1 = sym (children_at t.nodes o.at) ∙ o.is in
      count_one_more 513 (early (suc s)) (early s) o.at (omega (arith, o.low))
      (early_before (suc s) o.at (λ z. omega (arith, z, k)) (omega (arith, k)))
      (early_after s o.at (omega (arith, k)))
      (λ i b n. early_same s i b (λ e. n (o.only i (children_at t.nodes i ∙ e))))
      ∙ ap suc (early_count s (omega arith))

  pub parents_splits : count_below 513 (λ i. not (is_leaf_of t.nodes i)) ≡ t.splits
  parents_splits = count_below_same 513 (λ i. not (is_leaf_of t.nodes i)) (early t.splits) every ∙ early_count t.splits (omega arith)
    where
      every : (i : ℕ) → i < 513 → not (is_leaf_of t.nodes i) ≡ early t.splits i
      every i l =
          ⊎_elim (λ (z : kids i ≡ 0). ap not (eq-eqb (kids i) 0 z) ∙ sym (early_leaf t.splits i z))
          (λ (p : kids i ≡ 0 → ⊥).
          let e = children_at t.nodes i in
          let h = links.grown_link t g i l (λ z. p (sym e ∙ z)) in
          ap not (ne_eqb (kids i) 0 p) ∙ sym (early_before t.splits i p (omega (arith, h.inside, e))))
          (same_or_not (kids i) 0)
