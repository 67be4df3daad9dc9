-- Counts: the plain trainer's tests, sums and refusal 4 are the trainer's. Assumes nothing.
use mathlib.Core.Path.{◌≡◌, refl, sym, ap, ◌∙◌}
use mathlib.Core.Bool.{Bool, true, false, not, cond}
use mathlib.Core.Logic.{⊎_elim}
use mathlib.Core.List.{List, [], ◌∷◌}
use Prim.Native.Nat.{ℕ, ◌+◌, ◌<◌, ◌≤◌}
use native.Mathlib.Omega.{arith}
use borrow.Author.Tests.{le-ltb, le-leb, eq-eqb, eqb-true, leb-true, ltb-false, not-true, not-false}
use lib.Dec.{eqb, ltb}
use lib.ListN.{length, get_or}
use Rattle.std.proofs.lemmas.Bool.{and_parts, or_parts, or_right, or_cases}
use Rattle.rule_tree.specs.Lists.{count_below, total}
use Rattle.rule_tree.specs.Nodes as layer
use Rattle.rule_tree.specs.Counts.{limit, used_in, counts_hold}
use Rattle.rule_tree.proofs.Counting.{Accepted, counts_accepted, accepted_counts}
use Rattle.rule_tree.proofs.Lists.{count_below_first}
use Rattle.promise.specs.PlainTree.{Tree, nodes, member, sum, used, parent_counted, counts_taken}
use Rattle.promise.proofs.Embed.{embed_tree, ValidTree, parent_below}
use Rattle.promise.proofs.TreeKeeps.{children_is}

pub tests_same : (a b : Bool) → (a ≡ true → b ≡ true) → (b ≡ true → a ≡ true) → a ≡ b
tests_same true b f g = sym (f refl)
tests_same false true f g = g refl
tests_same false false f g = refl

-- ---- the total
pub sum_total : (xs : List ℕ) → sum xs ≡ total xs
unfolding sum total
sum_total [] = refl
sum_total (x ∷ xs) = ap (λ (n : ℕ). x + n) (sum_total xs)

-- ---- how many are above 0
pub used_is : (xs : List ℕ) → used xs ≡ used_in xs
unfolding used count_below
used_is [] = refl
used_is (x ∷ xs) =
    ap (λ (n : ℕ). cond (ltb 0 x) 1 0 + n) (used_is xs) ∙ sym (count_below_first (length xs) (λ i. ltb 0 (get_or (x ∷ xs) i 0)))

-- ---- no parent counted
uncounted : (xs ps : List ℕ) → parent_counted xs ps ≡ false → (i : ℕ) → member i ps ≡ true → get_or xs i 0 ≡ 0
unfolding parent_counted member
uncounted xs [] h i m = cc
uncounted xs (p ∷ ps) h i m =
    let q = or_parts (ltb 0 (get_or xs p 0)) (parent_counted xs ps) h in
    ⊎_elim (λ e. let z = ltb-false 0 (get_or xs p 0) q.0 in omega (arith, ap (λ (k : ℕ). get_or xs k 0) (eqb-true p i e)))
    (λ r. uncounted xs ps q.1 i r) (or_cases (eqb p i) (member i ps) m)

counted_none : (xs ps : List ℕ) → ((i : ℕ) → member i ps ≡ true → get_or xs i 0 ≡ 0) → parent_counted xs ps ≡ false
unfolding parent_counted member
counted_none xs [] h = refl
counted_none xs (p ∷ ps) h =
    let a : ltb 0 (get_or xs p 0) ≡ false = le-ltb 0 (get_or xs p 0) (omega (arith, h p (rw (eq-eqb p p refl)))) in
    let b : parent_counted xs ps ≡ false = counted_none xs ps (λ i m. h i (or_right (eqb p i) (member i ps) m)) in
    rw (a, b)

-- ---- refusal 4
pub record Taken (t : Tree) (xs : List ℕ) : Type 0 where
  pub one_a_node : length xs ≡ nodes t
  pub none_at_a_parent : parent_counted xs t.splits ≡ false
  pub total_held : sum xs ≤ limit

taken_facts : (t : Tree) (xs : List ℕ) → counts_taken t xs ≡ true → Taken t xs
unfolding counts_taken
taken_facts t xs h =
    let q = and_parts (eqb (length xs) (nodes t)) _ h in
    let r = and_parts (not (parent_counted xs t.splits)) _ q.1 in
    record {
      one_a_node = eqb-true _ _ q.0;
      none_at_a_parent = not-true (parent_counted xs t.splits) r.0;
      total_held = leb-true (sum xs) limit r.1;
    }

facts_taken : (t : Tree) (xs : List ℕ) → Taken t xs → counts_taken t xs ≡ true
unfolding counts_taken
facts_taken t xs h = rw (eq-eqb (length xs) (nodes t) h.one_a_node, h.none_at_a_parent) (le-leb (sum xs) limit h.total_held)

module _ (t : Tree) (v : ValidTree t) (xs : List ℕ) where
  taken_accepted : Taken t xs → Accepted (embed_tree t) xs
  taken_accepted h =
      record {
        one_a_node = h.one_a_node;
        none_at_a_parent = λ i l p. uncounted xs t.splits h.none_at_a_parent i (split_node i (omega (arith, h.one_a_node)) p);
        total_held = omega (arith, h.total_held, sum_total xs);
      }
    where
      split_node : (i : ℕ) → i < nodes t → layer.is_leaf_of (embed_tree t).nodes i ≡ false → member i t.splits ≡ true
      split_node i l p = not-false (member i t.splits) (sym (children_is t v i l) ∙ p)

  accepted_taken : Accepted (embed_tree t) xs → Taken t xs
  accepted_taken h =
      record {
        one_a_node = h.one_a_node;
        none_at_a_parent =
            counted_none xs t.splits
            (λ i m. let b = parent_below t i v m in h.none_at_a_parent i (omega (arith, h.one_a_node)) (children_is t v i b ∙ ap not m));
        total_held = omega (arith, h.total_held, sum_total xs);
      }

  pub counts_embed : counts_taken t xs ≡ counts_hold (embed_tree t) xs
  counts_embed =
      tests_same (counts_taken t xs) (counts_hold (embed_tree t) xs)
      (λ h. accepted_counts (embed_tree t) xs (taken_accepted (taken_facts t xs h)))
      (λ h. facts_taken t xs (accepted_taken (counts_accepted (embed_tree t) xs h)))

  pub counts_length : counts_taken t xs ≡ true → length xs ≡ nodes t
  counts_length h = (taken_facts t xs h).one_a_node
