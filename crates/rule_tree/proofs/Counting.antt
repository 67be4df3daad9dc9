-- Counts: what each turn of the loops over them adds, and what the most used leaf and an accepted list of counts are. Assumes nothing.
use mathlib.Core.Path.{◌≡◌, refl, sym, ap, subst, ◌∙◌}
use mathlib.Core.Bool.{Bool, true, false, not, ◌||◌, cond}
use mathlib.Core.Logic.{⊎_elim}
use mathlib.Core.List.{List}
use Prim.Native.Nat.{ℕ, zero, suc, ◌+◌, ◌-◌, ◌<◌, ◌≤◌}
use native.Mathlib.Nat.{eq-or-lt_of_le}
use native.Mathlib.Numerals.{add-one}
use native.Mathlib.Omega.{arith}
use borrow.Author.Tests.{le-leb, lt-leb, eq-eqb, eqb-true, leb-true, leb-false, not-true}
use lib.Dec.{eqb, leb}
use lib.ListN.{length, get_or, take}
use Rattle.rule_tree.specs.declared.Node.{Node}
use Rattle.rule_tree.specs.declared.RuleTree.{RuleTree}
use Rattle.std.specs.Prelude.{Option, Some, None}
use Rattle.rule_tree.specs.Lists.{total}
use Rattle.rule_tree.specs.Nodes.{node_at_of, is_leaf_of, node_count}
use Rattle.rule_tree.specs.Counts.{limit, capped_total, none_at_parents, counts_hold, eligible, better, most_used}
pub use Rattle.rule_tree.proofs.Lists.{and_left, and_right, and_both}
use Rattle.rule_tree.proofs.Lists.{all_below_at, all_below_all, total_take, total_take_le}

-- ---- the total, up to the limit
pub capped_over : (xs : List ℕ) (i s : ℕ) → i < length xs → s ≡ total (take i xs) → 9007199254740992 - s < get_or xs i 0 → 9007199254740993 ≡ capped_total xs
capped_over xs i s l e h = let a = total_take xs i l in let b = total_take_le xs (i + 1) in omega arith

pub capped_more : (xs : List ℕ) (i s : ℕ) → i < length xs → s ≡ total (take i xs) → s + get_or xs i 0 ≡ total (take (i + 1) xs)
capped_more xs i s l e = omega (arith, total_take xs i l)

-- ---- the most used so far, as the loop holds it
-- the count of the leaf that was chosen, 0 where none was
unfoldable pub count_at : List ℕ → Option ℕ → ℕ
count_at xs (Some b) = get_or xs b 0
count_at xs None = 0

pub record Holding (nodes : List Node) (xs : List ℕ) (u : Bool) (i : ℕ) (best : Option ℕ) (most : ℕ) : Type 0 where
  pub chosen : best ≡ most_used nodes xs u i
  pub count : most ≡ count_at xs best

module _ (nodes : List Node) (xs : List ℕ) (u : Bool) where
  pub holding_none : Holding nodes xs u 0 None 0
  unfolding most_used count_at
  holding_none = record { chosen = refl; count = refl }

  module _ (i : ℕ) (best : Option ℕ) (most : ℕ) (h : Holding nodes xs u i best most) where
    pub holding_skip : eligible (node_at_of nodes i) u ≡ false → Holding nodes xs u (i + 1) best most
    unfolding most_used
    holding_skip e = record { chosen = rw (add-one i, e) h.chosen; count = h.count }

    pub holding_taken : eligible (node_at_of nodes i) u ≡ true → most ≤ get_or xs i 0 → Holding nodes xs u (i + 1) (Some i) (get_or xs i 0)
    unfolding most_used count_at better
    holding_taken e l = record { chosen = rw (add-one i, e, ← h.chosen) (go best h.count); count = refl }
      where
        go : (m : Option ℕ) → most ≡ count_at xs m → Some i ≡ better xs i m
        go (Some b) c = rw (le-leb (get_or xs b 0) (get_or xs i 0) (omega arith))
        go None c = refl

    pub holding_kept : eligible (node_at_of nodes i) u ≡ true → get_or xs i 0 < most → Holding nodes xs u (i + 1) best most
    unfolding most_used count_at better
    holding_kept e l = record { chosen = rw (add-one i, e, ← h.chosen) (go best h.count); count = h.count }
      where
        go : (m : Option ℕ) → most ≡ count_at xs m → m ≡ better xs i m
        go (Some b) c = rw (lt-leb (get_or xs b 0) (get_or xs i 0) (omega arith))
        go None c = absurd (omega arith)

-- ---- an accepted list of counts
-- what an accepted list is, clause by clause of refusal 4
pub record Accepted (t : RuleTree) (xs : List ℕ) : Type 0 where
  pub one_a_node : length xs ≡ node_count t.splits
  pub none_at_a_parent : (i : ℕ) → i < length xs → is_leaf_of t.nodes i ≡ false → get_or xs i 0 ≡ 0
  pub total_held : total xs ≤ limit

or_right : (a b : Bool) → a || b ≡ true → a ≡ false → b ≡ true
or_right true b h e = absurd (let z : ◌≡◌ {A = ℕ} 0 1 = cc in omega arith)
or_right false b h e = h

pub counts_accepted : (t : RuleTree) (xs : List ℕ) → counts_hold t xs ≡ true → Accepted t xs
unfolding counts_hold
counts_accepted t xs h =
    let rest = and_right (eqb (length xs) (node_count t.splits)) _ h in
    record {
      one_a_node = eqb-true _ _ (and_left _ _ h);
      none_at_a_parent =
          λ i l p. eqb-true _ _ (or_right (is_leaf_of t.nodes i) _ (all_below_at (length xs) i _ (and_left (none_at_parents t.nodes xs (length xs)) _ rest) l) p);
      total_held = omega (arith, leb-true (capped_total xs) limit (and_right (none_at_parents t.nodes xs (length xs)) _ rest));
    }

or_one : (a b : Bool) → (a ≡ false → b ≡ true) → a || b ≡ true
or_one true b h = refl
or_one false b h = h refl

pub accepted_counts : (t : RuleTree) (xs : List ℕ) → Accepted t xs → counts_hold t xs ≡ true
unfolding counts_hold
accepted_counts t xs a =
    and_both _ _ (eq-eqb _ _ a.one_a_node)
    (and_both _ _ (all_below_all (length xs) _ (λ i l. or_one (is_leaf_of t.nodes i) _ (λ p. eq-eqb _ 0 (a.none_at_a_parent i l p))))
    (le-leb (capped_total xs) limit (omega (arith, a.total_held))))

-- ---- "greatest count, ties to the highest node"
-- b is the most used among the first n nodes
pub record MostUsed (nodes : List Node) (xs : List ℕ) (u : Bool) (n b : ℕ) : Type 0 where
  pub below : b < n
  pub asked : eligible (node_at_of nodes b) u ≡ true
  pub greatest : (i : ℕ) → i < n → eligible (node_at_of nodes i) u ≡ true → get_or xs i 0 ≤ get_or xs b 0
  pub highest : (i : ℕ) → i < n → eligible (node_at_of nodes i) u ≡ true → get_or xs i 0 ≡ get_or xs b 0 → i ≤ b

abbrev pub Says : List Node → List ℕ → Bool → ℕ → Option ℕ → Type 0
Says nodes xs u n (Some b) = MostUsed nodes xs u n b
Says nodes xs u n None = (i : ℕ) → i < n → eligible (node_at_of nodes i) u ≡ false

module _ (nodes : List Node) (xs : List ℕ) (u : Bool) where
  abbrev asks : ℕ → Bool
  asks i = eligible (node_at_of nodes i) u

  true_is : (b : Bool) → b ≡ false → b ≡ true → ⊥
  true_is b p q = let z : ◌≡◌ {A = ℕ} 0 1 = cc in omega arith

  -- a node that is not asked for changes nothing
  says_skip : (n : ℕ) (m : Option ℕ) → asks n ≡ false → Says nodes xs u n m → Says nodes xs u (suc n) m
  says_skip n (Some b) e h =
      record {
        below = omega (arith, h.below);
        asked = h.asked;
        greatest =
            λ i l a. ⊎_elim (λ (p : i ≡ n). absurd (true_is (asks n) e (subst (λ (k : ℕ). asks k ≡ true) p a))) (λ (q : i < n). h.greatest i q a)
            (eq-or-lt_of_le (omega arith));
        highest =
            λ i l a s. ⊎_elim (λ (p : i ≡ n). absurd (true_is (asks n) e (subst (λ (k : ℕ). asks k ≡ true) p a))) (λ (q : i < n). h.highest i q a s)
            (eq-or-lt_of_le (omega arith));
      }
  says_skip n None e h =
      λ i l. ⊎_elim (λ (p : i ≡ n). subst (λ (k : ℕ). asks k ≡ false) (sym p) e) (λ (q : i < n). h i q) (eq-or-lt_of_le (omega arith))

  -- the newest node, with a count no lower than any before it
  newest : (n : ℕ) → asks n ≡ true → ((i : ℕ) → i < n → asks i ≡ true → get_or xs i 0 ≤ get_or xs n 0) → MostUsed nodes xs u (suc n) n
  newest n e h =
      record {
        below = omega arith;
        asked = e;
        greatest =
            λ i l a. ⊎_elim (λ (p : i ≡ n). omega (arith, ap (λ (k : ℕ). get_or xs k 0) p)) (λ (q : i < n). h i q a) (eq-or-lt_of_le (omega arith));
        highest = λ i l a s. omega arith;
      }

  -- the one chosen before, with a count above the newest node's
  kept : (n b : ℕ) → get_or xs n 0 < get_or xs b 0 → MostUsed nodes xs u n b → MostUsed nodes xs u (suc n) b
  kept n b g h =
      record {
        below = omega (arith, h.below);
        asked = h.asked;
        greatest =
            λ i l a. ⊎_elim (λ (p : i ≡ n). omega (arith, ap (λ (k : ℕ). get_or xs k 0) p)) (λ (q : i < n). h.greatest i q a)
            (eq-or-lt_of_le (omega arith));
        highest =
            λ i l a s. ⊎_elim (λ (p : i ≡ n). absurd (omega (arith, ap (λ (k : ℕ). get_or xs k 0) p))) (λ (q : i < n). h.highest i q a s)
            (eq-or-lt_of_le (omega arith));
      }

  says_better : (n : ℕ) (m : Option ℕ) → asks n ≡ true → Says nodes xs u n m → Says nodes xs u (suc n) (better xs n m)
  unfolding better
  says_better n (Some b) e h = go (leb (get_or xs b 0) (get_or xs n 0)) refl
    where
      go : (t : Bool) → leb (get_or xs b 0) (get_or xs n 0) ≡ t → Says nodes xs u (suc n) (cond t (Some n) (Some b))
      go true p = newest n e (λ i l a. omega (arith, h.greatest i l a, leb-true (get_or xs b 0) (get_or xs n 0) p))
      go false p = kept n b (leb-false (get_or xs b 0) (get_or xs n 0) p) h
  says_better n None e h = newest n e (λ i l a. absurd (true_is (asks i) (h i l) a))

  pub most_used_says : (n : ℕ) → Says nodes xs u n (most_used nodes xs u n)
  unfolding most_used
  most_used_says zero = λ i l. absurd (omega arith)
  most_used_says (suc n) = go (asks n) refl (most_used nodes xs u n) (most_used_says n)
    where
      go : (t : Bool) → asks n ≡ t → (m : Option ℕ) → Says nodes xs u n m → Says nodes xs u (suc n) (cond t (better xs n m) m)
      go true e m h = says_better n m e h
      go false e m h = says_skip n m e h

  pub most_used_leaf : (n b : ℕ) → most_used nodes xs u n ≡ Some b → MostUsed nodes xs u n b
  most_used_leaf n b e = subst (Says nodes xs u n) e (most_used_says n)

  pub most_used_nobody : (n : ℕ) → most_used nodes xs u n ≡ None → (i : ℕ) → i < n → eligible (node_at_of nodes i) u ≡ false
  most_used_nobody n e = subst (Says nodes xs u n) e (most_used_says n)

  -- where one of the first n nodes is asked for, some leaf is the answer
  pub most_used_found : (n i : ℕ) → i < n → eligible (node_at_of nodes i) u ≡ true → (b : ℕ) × (most_used nodes xs u n ≡ Some b)
  most_used_found n i l a = go (most_used nodes xs u n) refl
    where
      go : (m : Option ℕ) → most_used nodes xs u n ≡ m → (b : ℕ) × (most_used nodes xs u n ≡ Some b)
      go (Some b) e = (b, e)
      go None e = absurd (true_is (asks i) (most_used_nobody n e i l) a)

  -- and it is the only node with those three properties
  pub most_used_only : (n b : ℕ) → MostUsed nodes xs u n b → most_used nodes xs u n ≡ Some b
  most_used_only n b h = go (most_used_found n b h.below h.asked)
    where
      go : (a : ℕ) × (most_used nodes xs u n ≡ Some a) → most_used nodes xs u n ≡ Some b
      go r =
          let m = most_used_leaf n r.0 r.1 in
          let x = h.greatest r.0 m.below m.asked in
          let y = m.greatest b h.below h.asked in
          let p : get_or xs r.0 0 ≡ get_or xs b 0 = omega arith in
          let v = h.highest r.0 m.below m.asked p in
          let w = m.highest b h.below h.asked (sym p) in
          let q : r.0 ≡ b = omega arith in
          r.1 ∙ ap Some q

-- marked leaves count too where all leaves are asked for, so a tree with a leaf has an answer
pub any_leaf : (nodes : List Node) (i : ℕ) → is_leaf_of nodes i ≡ true → eligible (node_at_of nodes i) false ≡ true
unfolding eligible
any_leaf nodes i h = rw h

pub most_used_of_leaves : (nodes : List Node) (xs : List ℕ) (n i : ℕ) → i < n → is_leaf_of nodes i ≡ true → most_used nodes xs false n ≡ None → ⊥
most_used_of_leaves nodes xs n i l h e =
    let z : ◌≡◌ {A = Bool} true false = sym (any_leaf nodes i h) ∙ most_used_nobody nodes xs false n e i l in
    let w : ◌≡◌ {A = ℕ} 0 1 = cc in
    omega arith

pub eligible_leaf : (x : Node) (u : Bool) → eligible x u ≡ true → x.children ≡ 0
unfolding eligible
eligible_leaf x u h = eqb-true _ 0 (and_left _ _ h)

pub eligible_plain : (x : Node) → eligible x true ≡ true → x.optimized ≡ false
unfolding eligible
eligible_plain x h = not-true x.optimized (and_right (eqb x.children 0) (not x.optimized) h)

pub eligible_from : (x : Node) (u : Bool) → x.children ≡ 0 → x.optimized ≡ false → eligible x u ≡ true
unfolding eligible
eligible_from x true e m = rw (eq-eqb _ 0 e, m)
eligible_from x false e m = rw (eq-eqb _ 0 e)
