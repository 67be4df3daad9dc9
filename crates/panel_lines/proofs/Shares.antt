-- 02, request 5: "keepers now expect the column to close at 1000". What the shares of a list of counts are. Assumes nothing.
use mathlib.Core.Path.{◌≡◌, refl, sym, ap, ◌∙◌}
use mathlib.Core.Bool.{Bool, true, false, ◌&&◌, cond}
use mathlib.Core.Logic.{⊎_elim, ◌⊎◌, inl, inr}
use mathlib.Core.List.{List, [], ◌∷◌}
use Prim.Native.Nat.{ℕ, ◌+◌, ◌-◌, ◌*◌, ◌/◌, ◌%◌, ◌<◌, ◌≤◌}
use native.Mathlib.Nat.{eq-or-lt_of_le, le-div_iff_mul-le, div-le_of_le-mul, zero-div}
use native.Mathlib.Omega.{arith}
use borrow.Author.Tests.{lt-ltb, le-ltb, eq-eqb, ne_eqb, ltb-true}
use lib.Dec.{ltb}
use lib.ListN.{length, get_or}
use Rattle.rule_tree.specs.Lists.{count_below, total}
use Rattle.rule_tree.proofs.Owners.{below_or_not}
use Rattle.rule_tree.proofs.Lists.{count_below_same}
use Rattle.panel_lines.specs.Shares.{sum_below, cut_at, remainder_at, missing_among, missing_in, ahead, rank_among, rank_in, every_entry, share_among, share_in}
use Rattle.panel_lines.proofs.Sums.{sum_plus, sum_same, count_sum, count_le}
use Rattle.panel_lines.proofs.Cuts.{count_below_lem, parted, cuts_fit, missing_is, missing_few, missing_below}
use Rattle.panel_lines.proofs.Ranks.{ahead_larger, ahead_lower, ahead_smaller, rank_before, ranks_below}

-- "With total 0 all remain 0"
pub share_of_nothing : (leaf : ℕ → Bool) (xs : List ℕ) (i : ℕ) → total xs ≡ 0 → share_among leaf xs i ≡ 0
unfolding share_among
share_of_nothing leaf xs i e = rw (eq-eqb (total xs) 0 e)

-- one more, or none
pub more : ℕ → ℕ → ℕ
more rank missing = cond (ltb rank missing) 1 0

pub more_yes : (r m : ℕ) → r < m → more r m ≡ 1
unfolding more
more_yes r m l = rw (lt-ltb r m l)

pub more_no : (r m : ℕ) → m ≤ r → more r m ≡ 0
unfolding more
more_no r m l = rw (le-ltb r m l)

more_falls : (r s m : ℕ) → s < r → more r m ≤ more s m
more_falls r s m l =
    ⊎_elim (λ (p : r < m). omega (arith, more_yes r m p, more_yes s m (omega arith))) (λ (p : m ≤ r). omega (arith, more_no r m p)) (below_or_not r m)

more_most : (r m : ℕ) → more r m ≤ 1
more_most r m = ⊎_elim (λ (p : r < m). omega (arith, more_yes r m p)) (λ (p : m ≤ r). omega (arith, more_no r m p)) (below_or_not r m)

module _ (xs : List ℕ) (some : 0 < total xs) where
  pub share_is : (leaf : ℕ → Bool) (i : ℕ) → share_among leaf xs i ≡ cut_at xs i + more (rank_among leaf xs i) (missing_among leaf xs)
  unfolding share_among more
  share_is leaf i = rw (ne_eqb (total xs) 0 (λ e. absurd (omega arith)))

  -- "Each share is cut to whole as before", or one more
  pub cut_or_one_more : (leaf : ℕ → Bool) (i : ℕ) → (share_among leaf xs i ≡ cut_at xs i) ⊎ (share_among leaf xs i ≡ cut_at xs i + 1)
  cut_or_one_more leaf i =
      let e = share_is leaf i in
      ⊎_elim
      (λ (p : rank_among leaf xs i < missing_among leaf xs). inr (omega (arith, more_yes (rank_among leaf xs i) (missing_among leaf xs) p)))
      (λ (p : missing_among leaf xs ≤ rank_among leaf xs i). inl (omega (arith, more_no (rank_among leaf xs i) (missing_among leaf xs) p)))
      (below_or_not (rank_among leaf xs i) (missing_among leaf xs))

  mores : sum_below (length xs) (λ i. more (rank_in xs i) (missing_in xs)) ≡ missing_in xs
  unfolding more
  mores = sym (count_sum (length xs) (λ i. ltb (rank_in xs i) (missing_in xs))) ∙ ranks_below (remainder_at xs) (length xs) (missing_in xs) (missing_below xs some)

  -- "the column to close at 1000"
  pub entries_whole : sum_below (length xs) (share_in xs) ≡ 1000
  entries_whole =
      let n = length xs in
      let a : sum_below n (share_in xs) ≡ sum_below n (λ i. cut_at xs i + more (rank_in xs i) (missing_in xs)) = sum_same n (share_in xs) (λ i. cut_at xs i + more (rank_in xs i) (missing_in xs)) (λ i l. share_is every_entry i) in
      let b : sum_below n (λ i. cut_at xs i + more (rank_in xs i) (missing_in xs)) ≡ sum_below n (cut_at xs) + sum_below n (λ i. more (rank_in xs i) (missing_in xs)) = sum_plus n (cut_at xs) (λ i. more (rank_in xs i) (missing_in xs)) in
      omega (arith, mores, missing_is xs, cuts_fit xs some)

  -- a greater count never has a smaller share
  pub entries_rise : (i j : ℕ) → j < length xs → get_or xs i 0 < get_or xs j 0 → share_in xs i ≤ share_in xs j
  entries_rise i j l h =
      let a = share_is every_entry i in
      let b = share_is every_entry j in
      let c : cut_at xs i ≤ cut_at xs j = (le-div_iff_mul-le some).1 (omega (arith, parted xs some i)) in
      ⊎_elim
      (λ (e : cut_at xs i ≡ cut_at xs j).
      let p : cut_at xs i * total xs ≡ cut_at xs j * total xs = ap (λ (q : ℕ). q * total xs) e in
      let q : remainder_at xs i < remainder_at xs j = omega (arith, parted xs some i, parted xs some j) in
      omega (arith, more_falls (rank_in xs i) (rank_in xs j) (missing_in xs) (rank_before (remainder_at xs) (length xs) i j l (ahead_larger (remainder_at xs) i j q))))
      (λ (e : cut_at xs i < cut_at xs j). omega (arith, more_most (rank_in xs i) (missing_in xs)))
      (eq-or-lt_of_le c)

  -- "ties to the lower node": of two like counts the lower node's share is never the smaller
  pub entries_tie : (i j : ℕ) → j < length xs → get_or xs i 0 ≡ get_or xs j 0 → j < i → share_in xs i ≤ share_in xs j
  entries_tie i j l e h =
      let a = share_is every_entry i in
      let b = share_is every_entry j in
      let c : cut_at xs j ≡ cut_at xs i = ap (λ (x : ℕ). 1000 * x / total xs) (sym e) in
      let d : remainder_at xs j ≡ remainder_at xs i = ap (λ (x : ℕ). 1000 * x % total xs) (sym e) in
      omega (arith, more_falls (rank_in xs i) (rank_in xs j) (missing_in xs) (rank_before (remainder_at xs) (length xs) i j l (ahead_lower (remainder_at xs) i j d h)))

  -- ---- a parent's 0
  no_remainder : (i : ℕ) → get_or xs i 0 ≡ 0 → remainder_at xs i ≡ 0
  no_remainder i e = omega (arith, parted xs some i)

  none_cut : (i : ℕ) → get_or xs i 0 ≡ 0 → cut_at xs i ≡ 0
  none_cut i e = let a : 1000 * get_or xs i 0 ≡ 0 = omega arith in ap (λ (k : ℕ). k / total xs) a ∙ zero-div (total xs)

  none_more_in : (i : ℕ) → remainder_at xs i ≡ 0 → more (rank_in xs i) (missing_in xs) ≡ 0
  none_more_in i e =
      more_no (rank_in xs i) (missing_in xs)
      (let a = missing_few xs some in
      let b : count_below (length xs) (λ j. ltb 0 (remainder_at xs j)) ≤ rank_in xs i =
      count_le (length xs) (λ j. ltb 0 (remainder_at xs j)) (λ j. ahead (remainder_at xs) i j)
      (λ j l h. let p : 0 < remainder_at xs j = ltb-true 0 (remainder_at xs j) h in ahead_larger (remainder_at xs) i j (omega arith)) in
      omega arith)

  none_share : (i : ℕ) → get_or xs i 0 ≡ 0 → share_in xs i ≡ 0
  none_share i e = omega (arith, share_is every_entry i, none_cut i e, none_more_in i (no_remainder i e))

  module _ (leaf : ℕ → Bool) (parents : (i : ℕ) → leaf i ≡ false → get_or xs i 0 ≡ 0) where
    with_remainder : (j : ℕ) (b : Bool) → leaf j ≡ b → 0 < remainder_at xs j → leaf j ≡ true
    with_remainder j true e h = e
    with_remainder j false e h = absurd (omega (arith, no_remainder j (parents j e)))

    -- an entry with no remainder gets none: as many as are missing have one
    none_more : (i : ℕ) → remainder_at xs i ≡ 0 → more (rank_among leaf xs i) (missing_in xs) ≡ 0
    none_more i e =
        more_no (rank_among leaf xs i) (missing_in xs)
        (let a = missing_few xs some in
        let b : count_below (length xs) (λ j. ltb 0 (remainder_at xs j)) ≤ rank_among leaf xs i =
        count_le (length xs) (λ j. ltb 0 (remainder_at xs j)) (λ j. leaf j && ahead (remainder_at xs) i j)
        (λ j l h.
        let p : 0 < remainder_at xs j = ltb-true 0 (remainder_at xs j) h in
        rw (with_remainder j (leaf j) refl p) (ahead_larger (remainder_at xs) i j (omega arith))) in
        omega arith)

    pub missing_same : missing_among leaf xs ≡ missing_in xs
    unfolding missing_among
    missing_same =
        ap (λ (k : ℕ). 1000 - k) (sum_same (length xs) (λ i. cond (leaf i) (cut_at xs i) 0) (cut_at xs) (λ i l. by i (leaf i) refl))
      where
        by : (i : ℕ) (b : Bool) → leaf i ≡ b → cond b (cut_at xs i) 0 ≡ cut_at xs i
        by i true e = refl
        by i false e = sym (none_cut i (parents i e))

    same_rank : (i : ℕ) → 0 < remainder_at xs i → rank_among leaf xs i ≡ rank_in xs i
    same_rank i h = count_below_same (length xs) (λ j. leaf j && ahead (remainder_at xs) i j) (λ j. ahead (remainder_at xs) i j) (λ j l. by j (leaf j) refl)
      where
        by : (j : ℕ) (b : Bool) → leaf j ≡ b → leaf j && ahead (remainder_at xs) i j ≡ ahead (remainder_at xs) i j
        by j true e = rw e
        by j false e = rw e (sym (ahead_smaller (remainder_at xs) i j (omega (arith, no_remainder j (parents j e)))))

    pub among_some : (i : ℕ) → share_among leaf xs i ≡ share_in xs i
    among_some i =
        let a = share_is leaf i ∙ ap (λ (m : ℕ). cut_at xs i + more (rank_among leaf xs i) m) missing_same in
        let b = share_is every_entry i in
        ⊎_elim
        (λ (p : 0 < remainder_at xs i). let e = ap (λ (r : ℕ). more r (missing_in xs)) (same_rank i p) in omega arith)
        (λ (p : remainder_at xs i ≤ 0). omega (arith, none_more i (omega arith), none_more_in i (omega arith)))
        (below_or_not 0 (remainder_at xs i))

    -- "the column to close at 1000": the leaves' shares add up
    pub shares_whole : sum_below (length xs) (λ i. cond (leaf i) (share_among leaf xs i) 0) ≡ 1000
    shares_whole =
        sum_same (length xs) (λ i. cond (leaf i) (share_among leaf xs i) 0) (share_in xs) (λ i l. by i (leaf i) refl) ∙ entries_whole
      where
        by : (i : ℕ) (b : Bool) → leaf i ≡ b → cond b (share_among leaf xs i) 0 ≡ share_in xs i
        by i true e = among_some i
        by i false e = sym (none_share i (parents i e))

    -- "a greater count never has a smaller share"
    pub shares_rise : (i j : ℕ) → j < length xs → get_or xs i 0 < get_or xs j 0 → share_among leaf xs i ≤ share_among leaf xs j
    shares_rise i j l h = omega (arith, among_some i, among_some j, entries_rise i j l h)

    pub shares_tie : (i j : ℕ) → j < length xs → get_or xs i 0 ≡ get_or xs j 0 → j < i → share_among leaf xs i ≤ share_among leaf xs j
    shares_tie i j l e h = omega (arith, among_some i, among_some j, entries_tie i j l e h)

-- whatever the leaves and the counts
pub share_few : (leaf : ℕ → Bool) (xs : List ℕ) (i : ℕ) → share_among leaf xs i ≤ 1001
share_few leaf xs i =
    ⊎_elim
    (λ (p : 0 < total xs).
    let c : cut_at xs i ≤ 1000 = div-le_of_le-mul (total xs) (omega (arith, count_below_lem xs i)) in
    omega (arith, share_is xs p leaf i, more_most (rank_among leaf xs i) (missing_among leaf xs)))
    (λ (p : total xs ≤ 0). omega (arith, share_of_nothing leaf xs i (omega arith)))
    (below_or_not 0 (total xs))

-- what the code counts is the leaves' share, whatever the total
pub among_leaves : (leaf : ℕ → Bool) (xs : List ℕ) → ((i : ℕ) → leaf i ≡ false → get_or xs i 0 ≡ 0) → (i : ℕ) → share_among leaf xs i ≡ share_in xs i
among_leaves leaf xs parents i =
    ⊎_elim (λ (p : 0 < total xs). among_some xs p leaf parents i)
    (λ (p : total xs ≤ 0). share_of_nothing leaf xs i (omega arith) ∙ sym (share_of_nothing every_entry xs i (omega arith)))
    (below_or_not 0 (total xs))

-- an entry that was not used has none
pub none_of_none : (xs : List ℕ) (i : ℕ) → get_or xs i 0 ≡ 0 → share_in xs i ≡ 0
none_of_none xs i e =
    ⊎_elim (λ (p : 0 < total xs). none_share xs p i e) (λ (p : total xs ≤ 0). share_of_nothing every_entry xs i (omega arith)) (below_or_not 0 (total xs))

-- three leaves used alike
pub three_alike : (share_in (1 ∷ 1 ∷ 1 ∷ []) 0 ≡ 334) × (share_in (1 ∷ 1 ∷ 1 ∷ []) 1 ≡ 333) × (share_in (1 ∷ 1 ∷ 1 ∷ []) 2 ≡ 333)
unfolding share_among count_below total
three_alike = (refl, refl, refl)
