-- The ways through the shares. Assumes nothing.
use mathlib.Core.Path.{◌≡◌, refl, sym, ap, subst, ◌∙◌}
use mathlib.Core.Bool.{Bool, true, false, ◌&&◌, ◌||◌}
use mathlib.Core.List.{List}
use Prim.Native.Nat.{ℕ, ◌+◌, ◌-◌, ◌*◌, ◌/◌, ◌%◌, ◌<◌, ◌≤◌}
use native.Mathlib.Nat.{div-le_of_le-mul}
use native.Mathlib.Numerals.{add-one}
use native.Mathlib.Omega.{arith}
use lib.Dec.{eqb, ltb}
use lib.ListN.{length, get_or, take, replicate}
use Rattle.rule_tree.specs.Lists.{count_below, tabulate, total}
use Rattle.rule_tree.proofs.Lists.{count_below_yes, count_below_no, length_tabulate, get_d_tabulate, count_below_same}
use Rattle.panel_lines.specs.Shares.{sum_below, cut_at, remainder_at, missing_in, ahead, every_entry, rank_in, rank_of, share_in, Totalled, Some, Entry}
use Rattle.panel_lines.proofs.Filling.{filled_zeros}
use Rattle.panel_lines.proofs.Cuts.{count_below_lem, missing_is, cuts_fit_part}
use Rattle.panel_lines.proofs.Shares.{more_yes, more_no, share_is, share_of_nothing}

-- 1000 × 2^53 fits 64 bits
pub product_fits : (xs : List ℕ) (all i : ℕ) → Totalled xs all → 1000 * get_or xs i 0 < 18446744073709551616
product_fits xs all i t = omega (arith, count_below_lem xs i, t.sum, t.held)

-- ---- missing_of
sum_more : (i : ℕ) (f : ℕ → ℕ) → sum_below (i + 1) f ≡ f i + sum_below i f
unfolding sum_below
sum_more i f = rw (add-one i)

pub missing_start : (xs : List ℕ) → 1000 + sum_below 0 (cut_at xs) ≡ 1000
unfolding sum_below
missing_start xs = refl

module _ (xs : List ℕ) (all : ℕ) (c : Some xs all) where
  some : 0 < total xs
  some = subst (λ (k : ℕ). 0 < k) c.totalled.sum c.some

  cut_is : (i : ℕ) → 1000 * get_or xs i 0 / all ≡ cut_at xs i
  cut_is i = ap (λ (k : ℕ). 1000 * get_or xs i 0 / k) c.totalled.sum

  module _ (i m : ℕ) (e : m + sum_below i (cut_at xs) ≡ 1000) where
    pub missing_room : i < length xs → 1000 * get_or xs i 0 / all ≤ m
    missing_room l = omega (arith, cut_is i, sum_more i (cut_at xs), cuts_fit_part xs some (i + 1) (omega arith))

    pub missing_turn : i < length xs → (m - 1000 * get_or xs i 0 / all) + sum_below (i + 1) (cut_at xs) ≡ 1000
    missing_turn l = omega (arith, cut_is i, sum_more i (cut_at xs), cuts_fit_part xs some (i + 1) (omega arith))

    pub missing_done : i ≤ length xs → length xs ≤ i → m ≡ missing_in xs
    missing_done l g =
        let p : i ≡ length xs = omega arith in
        let q : m + sum_below (length xs) (cut_at xs) ≡ 1000 = subst (λ (k : ℕ). m + sum_below k (cut_at xs) ≡ 1000) p e in
        omega (arith, missing_is xs)

-- ---- rank_of
module _ (rs : List ℕ) (i : ℕ) where
  abbrev pub ahead_of : ℕ → Bool
  ahead_of j = ahead (λ k. get_or rs k 0) i j

  pub rank_start : 0 ≡ count_below 0 ahead_of
  unfolding count_below
  rank_start = refl

  pub rank_done : (j n : ℕ) → j ≤ length rs → length rs ≤ j → n ≡ count_below j ahead_of → n ≡ rank_of rs i
  rank_done j n l g e = let p : j ≡ length rs = omega arith in subst (λ (k : ℕ). n ≡ count_below k ahead_of) p e

  module _ (j n : ℕ) (h : n ≡ count_below j ahead_of) (r : Bool) (e : r ≡ (ltb (get_or rs i 0) (get_or rs j 0) || (eqb (get_or rs j 0) (get_or rs i 0) && ltb j i))) where
    tested : ahead_of j ≡ r
    unfolding ahead
    tested = sym e

    pub rank_yes : r ≡ true → n + 1 ≡ count_below (j + 1) ahead_of
    rank_yes q = let a = count_below_yes j ahead_of (tested ∙ q) in omega arith

    pub rank_no : r ≡ false → n ≡ count_below (j + 1) ahead_of
    rank_no q = let a = count_below_no j ahead_of (tested ∙ q) in omega arith

-- the rank goes by the remainders alone
ahead_same : (f g : ℕ → ℕ) (i j : ℕ) → f i ≡ g i → f j ≡ g j → ahead f i j ≡ ahead g i j
unfolding ahead
ahead_same f g i j p q = rw (p, q)

pub rank_is : (xs rs : List ℕ) (i : ℕ) → i < length xs → rs ≡ tabulate (length xs) (remainder_at xs) → rank_of rs i ≡ rank_in xs i
rank_is xs rs i l e =
    let n = length xs in
    let read : (j : ℕ) → j < n → get_or rs j 0 ≡ remainder_at xs j = λ j m. ap (λ (r : List ℕ). get_or r j 0) e ∙ get_d_tabulate n j (remainder_at xs) 0 m in
    ap (λ (k : ℕ). count_below k (λ j. ahead (λ m. get_or rs m 0) i j)) (ap length e ∙ length_tabulate n (remainder_at xs))
    ∙ count_below_same n (λ j. ahead (λ k. get_or rs k 0) i j) (λ j. ahead (remainder_at xs) i j)
    (λ j m. ahead_same (λ k. get_or rs k 0) (remainder_at xs) i j (read i l) (read j m))

-- ---- remainders_of
pub remainder_is : (xs : List ℕ) (all j : ℕ) → Totalled xs all → 1000 * get_or xs j 0 % all ≡ remainder_at xs j
remainder_is xs all j t = ap (λ (k : ℕ). 1000 * get_or xs j 0 % k) t.sum

-- ---- share_at
module _ (xs : List ℕ) (all : ℕ) (rs : List ℕ) (missing i : ℕ) (t : Entry xs all rs missing i) where
  pub entry_ranked : (length rs ≤ 513) × (i < length rs)
  entry_ranked =
      let l = ap length t.left ∙ length_tabulate (length xs) (remainder_at xs) in
      (omega (arith, t.counts.totalled.few), omega (arith, t.inside))

  module _ (r : ℕ) (e : r ≡ rank_of rs i) where
    pub share_more : r < missing → 1000 * get_or xs i 0 / all + 1 ≡ share_in xs i
    share_more l =
        let a = more_yes (rank_in xs i) (missing_in xs) (omega (arith, t.lacking, rank_is xs rs i t.inside t.left)) in
        omega (arith, cut_is xs all t.counts i, share_is xs (some xs all t.counts) every_entry i)

    pub share_cut : missing ≤ r → 1000 * get_or xs i 0 / all ≡ share_in xs i
    share_cut l =
        let a = more_no (rank_in xs i) (missing_in xs) (omega (arith, t.lacking, rank_is xs rs i t.inside t.left)) in
        omega (arith, cut_is xs all t.counts i, share_is xs (some xs all t.counts) every_entry i)

pub share_room : (xs : List ℕ) (all i : ℕ) → Totalled xs all → 1000 * get_or xs i 0 / all ≤ 1000
share_room xs all i t = div-le_of_le-mul all (let h = count_below_lem xs i in omega (arith, t.sum))

-- ---- shares_of
pub shares_none : (xs : List ℕ) (all : ℕ) → Totalled xs all → all ≡ 0 → take (length xs) (replicate 513 0) ≡ tabulate (length xs) (share_in xs)
shares_none xs all t z = filled_zeros (share_in xs) (λ i. share_of_nothing every_entry xs i (sym t.sum ∙ z)) 513 (length xs) t.few
