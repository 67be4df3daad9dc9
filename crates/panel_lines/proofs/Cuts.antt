-- The cut shares and the remainders of a list of counts: what is missing, and that fewer are missing than have a remainder. Assumes nothing.
use mathlib.Core.Path.{◌≡◌, refl, sym, ap, ◌∙◌}
use mathlib.Core.Logic.{⊎_elim}
use mathlib.Core.List.{List, [], ◌∷◌}
use Prim.Native.Nat.{ℕ, zero, suc, ◌+◌, ◌-◌, ◌*◌, ◌<◌, ◌≤◌}
use native.Mathlib.Nat.{add-mul, mod-lt, div-add-mod', le_of_mul-le-mul_right}
use native.Mathlib.Numerals.{add-one}
use native.Mathlib.Omega.{arith}
use borrow.Author.Tests.{lt-ltb, le-ltb}
use lib.Dec.{ltb}
use lib.ListN.{length, get_or, take}
use lib.Seq.{take_all}
use Rattle.rule_tree.specs.Lists.{count_below, total}
use Rattle.rule_tree.proofs.Owners.{below_or_not}
use Rattle.rule_tree.proofs.Lists.{total_take, count_below_le}
use Rattle.panel_lines.specs.Shares.{sum_below, cut_at, remainder_at, missing_among, missing_in}
use Rattle.panel_lines.proofs.Sums.{sum_plus, sum_times, sum_thousand, sum_same, sum_grows}

pub count_below_lem : (xs : List ℕ) (i : ℕ) → get_or xs i 0 ≤ total xs
unfolding total
count_below_lem [] i = omega arith
count_below_lem (x ∷ xs) zero = omega arith
count_below_lem (x ∷ xs) (suc i) = let h = count_below_lem xs i in omega arith

total_part : (xs : List ℕ) (n : ℕ) → n ≤ length xs → total (take n xs) ≡ sum_below n (λ i. get_or xs i 0)
unfolding sum_below total
total_part xs zero l = refl
total_part xs (suc n) l =
    let h = total_part xs n (omega arith) in
    let a = total_take xs n (omega arith) in
    let b = ap (λ (k : ℕ). total (take k xs)) (add-one n) in
    omega arith

pub total_sum : (xs : List ℕ) → total xs ≡ sum_below (length xs) (λ i. get_or xs i 0)
total_sum xs = sym (ap total (take_all (length xs) xs (omega arith))) ∙ total_part xs (length xs) (omega arith)

pub missing_is : (xs : List ℕ) → missing_in xs ≡ 1000 - sum_below (length xs) (cut_at xs)
unfolding missing_among
missing_is xs = refl

module _ (xs : List ℕ) (some : 0 < total xs) where
  pub remainder_below : (i : ℕ) → remainder_at xs i < total xs
  remainder_below i = mod-lt (1000 * get_or xs i 0) some

  pub parted : (i : ℕ) → cut_at xs i * total xs + remainder_at xs i ≡ 1000 * get_or xs i 0
  parted i = div-add-mod' (1000 * get_or xs i 0) (total xs)

  whole : sum_below (length xs) (cut_at xs) * total xs + sum_below (length xs) (remainder_at xs) ≡ 1000 * total xs
  whole =
      let n = length xs in
      let a : sum_below n (λ i. cut_at xs i * total xs) ≡ sum_below n (cut_at xs) * total xs = sum_times n (total xs) (cut_at xs) in
      let b : sum_below n (λ i. cut_at xs i * total xs + remainder_at xs i) ≡ sum_below n (λ i. cut_at xs i * total xs) + sum_below n (remainder_at xs) = sum_plus n (λ i. cut_at xs i * total xs) (remainder_at xs) in
      let c : sum_below n (λ i. cut_at xs i * total xs + remainder_at xs i) ≡ sum_below n (λ i. 1000 * get_or xs i 0) = sum_same n (λ i. cut_at xs i * total xs + remainder_at xs i) (λ i. 1000 * get_or xs i 0) (λ i l. parted i) in
      let d : sum_below n (λ i. 1000 * get_or xs i 0) ≡ 1000 * sum_below n (λ i. get_or xs i 0) = sum_thousand n (λ i. get_or xs i 0) in
      omega (arith, total_sum xs)

  pub cuts_fit : sum_below (length xs) (cut_at xs) ≤ 1000
  cuts_fit = le_of_mul-le-mul_right {m = sum_below (length xs) (cut_at xs)} {n = 1000} {k = total xs} (let h = whole in omega arith) some

  pub cuts_fit_part : (n : ℕ) → n ≤ length xs → sum_below n (cut_at xs) ≤ 1000
  cuts_fit_part n l = let h = cuts_fit in omega (arith, sum_grows (length xs) n (cut_at xs) l)

  remainders : sum_below (length xs) (remainder_at xs) ≡ missing_in xs * total xs
  remainders =
      let a : missing_in xs + sum_below (length xs) (cut_at xs) ≡ 1000 = let h = cuts_fit in let m = missing_is xs in omega arith in
      let b = add-mul (missing_in xs) (sum_below (length xs) (cut_at xs)) (total xs) in
      let c = ap (λ (k : ℕ). k * total xs) a in
      let d = whole in
      omega arith

  -- the remainders are below the total
  remainders_few : (n : ℕ) → sum_below n (remainder_at xs) ≤ count_below n (λ i. ltb 0 (remainder_at xs i)) * total xs
  unfolding sum_below count_below
  remainders_few zero = omega arith
  remainders_few (suc n) =
      let h = remainders_few n in
      let k = count_below n (λ i. ltb 0 (remainder_at xs i)) in
      ⊎_elim
      (λ (p : 0 < remainder_at xs n). rw (lt-ltb 0 (remainder_at xs n) p) (omega (arith, add-mul 1 (count_below n (λ i. ltb 0 (remainder_at xs i))) (total xs), remainder_below n)))
      (λ (p : remainder_at xs n ≤ 0). rw (le-ltb 0 (remainder_at xs n) p) (omega (arith, add-mul 0 (count_below n (λ i. ltb 0 (remainder_at xs i))) (total xs))))
      (below_or_not 0 (remainder_at xs n))

  -- "The thousandths missing" are at most as many as there are remainders above 0
  pub missing_few : missing_in xs ≤ count_below (length xs) (λ i. ltb 0 (remainder_at xs i))
  missing_few =
      le_of_mul-le-mul_right {m = missing_in xs} {n = count_below (length xs) (λ i. ltb 0 (remainder_at xs i))} {k = total xs}
      (let a = remainders in let b = remainders_few (length xs) in omega arith) some

  pub missing_below : missing_in xs ≤ length xs
  missing_below = let a = missing_few in omega (arith, count_below_le (length xs) (λ i. ltb 0 (remainder_at xs i)))
