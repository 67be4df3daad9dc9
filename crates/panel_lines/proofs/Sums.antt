-- Sums and counts over the numbers below n, and that a one-to-one numbering takes each number once. Assumes nothing.
use mathlib.Core.Path.{◌≡◌, refl, sym, ap, subst, ◌∙◌}
use mathlib.Core.Bool.{Bool, true, false, cond}
use mathlib.Core.Logic.{⊎_elim, ◌≢◌}
use Prim.Native.Nat.{ℕ, zero, suc, ◌+◌, ◌-◌, ◌*◌, ◌<◌, ◌≤◌}
use native.Mathlib.Nat.{eq-or-lt_of_le, add-mul}
use native.Mathlib.Omega.{arith}
use borrow.Author.Tests.{lt-ltb, le-ltb, eq-eqb, ne_eqb, eqb-true}
use lib.Dec.{eqb, ltb}
use Rattle.std.proofs.lemmas.Bool.{false_from_ne_true}
use Rattle.rule_tree.specs.Lists.{count_below}
use Rattle.rule_tree.proofs.Owners.{same_or_not, below_or_not}
use Rattle.rule_tree.proofs.Lists.{count_below_none}
use Rattle.panel_lines.specs.Shares.{sum_below}

-- ---- sums
pub sum_plus : (n : ℕ) (f g : ℕ → ℕ) → sum_below n (λ i. f i + g i) ≡ sum_below n f + sum_below n g
unfolding sum_below
sum_plus zero f g = omega arith
sum_plus (suc n) f g = let h = sum_plus n f g in omega arith

pub sum_times : (n k : ℕ) (f : ℕ → ℕ) → sum_below n (λ i. f i * k) ≡ sum_below n f * k
unfolding sum_below
sum_times zero k f = omega arith
sum_times (suc n) k f = let h = sum_times n k f in omega (arith, add-mul (f n) (sum_below n f) k)

pub sum_thousand : (n : ℕ) (f : ℕ → ℕ) → sum_below n (λ i. 1000 * f i) ≡ 1000 * sum_below n f
unfolding sum_below
sum_thousand zero f = omega arith
sum_thousand (suc n) f = let h = sum_thousand n f in omega arith

pub sum_same : (n : ℕ) (f g : ℕ → ℕ) → ((i : ℕ) → i < n → f i ≡ g i) → sum_below n f ≡ sum_below n g
unfolding sum_below
sum_same zero f g h = refl
sum_same (suc n) f g h = let a = sum_same n f g (λ i l. h i (omega arith)) in let b = h n (omega arith) in omega arith

pub sum_grows : (n m : ℕ) (f : ℕ → ℕ) → m ≤ n → sum_below m f ≤ sum_below n f
unfolding sum_below
sum_grows zero m f l = let e : m ≡ 0 = omega arith in subst (λ (k : ℕ). sum_below k f ≤ 0) (sym e) (omega arith)
sum_grows (suc n) m f l =
    ⊎_elim (λ (e : m ≡ suc n). subst (λ (k : ℕ). sum_below k f ≤ f n + sum_below n f) (sym e) (omega arith))
    (λ (b : m < suc n). let h = sum_grows n m f (omega arith) in omega arith)
    (eq-or-lt_of_le l)

pub sum_member : (n i : ℕ) (f : ℕ → ℕ) → i < n → f i ≤ sum_below n f
unfolding sum_below
sum_member n i f l = let h = sum_grows n (suc i) f (omega arith) in omega arith

-- ---- counts
pub count_sum : (n : ℕ) (f : ℕ → Bool) → count_below n f ≡ sum_below n (λ i. cond (f i) 1 0)
unfolding count_below sum_below
count_sum zero f = refl
count_sum (suc n) f = let h = count_sum n f in omega arith

pub count_le : (n : ℕ) (f g : ℕ → Bool) → ((i : ℕ) → i < n → f i ≡ true → g i ≡ true) → count_below n f ≤ count_below n g
unfolding count_below
count_le zero f g h = omega arith
count_le (suc n) f g h =
    let a = count_le n f g (λ i l. h i (omega arith)) in
    let b = by (f n) (g n) (h n (omega arith)) in
    omega arith
  where
    by : (s t : Bool) → (s ≡ true → t ≡ true) → cond s 1 0 ≤ cond t 1 0
    by false t h = omega arith
    by true t h = rw (h refl) (omega arith)

pub count_lt : (n : ℕ) (f g : ℕ → Bool) (k : ℕ) → ((i : ℕ) → i < n → f i ≡ true → g i ≡ true) → k < n → f k ≡ false → g k ≡ true → count_below n f < count_below n g
unfolding count_below
count_lt zero f g k h l p q = absurd (omega arith)
count_lt (suc n) f g k h l p q =
    ⊎_elim
    (λ (e : k ≡ n).
    let a = count_le n f g (λ i m. h i (omega arith)) in
    let b = ap {B = ℕ} (λ (t : Bool). cond t 1 0) (subst (λ (m : ℕ). f m ≡ false) e p) in
    let c = ap {B = ℕ} (λ (t : Bool). cond t 1 0) (subst (λ (m : ℕ). g m ≡ true) e q) in
    omega arith)
    (λ (b : k < n).
    let a = count_lt n f g k (λ i m. h i (omega arith)) b p q in
    let c = by (f n) (g n) (h n (omega arith)) in
    omega arith)
    (eq-or-lt_of_le (omega arith))
  where
    by : (s t : Bool) → (s ≡ true → t ≡ true) → cond s 1 0 ≤ cond t 1 0
    by false t h = omega arith
    by true t h = rw (h refl) (omega arith)

pub count_all : (n : ℕ) (f : ℕ → Bool) → ((i : ℕ) → i < n → f i ≡ true) → count_below n f ≡ n
unfolding count_below
count_all zero f h = refl
count_all (suc n) f h =
    let a = count_all n f (λ i l. h i (omega arith)) in
    let b = ap {B = ℕ} (λ (t : Bool). cond t 1 0) (h n (omega arith)) in
    omega arith

count_one : (n : ℕ) (f : ℕ → Bool) → ((i j : ℕ) → i < n → j < n → f i ≡ true → f j ≡ true → i ≡ j) → count_below n f ≤ 1
unfolding count_below
count_one zero f h = omega arith
count_one (suc n) f h =
    by (f n) (count_one n f (λ i j l m. h i j (omega arith) (omega arith)))
    (λ e. count_below_none n f (λ i l. false_from_ne_true (f i) (λ p. absurd (let q = h i n (omega arith) (omega arith) p e in omega arith))))
    refl
  where
    by : (b : Bool) → count_below n f ≤ 1 → (f n ≡ true → count_below n f ≡ 0) → f n ≡ b → cond b 1 0 + count_below n f ≤ 1
    by true a c e = let d = c e in omega arith
    by false a c e = omega arith

-- ---- one more number, of a numbering
next_test : (x m : ℕ) → cond (ltb x (suc m)) 1 0 ≡ cond (ltb x m) 1 0 + cond (eqb x m) 1 0
next_test x m =
    ⊎_elim
    (λ (l : x < m). rw (lt-ltb x (suc m) (omega arith), lt-ltb x m l, ne_eqb x m (λ e. absurd (omega arith))))
    (λ (l : m ≤ x).
    ⊎_elim
    (λ (e : x ≡ m). rw (lt-ltb x (suc m) (omega arith), le-ltb x m l, eq-eqb x m e))
    (λ (e : x ≢ m). rw (le-ltb x (suc m) (omega arith), le-ltb x m l, ne_eqb x m e))
    (same_or_not x m))
    (below_or_not x m)

count_next : (n m : ℕ) (f : ℕ → ℕ) → count_below n (λ i. ltb (f i) (suc m)) ≡ count_below n (λ i. ltb (f i) m) + count_below n (λ i. eqb (f i) m)
unfolding count_below
count_next zero m f = omega arith
count_next (suc n) m f = let h = count_next n m f in omega (arith, next_test (f n) m)

module _ (n : ℕ) (f : ℕ → ℕ) (inside : (i : ℕ) → i < n → f i < n) (apart : (i j : ℕ) → i < n → j < n → f i ≡ f j → i ≡ j) where
  at_most_one : (m : ℕ) → count_below n (λ i. eqb (f i) m) ≤ 1
  at_most_one m = count_one n (λ i. eqb (f i) m) (λ i j l k p q. apart i j l k (eqb-true (f i) m p ∙ sym (eqb-true (f j) m q)))

  at_most : (m : ℕ) → count_below n (λ i. ltb (f i) m) ≤ m
  at_most zero = let h = count_below_none n (λ i. ltb (f i) 0) (λ i l. le-ltb (f i) 0 (omega arith)) in omega arith
  at_most (suc m) = let h = at_most m in omega (arith, count_next n m f, at_most_one m)

  at_least : (d m : ℕ) → m + d ≡ n → n ≤ count_below n (λ i. ltb (f i) m) + d
  at_least zero m e = let h = count_all n (λ i. ltb (f i) m) (λ i l. lt-ltb (f i) m (let b = inside i l in omega arith)) in omega arith
  at_least (suc d) m e = let h = at_least d (suc m) (omega arith) in omega (arith, count_next n m f, at_most_one m)

  -- as many have a number below m as there are such numbers
  pub exactly : (m : ℕ) → m ≤ n → count_below n (λ i. ltb (f i) m) ≡ m
  exactly m l = omega (arith, at_most m, at_least (n - m) m (omega arith))
