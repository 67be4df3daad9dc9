-- Who comes before whom: a strict order in which any two are placed, so that ranks are a one-to-one numbering. Assumes nothing.
use mathlib.Core.Path.{◌≡◌, refl}
use mathlib.Core.Bool.{Bool, true, false, ◌&&◌, ◌||◌, or-true}
use mathlib.Core.Logic.{⊎_elim, ◌⊎◌, inl, inr, ◌≢◌}
use Prim.Native.Nat.{ℕ, ◌<◌, ◌≤◌}
use native.Mathlib.Omega.{arith}
use borrow.Author.Tests.{lt-ltb, le-ltb, eq-eqb, ne_eqb, ltb-true, eqb-true}
use lib.Dec.{eqb, ltb}
use Rattle.rule_tree.specs.Lists.{count_below}
use Rattle.rule_tree.proofs.Owners.{same_or_not, below_or_not}
use Rattle.rule_tree.proofs.Counting.{and_left, and_right}
use Rattle.panel_lines.specs.Shares.{ahead}
use Rattle.panel_lines.proofs.Sums.{count_lt, count_all, exactly}

or_cases : (a b : Bool) → a || b ≡ true → (a ≡ true) ⊎ (b ≡ true)
or_cases true b h = inl refl
or_cases false b h = inr h

always : ℕ → Bool
always i = true

module _ (remainder : ℕ → ℕ) where
  Before : ℕ → ℕ → Type 0
  Before i j = (remainder i < remainder j) ⊎ ((remainder j ≡ remainder i) × (j < i))

  ahead_cases : (i j : ℕ) → ahead remainder i j ≡ true → Before i j
  unfolding ahead Before
  ahead_cases i j h =
      ⊎_elim (λ (p : ltb (remainder i) (remainder j) ≡ true). inl (ltb-true (remainder i) (remainder j) p))
      (λ (p : eqb (remainder j) (remainder i) && ltb j i ≡ true).
      inr (eqb-true (remainder j) (remainder i) (and_left (eqb (remainder j) (remainder i)) (ltb j i) p), ltb-true j i (and_right (eqb (remainder j) (remainder i)) (ltb j i) p)))
      (or_cases (ltb (remainder i) (remainder j)) (eqb (remainder j) (remainder i) && ltb j i) h)

  pub ahead_larger : (i j : ℕ) → remainder i < remainder j → ahead remainder i j ≡ true
  unfolding ahead
  ahead_larger i j h = rw (lt-ltb (remainder i) (remainder j) h)

  pub ahead_lower : (i j : ℕ) → remainder j ≡ remainder i → j < i → ahead remainder i j ≡ true
  unfolding ahead
  ahead_lower i j e h = rw (eq-eqb (remainder j) (remainder i) e, lt-ltb j i h, or-true)

  pub ahead_self : (i : ℕ) → ahead remainder i i ≡ false
  unfolding ahead
  ahead_self i = rw (le-ltb (remainder i) (remainder i) (omega arith), eq-eqb (remainder i) (remainder i) refl, le-ltb i i (omega arith))

  pub ahead_smaller : (i j : ℕ) → remainder j < remainder i → ahead remainder i j ≡ false
  unfolding ahead
  ahead_smaller i j h = rw (le-ltb (remainder i) (remainder j) (omega arith), ne_eqb (remainder j) (remainder i) (λ e. absurd (omega arith)))

  ahead_through : (i j k : ℕ) → ahead remainder i j ≡ true → ahead remainder j k ≡ true → ahead remainder i k ≡ true
  unfolding Before
  ahead_through i j k a b =
      ⊎_elim
      (λ (p : remainder i < remainder j).
      ⊎_elim (λ (q : remainder j < remainder k). ahead_larger i k (omega arith)) (λ (q : (remainder k ≡ remainder j) × (k < j)). ahead_larger i k (omega arith)) (ahead_cases j k b))
      (λ (p : (remainder j ≡ remainder i) × (j < i)).
      ⊎_elim (λ (q : remainder j < remainder k). ahead_larger i k (omega arith)) (λ (q : (remainder k ≡ remainder j) × (k < j)). ahead_lower i k (omega arith) (omega arith)) (ahead_cases j k b))
      (ahead_cases i j a)

  ahead_either : (i j : ℕ) → i ≢ j → (ahead remainder i j ≡ true) ⊎ (ahead remainder j i ≡ true)
  ahead_either i j d =
      ⊎_elim (λ (p : remainder i < remainder j). inl (ahead_larger i j p))
      (λ (p : remainder j ≤ remainder i).
      ⊎_elim (λ (q : remainder j < remainder i). inr (ahead_larger j i q))
      (λ (q : remainder i ≤ remainder j).
      ⊎_elim (λ (r : j < i). inl (ahead_lower i j (omega arith) r))
      (λ (r : i ≤ j). inr (ahead_lower j i (omega arith) (omega arith)))
      (below_or_not j i))
      (below_or_not (remainder j) (remainder i)))
      (below_or_not (remainder i) (remainder j))

  module _ (n : ℕ) where
    abbrev rank : ℕ → ℕ
    rank i = count_below n (λ j. ahead remainder i j)

    rank_inside : (i : ℕ) → i < n → rank i < n
    unfolding always
    rank_inside i l =
        let a = count_lt n (λ j. ahead remainder i j) always i (λ j m h. refl) l (ahead_self i) refl in
        let b = count_all n always (λ j m. refl) in
        omega arith

    -- who comes before i has a lower rank
    pub rank_before : (i j : ℕ) → j < n → ahead remainder i j ≡ true → rank j < rank i
    rank_before i j l h =
        count_lt n (λ k. ahead remainder j k) (λ k. ahead remainder i k) j (λ k m p. ahead_through i j k h p) l (ahead_self j) h

    rank_apart : (i j : ℕ) → i < n → j < n → rank i ≡ rank j → i ≡ j
    rank_apart i j l m e =
        ⊎_elim (λ (p : i ≡ j). p)
        (λ (p : i ≢ j).
        ⊎_elim (λ (q : ahead remainder i j ≡ true). absurd (let r = rank_before i j m q in omega arith))
        (λ (q : ahead remainder j i ≡ true). absurd (let r = rank_before j i l q in omega arith))
        (ahead_either i j p))
        (same_or_not i j)

    -- as many have a rank below m as m says
    pub ranks_below : (m : ℕ) → m ≤ n → count_below n (λ i. ltb (rank i) m) ≡ m
    ranks_below = exactly n rank rank_inside rank_apart
