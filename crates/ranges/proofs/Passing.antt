-- The numbers that pass a test: those and no others, rising; one more number at a time. The library's `filter` has no laws of rising numbers.
-- Assumes nothing.
use mathlib.Core.Path.{◌≡◌, refl, sym, ap, subst, ◌∙◌}
use mathlib.Core.Bool.{Bool, true, false, cond, true≢false}
use mathlib.Core.List.{List, [], ◌∷◌, ◌++◌, append-nil}
use mathlib.Core.Logic.{◌⊎◌, inl, inr, ⊎_elim}
use Prim.Native.Nat.{ℕ, zero, suc, ◌+◌, ◌<◌, ◌≤◌}
use native.Mathlib.Nat.{eq-or-lt_of_le}
use native.Mathlib.Omega.{arith}
use lib.ListN.{length}
use Rattle.ranges.specs.Ranges.{passing}
use Rattle.ranges.specs.Reached.{Listed, Rising}

rising_from : (a b : ℕ) (xs : List ℕ) → a ≤ b → Rising b xs → Rising a xs
rising_from a b [] h k = tt
rising_from a b (x ∷ xs) h k = (omega (arith, k.0), k.1)

module _ (test : ℕ → Bool) where
  pub rising : (n i : ℕ) → Rising i (passing test i n)
  unfolding passing
  rising zero i = tt
  rising (suc n) i = go (test i) (passing test (suc i) n) (rising n (suc i))
    where
      go : (b : Bool) (rest : List ℕ) → Rising (suc i) rest → Rising i (cond b (i ∷ rest) rest)
      go true rest h = (omega arith, h)
      go false rest h = rising_from i (suc i) rest (omega arith) h

  pub listed_passes : (n i k : ℕ) → Listed k (passing test i n) → (i ≤ k) × ((k < i + n) × (test k ≡ true))
  unfolding passing
  listed_passes zero i k h = absurd h
  listed_passes (suc n) i k h =
      go (test i) refl (passing test (suc i) n)
      (λ m. let w = listed_passes n (suc i) k m in (omega (arith, w.0), (omega (arith, w.1.0), w.1.1))) h
    where
      go :
          (b : Bool) → test i ≡ b → (rest : List ℕ) → (Listed k rest → (i ≤ k) × ((k < i + suc n) × (test k ≡ true)))
          → Listed k (cond b (i ∷ rest) rest) → (i ≤ k) × ((k < i + suc n) × (test k ≡ true))
      go true e rest later m = ⊎_elim (λ (z : i ≡ k). (omega arith, (omega arith, subst (λ (j : ℕ). test j ≡ true) z e))) later m
      go false e rest later m = later m

  pub passes_listed : (n i k : ℕ) → i ≤ k → k < i + n → test k ≡ true → Listed k (passing test i n)
  unfolding passing
  passes_listed zero i k a b t = absurd (omega arith)
  passes_listed (suc n) i k a b t =
      go (test i) refl (passing test (suc i) n) (λ l. passes_listed n (suc i) k (omega arith) (omega arith) t) (eq-or-lt_of_le a)
    where
      go : (c : Bool) → test i ≡ c → (rest : List ℕ) → (i < k → Listed k rest) → (i ≡ k) ⊎ (i < k) → Listed k (cond c (i ∷ rest) rest)
      go true e rest later (inl z) = inl z
      go true e rest later (inr l) = inr (later l)
      go false e rest later (inl z) = absurd (true≢false (sym t ∙ subst (λ (j : ℕ). test j ≡ false) z e))
      go false e rest later (inr l) = later l

  pub none_pass : (n i : ℕ) → ((k : ℕ) → i ≤ k → k < i + n → test k ≡ false) → passing test i n ≡ []
  unfolding passing
  none_pass zero i h = refl
  none_pass (suc n) i h = rw (h i (omega arith) (omega arith)) (none_pass n (suc i) (λ k a b. h k (omega arith) (omega arith)))

  pub one_passes : (n i j : ℕ) → i ≤ j → j < i + n → test j ≡ true → ((k : ℕ) → i ≤ k → k < i + n → test k ≡ true → k ≡ j) → passing test i n ≡ j ∷ []
  unfolding passing
  one_passes zero i j a b t h = absurd (omega arith)
  one_passes (suc n) i j a b t h =
      go (test i) refl (λ l. one_passes n (suc i) j (omega arith) (omega arith) t (λ k p q u. h k (omega arith) (omega arith) u)) (eq-or-lt_of_le a)
    where
      fails : (k : ℕ) → (k ≡ j → ⊥) → i ≤ k → k < i + suc n → test k ≡ false
      fails k m a b = back (test k) refl
        where
          back : (c : Bool) → test k ≡ c → c ≡ false
          back true e = absurd (m (h k a b e))
          back false e = refl

      go : (c : Bool) → test i ≡ c → (i < j → passing test (suc i) n ≡ j ∷ []) → (i ≡ j) ⊎ (i < j)
          → cond c (i ∷ passing test (suc i) n) (passing test (suc i) n) ≡ j ∷ []
      go true e later (inl z) =
          ap (λ (rest : List ℕ). i ∷ rest) (none_pass n (suc i) (λ k p q. fails k (λ y. omega (arith, y)) (omega arith) (omega arith)))
          ∙ ap (λ (x : ℕ). x ∷ []) z
      go true e later (inr l) = absurd (let z = h i (omega arith) (omega arith) e in omega arith)
      go false e later (inl z) = absurd (true≢false (sym t ∙ subst (λ (k : ℕ). test k ≡ false) z e))
      go false e later (inr l) = later l

  -- one more number
  longer : (b : Bool) (i : ℕ) (xs ys : List ℕ) → cond b (i ∷ (xs ++ ys)) (xs ++ ys) ≡ cond b (i ∷ xs) xs ++ ys
  longer true i xs ys = refl
  longer false i xs ys = refl

  passing_suc : (n i k : ℕ) → k ≡ i + n → passing test i (suc n) ≡ passing test i n ++ cond (test k) (k ∷ []) []
  unfolding passing
  passing_suc zero i k e = let z : i ≡ k = omega arith in ap (λ (j : ℕ). cond (test j) (j ∷ []) []) z
  passing_suc (suc n) i k e =
      ap (λ (rest : List ℕ). cond (test i) (i ∷ rest) rest) (passing_suc n (suc i) k (omega arith))
      ∙ longer (test i) i (passing test (suc i) n) (cond (test k) (k ∷ []) [])

  pub passing_few : (n i : ℕ) → length (passing test i n) ≤ n
  unfolding passing
  passing_few zero i = omega arith
  passing_few (suc n) i = go (test i) (passing test (suc i) n) (passing_few n (suc i))
    where
      go : (b : Bool) (rest : List ℕ) → length rest ≤ n → length (cond b (i ∷ rest) rest) ≤ suc n
      go true rest h = omega arith
      go false rest h = omega arith

  pub passing_none : passing test 0 0 ≡ []
  unfolding passing
  passing_none = refl

  pub passing_hit : (n : ℕ) → test n ≡ true → passing test 0 (n + 1) ≡ passing test 0 n ++ n ∷ []
  passing_hit n h =
      ap (passing test 0) (let e : n + 1 ≡ suc n = omega arith in e) ∙ passing_suc n 0 n (omega arith)
      ∙ ap (λ (b : Bool). passing test 0 n ++ cond b (n ∷ []) []) h

  pub passing_miss : (n : ℕ) → test n ≡ false → passing test 0 (n + 1) ≡ passing test 0 n
  passing_miss n h =
      ap (passing test 0) (let e : n + 1 ≡ suc n = omega arith in e) ∙ passing_suc n 0 n (omega arith)
      ∙ ap (λ (b : Bool). passing test 0 n ++ cond b (n ∷ []) []) h ∙ append-nil (passing test 0 n)

-- none, one more number, and at most as many as were tested
pub ruleset one_more = (passing_none, passing_hit, passing_miss, passing_few)
