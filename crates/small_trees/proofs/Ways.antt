-- What comes after each list, by the way through the code. Assumes nothing.
use mathlib.Core.Path.{◌≡◌, refl, ap, ◌∙◌}
use mathlib.Core.Bool.{true}
use mathlib.Core.List.{List, [], ◌∷◌}
use Prim.Native.Nat.{ℕ, zero, suc, ◌+◌, ◌<◌, ◌≤◌}
use native.Mathlib.Omega.{arith}
use borrow.Author.Tests.{lt-ltb, le-ltb, eq-eqb, ne_eqb}
use lib.ListN.{length, get_or}
use Rattle.std.specs.Prelude.{Some, None, Ok, Err}
use Rattle.std.proofs.lemmas.Bool.{false_from_ne_true}
use Rattle.refusal.specs.declared.Refusal.TheVariants.{NoSplitList}
use Rattle.small_trees.specs.Lists.{is_growth}
use Rattle.small_trees.specs.Calls.{next_of}
use Rattle.small_trees.proofs.Tables.{next_out, next_two, next_three, two_next, leaf_next}
use Rattle.small_trees.proofs.Growing.{growth_short, growth_first, growth_second, growth_third, second_grows, third_grows}

-- refused: any reason that it is no growth of at most n splits
pub refused : (n : ℕ) (x : List ℕ) → (is_growth n x ≡ true → ⊥) → next_of n x ≡ Err NoSplitList
refused n x h = next_out n x (false_from_ne_true (is_growth n x) h)

-- ---- after []
pub none_last : (n : ℕ) → n ≡ 0 → next_of n [] ≡ Ok None
unfolding next_of
none_last n e = ap (λ (k : ℕ). next_of k []) e

pub none_next : (n : ℕ) → 1 ≤ n → n ≤ 3 → next_of n [] ≡ Ok (Some (0 ∷ []))
unfolding next_of
none_next zero m l = absurd (omega arith)
none_next (suc zero) m l = refl
none_next (suc (suc zero)) m l = refl
none_next (suc (suc (suc zero))) m l = refl
none_next (suc (suc (suc (suc n)))) m l = absurd (omega arith)

-- ---- after [0]
pub one_short : (n : ℕ) → n ≡ 0 → next_of n (0 ∷ []) ≡ Err NoSplitList
one_short n e = refused n (0 ∷ []) (λ h. absurd (omega (arith, growth_short n (0 ∷ []) h)))

pub one_last : (n : ℕ) → n ≡ 1 → next_of n (0 ∷ []) ≡ Ok None
unfolding next_of
one_last n e = ap (λ (k : ℕ). next_of k (0 ∷ [])) e

pub one_next : (n : ℕ) → 2 ≤ n → n ≤ 3 → next_of n (0 ∷ []) ≡ Ok (Some (0 ∷ 1 ∷ []))
unfolding next_of
one_next zero m l = absurd (omega arith)
one_next (suc zero) m l = absurd (omega arith)
one_next (suc (suc zero)) m l = refl
one_next (suc (suc (suc zero))) m l = refl
one_next (suc (suc (suc (suc n)))) m l = absurd (omega arith)

-- ---- after [0, a]
module _ (n a : ℕ) where
  two_is : 2 ≤ n → n ≤ 3 → 1 ≤ a → a ≤ 8 → next_of n (0 ∷ a ∷ []) ≡ Ok (two_next n a)
  two_is m l p q = next_two n a (omega arith) (omega arith) (second_grows n a m (record { low = p; high = omega arith }))

  pub two_up : 2 ≤ n → n ≤ 3 → 1 ≤ a → a ≤ 7 → next_of n (0 ∷ a ∷ []) ≡ Ok (Some (0 ∷ (a + 1) ∷ []))
  two_up m l p q = two_is m l p (omega arith) ∙ rw (lt-ltb a 8 (omega arith))

  pub two_last : n ≡ 2 → a ≡ 8 → next_of n (0 ∷ a ∷ []) ≡ Ok None
  two_last p q = two_is (omega arith) (omega arith) (omega arith) (omega arith) ∙ rw (le-ltb a 8 (omega arith), eq-eqb n 2 p)

  pub two_over : n ≡ 3 → a ≡ 8 → next_of n (0 ∷ a ∷ []) ≡ Ok (Some (0 ∷ 1 ∷ 2 ∷ []))
  two_over p q = two_is (omega arith) (omega arith) (omega arith) (omega arith) ∙ rw (le-ltb a 8 (omega arith), ne_eqb n 2 (omega arith))

  pub two_refused : (2 ≤ n → 1 ≤ a → a ≤ 8 → ⊥) → next_of n (0 ∷ a ∷ []) ≡ Err NoSplitList
  two_refused f =
      refused n (0 ∷ a ∷ [])
      (λ h. let q = growth_second n a [] h in f (let m = growth_short n (0 ∷ a ∷ []) h in omega arith) q.low (omega (arith, q.high)))

-- ---- after [0, a, b]
module _ (a b : ℕ) (l : 1 ≤ a) (h : a ≤ 8) (m : 1 ≤ b) (k : b ≤ 16) (d : a ≡ b → ⊥) where
  leaf_is : next_of 3 (0 ∷ a ∷ b ∷ []) ≡ Ok (leaf_next a b)
  leaf_is =
      next_three a b (omega arith) (omega arith)
      (third_grows 3 a b (omega arith) (record { low = l; high = omega arith }) (record { low = m; high = omega arith; apart = d }))

  pub leaf_over : b + 1 ≡ a → next_of 3 (0 ∷ a ∷ b ∷ []) ≡ Ok (Some (0 ∷ a ∷ (b + 2) ∷ []))
  leaf_over q = leaf_is ∙ rw (eq-eqb (b + 1) a q)

  pub leaf_up : (b + 1 ≡ a → ⊥) → b < 16 → next_of 3 (0 ∷ a ∷ b ∷ []) ≡ Ok (Some (0 ∷ a ∷ (b + 1) ∷ []))
  leaf_up q p = leaf_is ∙ rw (ne_eqb (b + 1) a q, lt-ltb b 16 p)

  pub leaf_row : (b + 1 ≡ a → ⊥) → 16 ≤ b → a < 8 → next_of 3 (0 ∷ a ∷ b ∷ []) ≡ Ok (Some (0 ∷ (a + 1) ∷ 1 ∷ []))
  leaf_row q p r = leaf_is ∙ rw (ne_eqb (b + 1) a q, le-ltb b 16 p, lt-ltb a 8 r)

  pub leaf_last : (b + 1 ≡ a → ⊥) → 16 ≤ b → 8 ≤ a → next_of 3 (0 ∷ a ∷ b ∷ []) ≡ Ok None
  leaf_last q p r = leaf_is ∙ rw (ne_eqb (b + 1) a q, le-ltb b 16 p, le-ltb a 8 r)

pub three_refused : (n a b : ℕ) → (3 ≤ n → 1 ≤ a → a ≤ 8 → 1 ≤ b → b ≤ 16 → (a ≡ b → ⊥) → ⊥) → next_of n (0 ∷ a ∷ b ∷ []) ≡ Err NoSplitList
three_refused n a b f =
    refused n (0 ∷ a ∷ b ∷ [])
    (λ h.
    let p = growth_second n a (b ∷ []) h in
    let q = growth_third n a b [] h in
    f (let m = growth_short n (0 ∷ a ∷ b ∷ []) h in omega arith) p.low (omega (arith, p.high)) q.low (omega (arith, q.high)) q.apart)

-- ---- a list of another shape
pub long_refused : (n : ℕ) (xs : List ℕ) → n ≤ 3 → 4 ≤ length xs → next_of n xs ≡ Err NoSplitList
long_refused n xs l m = refused n xs (λ h. let q = growth_short n xs h in absurd (omega arith))

pub other_refused : (n : ℕ) (xs : List ℕ) → 1 ≤ length xs → (get_or xs 0 0 ≡ 0 → ⊥) → next_of n xs ≡ Err NoSplitList
other_refused n [] l z = absurd (omega arith)
other_refused n (x ∷ xs) l z = refused n (x ∷ xs) (λ h. z (growth_first n x xs h))
