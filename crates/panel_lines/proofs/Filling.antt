-- An array filled from its first place on: the first n places hold f 0, f 1, .. Assumes nothing.
use mathlib.Core.Path.{◌≡◌, refl, sym, ap, ◌∙◌}
use mathlib.Core.List.{List, [], ◌∷◌, ◌++◌}
use Prim.Native.Nat.{ℕ, zero, suc, ◌+◌, ◌<◌, ◌≤◌}
use native.Mathlib.Numerals.{add-one}
use native.Mathlib.Omega.{arith}
use lib.ListN.{length, get_or, set, take, replicate, length-replicate, get_or-replicate}
use lib.Seq.{take-suc, take-suc-set}
use Rattle.rule_tree.specs.Lists.{tabulate}

module _ (f : ℕ → ℕ) where
  pub filled_none : [] ≡ tabulate 0 f
  unfolding tabulate
  filled_none = refl

  filled_suc : (i : ℕ) → tabulate (suc i) f ≡ tabulate i f ++ (f i ∷ [])
  unfolding tabulate
  filled_suc i = refl

  pub filled_turn : (xs : List ℕ) (i v : ℕ) → i < length xs → take i xs ≡ tabulate i f → v ≡ f i → take (i + 1) (set xs i v) ≡ tabulate (i + 1) f
  filled_turn xs i v l e p =
      ap (λ (k : ℕ). take k (set xs i v)) (add-one i) ∙ take-suc-set xs i v l
      ∙ ap (λ (r : List ℕ). r ++ (v ∷ [])) e ∙ ap (λ (k : ℕ). tabulate i f ++ (k ∷ [])) p
      ∙ sym (filled_suc i) ∙ ap (λ (k : ℕ). tabulate k f) (sym (add-one i))

  pub filled_done : (xs : List ℕ) (i n : ℕ) → i ≤ n → n ≤ i → take i xs ≡ tabulate i f → take n xs ≡ tabulate n f
  filled_done xs i n a b e = let q : n ≡ i = omega arith in ap (λ (k : ℕ). take k xs) q ∙ e ∙ ap (λ (k : ℕ). tabulate k f) (sym q)

  pub filled_zeros : ((i : ℕ) → f i ≡ 0) → (m n : ℕ) → n ≤ m → take n (replicate m 0) ≡ tabulate n f
  filled_zeros z m zero l = filled_none
  filled_zeros z m (suc n) l =
      take-suc (replicate m 0) n 0 (omega (arith, length-replicate {A = ℕ} m 0)) ∙ ap (λ (r : List ℕ). r ++ (get_or (replicate m 0) n 0 ∷ [])) (filled_zeros z m n (omega arith))
      ∙ ap (λ (k : ℕ). tabulate n f ++ (k ∷ [])) (get_or-replicate m n 0 0 l ∙ sym (z n)) ∙ sym (filled_suc n)
