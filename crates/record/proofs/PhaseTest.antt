-- The rules of the phases and those of the fields, over the tests that both are made of: the same but for best's, in phase 5. Assumes nothing.
use mathlib.Core.Path.{◌≡◌, refl, sym, ap, ◌∙◌}
use mathlib.Core.Bool.{Bool, true, false, ◌&&◌, ◌||◌, cond, and_assoc}
use Prim.Native.Nat.{ℕ, zero, suc, ◌<◌}
use native.Mathlib.Omega.{arith}
use borrow.Author.Tests.{ne_eqb, le-leb, lt-leb}
use lib.Dec.{eqb, leb}

-- the tests of the fields: stage from 1, to rule_splits, at its end; round 0, below rounds; leaf 0, unmarked;
-- best 0, no other NaN; k 0, in the list; none kept, score 0, one kept
abbrev pub phase_by : ℕ → Bool → Bool → Bool → Bool → Bool → Bool → Bool → Bool → Bool → Bool → Bool → Bool → Bool → Bool
phase_by p one most end none0 some leaf0 leaf best0 k0 listed free score0 kept =
    cond (eqb p 1 || eqb p 2) (one && (most && (none0 && (leaf0 && (best0 && (k0 && (free && score0)))))))
    (cond (eqb p 3) ((most && some) && (leaf0 && (best0 && (k0 && (free && score0)))))
    (cond (eqb p 4) ((most && some) && (leaf && (best0 && (k0 && (free && score0)))))
    (cond (eqb p 5) ((most && some) && (leaf && (listed && cond free score0 kept)))
    (cond (eqb p 6 || eqb p 7) (end && (none0 && (leaf0 && (best0 && (k0 && (free && score0)))))) false))))

abbrev pub fields_by : ℕ → Bool → Bool → Bool → Bool → Bool → Bool → Bool → Bool → Bool → Bool → Bool → Bool → Bool → Bool → Bool
fields_by p one most end none0 some leaf0 leaf best0 number k0 listed free score0 kept =
    (leb 1 p && leb p 7)
    && (cond (leb p 2) (one && (most && none0)) (cond (leb p 5) (most && some) (end && none0))
    && (cond (eqb p 4 || eqb p 5) leaf leaf0
    && (cond (eqb p 5) number best0 && (cond (eqb p 5) listed k0 && cond free score0 (eqb p 5 && kept)))))

and-true : (b : Bool) → b && true ≡ b
and-true true = refl
and-true false = refl

free_is : (free score0 : Bool) → cond free score0 false ≡ free && score0
free_is true score0 = refl
free_is false score0 = refl

module _ (one most end none0 some leaf0 leaf best0 number k0 listed listed' free score0 kept : Bool) (same : leaf ≡ true → listed ≡ listed') where
  abbrev tail : Bool
  tail = best0 && (k0 && (free && score0))

  tail_is : best0 && (k0 && cond free score0 false) ≡ tail
  tail_is = ap (λ (b : Bool). best0 && (k0 && b)) (free_is free score0)

  early : (one && (most && none0)) && (leaf0 && (best0 && (k0 && cond free score0 false))) ≡ (one && (most && (none0 && (leaf0 && tail)))) && true
  early =
      ap (λ (b : Bool). (one && (most && none0)) && (leaf0 && b)) tail_is
      ∙ and_assoc one (most && none0) (leaf0 && tail) ∙ ap (λ (b : Bool). one && b) (and_assoc most none0 (leaf0 && tail))
      ∙ sym (and-true (one && (most && (none0 && (leaf0 && tail)))))

  late : (end && none0) && (leaf0 && (best0 && (k0 && cond free score0 false))) ≡ (end && (none0 && (leaf0 && tail))) && true
  late =
      ap (λ (b : Bool). (end && none0) && (leaf0 && b)) tail_is ∙ and_assoc end none0 (leaf0 && tail)
      ∙ sym (and-true (end && (none0 && (leaf0 && tail))))

  scoring : (l : Bool) → (most && some) && (l && (best0 && (k0 && cond free score0 false))) ≡ ((most && some) && (l && tail)) && true
  scoring l = ap (λ (b : Bool). (most && some) && (l && b)) tail_is ∙ sym (and-true ((most && some) && (l && tail)))

  trying : (t : Bool) → t && (leaf && (number && (listed && cond free score0 kept))) ≡ (t && (leaf && (listed' && cond free score0 kept))) && number
  trying false = refl
  trying true = go leaf refl
    where
      swapped : (a b : Bool) → a && b ≡ b && a
      swapped true true = refl
      swapped true false = refl
      swapped false true = refl
      swapped false false = refl

      go : (l : Bool) → leaf ≡ l → l && (number && (listed && cond free score0 kept)) ≡ (l && (listed' && cond free score0 kept)) && number
      go false e = refl
      go true e =
          ap (λ (b : Bool). number && (b && cond free score0 kept)) (same e) ∙ swapped number (listed' && cond free score0 kept)

  past : (p : ℕ) → 7 < p
      → fields_by p one most end none0 some leaf0 leaf best0 number k0 listed free score0 kept
      ≡ phase_by p one most end none0 some leaf0 leaf best0 k0 listed' free score0 kept && cond (eqb p 5) number true
  past p l =
      let no : (k : ℕ) → k < 8 → eqb p k ≡ false = (λ k b. ne_eqb p k (λ z. absurd (let w : p ≡ k = z in omega arith))) in
      rw (lt-leb p 7 l, le-leb 1 p (omega arith), no 1 (omega arith), no 2 (omega arith), no 3 (omega arith), no 4 (omega arith), no 5 (omega arith), no 6 (omega arith), no 7 (omega arith))

  pub by_phase : (p : ℕ)
      → fields_by p one most end none0 some leaf0 leaf best0 number k0 listed free score0 kept
      ≡ phase_by p one most end none0 some leaf0 leaf best0 k0 listed' free score0 kept && cond (eqb p 5) number true
  by_phase zero = refl
  by_phase (suc zero) = early
  by_phase (suc (suc zero)) = early
  by_phase (suc (suc (suc zero))) = scoring leaf0
  by_phase (suc (suc (suc (suc zero)))) = scoring leaf
  by_phase (suc (suc (suc (suc (suc zero))))) = trying (most && some)
  by_phase (suc (suc (suc (suc (suc (suc zero)))))) = late
  by_phase (suc (suc (suc (suc (suc (suc (suc zero))))))) = late
  by_phase (suc (suc (suc (suc (suc (suc (suc (suc p)))))))) =
      past (suc (suc (suc (suc (suc (suc (suc (suc p)))))))) (omega arith)
