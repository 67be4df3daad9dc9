-- What the links that are read from a list of splits say of that list. Assumes nothing.
use mathlib.Core.Path.{◌≡◌, refl, sym, ap, subst, ◌∙◌}
use mathlib.Core.List.{List}
use mathlib.Core.Logic.{⊎_elim}
use Prim.Native.Nat.{ℕ, zero, suc, ◌+◌, ◌*◌, ◌<◌, ◌≤◌}
use native.Mathlib.Nat.{eq-or-lt_of_le}
use native.Mathlib.Omega.{arith}
use Rattle.rule_tree.proofs.Owners.{same_or_not}
use Rattle.record.specs.Read.{split_at_place, link_of}
use Rattle.record.proofs.Reading.{link_suc_hit, link_suc_miss}

link_first : (bytes : List ℕ) (list i : ℕ) → link_of bytes list 0 i ≡ 0
unfolding link_of
link_first bytes list i = refl

module _ (bytes : List ℕ) (list : ℕ) where
  -- a node that no split names is a leaf
  pub link_leaf : (n i : ℕ) → ((k : ℕ) → k < n → split_at_place bytes list k ≡ i → ⊥) → link_of bytes list n i ≡ 0
  link_leaf zero i h = link_first bytes list i
  link_leaf (suc n) i h = link_suc_miss bytes list n i (h n (omega arith)) ∙ link_leaf n i (λ k l. h k (omega arith))

  -- and one that the last of its splits makes a parent has that split's nodes for children
  pub link_last : (n i k : ℕ) → k < n → split_at_place bytes list k ≡ i → ((m : ℕ) → k < m → m < n → split_at_place bytes list m ≡ i → ⊥)
      → link_of bytes list n i ≡ 8 * k + 1
  link_last zero i k l e h = absurd (omega arith)
  link_last (suc n) i k l e h =
      ⊎_elim (λ (p : k ≡ n). link_suc_hit bytes list n i (subst (λ (m : ℕ). split_at_place bytes list m ≡ i) p e) ∙ ap (λ (m : ℕ). 8 * m + 1) (sym p))
      (λ (q : k < n). link_suc_miss bytes list n i (h n q (omega arith)) ∙ link_last n i k q e (λ m a b. h m a (omega arith)))
      (eq-or-lt_of_le (let q : k ≤ n = omega arith in q))

  -- a leaf is named by none, and a parent by the split whose nodes it has
  pub link_free : (n i : ℕ) → link_of bytes list n i ≡ 0 → (k : ℕ) → k < n → split_at_place bytes list k ≡ i → ⊥
  link_free zero i z k l e = omega arith
  link_free (suc n) i z k l e =
      ⊎_elim (λ (p : split_at_place bytes list n ≡ i). let h = link_suc_hit bytes list n i p in omega arith)
      (λ (q : split_at_place bytes list n ≡ i → ⊥).
      ⊎_elim (λ (p : k ≡ n). q (subst (λ (m : ℕ). split_at_place bytes list m ≡ i) p e))
      (λ (b : k < n). link_free n i (sym (link_suc_miss bytes list n i q) ∙ z) k b e)
      (eq-or-lt_of_le (let b : k ≤ n = omega arith in b)))
      (same_or_not (split_at_place bytes list n) i)

  pub record Named (n i : ℕ) : Type 0 where
    pub by : ℕ
    pub below : by < n
    pub node : split_at_place bytes list by ≡ i
    pub link : link_of bytes list n i ≡ 8 * by + 1

  pub link_named : (n i : ℕ) → (link_of bytes list n i ≡ 0 → ⊥) → Named n i
  link_named zero i h = absurd (h (link_first bytes list i))
  link_named (suc n) i h =
      ⊎_elim (λ (p : split_at_place bytes list n ≡ i). record { by = n; below = omega arith; node = p; link = link_suc_hit bytes list n i p })
      (λ (q : split_at_place bytes list n ≡ i → ⊥).
      let e = link_suc_miss bytes list n i q in
      let r = link_named n i (λ z. h (e ∙ z)) in
      record { by = r.by; below = omega (arith, r.below); node = r.node; link = e ∙ r.link })
      (same_or_not (split_at_place bytes list n) i)

  -- the node of split k, from its link
  pub link_node : (n i k : ℕ) → link_of bytes list n i ≡ 8 * k + 1 → split_at_place bytes list k ≡ i
  link_node n i k e =
      let r = link_named n i (λ z. omega (arith, z)) in
      let q : r.by ≡ k = omega (arith, r.link) in
      ap (split_at_place bytes list) (sym q) ∙ r.node
