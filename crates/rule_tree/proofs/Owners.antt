-- Sixty-four buckets, one a split: node i goes into bucket k where its first child is 8 k + 1. Assumes nothing.
use mathlib.Core.Path.{◌≡◌, refl, sym, ap, subst, ◌∙◌}
use mathlib.Core.Bool.{Bool, true, false, cond}
use mathlib.Core.Logic.{⊎_elim, ◌⊎◌, inl, inr}
use mathlib.Core.List.{List, [], ◌∷◌}
use Prim.Native.Nat.{ℕ, zero, suc, ◌+◌, ◌*◌, ◌/◌, ◌%◌, ◌<◌, ◌≤◌}
use native.Mathlib.Nat.{eq-or-lt_of_le}
use native.Mathlib.Numerals.{add-one}
use native.Mathlib.Omega.{arith}
use borrow.Author.Tests.{eq-eqb, ne_eqb}
use lib.Dec.{eqb}
use lib.ListN.{length, get_or, set, take, length-set}
use lib.Seq.{get_or-set_same, get_or-set_other, ext_get_or, take-suc, take_all}
pub use Rattle.std.proofs.lemmas.Bool.{cases_eq as same_or_not, cases_lt as below_or_not}
use Rattle.rule_tree.specs.Lists.{occurrences, tabulate}
use Rattle.rule_tree.specs.Grown.{owners_of}
use Rattle.rule_tree.specs.Cubes.{owner_below, split_nodes}
use Rattle.rule_tree.proofs.Lists.{occurrences_append, length_tabulate, get_d_tabulate}

-- ---- g i f: what stands for the first child f once i nodes are seen; n buckets hold it for f = 8 k + 1
abbrev pub Buckets : ℕ → (ℕ → ℕ → ℕ) → List ℕ → ℕ → Type 0
Buckets n g out i = (length out ≡ n) × ((k : ℕ) → k < n → get_or out k 0 ≡ g i (8 * k + 1))

module _ (n : ℕ) (g : ℕ → ℕ → ℕ) (cs out next : List ℕ) (i : ℕ) (held : Buckets n g out i)
    (miss : (f : ℕ) → (get_or cs i 0 ≡ f → ⊥) → g (i + 1) f ≡ g i f) where
  pub bucket_hit : (v : ℕ) → next ≡ set out (get_or cs i 0 / 8) v → get_or cs i 0 % 8 ≡ 1 → get_or cs i 0 / 8 < n
      → v ≡ g (i + 1) (get_or cs i 0) → Buckets n g next (i + 1)
  bucket_hit v same m l e = subst (λ (o : List ℕ). Buckets n g o (i + 1)) (sym same) (length-set out _ v ∙ held.0, at)
    where
      at : (k : ℕ) → k < n → get_or (set out (get_or cs i 0 / 8) v) k 0 ≡ g (i + 1) (8 * k + 1)
      at k b =
          ⊎_elim
          (λ (p : k ≡ get_or cs i 0 / 8).
          let q : get_or cs i 0 ≡ 8 * k + 1 = omega arith in
          ap (λ (j : ℕ). get_or (set out (get_or cs i 0 / 8) v) j 0) p ∙ get_or-set_same out (get_or cs i 0 / 8) v 0 (omega arith) ∙ e
          ∙ ap (λ (x : ℕ). g (i + 1) x) q)
          (λ (p : k ≡ get_or cs i 0 / 8 → ⊥).
          get_or-set_other out (get_or cs i 0 / 8) k v 0 p ∙ held.1 k b
          ∙ sym (miss (8 * k + 1) (λ q. p (omega (arith, q)))))
          (same_or_not k (get_or cs i 0 / 8))

  bucket_kept : next ≡ out → ((k : ℕ) → k < n → get_or cs i 0 ≡ 8 * k + 1 → ⊥) → Buckets n g next (i + 1)
  bucket_kept same none =
      subst (λ (o : List ℕ). Buckets n g o (i + 1)) (sym same)
      (held.0, λ k b. held.1 k b ∙ sym (miss (8 * k + 1) (none k b)))

  pub bucket_far : next ≡ out → n ≤ get_or cs i 0 / 8 → Buckets n g next (i + 1)
  bucket_far same l = bucket_kept same (λ k b q. omega (arith, q))

  pub bucket_odd : next ≡ out → (get_or cs i 0 % 8 ≡ 1 → ⊥) → Buckets n g next (i + 1)
  bucket_odd same m = bucket_kept same (λ k b q. m (omega (arith, q)))

pub buckets_all : (n : ℕ) (g : ℕ → ℕ → ℕ) (h : ℕ → ℕ) (out : List ℕ) (i : ℕ) → Buckets n g out i
    → ((f : ℕ) → g i f ≡ h f) → out ≡ tabulate n (λ k. h (8 * k + 1))
buckets_all n g h out i b e =
    ext_get_or 0 out (tabulate n (λ k. h (8 * k + 1))) (b.0 ∙ sym (length_tabulate n (λ k. h (8 * k + 1))))
    (λ k l.
    let q : k < n = omega (arith, l, b.0) in
    b.1 k q ∙ e (8 * k + 1) ∙ sym (get_d_tabulate n k (λ k. h (8 * k + 1)) 0 q))

-- ---- how often a number stands among the first i
taken_more : (cs : List ℕ) (i x : ℕ) → i < length cs
    → occurrences x (take (i + 1) cs) ≡ occurrences x (take i cs) + occurrences x (get_or cs i 0 ∷ [])
taken_more cs i x l =
    ap (λ (m : ℕ). occurrences x (take m cs)) (add-one i) ∙ ap (occurrences x) (take-suc cs i 0 l)
    ∙ occurrences_append x (take i cs) (get_or cs i 0 ∷ [])

once : (x y : ℕ) → y ≡ x → occurrences x (y ∷ []) ≡ 1
unfolding occurrences
once x y e = rw (eq-eqb y x e)

never : (x y : ℕ) → (y ≡ x → ⊥) → occurrences x (y ∷ []) ≡ 0
unfolding occurrences
never x y e = rw (ne_eqb y x e)

pub seen_hit : (cs : List ℕ) (i x : ℕ) → i < length cs → get_or cs i 0 ≡ x
    → occurrences x (take (i + 1) cs) ≡ occurrences x (take i cs) + 1
seen_hit cs i x l e = let a = taken_more cs i x l in let b = once x (get_or cs i 0) e in omega arith

pub seen_miss : (cs : List ℕ) (i x : ℕ) → i < length cs → (get_or cs i 0 ≡ x → ⊥)
    → occurrences x (take (i + 1) cs) ≡ occurrences x (take i cs)
seen_miss cs i x l e = let a = taken_more cs i x l in let b = never x (get_or cs i 0) e in omega arith

pub seen_none : (x : ℕ) → occurrences x [] ≡ 0
unfolding occurrences
seen_none x = refl

pub seen_le : (cs : List ℕ) (i x : ℕ) → occurrences x (take i cs) ≤ i
unfolding occurrences
seen_le cs zero x = omega arith
seen_le [] (suc i) x = omega arith
seen_le (c ∷ cs) (suc i) x = go (eqb c x) (seen_le cs i x)
  where
    go : (b : Bool) → occurrences x (take i cs) ≤ i → cond b 1 0 + occurrences x (take i cs) ≤ suc i
    go true h = omega arith
    go false h = omega arith

pub seen_all : (cs : List ℕ) (x i : ℕ) → length cs ≤ i → occurrences x (take i cs) ≡ occurrences x cs
seen_all cs x i l = ap (occurrences x) (take_all i cs l)

-- ---- the last owner
pub owner_hit : (cs : List ℕ) (i f : ℕ) → get_or cs i 0 ≡ f → owner_below (i + 1) cs f ≡ i
unfolding owner_below
owner_hit cs i f e = rw (add-one i, eq-eqb (get_or cs i 0) f e)

pub owner_miss : (cs : List ℕ) (i f : ℕ) → (get_or cs i 0 ≡ f → ⊥) → owner_below (i + 1) cs f ≡ owner_below i cs f
unfolding owner_below
owner_miss cs i f e = rw (add-one i, ne_eqb (get_or cs i 0) f e)

pub owner_none : (cs : List ℕ) (f : ℕ) → owner_below 0 cs f ≡ 0
unfolding owner_below
owner_none cs f = refl

-- ---- split_nodes: the buckets hold the last owner
abbrev pub Split : List ℕ → List ℕ → ℕ → Type 0
Split cs out i = Buckets 64 (λ n f. owner_below n cs f) out i

module _ (cs out next : List ℕ) (i : ℕ) (held : Split cs out i) where
  pub split_hit : next ≡ set out (get_or cs i 0 / 8) i → get_or cs i 0 % 8 ≡ 1 → get_or cs i 0 / 8 < 64 → Split cs next (i + 1)
  split_hit same m l =
      bucket_hit 64 (λ n f. owner_below n cs f) cs out next i held (owner_miss cs i) i same m l (sym (owner_hit cs i (get_or cs i 0) refl))

  pub split_far : next ≡ out → 64 ≤ get_or cs i 0 / 8 → Split cs next (i + 1)
  split_far = bucket_far 64 (λ n f. owner_below n cs f) cs out next i held (owner_miss cs i)

  pub split_odd : next ≡ out → (get_or cs i 0 % 8 ≡ 1 → ⊥) → Split cs next (i + 1)
  split_odd = bucket_odd 64 (λ n f. owner_below n cs f) cs out next i held (owner_miss cs i)

pub split_all : (cs out : List ℕ) (i : ℕ) → i ≤ 513 → 513 ≤ i → Split cs out i → out ≡ split_nodes cs
split_all cs out i a b h =
    buckets_all 64 (λ n f. owner_below n cs f) (λ f. owner_below 513 cs f) out i h
    (λ f. let e : i ≡ 513 = omega arith in ap (λ (n : ℕ). owner_below n cs f) e)

-- ---- owners: the buckets count the owners
abbrev pub Owned : List ℕ → List ℕ → ℕ → Type 0
Owned cs out i = Buckets 64 (λ n f. occurrences f (take n cs)) out i

module _ (cs out : List ℕ) (i : ℕ) (held : Owned cs out i) (l : i < length cs) where
  pub owned_hit : (next : List ℕ) → next ≡ set out (get_or cs i 0 / 8) (get_or out (get_or cs i 0 / 8) 0 + 1) → get_or cs i 0 % 8 ≡ 1
      → get_or cs i 0 / 8 < 64 → Owned cs next (i + 1)
  owned_hit next same m b =
      let e : get_or cs i 0 ≡ 8 * (get_or cs i 0 / 8) + 1 = omega arith in
      bucket_hit 64 (λ n f. occurrences f (take n cs)) cs out next i held (λ f. seen_miss cs i f l)
      (get_or out (get_or cs i 0 / 8) 0 + 1) same m b
      (ap (λ (x : ℕ). x + 1) (held.1 (get_or cs i 0 / 8) b ∙ ap (λ (f : ℕ). occurrences f (take i cs)) (sym e))
      ∙ sym (seen_hit cs i (get_or cs i 0) l refl))

  pub owned_far : (next : List ℕ) → next ≡ out → 64 ≤ get_or cs i 0 / 8 → Owned cs next (i + 1)
  owned_far next = bucket_far 64 (λ n f. occurrences f (take n cs)) cs out next i held (λ f. seen_miss cs i f l)

  pub owned_odd : (next : List ℕ) → next ≡ out → (get_or cs i 0 % 8 ≡ 1 → ⊥) → Owned cs next (i + 1)
  owned_odd next = bucket_odd 64 (λ n f. occurrences f (take n cs)) cs out next i held (λ f. seen_miss cs i f l)

pub owned_le : (cs out : List ℕ) (i k : ℕ) → Owned cs out i → k < 64 → get_or out k 0 ≤ i
owned_le cs out i k h b = let e = h.1 k b in omega (arith, seen_le cs i (8 * k + 1))

pub owned_all : (cs out : List ℕ) (i : ℕ) → length cs ≤ i → Owned cs out i → out ≡ owners_of cs
owned_all cs out i l h =
    buckets_all 64 (λ n f. occurrences f (take n cs)) (λ f. occurrences f cs) out i h (λ f. seen_all cs f i l)

-- ---- a number that stands in a list once, and the only place where it does
pub record Once (cs : List ℕ) (f : ℕ) : Type 0 where
  pub at : ℕ
  pub below : at < length cs
  pub is : get_or cs at 0 ≡ f
  pub only : (j : ℕ) → j < length cs → get_or cs j 0 ≡ f → j ≡ at

cons_hit : (f c : ℕ) (cs : List ℕ) → c ≡ f → occurrences f (c ∷ cs) ≡ 1 + occurrences f cs
unfolding occurrences
cons_hit f c cs e = rw (eq-eqb c f e)

cons_miss : (f c : ℕ) (cs : List ℕ) → (c ≡ f → ⊥) → occurrences f (c ∷ cs) ≡ occurrences f cs
unfolding occurrences
cons_miss f c cs n = rw (ne_eqb c f n) (omega arith)

pub none_of : (f : ℕ) (cs : List ℕ) → occurrences f cs ≡ 0 → (j : ℕ) → j < length cs → get_or cs j 0 ≡ f → ⊥
none_of f [] e j l q = omega arith
none_of f (c ∷ cs) e zero l q = let h = cons_hit f c cs q in omega arith
none_of f (c ∷ cs) e (suc j) l q =
    ⊎_elim (λ (p : c ≡ f). let h = cons_hit f c cs p in omega arith)
    (λ (n : c ≡ f → ⊥). none_of f cs (sym (cons_miss f c cs n) ∙ e) j (omega arith) q)
    (same_or_not c f)

once_first : (f c : ℕ) (cs : List ℕ) → c ≡ f → occurrences f cs ≡ 0 → Once (c ∷ cs) f
once_first f c cs p z = record { at = 0; below = omega arith; is = p; only = first }
  where
    first : (j : ℕ) → j < suc (length cs) → get_or (c ∷ cs) j 0 ≡ f → j ≡ 0
    first zero l q = refl
    first (suc j) l q = absurd (none_of f cs z j (omega arith) q)

once_later : (f c : ℕ) (cs : List ℕ) → (c ≡ f → ⊥) → Once cs f → Once (c ∷ cs) f
once_later f c cs n o = record { at = suc o.at; below = omega (arith, o.below); is = o.is; only = rest }
  where
    rest : (j : ℕ) → j < suc (length cs) → get_or (c ∷ cs) j 0 ≡ f → j ≡ suc o.at
    rest zero l q = absurd (n q)
    rest (suc j) l q = ap suc (o.only j (omega arith) q)

pub once_of : (f : ℕ) (cs : List ℕ) → occurrences f cs ≡ 1 → Once cs f
once_of f [] e = absurd (let h = seen_none f in omega arith)
once_of f (c ∷ cs) e =
    ⊎_elim (λ (p : c ≡ f). let h = cons_hit f c cs p in once_first f c cs p (omega arith))
    (λ (n : c ≡ f → ⊥). once_later f c cs n (once_of f cs (sym (cons_miss f c cs n) ∙ e)))
    (same_or_not c f)

-- ---- the last owner is an owner, or there is none
abbrev Found : List ℕ → ℕ → ℕ → ℕ → Type 0
Found cs f n o = (o ≡ 0) ⊎ ((o < n) × (get_or cs o 0 ≡ f))

pub owner_found : (n : ℕ) (cs : List ℕ) (f : ℕ)
    → (owner_below n cs f ≡ 0) ⊎ ((owner_below n cs f < n) × (get_or cs (owner_below n cs f) 0 ≡ f))
owner_found zero cs f = inl (owner_none cs f)
owner_found (suc n) cs f =
    subst (λ (m : ℕ). Found cs f m (owner_below m cs f)) (add-one n)
    (⊎_elim
    (λ (e : get_or cs n 0 ≡ f). subst (Found cs f (n + 1)) (sym (owner_hit cs n f e)) (inr (omega arith, e)))
    (λ (e : get_or cs n 0 ≡ f → ⊥). subst (Found cs f (n + 1)) (sym (owner_miss cs n f e)) (more (owner_found n cs f)))
    (same_or_not (get_or cs n 0) f))
  where
    more : Found cs f n (owner_below n cs f) → Found cs f (n + 1) (owner_below n cs f)
    more (inl z) = inl z
    more (inr w) = let l = w.0 in inr (omega arith, w.1)

pub owner_is : (n : ℕ) (cs : List ℕ) (f i : ℕ) → i < n → get_or cs i 0 ≡ f → ((j : ℕ) → j < n → get_or cs j 0 ≡ f → j ≡ i)
    → owner_below n cs f ≡ i
owner_is zero cs f i l e only = absurd (omega arith)
owner_is (suc n) cs f i l e only =
    ap (λ (m : ℕ). owner_below m cs f) (sym (add-one n))
    ∙ ⊎_elim (λ (p : get_or cs n 0 ≡ f). owner_hit cs n f p ∙ only n (omega arith) p)
    (λ (q : get_or cs n 0 ≡ f → ⊥).
    owner_miss cs n f q
    ∙ owner_is n cs f i (below q (eq-or-lt_of_le (omega arith))) e (λ j b. only j (omega arith)))
    (same_or_not (get_or cs n 0) f)
  where
    below : (get_or cs n 0 ≡ f → ⊥) → (i ≡ n) ⊎ (i < n) → i < n
    below q (inl p) = absurd (q (subst (λ (m : ℕ). get_or cs m 0 ≡ f) p e))
    below q (inr b) = b
