-- Lists, for any type of element: a filter over nested lists whose test goes by axis is the product of the filtered axes, and an
-- index into such a product goes by / and %. Assumes nothing.
use mathlib.Core.Path.{◌≡◌, refl, sym, ap, ◌∙◌, subst}
use mathlib.Core.Bool.{Bool, true, false, ◌&&◌, cond}
use mathlib.Core.List.{List, [], ◌∷◌, ◌++◌, map}
use Prim.Native.Nat.{ℕ, zero, suc, ◌+◌, ◌*◌, ◌/◌, ◌%◌, ◌-◌, ◌≤◌, ◌<◌}
use native.Mathlib.Omega.{arith}
use native.Mathlib.Nat.{div-eq_of_lt, mod-eq_of_lt, add-div_left, add-mod_left, mul-zero, suc-mul}
use native.Mathlib.Numerals.{add-one}
use borrow.Author.Tests.{ltb-true, ltb-false}
use lib.Dec.{ltb}
use lib.ListN.{length, get_or, length-append, get_or-append}
use lib.Seq.{get_or-append-add}
use Rattle.trainer.specs.Candidates.{flat_map, filter}

module _ {A : Type 0} (keep : A → Bool) where
  pub filter-append : (xs ys : List A) → filter keep (xs ++ ys) ≡ filter keep xs ++ filter keep ys
  unfolding filter
  filter-append [] ys = refl
  filter-append (x ∷ xs) ys = go (keep x) (filter-append xs ys)
    where
      go : (b : Bool) → filter keep (xs ++ ys) ≡ filter keep xs ++ filter keep ys
          → cond b (x ∷ filter keep (xs ++ ys)) (filter keep (xs ++ ys)) ≡ cond b (x ∷ filter keep xs) (filter keep xs) ++ filter keep ys
      go true h = ap (◌∷◌ x) h
      go false h = h

  pub filter_length : (xs : List A) → length (filter keep xs) ≤ length xs
  unfolding filter
  filter_length [] = omega arith
  filter_length (x ∷ xs) = go (keep x) (filter_length xs)
    where
      go : (b : Bool) → length (filter keep xs) ≤ length xs → length (cond b (x ∷ filter keep xs) (filter keep xs)) ≤ suc (length xs)
      go true h = omega arith
      go false h = omega arith

  -- what a filter keeps passes its test
  pub filter_passes : (xs : List A) (k : ℕ) (d : A) → k < length (filter keep xs) → keep (get_or (filter keep xs) k d) ≡ true
  unfolding filter
  filter_passes [] k d h = absurd (none k h)
    where
      none : (k : ℕ) → k < 0 → ⊥
      none k h = omega arith
  filter_passes (x ∷ xs) k d h = go (keep x) refl (λ k h. filter_passes xs k d h) k h
    where
      go : (b : Bool) → keep x ≡ b
          → ((k : ℕ) → k < length (filter keep xs) → keep (get_or (filter keep xs) k d) ≡ true)
          → (k : ℕ) → k < length (cond b (x ∷ filter keep xs) (filter keep xs))
          → keep (get_or (cond b (x ∷ filter keep xs) (filter keep xs)) k d) ≡ true
      go true e f zero h = e
      go true e f (suc k) h = f k (omega arith)
      go false e f k h = f k h

-- One axis of a nested list. b is what the tests of the axes outside this one came to.
module _ {A B C : Type 0} (keep : C → Bool) (test : B → Bool) (sum : A → B) (inner : A → List C) (made : B → List C) where
  pub by_axis : (b : Bool) → ((x : A) → filter keep (inner x) ≡ cond (b && test (sum x)) (made (sum x)) [])
      → (xs : List A) → filter keep (flat_map inner xs) ≡ cond b (flat_map made (filter test (map sum xs))) []
  unfolding filter flat_map
  by_axis true h [] = refl
  by_axis false h [] = refl
  by_axis b h (x ∷ xs) =
      filter-append keep (inner x) (flat_map inner xs)
      ∙ ap (λ (l : List C). l ++ filter keep (flat_map inner xs)) (h x)
      ∙ ap (λ (l : List C). cond (b && test (sum x)) (made (sum x)) [] ++ l) (by_axis b h xs)
      ∙ joined b (test (sum x))
    where
      joined : (b t : Bool)
          → cond (b && t) (made (sum x)) [] ++ cond b (flat_map made (filter test (map sum xs))) []
          ≡ cond b (flat_map made (cond t (sum x ∷ filter test (map sum xs)) (filter test (map sum xs)))) []
      joined true true = refl
      joined true false = refl
      joined false t = refl

-- within a list, what is read past its end does not matter
pub get_d_any : {A : Type 0} (xs : List A) (k : ℕ) (d e : A) → k < length xs → get_or xs k d ≡ get_or xs k e
get_d_any [] k d e h = absurd (none k h)
  where
    none : (k : ℕ) → k < 0 → ⊥
    none k h = omega arith
get_d_any (x ∷ xs) zero d e h = refl
get_d_any (x ∷ xs) (suc k) d e h = get_d_any xs k d e (omega arith)

pub map_flat : {A B : Type 0} (f : A → B) (xs : List A) → map f xs ≡ flat_map (λ (x : A). f x ∷ []) xs
unfolding flat_map
map_flat f [] = refl
map_flat f (x ∷ xs) = ap (◌∷◌ (f x)) (map_flat f xs)

split : (k n l : ℕ) → n ≤ k → k < suc l * n → (0 < n) × (k - n < l * n) × (n + (k - n) ≡ k)
split k zero l p h = absurd (none (omega (arith, mul-zero (suc l))))
  where
    none : k < 0 → ⊥
    none h = omega arith
split k (suc n) l p h = omega (arith, suc-mul l (suc n))

-- A nested list whose inner lists have n elements each.
module _ {A B : Type 0} (inner : A → List B) (n : ℕ) (each : (x : A) → length (inner x) ≡ n) where
  pub flat_length : (xs : List A) → length (flat_map inner xs) ≡ length xs * n
  unfolding flat_map
  flat_length [] = omega arith
  flat_length (x ∷ xs) =
      length-append (inner x) (flat_map inner xs) ∙ more (length (inner x)) (length (flat_map inner xs)) (length xs) (each x) (flat_length xs)
    where
      more : (a b c : ℕ) → a ≡ n → b ≡ c * n → a + b ≡ suc c * n
      more a b c e f = omega arith

  first : (x : A) (xs : List A) (k : ℕ) (d : B) (e : A) → k < n
      → get_or (inner x ++ flat_map inner xs) k d ≡ get_or (inner (get_or (x ∷ xs) (k / n) e)) (k % n) d
  first x xs k d e h =
      get_or-append (inner x) (flat_map inner xs) d k (rw (each x) h)
      ∙ rw (div-eq_of_lt h, mod-eq_of_lt h)

  later : (x : A) (xs : List A) (j : ℕ) (d : B) (e : A) → 0 < n
      → get_or (flat_map inner xs) j d ≡ get_or (inner (get_or xs (j / n) e)) (j % n) d
      → get_or (inner x ++ flat_map inner xs) (n + j) d ≡ get_or (inner (get_or (x ∷ xs) ((n + j) / n) e)) ((n + j) % n) d
  later x xs j d e p h =
      ap (λ (m : ℕ). get_or (inner x ++ flat_map inner xs) (m + j) d) (sym (each x))
      ∙ get_or-append-add (inner x) (flat_map inner xs) j d
      ∙ h
      ∙ rw (add-div_left j p, add-one (j / n), add-mod_left n j)

  pub flat_at : (xs : List A) (k : ℕ) (d : B) (e : A) → k < length xs * n
      → get_or (flat_map inner xs) k d ≡ get_or (inner (get_or xs (k / n) e)) (k % n) d
  unfolding flat_map
  flat_at [] k d e h = absurd (none k n h)
    where
      none : (k n : ℕ) → k < 0 * n → ⊥
      none k n h = omega arith
  flat_at (x ∷ xs) k d e h = go (ltb k n) refl (λ j h. flat_at xs j d e h)
    where
      go : (b : Bool) → ltb k n ≡ b
          → ((j : ℕ) → j < length xs * n → get_or (flat_map inner xs) j d ≡ get_or (inner (get_or xs (j / n) e)) (j % n) d)
          → get_or (inner x ++ flat_map inner xs) k d ≡ get_or (inner (get_or (x ∷ xs) (k / n) e)) (k % n) d
      go true t f = first x xs k d e (ltb-true k n t)
      go false t f =
          let q = split k n (length xs) (ltb-false k n t) h in
          subst (λ (m : ℕ). get_or (inner x ++ flat_map inner xs) m d ≡ get_or (inner (get_or (x ∷ xs) (m / n) e)) (m % n) d) q.2
          (later x xs (k - n) d e q.0 (f (k - n) q.1))
