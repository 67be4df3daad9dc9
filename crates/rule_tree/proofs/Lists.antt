-- Laws of the lists and numbers of specs/Lists. Assumes nothing.
use mathlib.Core.Path.{◌≡◌, refl, sym, ap, subst, ◌∙◌}
use mathlib.Core.Bool.{Bool, true, false, ◌&&◌, cond}
use mathlib.Core.Logic.{⊎_elim, ◌≢◌}
use mathlib.Core.List.{List, [], ◌∷◌, ◌++◌}
use Prim.Native.Nat.{ℕ, zero, suc, ◌+◌, ◌<◌, ◌≤◌}
use native.Mathlib.Nat.{eq-or-lt_of_le}
use native.Mathlib.Numerals.{add-one}
use native.Mathlib.Omega.{arith}
use lib.ListN.{length, get_or, set, take, length-append, length-set, get_or-append}
use lib.Seq.{get_or-set_same, get_or-set_other, get_or-append_seam, take-suc}
use Rattle.std.specs.Prelude.{count_by}
use Rattle.std.specs.List.{list_all, enumerate_from, zip}
use Rattle.std.proofs.lemmas.List.Recursion.{is_count_by}
use Rattle.std.proofs.lemmas.List.FromFn.{length-enumerate_from, get_or-enumerate_from}
use Rattle.std.proofs.lemmas.List.{length-take-le, get_or-take}
use Rattle.std.proofs.lemmas.Slice.Zip.{length-zip, get_or-zip}
use Rattle.rule_tree.specs.Lists.{all_below, count_below, occurrences, tabulate, total, fill}

pub and-false : (b : Bool) → b && false ≡ false
and-false true = refl
and-false false = refl

and_true : (b : Bool) → true && b ≡ b && true
and_true true = refl
and_true false = refl

and_assoc : (a b c : Bool) → (a && b) && c ≡ a && (b && c)
and_assoc true b c = refl
and_assoc false b c = refl

pub and_left : (a b : Bool) → a && b ≡ true → a ≡ true
and_left true b h = refl
and_left false b h = h

pub and_right : (a b : Bool) → a && b ≡ true → b ≡ true
and_right true b h = h
and_right false b h = absurd (let z : ◌≡◌ {A = ℕ} 0 1 = cc in omega arith)

pub and_both : (a b : Bool) → a ≡ true → b ≡ true → a && b ≡ true
and_both a b p q = rw (p, q)

-- ---- all_below
pub all_below_none : (f : ℕ → Bool) → all_below 0 f ≡ true
unfolding all_below
all_below_none f = refl

pub all_below_more : (k : ℕ) (f : ℕ → Bool) → all_below k f ≡ true → f k ≡ true → all_below (k + 1) f ≡ true
unfolding all_below
all_below_more k f h e = rw (add-one k, h, e)

pub all_below_fails : (n k : ℕ) (f : ℕ → Bool) → k < n → f k ≡ false → all_below n f ≡ false
unfolding all_below
all_below_fails zero k f h e = absurd (omega arith)
all_below_fails (suc n) k f h e =
    ⊎_elim (λ (p : k ≡ n). ap (λ (b : Bool). all_below n f && b) (subst (λ (m : ℕ). f m ≡ false) p e) ∙ and-false (all_below n f))
    (λ (l : k < n). ap (λ (b : Bool). b && f n) (all_below_fails n k f l e))
    (eq-or-lt_of_le (omega arith))

pub all_below_at : (n k : ℕ) (f : ℕ → Bool) → all_below n f ≡ true → k < n → f k ≡ true
unfolding all_below
all_below_at zero k f h l = absurd (omega arith)
all_below_at (suc n) k f h l =
    ⊎_elim (λ (p : k ≡ n). subst (λ (m : ℕ). f m ≡ true) (sym p) (and_right (all_below n f) (f n) h))
    (λ (q : k < n). all_below_at n k f (and_left (all_below n f) (f n) h) q)
    (eq-or-lt_of_le (omega arith))

pub all_below_all : (n : ℕ) (f : ℕ → Bool) → ((k : ℕ) → k < n → f k ≡ true) → all_below n f ≡ true
unfolding all_below
all_below_all zero f h = refl
all_below_all (suc n) f h = let a : all_below n f ≡ true = all_below_all n f (λ k l. h k (omega arith)) in let b : f n ≡ true = h n (omega arith) in rw (a, b)

pub all_below_same : (n : ℕ) (f g : ℕ → Bool) → ((k : ℕ) → k < n → f k ≡ g k) → all_below n f ≡ all_below n g
unfolding all_below
all_below_same zero f g h = refl
all_below_same (suc n) f g h = λ z. all_below_same n f g (λ k l. h k (omega arith)) z && h n (omega arith) z

-- f 0 first
all_below_first : (n : ℕ) (f : ℕ → Bool) → all_below (suc n) f ≡ f 0 && all_below n (λ k. f (suc k))
unfolding all_below
all_below_first zero f = and_true (f 0)
all_below_first (suc n) f = ap (λ (b : Bool). b && f (suc n)) (all_below_first n f) ∙ and_assoc (f 0) _ (f (suc n))

-- a test of each element of a list
pub all_below_list : {A : Type 0} (p : A → Bool) (xs : List A) (d : A) → list_all p xs ≡ all_below (length xs) (λ k. p (get_or xs k d))
unfolding all_below
all_below_list p [] d = refl
all_below_list p (x ∷ xs) d = ap (λ (b : Bool). p x && b) (all_below_list p xs d) ∙ sym (all_below_first (length xs) (λ k. p (get_or (x ∷ xs) k d)))

-- of its first n elements
pub all_below_front : {A : Type 0} (p : A → Bool) (xs : List A) (d : A) (n : ℕ) → n ≤ length xs → list_all p (take n xs) ≡ all_below n (λ k. p (get_or xs k d))
all_below_front p xs d n l =
    all_below_list p (take n xs) d
    ∙ ap (λ (m : ℕ). all_below m (λ k. p (get_or (take n xs) k d))) (length-take-le n xs l)
    ∙ all_below_same n _ _ (λ k h. ap p (get_or-take n xs k d h))

pub all_below_places : {A : Type 0} (f : ℕ → A → Bool) (xs : List A) (d : A) → list_all (λ (q : ℕ × A). f q.0 q.1) (enumerate_from 0 xs) ≡ all_below (length xs) (λ k. f k (get_or xs k d))
all_below_places {A} f xs d =
    all_below_list (λ (q : ℕ × A). f q.0 q.1) (enumerate_from 0 xs) (0, d)
    ∙ ap (λ (n : ℕ). all_below n there) (length-enumerate_from 0 xs)
    ∙ all_below_same (length xs) there (λ k. f k (get_or xs k d)) (λ k l. ap (λ (q : ℕ × A). f q.0 q.1) (get_or-enumerate_from 0 xs k (0, d) l ∙ (λ z. (zero-add k z, get_or xs k d))))
  where
    there : ℕ → Bool
    there k = f (get_or (enumerate_from 0 xs) k (0, d)).0 (get_or (enumerate_from 0 xs) k (0, d)).1

    zero-add : (k : ℕ) → 0 + k ≡ k
    zero-add k = omega arith

pub all_below_pairs : {A B : Type 0} (f : A → B → Bool) (xs : List A) (ys : List B) (d : A) (e : B) → length xs ≤ length ys → list_all (λ (q : A × B). f q.0 q.1) (zip xs ys) ≡ all_below (length xs) (λ k. f (get_or xs k d) (get_or ys k e))
all_below_pairs f xs ys d e l =
    let n : length (zip xs ys) ≡ length xs = omega (arith, length-zip xs ys) in
    all_below_list (λ (q : _ × _). f q.0 q.1) (zip xs ys) (d, e)
    ∙ ap (λ (m : ℕ). all_below m (λ k. f (get_or (zip xs ys) k (d, e)).0 (get_or (zip xs ys) k (d, e)).1)) n
    ∙ all_below_same (length xs) _ _ (λ k h. ap (λ (q : _ × _). f q.0 q.1) (get_or-zip xs ys k (d, e) h (omega arith)))

-- ---- count_below
pub count_below_le : (n : ℕ) (f : ℕ → Bool) → count_below n f ≤ n
unfolding count_below
count_below_le zero f = omega arith
count_below_le (suc n) f = go (f n) (count_below_le n f)
  where
    go : (b : Bool) → count_below n f ≤ n → cond b 1 0 + count_below n f ≤ suc n
    go true h = omega arith
    go false h = omega arith

pub count_below_yes : (k : ℕ) (f : ℕ → Bool) → f k ≡ true → count_below (k + 1) f ≡ count_below k f + 1
unfolding count_below
count_below_yes k f e = rw (add-one k, e) (omega arith)

pub count_below_no : (k : ℕ) (f : ℕ → Bool) → f k ≡ false → count_below (k + 1) f ≡ count_below k f
unfolding count_below
count_below_no k f e = rw (add-one k, e) (omega arith)

pub count_below_first : (n : ℕ) (f : ℕ → Bool) → count_below (suc n) f ≡ cond (f 0) 1 0 + count_below n (λ k. f (suc k))
unfolding count_below
count_below_first zero f = omega arith
count_below_first (suc n) f = let h = count_below_first n f in omega arith

pub count_below_same : (n : ℕ) (f g : ℕ → Bool) → ((i : ℕ) → i < n → f i ≡ g i) → count_below n f ≡ count_below n g
unfolding count_below
count_below_same zero f g h = refl
count_below_same (suc n) f g h =
    ap (λ (b : Bool). cond b 1 0 + count_below n f) (h n (omega arith))
    ∙ ap (λ (k : ℕ). cond (g n) 1 0 + k) (count_below_same n f g (λ i l. h i (omega arith)))

pub count_below_none : (n : ℕ) (f : ℕ → Bool) → ((i : ℕ) → i < n → f i ≡ false) → count_below n f ≡ 0
unfolding count_below
count_below_none zero f h = refl
count_below_none (suc n) f h = let z = count_below_none n f (λ i l. h i (omega arith)) in rw (h n (omega arith)) (omega arith)

-- how many elements of a list pass a test
pub count_below_list : {A : Type 0} (p : A → Bool) (xs : List A) (d : A) → count_below (length xs) (λ k. p (get_or xs k d)) ≡ count_by p xs
unfolding count_below
count_below_list {A} p xs d = is_count_by (λ ys. count_below (length ys) (λ k. p (get_or ys k d))) p refl (λ x ys. count_below_first (length ys) (λ k. p (get_or (x ∷ ys) k d)) ∙ one (p x) _) xs
  where
    one : (b : Bool) (n : ℕ) → cond b 1 0 + n ≡ cond b (1 + n) n
    one true n = refl
    one false n = omega arith

-- ---- tabulate
pub length_tabulate : {A : Type 0} (n : ℕ) (f : ℕ → A) → length (tabulate n f) ≡ n
unfolding tabulate
length_tabulate zero f = refl
length_tabulate (suc n) f = let h = length_tabulate n f in simp length-append (omega arith)

pub get_d_tabulate : {A : Type 0} (n k : ℕ) (f : ℕ → A) (d : A) → k < n → get_or (tabulate n f) k d ≡ f k
unfolding tabulate
get_d_tabulate zero k f d l = absurd (omega arith)
get_d_tabulate {A} (suc n) k f d l =
    ⊎_elim
    (λ (p : k ≡ n). subst (λ (m : ℕ). get_or (tabulate n f ++ (f n ∷ [])) m d ≡ f m) (sym p) (subst (λ (m : ℕ). get_or (tabulate n f ++ (f n ∷ [])) m d ≡ f n) (length_tabulate n f) (get_or-append_seam (tabulate n f) (f n) [] d)))
    (λ (q : k < n). get_or-append (tabulate n f) (f n ∷ []) d k (subst (λ (m : ℕ). k < m) (sym (length_tabulate n f)) q) ∙ get_d_tabulate n k f d q)
    (eq-or-lt_of_le (omega arith))

-- what holds f 0, f 1, .. begins with them
pub take_tabulate : {A : Type 0} (n : ℕ) (f : ℕ → A) (xs : List A) (d : A) → n ≤ length xs → ((k : ℕ) → k < n → get_or xs k d ≡ f k) → take n xs ≡ tabulate n f
unfolding tabulate
take_tabulate zero f xs d l h = refl
take_tabulate {A} (suc n) f xs d l h =
    take-suc xs n d (omega arith)
    ∙ ap (λ (ys : List A). ys ++ (get_or xs n d ∷ [])) (take_tabulate n f xs d (omega arith) (λ k m. h k (omega arith)))
    ∙ ap (λ (y : A). tabulate n f ++ (y ∷ [])) (h n (omega arith))

-- ---- occurrences and total of one element more
pub occurrences_append : (x : ℕ) (ys zs : List ℕ) → occurrences x (ys ++ zs) ≡ occurrences x ys + occurrences x zs
unfolding occurrences
occurrences_append x [] zs = omega arith
occurrences_append x (y ∷ ys) zs = let h = occurrences_append x ys zs in omega arith

pub total-append : (ys zs : List ℕ) → total (ys ++ zs) ≡ total ys + total zs
unfolding total
total-append [] zs = omega arith
total-append (y ∷ ys) zs = let h = total-append ys zs in omega arith

pub total_take : (xs : List ℕ) (i : ℕ) → i < length xs → total (take (i + 1) xs) ≡ total (take i xs) + get_or xs i 0
unfolding total
total_take xs i l =
    let e : take (i + 1) xs ≡ take i xs ++ (get_or xs i 0 ∷ []) = ap (λ (n : ℕ). take n xs) (add-one i) ∙ take-suc xs i 0 l in
    ap total e ∙ total-append (take i xs) (get_or xs i 0 ∷ []) ∙ (omega arith)

pub total_take_le : (xs : List ℕ) (i : ℕ) → total (take i xs) ≤ total xs
unfolding total
total_take_le [] zero = omega arith
total_take_le [] (suc i) = omega arith
total_take_le (x ∷ xs) zero = omega arith
total_take_le (x ∷ xs) (suc i) = let h = total_take_le xs i in omega arith

-- ---- fill
pub length_fill : {A : Type 0} (xs : List A) (at n : ℕ) (v : A) → length (fill xs at n v) ≡ length xs
unfolding fill
length_fill xs at zero v = refl
length_fill xs at (suc n) v = length-set (fill xs at n v) (at + n) v ∙ length_fill xs at n v

pub get_d_fill_other : {A : Type 0} (xs : List A) (at n : ℕ) (v d : A) (i : ℕ) → ((k : ℕ) → k < n → i ≢ at + k) → get_or (fill xs at n v) i d ≡ get_or xs i d
unfolding fill
get_d_fill_other xs at zero v d i h = refl
get_d_fill_other xs at (suc n) v d i h =
    get_or-set_other (fill xs at n v) (at + n) i v d (h n (omega arith)) ∙ get_d_fill_other xs at n v d i (λ k l. h k (omega arith))

pub get_d_fill : {A : Type 0} (xs : List A) (at n : ℕ) (v d : A) (k : ℕ) → k < n → at + n ≤ length xs → get_or (fill xs at n v) (at + k) d ≡ v
unfolding fill
get_d_fill xs at zero v d k l f = absurd (omega arith)
get_d_fill xs at (suc n) v d k l f =
    ⊎_elim
    (λ (p : k ≡ n). subst (λ (m : ℕ). get_or (set (fill xs at n v) (at + n) v) (at + m) d ≡ v) (sym p) (get_or-set_same (fill xs at n v) (at + n) v d (subst (λ (m : ℕ). at + n < m) (sym (length_fill xs at n v)) (omega arith))))
    (λ (q : k < n). get_or-set_other (fill xs at n v) (at + n) (at + k) v d (λ e. absurd (let g : at + k ≡ at + n = e in omega arith)) ∙ get_d_fill xs at n v d k q (omega arith))
    (eq-or-lt_of_le (omega arith))
