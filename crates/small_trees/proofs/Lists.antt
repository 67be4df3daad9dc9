-- 02, request 14: which lists there are, that they come in order and each once, and that the calls go through them. Assumes nothing.
use mathlib.Core.Path.{◌≡◌, refl, sym, subst, ◌∙◌}
use mathlib.Core.Bool.{Bool, true, false, not, ◌&&◌, ◌||◌, cond}
use mathlib.Core.List.{List, [], ◌∷◌}
use Prim.Native.Nat.{ℕ, zero, suc, ◌+◌, ◌≤◌}
use native.Mathlib.Omega.{arith}
use borrow.Author.Tests.{eqb-true}
use lib.Dec.{eqb}
use lib.ListN.{length}
use Rattle.rule_tree.specs.Lists.{all_below}
use Rattle.rule_tree.proofs.Lists.{all_below_at}
use Rattle.rule_tree.proofs.Counting.{and_left, and_right}
use Rattle.std.specs.Prelude.{Some, None, Ok}
use Rattle.small_trees.specs.Lists.{up_to, same, is_growth}
use Rattle.small_trees.specs.Order.{rises, times_in, walked}
use Rattle.small_trees.proofs.Tables.{implied, all_of, all_growths, same_is}
use Rattle.small_trees.proofs.Growing.{growth_short, growth_first, growth_second, growth_third}

-- "For n = 3 there are 130"
pub how_many : (length (up_to 0) ≡ 1) × (length (up_to 1) ≡ 2) × (length (up_to 2) ≡ 10) × (length (up_to 3) ≡ 130)
unfolding up_to
how_many = (refl, refl, refl, refl)

-- "shorter first and then by their node numbers in order"
all_rise : all_below 4 (λ n. rises (up_to n)) ≡ true
unfolding all_below rises up_to
all_rise = refl

pub in_order : (n : ℕ) → n ≤ 3 → rises (up_to n) ≡ true
in_order n l = all_below_at 4 n (λ k. rises (up_to k)) all_rise (omega arith)

-- the calls from [] go through the lists and end with the last: no more than 200 are wanted
pub gone_through : (n : ℕ) → n ≤ 3 → walked n 200 [] ≡ record { lists = up_to n; ended = Some (Ok None) }
unfolding walked up_to
gone_through zero l = refl
gone_through (suc zero) l = refl
gone_through (suc (suc zero)) l = refl
gone_through (suc (suc (suc zero))) l = refl
gone_through (suc (suc (suc (suc n)))) l = absurd (omega arith)

-- "each once", and every growth of at most n splits is one
small_once :
    all_below 4
    (λ n.
    (not (is_growth n []) || eqb (times_in (up_to n) []) 1)
    && ((not (is_growth n (0 ∷ [])) || eqb (times_in (up_to n) (0 ∷ [])) 1)
    && all_below 9 (λ a. not (is_growth n (0 ∷ a ∷ [])) || eqb (times_in (up_to n) (0 ∷ a ∷ [])) 1)))
    ≡ true
unfolding all_below is_growth times_in up_to
small_once = refl

three_once : all_below 9 (λ a. all_below 17 (λ b. not (is_growth 3 (0 ∷ a ∷ b ∷ [])) || eqb (times_in (up_to 3) (0 ∷ a ∷ b ∷ [])) 1)) ≡ true
unfolding all_below is_growth times_in up_to
three_once = refl

pub once : (n : ℕ) (x : List ℕ) → n ≤ 3 → is_growth n x ≡ true → times_in (up_to n) x ≡ 1
once n x l g =
    shape x
    (all_below_at 4 n
    (λ k.
    (not (is_growth k []) || eqb (times_in (up_to k) []) 1)
    && ((not (is_growth k (0 ∷ [])) || eqb (times_in (up_to k) (0 ∷ [])) 1)
    && all_below 9 (λ a. not (is_growth k (0 ∷ a ∷ [])) || eqb (times_in (up_to k) (0 ∷ a ∷ [])) 1)))
    small_once
    (omega arith))
    g
  where
    P : List ℕ → Bool
    P y = not (is_growth n y) || eqb (times_in (up_to n) y) 1

    is : (y : List ℕ) → is_growth n y ≡ true → P y ≡ true → times_in (up_to n) y ≡ 1
    is y g h = eqb-true (times_in (up_to n) y) 1 (implied (is_growth n y) (eqb (times_in (up_to n) y) 1) h g)

    three : (k a b : ℕ) → k ≡ 3 → is_growth k (0 ∷ a ∷ b ∷ []) ≡ true → times_in (up_to k) (0 ∷ a ∷ b ∷ []) ≡ 1
    three k a b e =
        subst (λ (m : ℕ). is_growth m (0 ∷ a ∷ b ∷ []) ≡ true → times_in (up_to m) (0 ∷ a ∷ b ∷ []) ≡ 1) (sym e)
        (λ g.
        let u = growth_second 3 a (b ∷ []) g in
        let v = growth_third 3 a b [] g in
        eqb-true (times_in (up_to 3) (0 ∷ a ∷ b ∷ [])) 1
        (implied (is_growth 3 (0 ∷ a ∷ b ∷ [])) (eqb (times_in (up_to 3) (0 ∷ a ∷ b ∷ [])) 1)
        (all_below_at 17 b (λ k. not (is_growth 3 (0 ∷ a ∷ k ∷ [])) || eqb (times_in (up_to 3) (0 ∷ a ∷ k ∷ [])) 1)
        (all_below_at 9 a (λ i. all_below 17 (λ k. not (is_growth 3 (0 ∷ i ∷ k ∷ [])) || eqb (times_in (up_to 3) (0 ∷ i ∷ k ∷ [])) 1)) three_once u.high)
        v.high)
        g))

    zeroed : (i : ℕ) (rest : List ℕ) → is_growth n (i ∷ rest) ≡ true → (is_growth n (0 ∷ rest) ≡ true → times_in (up_to n) (0 ∷ rest) ≡ 1) → times_in (up_to n) (i ∷ rest) ≡ 1
    zeroed i rest g h =
        let e : i ≡ 0 = growth_first n i rest g in
        subst (λ (k : ℕ). times_in (up_to n) (k ∷ rest) ≡ 1) (sym e) (h (subst (λ (k : ℕ). is_growth n (k ∷ rest) ≡ true) e g))

    shape : (y : List ℕ) → P [] && (P (0 ∷ []) && all_below 9 (λ a. P (0 ∷ a ∷ []))) ≡ true → is_growth n y ≡ true → times_in (up_to n) y ≡ 1
    shape [] t g = is [] g (and_left (P []) (P (0 ∷ []) && all_below 9 (λ a. P (0 ∷ a ∷ []))) t)
    shape (i ∷ []) t g =
        zeroed i [] g
        (λ h. is (0 ∷ []) h (and_left (P (0 ∷ [])) (all_below 9 (λ a. P (0 ∷ a ∷ []))) (and_right (P []) (P (0 ∷ []) && all_below 9 (λ a. P (0 ∷ a ∷ []))) t)))
    shape (i ∷ a ∷ []) t g =
        zeroed i (a ∷ []) g
        (λ h.
        is (0 ∷ a ∷ []) h
        (all_below_at 9 a (λ b. P (0 ∷ b ∷ []))
        (and_right (P (0 ∷ [])) (all_below 9 (λ b. P (0 ∷ b ∷ []))) (and_right (P []) (P (0 ∷ []) && all_below 9 (λ b. P (0 ∷ b ∷ []))) t))
        (growth_second n a [] h).high))
    shape (i ∷ a ∷ b ∷ []) t g = zeroed i (a ∷ b ∷ []) g (λ h. three n a b (let m = growth_short n (0 ∷ a ∷ b ∷ []) h in omega arith) h)
    shape (i ∷ a ∷ b ∷ d ∷ r) t g = absurd (let m = growth_short n (i ∷ a ∷ b ∷ d ∷ r) g in omega arith)

-- "a list that isn't one of them": no other list is
none_times : (p : List ℕ → Bool) (x : List ℕ) (l : List (List ℕ)) → all_of p l ≡ true → p x ≡ false → times_in l x ≡ 0
unfolding all_of times_in
none_times p x [] a h = refl
none_times p x (y ∷ ys) a h = by (same x y) refl (none_times p x ys (and_right (p y) (all_of p ys) a) h)
  where
    by : (b : Bool) → same x y ≡ b → times_in ys x ≡ 0 → cond b 1 0 + times_in ys x ≡ 0
    by true e r = let z : false ≡ true = sym (subst (λ (z : List ℕ). p z ≡ false) (same_is x y e) h) ∙ and_left (p y) (all_of p ys) a in cc
    by false e r = omega arith

pub no_other : (n : ℕ) (x : List ℕ) → n ≤ 3 → is_growth n x ≡ false → times_in (up_to n) x ≡ 0
no_other n x l h = none_times (is_growth n) x (up_to n) (all_below_at 4 n (λ k. all_of (is_growth k) (up_to k)) all_growths (omega arith)) h
