-- One turn of the loops over an axis: that count its values, and that keep the sums of a part and each change. Assumes nothing.
use Rattle.std.proofs.Common.{◌≡◌, refl, sym, ap, ◌∙◌, Bool, true, false, not, cond, List, [], ◌∷◌, ◌++◌, map, append_assoc, append-nil, ℕ, zero, suc, ◌+◌, ◌≤◌, length, length-append, arith}
use lib.Dec.{leb, leb-zero, leb-suc-suc}
use Rattle.trainer.specs.Settings.{axis}
use Rattle.trainer.specs.Candidates.{flat_map, filter, changes}
use Rattle.trainer.specs.Axes.{within, kept_sums}
use Rattle.trainer.proofs.Lists.{filter-append}

module _ {A : Type 0} (keep : A → Bool) where
  pub one_kept : (x : A) (before : List A) → keep x ≡ true → before ++ x ∷ [] ≡ before ++ filter keep (x ∷ [])
  unfolding filter
  one_kept x before e = rw e

  pub one_left : (x : A) (before : List A) → keep x ≡ false → before ≡ before ++ filter keep (x ∷ [])
  unfolding filter
  one_left x before e = rw e (sym (append-nil before))

  pub one_more : (x : A) (before after : List A) → after ≡ before ++ filter keep (x ∷ []) → length after ≤ length before + 1
  unfolding filter
  one_more x before after e = omega (arith, ap length e, length-append before (filter keep (x ∷ [])), go (keep x))
    where
      go : (b : Bool) → length (cond b (x ∷ []) []) ≤ 1
      go true = omega arith
      go false = omega arith

-- ---- an axis from its value x on, with `left` values at most; m is what the test of x came to
module _ {A : Type 0} (le : A → A → Bool) (times : A → A) (left : ℕ) (x max : A) (m : Bool) (em : m ≡ le x max) where
  axis_next : (next : ℕ) → left ≡ suc next → m ≡ true → axis le times left x max ≡ x ∷ axis le times next (times x) max
  unfolding axis
  axis_next next l t = rw (l, sym em ∙ t)

  axis_stop : m ≡ false → axis le times left x max ≡ []
  unfolding axis
  axis_stop t = go left
    where
      go : (n : ℕ) → axis le times n x max ≡ []
      go zero = refl
      go (suc n) = rw (sym em ∙ t)

  -- the whole comes to b
  pub count_stop : (b : Bool) → m ≡ false → leb (length (axis le times (suc left) x max)) left ≡ b → true ≡ b
  unfolding axis
  count_stop b t p = sym (leb-zero left) ∙ (rw (sym em ∙ t) at p)

  pub count_done : (b : Bool) → left ≡ 0 → leb (length (axis le times (suc left) x max)) left ≡ b → not m ≡ b
  unfolding axis
  count_done b l p = ap not em ∙ go (le x max) ∙ (rw l at p)
    where
      go : (c : Bool) → not c ≡ leb (length (cond c (x ∷ []) [])) 0
      go true = refl
      go false = refl

  pub count_turn : (next : ℕ) (y : A) (b : Bool) → left ≡ suc next → m ≡ true → y ≡ times x → leb (length (axis le times (suc left) x max)) left ≡ b
      → leb (length (axis le times (suc next) y max)) next ≡ b
  unfolding axis
  count_turn next y b l t e p =
      ap (λ (z : A). leb (length (axis le times (suc next) z max)) next) e
      ∙ sym (leb-suc-suc (length (axis le times (suc next) (times x) max)) next)
      ∙ (rw (sym em ∙ t, l) at p)

  -- ---- the sums of `at` and x, then of `at` and minus x
  module _ (sum : A → A → A) (minus : A → A) (at low high : A) (before all : List A) where
    kept : List A → List A
    kept xs = kept_sums le sum minus at low high xs

    pub kept_done : left ≡ 0 → before ++ kept_sums le sum minus at low high (axis le times left x max) ≡ all → before ≡ all
    unfolding axis flat_map filter
    kept_done l p = sym (append-nil before) ∙ (rw l at p)

    pub kept_stop : m ≡ false → before ++ kept_sums le sum minus at low high (axis le times left x max) ≡ all → before ≡ all
    unfolding flat_map filter
    kept_stop t p = sym (append-nil before) ∙ (rw (axis_stop t) at p)

    pub kept_turn : (next : ℕ) (y u v : A) (once twice : List A) → left ≡ suc next → m ≡ true → y ≡ times x → u ≡ sum at x → v ≡ sum at (minus x)
        → once ≡ before ++ filter (within le low high) (u ∷ [])
        → twice ≡ once ++ filter (within le low high) (v ∷ [])
        → before ++ kept_sums le sum minus at low high (axis le times left x max) ≡ all
        → twice ++ kept_sums le sum minus at low high (axis le times next y max) ≡ all
    unfolding flat_map
    kept_turn next y u v once twice l t e eu ev eo et p =
        let test = within le low high in
        let rest = kept_sums le sum minus at low high (axis le times next (times x) max) in
        rw (et, eo, eu, ev, e)
        (append_assoc (before ++ filter test (sum at x ∷ [])) (filter test (sum at (minus x) ∷ [])) rest
        ∙ append_assoc before (filter test (sum at x ∷ [])) (filter test (sum at (minus x) ∷ []) ++ rest)
        ∙ ap (λ (r : List A). before ++ (filter test (sum at x ∷ []) ++ r))
        (sym (filter-append test (sum at (minus x) ∷ []) (map (sum at) (changes minus (axis le times next (times x) max)))))
        ∙ ap (λ (r : List A). before ++ r)
        (sym (filter-append test (sum at x ∷ []) (sum at (minus x) ∷ map (sum at) (changes minus (axis le times next (times x) max)))))
        ∙ (rw (axis_next next l t) at p))
