-- Halving an interval [lo, hi) of binary64 whose ends are 0 or more: its middle lies between the ends and is such an end, and
-- each x of [lo, hi) is in just one of [lo, middle) and [middle, hi). The order is the library's; it has no intervals. Assumes nothing.
use Rattle.std.proofs.Common.{◌≡◌, ℕ, ◌+◌, ◌*◌, ◌^◌, ◌<◌, ◌≤◌, Bool, true, false, not, ◌&&◌, ◌||◌, T, sym, refl, ◌∙◌, subst, inl, inr, mul-le-mul_right, mul-pos, lt_of_not-le, arith, lit<}
use lib.Dec.{not_T}
use lib.Ieee.{Float, nan, inf, fin, binary64, round, add, le, lt, is_nan}
use lib.Ieee.Bits.{is_false}
use lib.Ieee.Fits.{and_l, and_r, and_i}
use lib.Ieee.Order.{round_mono}
use lib.Ieee.Positive.{num, den, den_pos}
use lib.Ieee.Scale.{finite}
use Rattle.floats.specs.Interval.{within, middle, End}
use Rattle.floats.proofs.Order.{le_nn_r, le-or-lt, lt_is, le_is, lt→¬le, le_le_trans, lt_le_trans, or_l, or_r}
use Rattle.floats.proofs.Order.{or_split}
use Rattle.floats.proofs.Order.{same_test}
use Rattle.floats.proofs.Nonneg.{nonneg, add_is, add_plus}
use Rattle.floats.proofs.Zero.{Some, 0f, abs, abs_nonneg, add≈, plus_min, between_some, mid_some, add_mono_some}
use Rattle.floats.proofs.Zero.{add_min}

-- ---- an end is finite
double_finite : (x : Float) → T (finite (add binary64 x x)) → T (finite x)
unfolding add
double_finite nan h = h
double_finite (inf true) h = h
double_finite (inf false) h = h
double_finite (fin s m e) h = tt

pub end_finite : (x : Float) → End x → T (finite x)
end_finite x p = double_finite x p.double

pub end_some : (x : Float) → End x → Some x
end_some x p = record { fin = end_finite x p; min = p.least }

-- ---- its double is in range: from 2 ^ 1024 on a sum is an infinity
past : round binary64 false (2 ^ 1024) 1 ≡ inf false
unfolding round
past = refl

inf_above : (x : Float) → T (finite x) → T (le (inf false) x) → ⊥
unfolding le
inf_above nan p h = p
inf_above (inf s) p h = p
inf_above (fin s m e) p h = h

in_range : (x : Float) → T (nonneg x) → T (finite (add binary64 x x)) → num x * 2 < 2 ^ 1024 * den x
in_range x p h = lt_of_not-le (λ (g : 2 ^ 1024 * den x ≤ num x * 2).
    inf_above (add binary64 x x) h
    (subst (λ (z : Float). T (le z (add binary64 x x))) past
    (subst (λ (z : Float). T (le (round binary64 false (2 ^ 1024) 1) z)) (sym (add_is binary64 x x p p))
    (round_mono binary64 (2 ^ 1024) 1 (num x * den x + num x * den x) (den x * den x) (lit< tt)
    (mul-pos (den_pos x) (den_pos x))
    (sums (num x) (den x) (2 ^ 1024) g)))))
  where
    sums : (X d E : ℕ) → E * d ≤ X * 2 → E * (d * d) ≤ (X * d + X * d) * 1
    sums X d E h = omega (arith, mul-le-mul_right d h)

end_range : (x : Float) → End x → num (abs x) * 2 < 2 ^ 1024 * den (abs x)
end_range x p =
    let s = end_some x p in
    let n = abs_nonneg x s.fin in
    let z = add binary64 (abs x) (abs x) in
    in_range (abs x) n
    (between_some z (add binary64 x x) (plus_min z (add_plus binary64 (abs x) (abs x) n n)) (add≈ binary64 x x s s).ge
    p.double).fin

-- ---- the middle
pub record Middled (lo hi : Float) : Type 0 where
  pub above : T (le lo (middle lo hi))
  pub below : T (le (middle lo hi) hi)
  pub end : End (middle lo hi)

pub middle_between : (lo hi : Float) → End lo → End hi → T (le lo hi) → Middled lo hi
middle_between lo hi p q h =
    let s = end_some lo p in
    let t = end_some hi q in
    let w = mid_some binary64 lo hi s t p.fitting q.fitting h (end_range hi q) in
    let m = middle lo hi in
    let d = add_mono_some binary64 m hi m hi w.some t w.some t w.below w.below in
    record {
      above = w.above;
      below = w.below;
      end = record {
        fitting = w.fitting;
        least = le_le_trans 0f lo m p.least w.above;
        double =
            (between_some (add binary64 m m) (add binary64 hi hi) (add_min binary64 m m w.some w.some) d
            q.double).fin;
      };
    }

-- ---- what a test of an interval says
pub within_low : (lo hi x : Float) → T (within lo hi x) → T (le lo x)
within_low lo hi x i = and_l (le lo x) (lt x hi) i

pub within_high : (lo hi x : Float) → T (within lo hi x) → T (lt x hi)
within_high lo hi x i = and_r (le lo x) (lt x hi) i

pub within_i : (lo hi x : Float) → T (le lo x) → T (lt x hi) → T (within lo hi x)
within_i lo hi x a b = and_i (le lo x) (lt x hi) a b

pub within_nn : (lo hi x : Float) → T (within lo hi x) → T (not (is_nan x))
within_nn lo hi x i = le_nn_r lo x (within_low lo hi x i)

-- ---- an interval that is cut anywhere between its ends
module _ (lo m hi : Float) (above : T (le lo m)) (below : T (le m hi)) (x : Float) where
  pub cut_lower : T (within lo m x) → T (within lo hi x)
  cut_lower i = within_i lo hi x (within_low lo m x i) (lt_le_trans x m hi (within_high lo m x i) below)

  pub cut_upper : T (within m hi x) → T (within lo hi x)
  cut_upper i = within_i lo hi x (le_le_trans lo m x above (within_low m hi x i)) (within_high m hi x i)

  pub cut_either : within lo hi x ≡ (within lo m x || within m hi x)
  cut_either =
      same_test (within lo hi x) (within lo m x || within m hi x)
      (λ i. elim (le-or-lt x m (within_nn lo hi x i) (le_nn_r lo m above)) [
        | inl l ↦ or_l (within lo m x) (within m hi x) (within_i lo m x (within_low lo hi x i) l)
        | inr g ↦ or_r (within lo m x) (within m hi x) (within_i m hi x g (within_high lo hi x i))
      ])
      (λ o. elim (or_split (within lo m x) (within m hi x) o) [ inl i ↦ cut_lower i | inr i ↦ cut_upper i ])

  pub cut_apart : (within lo m x && within m hi x) ≡ false
  cut_apart =
      is_false (within lo m x && within m hi x) (not_T (within lo m x && within m hi x) (λ b.
      lt→¬le x m
      (within_high lo m x (and_l (within lo m x) (within m hi x) b))
      (within_low m hi x (and_r (within lo m x) (within m hi x) b))))

  pub cut_upper_is : T (within lo hi x) → within m hi x ≡ le m x
  cut_upper_is i =
      same_test (within m hi x) (le m x) (λ j. within_low m hi x j) (λ g. within_i m hi x g (within_high lo hi x i))

  pub cut_test : T (within lo hi x) → lt x m ≡ not (le m x)
  cut_test i = lt_is x m (within_nn lo hi x i) (le_nn_r lo m above)

  pub cut_test_not : T (within lo hi x) → le m x ≡ not (lt x m)
  cut_test_not i = le_is m x (le_nn_r lo m above) (within_nn lo hi x i)

  pub cut_lower_is : T (within lo hi x) → within lo m x ≡ not (le m x)
  cut_lower_is i =
      same_test (within lo m x) (lt x m) (λ j. within_high lo m x j) (λ l. within_i lo m x (within_low lo hi x i) l)
      ∙ cut_test i

  none : (b : Bool) → within lo hi x ≡ false → (T b → T (within lo hi x)) → b ≡ false
  none b e f = is_false b (not_T b (λ t. subst T e (f t)))

  pub cut_outside_lower : within lo hi x ≡ false → within lo m x ≡ false
  cut_outside_lower e = none (within lo m x) e cut_lower

  pub cut_outside_upper : within lo hi x ≡ false → within m hi x ≡ false
  cut_outside_upper e = none (within m hi x) e cut_upper

-- ---- the two halves of [lo, hi)
module _ (lo hi : Float) (p : End lo) (q : End hi) (h : T (le lo hi)) (x : Float) where
  pub halves : within lo hi x ≡ (within lo (middle lo hi) x || within (middle lo hi) hi x)
  halves = cut_either lo (middle lo hi) hi (middle_between lo hi p q h).above (middle_between lo hi p q h).below x

  pub halves_apart : (within lo (middle lo hi) x && within (middle lo hi) hi x) ≡ false
  halves_apart = cut_apart lo (middle lo hi) hi (middle_between lo hi p q h).above (middle_between lo hi p q h).below x

  pub upper_half : T (within lo hi x) → within (middle lo hi) hi x ≡ le (middle lo hi) x
  upper_half i =
      cut_upper_is lo (middle lo hi) hi (middle_between lo hi p q h).above (middle_between lo hi p q h).below x i

  pub lower_half : T (within lo hi x) → within lo (middle lo hi) x ≡ not (le (middle lo hi) x)
  lower_half i =
      cut_lower_is lo (middle lo hi) hi (middle_between lo hi p q h).above (middle_between lo hi p q h).below x i

  pub middle_test : T (within lo hi x) → le (middle lo hi) x ≡ not (lt x (middle lo hi))
  middle_test i =
      cut_test_not lo (middle lo hi) hi (middle_between lo hi p q h).above (middle_between lo hi p q h).below x i

  pub outside_lower : within lo hi x ≡ false → within lo (middle lo hi) x ≡ false
  outside_lower e =
      cut_outside_lower lo (middle lo hi) hi (middle_between lo hi p q h).above (middle_between lo hi p q h).below x e

  pub outside_upper : within lo hi x ≡ false → within (middle lo hi) hi x ≡ false
  outside_upper e =
      cut_outside_upper lo (middle lo hi) hi (middle_between lo hi p q h).above (middle_between lo hi p q h).below x e
