-- Laws on the list of candidates: each is valid where the settings hold, there are at most 4,096, and what they hang on.
-- Assumes nothing.
use mathlib.Core.Path.{◌≡◌, refl, sym, ap, ◌∙◌, subst, subst⁻¹}
use mathlib.Core.Bool.{Bool, true, false, ◌&&◌, cond, false≢true}
use mathlib.Core.List.{List, [], ◌∷◌, map}
use Prim.Native.Nat.{ℕ, zero, suc, ◌*◌, ◌≤◌, ◌<◌}
use Rattle.std.specs.Prelude.{Option, Some, None}
use native.Mathlib.Omega.{arith}
use native.Mathlib.Nat.{mul-le-mul}
use borrow.Author.Tests.{leb-true, le-leb, ltb-true}
use lib.Dec.{ltb}
use lib.ListN.{length, get_or, length-map}
use lib.IntN.{ℤ, pos, negsuc, neg_ℤ, ◌+ℤ◌}
use lib.Signed.{le_z}
use lib.Ieee.{Float, nan, inf, fin, binary64, add, neg, le}
use lib.Ieee.Scale.{finite}
use Rattle.remy.specs.declared.action.Action.{Action}
use Rattle.remy.specs.declared.point.Point.{Point}
use Rattle.remy.specs.Action.{valid_of, increment_holds}
use Rattle.floats.proofs.Order.{le_nan_r}
use Rattle.trainer.specs.declared.settings.Settings.{Settings}
use Rattle.trainer.specs.Settings.{axis, multiplier_axis, increment_axis, delay_axis, settings_hold}
use Rattle.trainer.specs.Candidates.{changes, inside_of, all_changes, candidates_of, pick_of, no_candidate}
use Rattle.trainer.specs.Axes.{within, kept_sums, multiplier_sums, increment_sums, delay_sums}
use Rattle.trainer.proofs.Lists.{filter_length, filter_passes, flat_length}
use Rattle.trainer.proofs.Product.{candidates_are, product_length}
use Rattle.trainer.proofs.Holds.{min_valid, max_valid, and_left, and_right}

-- ---- between two valid ends lies a valid part
zero_one : ◌≡◌ {A = ℕ} 0 1 → ⊥
zero_one z = omega arith

finite_between : (lo x hi : Float) → finite lo ≡ true → finite hi ≡ true → le lo x ≡ true → le x hi ≡ true → finite x ≡ true
unfolding le
finite_between lo (fin s m e) hi f g p q = refl
finite_between lo nan hi f g p q = absurd (false≢true (sym (le_nan_r lo) ∙ p))
finite_between (fin t n d) (inf true) hi f g p q = absurd (false≢true p)
finite_between nan (inf true) hi f g p q = absurd (false≢true f)
finite_between (inf t) (inf true) hi f g p q = absurd (false≢true f)
finite_between lo (inf false) (fin t n d) f g p q = absurd (false≢true q)
finite_between lo (inf false) nan f g p q = absurd (false≢true g)
finite_between lo (inf false) (inf t) f g p q = absurd (false≢true g)

increment_between : (lo z hi : ℤ) → increment_holds lo ≡ true → increment_holds hi ≡ true → le_z lo z ≡ true → le_z z hi ≡ true
    → increment_holds z ≡ true
increment_between lo z hi l h p q =
    both (le_z (negsuc 999999) z) (le_z z (pos 1000000))
    (trans (negsuc 999999) lo z (and_left (le_z (negsuc 999999) lo) (le_z lo (pos 1000000)) l) p)
    (trans z hi (pos 1000000) q (and_right (le_z (negsuc 999999) hi) (le_z hi (pos 1000000)) h))
  where
    both : (a b : Bool) → a ≡ true → b ≡ true → (a && b) ≡ true
    both a b e f = rw (e, f)

    trans : (a b c : ℤ) → le_z a b ≡ true → le_z b c ≡ true → le_z a c ≡ true
    trans (pos a) (pos b) (pos c) e f = le-leb a c (omega (arith, leb-true a b e, leb-true b c f))
    trans (pos a) (pos b) (negsuc c) e f = f
    trans (pos a) (negsuc b) (pos c) e f = absurd (false≢true e)
    trans (pos a) (negsuc b) (negsuc c) e f = e
    trans (negsuc a) (pos b) (pos c) e f = refl
    trans (negsuc a) (pos b) (negsuc c) e f = absurd (false≢true f)
    trans (negsuc a) (negsuc b) (pos c) e f = refl
    trans (negsuc a) (negsuc b) (negsuc c) e f = le-leb c a (omega (arith, leb-true b a e, leb-true c b f))

-- the parts of a valid action: its floats, then its increment
valid_parts : (a : Action) → valid_of a ≡ true
    → (finite a.window_multiplier ≡ true) × (finite a.intersend_delay.0 ≡ true) × (increment_holds a.window_increment ≡ true)
unfolding valid_of
valid_parts a h =
    let f = finite a.window_multiplier in
    let g = finite a.intersend_delay.0 in
    let i = increment_holds a.window_increment in
    let r = and_right f (g && i) h in
    (and_left f (g && i) h, and_left g i r, and_right g i r)

float_between : (lo hi x : Float) → within le lo hi x ≡ true → finite lo ≡ true → finite hi ≡ true → finite x ≡ true
float_between lo hi x e f g = finite_between lo x hi f g (and_left (le lo x) (le x hi) e) (and_right (le lo x) (le x hi) e)

whole_between : (lo hi z : ℤ) → within le_z lo hi z ≡ true → increment_holds lo ≡ true → increment_holds hi ≡ true → increment_holds z ≡ true
whole_between lo hi z e f g = increment_between lo z hi f g (and_left (le_z lo z) (le_z z hi) e) (and_right (le_z lo z) (le_z z hi) e)

valid_from : (a : Action) → finite a.window_multiplier ≡ true → finite a.intersend_delay.0 ≡ true
    → increment_holds a.window_increment ≡ true → valid_of a ≡ true
unfolding valid_of
valid_from a f g i = rw (f, g, i)

-- an action inside min..max is valid
pub inside_valid : (s : Settings) (a : Action) → settings_hold s ≡ true → inside_of s a ≡ true → valid_of a ≡ true
unfolding inside_of
inside_valid s a h e =
    let lo = s.min_action in
    let hi = s.max_action in
    let m = within le lo.window_multiplier hi.window_multiplier a.window_multiplier in
    let i = within le_z lo.window_increment hi.window_increment a.window_increment in
    let d = within le lo.intersend_delay.0 hi.intersend_delay.0 a.intersend_delay.0 in
    let r = and_right m (i && d) e in
    let p = valid_parts lo (min_valid s h) in
    let q = valid_parts hi (max_valid s h) in
    valid_from a
    (float_between lo.window_multiplier hi.window_multiplier a.window_multiplier (and_left m (i && d) e) p.0 q.0)
    (float_between lo.intersend_delay.0 hi.intersend_delay.0 a.intersend_delay.0 (and_right i d r) p.1 q.1)
    (whole_between lo.window_increment hi.window_increment a.window_increment (and_left i d r) p.2 q.2)

-- each candidate lies inside min..max, and so is valid
pub candidate_inside : (s : Settings) (a : Action) (k : ℕ) (d : Action) → k < length (candidates_of s a)
    → inside_of s (get_or (candidates_of s a) k d) ≡ true
unfolding candidates_of
candidate_inside s a k d h = filter_passes (inside_of s) (all_changes s a) k d h

pub candidate_valid : (s : Settings) (a : Action) (k : ℕ) (d : Action) → settings_hold s ≡ true → k < length (candidates_of s a)
    → valid_of (get_or (candidates_of s a) k d) ≡ true
candidate_valid s a k d h l = inside_valid s (get_or (candidates_of s a) k d) h (candidate_inside s a k d l)

-- what the call picks
pick_parts : (xs : List Action) (k : ℕ) (x : Action) → (pick_of xs k).action ≡ Some x → (k < length xs) × (x ≡ get_or xs k no_candidate)
unfolding pick_of
pick_parts xs k x e = go (ltb k (length xs)) refl e
  where
    go : (b : Bool) → ltb k (length xs) ≡ b → ◌≡◌ {A = Option Action} (cond b (Some (get_or xs k no_candidate)) None) (Some x)
        → (k < length xs) × (x ≡ get_or xs k no_candidate)
    go true t e = (ltb-true k (length xs) t, cc)
    go false t e = let z : ◌≡◌ {A = ℕ} 0 1 = cc in absurd (zero_one z)

pub picked : (s : Settings) (a : Action) (k : ℕ) (x : Action) → settings_hold s ≡ true → (pick_of (candidates_of s a) k).action ≡ Some x
    → ((pick_of (candidates_of s a) k).length ≡ length (candidates_of s a)) × (k < length (candidates_of s a))
    × (x ≡ get_or (candidates_of s a) k no_candidate) × (valid_of x ≡ true)
unfolding pick_of
picked s a k x h e =
    let q = pick_parts (candidates_of s a) k x e in (
      refl,
      q.0,
      q.1,
      subst⁻¹ (λ (y : Action). valid_of y ≡ true) q.1 (candidate_valid s a k no_candidate h q.0),
    )

-- ---- at most 4,096
axis_few : {A : Type 0} (at_most : A → A → Bool) (times : A → A) (n : ℕ) (x max : A) → length (axis at_most times n x max) ≤ n
unfolding axis
axis_few at_most times zero x max = omega arith
axis_few {A} at_most times (suc n) x max = go (at_most x max) (axis_few at_most times n (times x) max)
  where
    go : (b : Bool) → length (axis at_most times n (times x) max) ≤ n → length (cond b (x ∷ axis at_most times n (times x) max) []) ≤ suc n
    go true h = omega arith
    go false h = omega arith

kept_few : {A : Type 0} (at_most : A → A → Bool) (sum : A → A → A) (minus : A → A) (part low high : A) (xs : List A) → length xs ≤ 8
    → length (kept_sums at_most sum minus part low high xs) ≤ 16
kept_few {A} at_most sum minus part low high xs h =
    omega (
      arith,
      filter_length (within at_most low high) (map (sum part) (changes minus xs)),
      length-map (changes minus xs) (sum part),
      flat_length (λ (v : A). v ∷ minus v ∷ []) 2 (λ v. refl) xs,
    )

module _ (s : Settings) (a : Action) where
  pub multipliers_few : length (multiplier_sums s a) ≤ 16
  multipliers_few = kept_few le (add binary64) neg _ _ _ (multiplier_axis 8 s) (axis_few _ _ 8 _ _)

  pub increments_few : length (increment_sums s a) ≤ 16
  increments_few = kept_few le_z ◌+ℤ◌ neg_ℤ _ _ _ (increment_axis 8 s) (axis_few _ _ 8 _ _)

  pub delays_few : length (delay_sums s a) ≤ 16
  delays_few = kept_few le (add binary64) neg _ _ _ (delay_axis 8 s) (axis_few _ _ 8 _ _)

  pub total : length (multiplier_sums s a) * (length (increment_sums s a) * length (delay_sums s a)) ≡ length (candidates_of s a)
  total = sym (ap length (candidates_are s a) ∙ product_length (delay_sums s a) (multiplier_sums s a) (increment_sums s a))

  pub candidates_few : length (candidates_of s a) ≤ 4096
  candidates_few = subst (λ (n : ℕ). n ≤ 4096) total (mul-le-mul multipliers_few (mul-le-mul increments_few delays_few))

-- ---- the list hangs on neither the splits, the rounds, the drill, the default action nor the upper ends
pub same_candidates : (s : Settings) (a : Action) (splits rounds : ℕ) (drill : Bool) (default : Action) (ends : Point)
    → candidates_of
    (record {
      rule_splits = splits;
      optimization_rounds_per_split = rounds;
      action_change_multiplier = s.action_change_multiplier;
      drill_down = drill;
      min_action = s.min_action;
      max_action = s.max_action;
      initial_action_change = s.initial_action_change;
      max_action_change = s.max_action_change;
      default_action = default;
      ends = ends;
    }) a
    ≡ candidates_of s a
unfolding candidates_of inside_of
same_candidates s a splits rounds drill default ends = refl
