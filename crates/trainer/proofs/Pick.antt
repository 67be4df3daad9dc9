-- The length of the list of candidates and its element k, from the sums that the three axes hold. Assumes nothing.
use Rattle.std.proofs.Common.{◌≡◌, sym, ap, ◌∙◌, List, ℕ, ◌*◌, ◌/◌, ◌%◌, ◌<◌, ◌≤◌, length, get_or}
use Rattle.std.specs.Prelude.{Some, None}
use native.Mathlib.Nat.{mod-lt, div-lt_iff_lt-mul}
use borrow.Author.Tests.{lt-ltb, le-ltb}
use lib.IntN.{ℤ, pos}
use lib.Ieee.{Float, nan}
use Rattle.remy.specs.declared.action.Action.{Action}
use Rattle.remy.specs.Action.{action_of}
use Rattle.trainer.specs.declared.settings.Settings.{Settings}
use Rattle.trainer.specs.declared.candidates.Candidate.{Candidate}
use Rattle.trainer.specs.Candidates.{candidates_of, pick_of, no_candidate}
use Rattle.trainer.specs.Axes.{multiplier_sums, increment_sums, delay_sums}
use Rattle.trainer.proofs.Lists.{get_d_any}
use Rattle.trainer.proofs.Product.{candidates_are, product_at, some}
use Rattle.trainer.proofs.CandidateLaws.{total}

-- ---- numbers: m, i and d values, and k below their product
module _ (m i d k : ℕ) (h : k < m * (i * d)) where
  pub each_some : 0 < i * d
  each_some = some k m (i * d) h

  pub rest_below : k % (i * d) < i * d
  rest_below = mod-lt k each_some

  pub last_some : 0 < d
  last_some = some (k % (i * d)) i d rest_below

  pub first_below : k / (i * d) < m
  first_below = (div-lt_iff_lt-mul each_some).1 h

  pub second_below : k % (i * d) / d < i
  second_below = (div-lt_iff_lt-mul last_some).1 rest_below

  pub third_below : k % (i * d) % d < d
  third_below = mod-lt (k % (i * d)) last_some

-- ---- the list of candidates, by its axes' sums and how many each keeps
module _ (s : Settings) (a : Action) (k : ℕ) (ms : List Float) (is : List ℤ) (ds : List Float)
    (em : ms ≡ multiplier_sums s a) (ei : is ≡ increment_sums s a) (ed : ds ≡ delay_sums s a)
    (m i d : ℕ) (lm : m ≡ length ms) (li : i ≡ length is) (ld : d ≡ length ds) where
  listed : m * (i * d) ≡ length (candidates_of s a)
  listed = rw (lm, li, ld, em, ei, ed) (total s a)

  pub pick_past : m * (i * d) ≤ k → ◌≡◌ {A = Candidate} (record { length = m * (i * d); action = None }) (pick_of (candidates_of s a) k)
  unfolding pick_of
  pick_past h = rw (← listed, le-ltb k (m * (i * d)) h)

  at_k : k < m * (i * d)
      → get_or (candidates_of s a) k no_candidate
      ≡ action_of (get_or ms (k / (i * d)) nan) (get_or is (k % (i * d) / d) (pos 0)) (get_or ds (k % (i * d) % d) nan)
  at_k h =
      ap (λ (xs : List Action). get_or xs k no_candidate) (candidates_are s a)
      ∙ product_at (delay_sums s a) (multiplier_sums s a) (increment_sums s a) k no_candidate (rw (← em, ← ei, ← ed, ← lm, ← li, ← ld) h)
      ∙ rw (li, ld, em, ei, ed)

  pub pick_at : (x : Float) (y v : ℤ) (z : Float) (w : Action) → k < m * (i * d)
      → x ≡ get_or ms (k / (i * d)) x → y ≡ get_or is (k % (i * d) / d) y → z ≡ get_or ds (k % (i * d) % d) z → v ≡ y → w ≡ action_of x v z
      → ◌≡◌ {A = Candidate} (record { length = m * (i * d); action = Some w }) (pick_of (candidates_of s a) k)
  unfolding pick_of
  pick_at x y v z w h ex ey ez ev ew =
      let p = ex ∙ get_d_any ms (k / (i * d)) x nan (rw (← lm) (first_below m i d k h)) in
      let q = ev ∙ ey ∙ get_d_any is (k % (i * d) / d) y (pos 0) (rw (← li) (second_below m i d k h)) in
      let r = ez ∙ get_d_any ds (k % (i * d) % d) z nan (rw (← ld) (third_below m i d k h)) in
      rw (← listed, lt-ltb k (m * (i * d)) h)
      (ap (λ (u : Action). record { length = m * (i * d); action = Some u }) (ew ∙ (λ j. action_of (p j) (q j) (r j)) ∙ sym (at_k h)))

-- within the list there is a candidate
pub pick_within : (xs : List Action) (k : ℕ) (r : Candidate) → r ≡ pick_of xs k → k < length xs → r.action ≡ Some (get_or xs k no_candidate)
unfolding pick_of
pick_within xs k r e h = ap (λ (c : Candidate). c.action) e ∙ rw (lt-ltb k (length xs) h)
