-- A running average of gaps that are 0 or more and below an end stays 0 or more and below it, with the rounding of each operation: some p of binary64 is at least the
-- average and below the end; the next gap g makes it the greater of p and g, and floats' law of the average closes it. Assumes nothing.
use mathlib.Core.Bool.{true, false}
use mathlib.Core.Logic.{inl, inr}
use lib.Dec.{T}
use lib.Ieee.{Float, nan, inf, fin, binary64, le, lt, fits}
use lib.Ieee.Fits.{and_l, and_r, and_i}
use Rattle.std.specs.Prelude.{Option, Some, None}
use Rattle.floats.specs.Average.{average}
use Rattle.floats.specs.Interval.{within}
use Rattle.floats.proofs.Order.{le_nn_r, le_self, le-or-lt, le_le_trans, le_lt_trans, lt_le_trans, lt→le}
use Rattle.floats.proofs.Zero.{0f}
use Rattle.floats.proofs.Zero as zeros
use Rattle.floats.proofs.Average.{least, average_le, average_some}
use Rattle.quantities.specs.declared.TimeSpan.{TimeSpan}
use Rattle.quantities.specs.Time.{span}
use Rattle.sender.specs.Memory.{averaged, value_of}
use Rattle.chart_laws.proofs.Quotient.{1f}

-- ---- 0 or more, and below something
pub below_some : (z end : Float) → T (le 0f z) → T (lt z end) → zeros.Some z
unfolding le lt
below_some nan end h k = absurd h
below_some (inf true) end h k = absurd h
below_some (inf false) nan h k = absurd k
below_some (inf false) (inf t) h k = absurd k
below_some (inf false) (fin t n d) h k = absurd k
below_some (fin s m e) end h k = record { fin = tt; min = h }

-- ---- a bound: a binary64 of at least 2 ^ -1019, and below the end
pub record Bound (end p : Float) : Type 0 where
  pub fitting : T (fits binary64 p)
  pub large : T (le least p)
  pub below : T (lt p end)

zero_least : T (le 0f least)
unfolding le
zero_least = tt

least_one : T (lt least 1f)
unfolding lt
least_one = tt

bound_some : {end p : Float} → Bound end p → zeros.Some p
bound_some {end} {p} b = below_some p end (le_le_trans 0f least p zero_least b.large) b.below

least_fits : T (fits binary64 least)
unfolding fits
least_fits = tt

pub least_bound : (end : Float) → T (le 1f end) → Bound end least
least_bound end h = record {
  fitting = least_fits;
  large = le_self least (le_nn_r 0f least zero_least);
  below = lt_le_trans least 1f end least_one h;
}

-- the greater of a bound and a gap below the end
record Raised (end p g : Float) : Type 0 where
  bound : Float
  is : Bound end bound
  old : T (le p bound)
  gap : T (le g bound)

raise : (end p g : Float) → Bound end p → T (fits binary64 g) → T (le 0f g) → T (lt g end) → Raised end p g
raise end p g b f h k =
    let np = le_nn_r least p b.large in
    let ng = le_nn_r 0f g h in
    elim (le-or-lt p g np ng) [
      | inl l ↦ record {
        bound = g;
        is = record { fitting = f; large = le_le_trans least p g b.large (lt→le p g l); below = k };
        old = lt→le p g l;
        gap = le_self g ng;
      }
      | inr l ↦ record { bound = p; is = b; old = le_self p np; gap = l }
    ]

-- ---- a value that is at most some bound
pub record Under (end a : Float) : Type 0 where
  pub bound : Float
  pub is : Bound end bound
  pub some : zeros.Some a
  pub least : T (le a bound)

module _ (end : Float) (one : T (le 1f end)) where
  -- the first gap
  pub under_first : (g : Float) → T (fits binary64 g) → T (within 0f end g) → Under end g
  under_first g f w =
      let h = and_l (le 0f g) (lt g end) w in
      let k = and_r (le 0f g) (lt g end) w in
      let r = raise end least g (least_bound end one) f h k in
      record { bound = r.bound; is = r.is; some = below_some g end h k; least = r.gap }

  -- a later one
  pub under_next : (a g : Float) → Under end a → T (fits binary64 g) → T (within 0f end g) → Under end (average a g)
  under_next a g u f w =
      let h = and_l (le 0f g) (lt g end) w in
      let k = and_r (le 0f g) (lt g end) w in
      let r = raise end u.bound g u.is f h k in
      let p = r.bound in
      let b = r.is in
      let s = below_some g end h k in
      let l = le_le_trans a u.bound p u.least r.old in
      record {
        bound = p;
        is = b;
        some = average_some p a g (bound_some b).fin b.fitting b.large u.some s l r.gap;
        least = average_le p a g (bound_some b).fin b.fitting b.large u.some s l r.gap;
      }

  pub under_within : (a : Float) → Under end a → T (within 0f end a)
  under_within a u = and_i (le 0f a) (lt a end) u.some.min (le_lt_trans a u.bound end u.least u.is.below)

-- ---- the same of a sender's average
abbrev pub Kept : Float → Option TimeSpan → Type 0
Kept end None = T true
Kept end (Some a) = Under end a.0

zero_one : T (lt 0f 1f)
unfolding lt
zero_one = tt

zero_zero : T (le 0f 0f)
unfolding le
zero_zero = tt

module _ (end : Float) (one : T (le 1f end)) where
  pub kept_next : (a : Option TimeSpan) (g : Float) → Kept end a → T (fits binary64 g) → T (within 0f end g) → Kept end (averaged a (span g))
  unfolding averaged
  kept_next None g u f w = under_first end one g f w
  kept_next (Some a) g u f w = under_next end one a.0 g u f w

  pub kept_within : (a : Option TimeSpan) → Kept end a → T (within 0f end (value_of a))
  unfolding value_of
  kept_within None u = and_i (le 0f 0f) (lt 0f end) zero_zero (lt_le_trans 0f 1f end zero_one one)
  kept_within (Some a) u = under_within end one a.0 u
