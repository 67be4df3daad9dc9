-- The moving average: where nothing is rounded it is the Remy paper's, whose new sample weighs 1/8 (SIGCOMM 2013; recalled, not at hand).
-- Gaps 8, 16 average 9. Assumes nothing.
use mathlib.Core.Path.{◌≡◌, refl, sym, ap, ◌∙◌, subst}
use Prim.Native.Nat.{ℕ, suc, ◌+◌, ◌*◌, ◌^◌, ◌<◌}
use native.Mathlib.Nat.{mul-one, one-mul, mul-pos}
use native.Mathlib.Omega.{arith}
use mathlib.Core.Bool.{false}
use lib.IntN.{pos}
use lib.Dec.{T}
use lib.Ieee.{Float, fin, binary64, emax, round, add, sub, mul, fits}
use lib.Ieee.Exact.{HasValue}
use lib.Ieee.Scale.{round_same}
use lib.Ieee.Positive.{num, den, den_pos}
use Rattle.std.specs.Prelude.{Some, None}
use Rattle.floats.specs.Average.{seven_eighths, one_eighth, average}
use Rattle.floats.proofs.Nonneg.{nonneg, cross, value_nonneg, add_is, mul_is}
use Rattle.floats.proofs.Middle.{exact, fits→range}
use Rattle.quantities.specs.Time.{span, moment}
use Rattle.sender.specs.Memory.{averaged, average_next}

-- a / c is the value of some binary64, so that nothing is rounded there
pub record Exact (a c : ℕ) : Type 0 where
  pub float : Float
  pub fitting : T (fits binary64 float)
  pub value : HasValue float false a c

exactly : {a c : ℕ} → 0 < c → Exact a c → HasValue (round binary64 false a c) false a c
exactly {a} {c} C x =
    let p = value_nonneg x.float a c x.value in
    exact binary64 x.float p x.fitting 0 a c C
    (subst (λ (z : ℕ). z < 2 ^ suc (emax binary64) * den x.float) (sym (mul-one (num x.float)))
    (fits→range binary64 x.float p x.fitting))
    (ap (λ (z : ℕ). z * c) (mul-one (num x.float)) ∙ cross x.float a c x.value)

eight_pos : (d : ℕ) → 0 < d → 0 < 8 * d
eight_pos d h = omega arith

-- the sum of x / v and y / w, which are 7 / 8 of p / q and 1 / 8 of g / h
sums : (p q g h x v y w : ℕ) → x * (8 * q) ≡ 7 * p * v → y * (8 * h) ≡ g * w
    → (x * w + y * v) * (8 * (q * h)) ≡ (7 * p * h + g * q) * (v * w)
sums p q g h x v y w e k = omega (arith, ap (λ (z : ℕ). z * (w * h)) e, ap (λ (z : ℕ). z * (v * q)) k)

steps : (p q g h z d : ℕ) → z * (8 * (q * h)) ≡ (7 * p * h + g * q) * d → 8 * (z * (q * h)) + p * h * d ≡ (8 * (p * h) + g * q) * d
steps p q g h z d e = omega (arith, e)

module _ (old gap : Float) (p : T (nonneg old)) (q : T (nonneg gap)) (first : Exact (7 * num old) (8 * den old))
    (second : Exact (num gap) (8 * den gap)) (both : Exact (7 * num old * den gap + num gap * den old) (8 * (den old * den gap)))
  where
    seven : HasValue (mul binary64 seven_eighths old) false (7 * num old) (8 * den old)
    seven =
        subst (λ (z : Float). HasValue z false (7 * num old) (8 * den old)) (sym (mul_is binary64 seven_eighths old tt p))
        (exactly (eight_pos (den old) (den_pos old)) first)

    one : HasValue (mul binary64 one_eighth gap) false (num gap) (8 * den gap)
    one =
        subst (λ (z : Float). HasValue z false (num gap) (8 * den gap))
        (sym
        (mul_is binary64 one_eighth gap tt q ∙ ap (λ (n : ℕ). round binary64 false n (8 * den gap)) (one-mul (num gap))))
        (exactly (eight_pos (den gap) (den_pos gap)) second)

    -- the average is (7 * old + gap) / 8
    pub paper : HasValue (average old gap) false (7 * num old * den gap + num gap * den old) (8 * (den old * den gap))
    paper =
        let x = mul binary64 seven_eighths old in
        let y = mul binary64 one_eighth gap in
        let S = 7 * num old * den gap + num gap * den old in
        let D = 8 * (den old * den gap) in
        let pos-D : 0 < D = eight_pos (den old * den gap) (mul-pos (den_pos old) (den_pos gap)) in
        subst (λ (z : Float). HasValue z false S D)
        (sym
        (add_is binary64 x y (value_nonneg x _ _ seven) (value_nonneg y _ _ one)
        ∙ round_same binary64 false (num x * den y + num y * den x) (den x * den y) S D (mul-pos (den_pos x) (den_pos y)) pos-D
        (sums (num old) (den old) (num gap) (den gap) (num x) (den x) (num y) (den y) (cross x _ _ seven) (cross y _ _ one))))
        (exactly pos-D both)

    -- which is old + (gap - old) / 8: eight averages and old are eight times old and gap, all over den old * den gap * den average
    pub moved_an_eighth : 8 * (num (average old gap) * (den old * den gap)) + num old * den gap * den (average old gap)
        ≡ (8 * (num old * den gap) + num gap * den old) * den (average old gap)
    moved_an_eighth =
        steps (num old) (den old) (num gap) (den gap) (num (average old gap)) (den (average old gap))
        (cross (average old gap) _ _ paper)

-- 01, "Gaps 8, 16 average 9"
pub eight_sixteen : averaged (averaged None (span (fin false 1 (pos 3)))) (span (fin false 1 (pos 4)))
    ≡ Some (span (fin false 9 (pos 0)))
unfolding averaged add mul
eight_sixteen = refl

-- the same from the moments 0, 8 and 24
pub from_moments : average_next (average_next None (Some (moment (fin false 0 (pos 0)))) (moment (fin false 1 (pos 3))))
    (Some (moment (fin false 1 (pos 3)))) (moment (fin false 3 (pos 3)))
    ≡ Some (span (fin false 9 (pos 0)))
unfolding average_next averaged add sub mul
from_moments = refl
