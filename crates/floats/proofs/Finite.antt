-- `x.is_finite()` and `x - x == 0.0` hold just where x is finite. Assumes nothing.
use Rattle.std.proofs.Common.{◌≡◌, ℕ, suc, ◌+◌, ◌-◌, ◌*◌, ◌^◌, ◌<◌, Bool, true, false, cond, not, ◌||◌, T, eqb, ltb, pos, sym, refl, ap, ◌∙◌, subst, lt_irrefl, mul-pos, zero-mul, mul-one, ltb→lt, pow_pos}
use native.Mathlib.Nat.{sub_self, eq_of_mul-eq-mul_right}
use mathlib.Core.Bool.{beq}
use lib.Dec.{not_T}
use lib.Ieee.{Float, nan, inf, fin, Format, prec, emax, low, up, down, round, sum, sub, eq}
use lib.Ieee.Fits.{down_pos, eq→eqb, and_i}
use lib.Ieee.Bits.{is_true, is_false}
use lib.Ieee.Exact.{HasValue, round_exact}
use lib.Ieee.Scale.{finite}
use Rattle.std.specs.Float.{float_is_finite}

pub finite_test : (x : Float) → float_is_finite x ≡ finite x
unfolding float_is_finite
finite_test nan = refl
finite_test (inf s) = refl
finite_test (fin s m e) = refl

pub round-zero : (f : Format) (s : Bool) (c : ℕ) → 0 < c → HasValue (round f s 0 c) s 0 c
round-zero f s c C =
    round_exact f s 0 c 0 0 C (pow_pos (prec f)) (pow_pos (low f + suc (emax f))) (zero-mul (2 ^ low f) ∙ sym (zero-mul c))

-- equal to 0.0
eq-zero : (x : Float) (s : Bool) (c : ℕ) → 0 < c → HasValue x s 0 c → T (eq x (fin false 0 (pos 0)))
unfolding eq
eq-zero nan s c C h = absurd h
eq-zero (inf t) s c C h = absurd h
eq-zero (fin t m e) s c C h =
    let z : m * up e ≡ 0 = eq_of_mul-eq-mul_right c C (m * up e) 0 (h.1 ∙ zero-mul (down e) ∙ sym (zero-mul c)) in
    let y : m * up e * 1 ≡ 0 = mul-one (m * up e) ∙ z in
    let w : 0 * down e ≡ 0 = zero-mul (down e) in
    and_i (eqb (m * up e * 1) (0 * down e)) (beq t false || eqb (m * up e * 1) 0) (eq→eqb (y ∙ sym w))
    (or_r (beq t false) (eqb (m * up e * 1) 0) (eq→eqb y))
  where
    or_r : (a b : Bool) → T b → T (a || b)
    or_r true b t = tt
    or_r false b t = t

not-below : (a : ℕ) → ltb a a ≡ false
not-below a = is_false (ltb a a) (not_T (ltb a a) (λ t. lt_irrefl a (ltb→lt a a t)))

sum_self : (f : Format) (s : Bool) (a c : ℕ) → sum f s a (not s) a c ≡ round f false 0 c
unfolding sum
sum_self f true a c =
    ap (λ (b : Bool). cond b (round f false (a - a) c) (round f b (a - a) c)) (not-below a) ∙ ap
    (λ (z : ℕ). round f false z c) (sub_self a)
sum_self f false a c =
    ap (λ (b : Bool). cond b (round f true (a - a) c) (round f false (a - a) c)) (not-below a) ∙ ap
    (λ (z : ℕ). round f false z c) (sub_self a)

pub sub_self_is : (f : Format) (x : Float) → eq (sub f x x) (fin false 0 (pos 0)) ≡ finite x
unfolding sub eq
sub_self_is f nan = refl
sub_self_is f (inf true) = refl
sub_self_is f (inf false) = refl
sub_self_is f (fin s m e) =
    is_true _ (eq-zero (sum f s (m * up e * down e) (not s) (m * up e * down e) (down e * down e)) false (down e * down e)
    (mul-pos (down_pos e) (down_pos e))
    (subst (λ (z : Float). HasValue z false 0 (down e * down e)) (sym (sum_self f s (m * up e * down e) (down e * down e)))
    (round-zero f false (down e * down e) (mul-pos (down_pos e) (down_pos e)))))
