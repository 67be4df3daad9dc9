-- One fact for each way through the functions on actions, over plain values. Assumes nothing.
use mathlib.Core.Path.{◌≡◌, refl, sym, ap, ◌∙◌, subst}
use mathlib.Core.Bool.{Bool, true, false, not, ◌&&◌, cond}
use Prim.Native.Nat.{ℕ, suc, ◌+◌, ◌-◌, ◌*◌, ◌/◌, ◌^◌, ◌≤◌, ◌<◌, min}
use native.Mathlib.Nat.{mul-pos, div-lt_iff_lt-mul, le-div_iff_mul-le}
use native.Mathlib.Omega.{arith}
use borrow.Author.Tests.{ltb-true, ltb-false, lt-ltb}
use lib.IntN.{ℤ, pos, negsuc, sub_ℕ, nat_abs, ◌+ℤ◌}
use lib.Dec.{ltb, ltb→lt, lt→ltb, nltb→le, not_T, lit<}
use lib.Signed.{mag}
use Rattle.std.proofs.Common.{nat_eq}
use Rattle.std.specs.Int.{int_min, int_max}
use Rattle.std.proofs.lemmas.Bool.Decides.{nat_tests}
use lib.Ieee.{Float, nan, inf, fin, up, down, lt}
use lib.Ieee.Fits.{down_pos}
use lib.Ieee.Casts.{to_signed_in}
use lib.Ieee.{to_signed}
use mir.Syntax.{w32, w64}
use mir.Val.{SFits, of_z, to_z}
use mir.ValLaws.{to_z-of_z}
use Rattle.floats.proofs.Order.{same_test}
use Rattle.remy.specs.declared.action.Action.{Action}
use Rattle.remy.specs.declared.action.Applied.{Applied}
use Rattle.remy.specs.Action.{clamp, outside, held_of, cut_outside, rule_of, window_of, sum_of, product_of}

-- ---- the sum held to 0..=1,000,000
-- the sum clamped, and whether that changed it
record Clamped (z r : ℤ) : Type 0 where
  window : nat_abs (to_z w64 (of_z w64 r)) ≡ clamp z
  differs : not (nat_eq (of_z w64 r) (of_z w64 z)) ≡ outside z

clamped : (z r : ℤ) → SFits w64 z → r ≡ int_max (pos 0) (int_min z (pos 1000000)) → Clamped z r
unfolding clamp outside
clamped z r f e = rw e (go z f)
  where
    small : (n : ℕ) → n ≤ 1000000 → n ≡ min n 1000000
    small n h = omega arith

    large : (n : ℕ) → 1000000 < n → 1000000 ≡ min n 1000000
    large n h = omega arith

    unequal : (n : ℕ) → 1000000 < n → nat_eq 1000000 n ≡ false
    unequal n h = grind (arith, nat_tests)

    equal : (n : ℕ) → nat_eq n n ≡ true
    equal n = grind (arith, nat_tests)

    low : (n : ℕ) → ltb n 0 ≡ false
    low n = grind (arith, nat_tests)

    above_zero : (n : ℕ) → suc n ≤ 2 ^ 63 → nat_eq 0 (2 ^ 64 - suc n) ≡ false
    above_zero n h = grind (arith, nat_tests)

    in_range : (n : ℕ) → n ≤ 1000000 → SFits w64 (pos n)
    in_range n h = record { sfits = omega arith }

    go : (z : ℤ) → SFits w64 z → Clamped z (int_max (pos 0) (int_min z (pos 1000000)))
    go (negsuc n) f = record { window = refl; differs = rw (above_zero n (let h = f.sfits in omega arith)) }
    go (pos n) f = by (ltb 1000000 n) refl
      where
        by : (b : Bool) → ltb 1000000 n ≡ b → Clamped (pos n) (int_max (pos 0) (cond b (pos 1000000) (pos n)))
        by true e = let h = ltb-true 1000000 n e in record { window = large n h; differs = rw (unequal n h, e) }
        by false e =
            let h = ltb-false 1000000 n e in
            rw (low n) record { window = ap nat_abs (to_z-of_z w64 (pos n) (in_range n h)) ∙ small n h; differs = rw (equal n, e) }

module _ (z r : ℤ) (cut : Bool) (f : SFits w64 z) (e : r ≡ int_max (pos 0) (int_min z (pos 1000000))) where
  pub held_clipped : (of_z w64 r ≡ of_z w64 z → ⊥)
      → ◌≡◌ {A = Applied} record { window = nat_abs (to_z w64 (of_z w64 r)); clipped = not (nat_eq (of_z w64 r) (of_z w64 z)) } (held_of z cut)
  unfolding held_of
  held_clipped h =
      let c = clamped z r f e in
      let u : not (nat_eq (of_z w64 r) (of_z w64 z)) ≡ true = unequal (of_z w64 r) (of_z w64 z) h in
      rw (u, c.window, sym c.differs ∙ u)
    where
      unequal : (a b : ℕ) → (a ≡ b → ⊥) → not (nat_eq a b) ≡ true
      unequal a b h = grind (arith, nat_tests)

  pub held_kept : of_z w64 r ≡ of_z w64 z
      → ◌≡◌ {A = Applied} record { window = nat_abs (to_z w64 (of_z w64 r)); clipped = cut } (held_of z cut)
  unfolding held_of
  held_kept h = let c = clamped z r f e in rw (c.window, sym (sym (equal (of_z w64 r) (of_z w64 z) h) ∙ c.differs))
    where
      equal : (a b : ℕ) → a ≡ b → not (nat_eq a b) ≡ false
      equal a b h = grind (arith, nat_tests)

-- ---- a product that is cut outside the range of i32
abbrev low_end : Float
low_end = fin true 2147483649 (pos 0)

abbrev high_end : Float
high_end = fin false 1 (pos 31)

-- the quotient of a by d against c
quotient : (a c d : ℕ) → 0 < d → ltb c (a / d) ≡ not (ltb (a * 1) (suc c * d))
quotient a c d p =
    let b = ltb (a * 1) (suc c * d) in
    same_test (ltb c (a / d)) (not b)
    (λ t. not_T b (λ l. no (a / d) c (ltb→lt c (a / d) t) ((div-lt_iff_lt-mul p).1 (left a (suc c * d) (ltb→lt (a * 1) (suc c * d) l)))))
    (λ t. lt→ltb c (a / d) ((le-div_iff_mul-le p).1 (right a (suc c * d) (nltb→le (a * 1) (suc c * d) t))))
  where
    no : (q c : ℕ) → c < q → q < suc c → ⊥
    no q c h k = omega arith

    left : (a c : ℕ) → a * 1 < c → a < c
    left a c h = omega arith

    right : (a c : ℕ) → c ≤ a * 1 → c ≤ a
    right a c h = omega arith

and-true : (b : Bool) → b ≡ (b && true)
and-true true = refl
and-true false = refl

above_zero : (a c d : ℕ) → 0 < c → 0 < d → 0 < a * 1 + c * d
above_zero a c d h k = omega (arith, mul-pos h k)

above_zero_2 : (a c d : ℕ) → 0 < c → 0 < d → 0 < c * d + a * 1
above_zero_2 a c d h k = omega (arith, mul-pos h k)

cut_is : (x : Float) → cut_outside x ≡ not (lt low_end x && lt x high_end)
unfolding cut_outside lt
cut_is nan = refl
cut_is (inf true) = refl
cut_is (inf false) = refl
cut_is (fin false m e) =
    quotient (m * up e) 2147483647 (down e) (down_pos e)
    ∙ ap (λ (b : Bool). not (b && ltb (m * up e * 1) (2147483648 * down e)))
    (sym (lt-ltb 0 (2147483649 * down e + m * up e * 1) (above_zero_2 (m * up e) 2147483649 (down e) (lit< tt) (down_pos e))))
cut_is (fin true m e) =
    quotient (m * up e) 2147483648 (down e) (down_pos e)
    ∙ ap not (and-true (ltb (m * up e * 1) (2147483649 * down e)))
    ∙ ap (λ (b : Bool). not (ltb (m * up e * 1) (2147483649 * down e) && b))
    (sym (lt-ltb 0 (m * up e * 1 + 2147483648 * down e) (above_zero (m * up e) 2147483648 (down e) (lit< tt) (down_pos e))))

-- the two ways through the test that x lies inside
pub cut_above : (x : Float) (b : Bool) → lt low_end x ≡ true → b ≡ lt x high_end → not b ≡ cut_outside x
cut_above x b h e = rw (cut_is x, h, e)

pub cut_below : (x : Float) (b : Bool) → lt low_end x ≡ false → b ≡ lt low_end x → not b ≡ cut_outside x
cut_below x b h e = rw (cut_is x, e, h)

-- ---- the sum, in i64
mag_sub : (a b H : ℕ) → a < H → b ≤ H → mag (sub_ℕ a b) < H + H
mag_sub a b H h k = go (ltb a b)
  where
    go : (t : Bool) → mag (cond t (negsuc (b - suc a)) (pos (a - b))) < H + H
    go true = omega arith
    go false = omega arith

mag_sum : (a b : ℤ) (H : ℕ) → mag a < H → mag b < H → mag (a +ℤ b) < H + H
mag_sum (pos a) (pos b) H h k = omega arith
mag_sum (pos a) (negsuc b) H h k = mag_sub a (suc b) H h k
mag_sum (negsuc a) (pos b) H h k = mag_sub b (suc a) H k h
mag_sum (negsuc a) (negsuc b) H h k = omega arith

wide : {z : ℤ} → SFits w32 z → SFits w64 z
wide f = record { sfits = let h = f.sfits in omega arith }

wide_sum : {a b : ℤ} → SFits w32 a → SFits w32 b → SFits w64 (a +ℤ b)
wide_sum {a} {b} f g = record { sfits = let h = mag_sum a b (2 ^ 31) f.sfits g.sfits in omega arith }

-- a number of i32 in i64
same : {z : ℤ} → SFits w32 z → to_z w64 (of_z w64 (to_z w32 (of_z w32 z))) ≡ z
same {z} f = ap (λ (y : ℤ). to_z w64 (of_z w64 y)) (to_z-of_z w32 z f) ∙ to_z-of_z w64 z (wide f)

pub sum_fits : {a b : ℤ} → SFits w32 a → SFits w32 b
    → SFits w64 (to_z w64 (of_z w64 (to_z w32 (of_z w32 a))) +ℤ to_z w64 (of_z w64 (to_z w32 (of_z w32 b))))
sum_fits f g = rw (same f, same g) (wide_sum f g)

pub cut-whole : (x : Float) (z : ℤ) → z ≡ to_signed 31 x → SFits w32 z
cut-whole x z e = record { sfits = subst (λ (y : ℤ). mag y < 2 ^ 31) (sym e) (to_signed_in 31 x) }

-- ---- the window rule
pub rule_is : (a : Action) (w : ℕ) → held_of (sum_of a w) (cut_outside (product_of a w)) ≡ rule_of a w
unfolding held_of rule_of
rule_is a w = refl

pub window_is : (a : Action) (w : ℕ) (r : Applied) → r ≡ rule_of a w → r.window ≡ window_of a w
unfolding rule_of
window_is a w r e = ap (λ (x : Applied). x.window) e

pub applied_is : (a : Action) (w : ℕ) (z : ℤ) (b : Bool) (r : Applied) → SFits w32 a.window_increment
    → z ≡ to_signed 31 (product_of a w) → b ≡ cut_outside (product_of a w)
    → r ≡ held_of (to_z w64 (of_z w64 (to_z w64 (of_z w64 (to_z w32 (of_z w32 z))) +ℤ to_z w64 (of_z w64 (to_z w32 (of_z w32 a.window_increment)))))) b
    → r ≡ rule_of a w
applied_is a w z b r f ez eb h =
    let g = cut-whole (product_of a w) z ez in
    h
    ∙ ap (λ (x : ℤ). held_of x b) (to_z-of_z w64 _ (sum_fits g f))
    ∙ ap (λ (x : ℤ). held_of (x +ℤ to_z w64 (of_z w64 (to_z w32 (of_z w32 a.window_increment)))) b) (same g ∙ ez)
    ∙ ap (λ (x : ℤ). held_of (to_signed 31 (product_of a w) +ℤ x) b) (same f)
    ∙ ap (held_of (sum_of a w)) eb
    ∙ rule_is a w
