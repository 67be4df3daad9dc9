-- The finite values that are 0 or more, -0 among them: what `0.0 <= x` lets through. -0 counts as 0 in sums, products and halves,
-- so that the laws of values whose sign is + hold with it. The library has no laws of -0 in sums and halves. Assumes nothing.
use Rattle.std.proofs.Common.{◌≡◌, ℕ, zero, suc, ◌+◌, ◌-◌, ◌*◌, ◌^◌, ◌<◌, ◌≤◌, Bool, true, false, cond, not, ◌||◌, T, eqb, ltb, ℤ, pos, sym, refl, ap, ◌∙◌, subst, mul-pos, mul-zero, zero-mul, mul-one, arith, nltb→le}
use native.Mathlib.Nat.{eq_of_mul-eq-mul_right}
use mathlib.Core.Bool.{beq}
use lib.Dec.{leb-suc-zero}
use lib.Ieee.{Float, nan, inf, fin, Format, emax, up, down, below, level, round, sum, add, mul, div, le, fits, is_nan}
use lib.Ieee.Fits.{down_pos, div-fits, and_i, eq→eqb}
use lib.Ieee.Exact.{HasValue}
use lib.Ieee.Scale.{finite}
use lib.Ieee.Positive.{num, den}
use Rattle.floats.proofs.Order.{or_r, no_more, le_le_trans, le_self}
use Rattle.floats.proofs.Nonneg.{nonneg, nonneg_nn, plus, cross→le, add_plus, mul_plus, half_plus, add_mono}
use Rattle.floats.proofs.Nonneg.{half_mono}
use Rattle.floats.proofs.Middle.{2f, mid, mid_between}
use Rattle.floats.proofs.Finite.{round-zero}

abbrev pub 0f : Float
0f = fin false 0 (pos 0)

-- finite, and 0 or more: -0 too
pub record Some (x : Float) : Type 0 where
  pub fin : T (finite x)
  pub min : T (le 0f x)

abbrev pub abs : Float → Float
abs nan = nan
abs (inf s) = inf false
abs (fin s m e) = fin false m e

pub abs_nonneg : (x : Float) → T (finite x) → T (nonneg (abs x))
abs_nonneg nan p = p
abs_nonneg (inf s) p = p
abs_nonneg (fin s m e) p = tt

abs_fits : (f : Format) (x : Float) → T (fits f x) → T (fits f (abs x))
unfolding fits
abs_fits f nan h = tt
abs_fits f (inf s) h = tt
abs_fits f (fin s zero e) h = h
abs_fits f (fin s (suc m) e) h = h

-- ---- equal in order
pub record ◌≈◌ (x y : Float) : Type 0 where
  pub le : T (le x y)
  pub ge : T (lib.Ieee.le y x)

infix 50 ◌≈◌
≈-trans : (x y z : Float) → x ≈ y → y ≈ z → x ≈ z
≈-trans x y z a b = record { le = le_le_trans x y z a.le b.le; ge = le_le_trans z y x b.ge a.ge }

≈-sym : (x y : Float) → x ≈ y → y ≈ x
≈-sym x y a = record { le = a.ge; ge = a.le }

≈-refl : (x : Float) → T (not (is_nan x)) → x ≈ x
≈-refl x n = record { le = le_self x n; ge = le_self x n }

pub plus_nn : (x : Float) → T (plus x) → T (not (is_nan x))
unfolding is_nan
plus_nn nan p = p
plus_nn (inf s) p = tt
plus_nn (fin s m e) p = tt

-- ---- zeros
zero_level : (s : Bool) (a : ℕ) (t : Bool) (b : ℕ) → a ≡ 0 → b ≡ 0 → T (below s a t b || level s a t b)
zero_level s a t b p q =
    or_r (below s a t b) (level s a t b) (and_i (eqb a b) (beq s t || eqb a 0) (eq→eqb (p ∙ sym q)) (or_r (beq s t) (eqb a 0) (eq→eqb p)))

zeros_le : (x y : Float) (s t : Bool) (c : ℕ) → 0 < c → HasValue x s 0 c → HasValue y t 0 c → T (le x y)
unfolding le
zeros_le nan y s t c C h k = absurd h
zeros_le (inf u) y s t c C h k = absurd h
zeros_le (fin u m e) nan s t c C h k = absurd k
zeros_le (fin u m e) (inf v) s t c C h k = absurd k
zeros_le (fin u m e) (fin v n d) s t c C h k =
    zero_level u (m * up e * down d) v (n * up d * down e) (none (m * up e) (down e) (down d) h.1) (none (n * up d) (down d) (down e) k.1)
  where
    none : (a d e : ℕ) → a * c ≡ 0 * d → a * e ≡ 0
    none a d e z = ap (λ (x : ℕ). x * e) (eq_of_mul-eq-mul_right c C a 0 (z ∙ zero-mul d ∙ sym (zero-mul c))) ∙ zero-mul e

zero≈ : (f : Format) (a c : ℕ) → 0 < c → a ≡ 0 → round f true a c ≈ round f false a c
zero≈ f a c C z = subst (λ (x : ℕ). round f true x c ≈ round f false x c) (sym z) (record {
  le = zeros_le (round f true 0 c) (round f false 0 c) true false c C (round-zero f true c C) (round-zero f false c C);
  ge = zeros_le (round f false 0 c) (round f true 0 c) false true c C (round-zero f false c C) (round-zero f true c C);
})

-- a value with the sign - that is 0 or more is a zero
pub minus_zero : (m : ℕ) (e : ℤ) → T (le 0f (fin true m e)) → m * up e ≡ 0
unfolding le
minus_zero m e h = go (0 * down e) (m * up e) (no_more (0 * down e) (m * up e * 1) h)
  where
    go : (a b : ℕ) → a + b * 1 ≤ 0 → b ≡ 0
    go a b h = omega arith

pub abs≈ : (x : Float) → Some x → x ≈ abs x
abs≈ nan p = absurd p.fin
abs≈ (inf s) p = absurd p.fin
abs≈ (fin false m e) p = ≈-refl (fin false m e) (nonneg_nn (fin false m e) tt)
abs≈ (fin true m e) p =
    let z : m * up e ≡ 0 = minus_zero m e p.min in
    let v : m * up e * 1 ≡ 0 * down e = mul-one (m * up e) ∙ z ∙ sym (zero-mul (down e)) in
    record {
      le = zeros_le (fin true m e) (fin false m e) true false 1 (one) (refl, v) (refl, v);
      ge = zeros_le (fin false m e) (fin true m e) false true 1 (one) (refl, v) (refl, v);
    }
  where
    one : 0 < 1
    one = omega arith

pub abs_le : (x y : Float) → Some x → Some y → T (le x y) → T (le (abs x) (abs y))
abs_le x y p q h = le_le_trans (abs x) x (abs y) (abs≈ x p).ge (le_le_trans x y (abs y) h (abs≈ y q).le)

-- ---- sums: equal to those of the values without their signs, but for -0 + -0
sum_minus_plus : (f : Format) (a b c : ℕ) → a ≡ 0 → sum f true a false b c ≡ round f false (a + b) c
unfolding sum
sum_minus_plus f a b c z =
    subst (λ (x : ℕ). cond (ltb x b) (round f false (b - x) c) (round f (ltb b x) (x - b) c) ≡ round f false (x + b) c)
    (sym z) (go (ltb 0 b) (nltb→le 0 b))
  where
    at : (b : ℕ) → b - 0 ≡ 0 + b
    at b = omega arith

    none : (b : ℕ) → b ≤ 0 → 0 - b ≡ 0 + b
    none b h = omega arith

    go : (t : Bool) → (T (not t) → b ≤ 0)
        → cond t (round f false (b - 0) c) (round f (ltb b 0) (0 - b) c) ≡ round f false (0 + b) c
    go true h = ap (λ (x : ℕ). round f false x c) (at b)
    go false h = ap (λ (s : Bool). round f s (0 - b) c) (leb-suc-zero b) ∙ ap (λ (x : ℕ). round f false x c) (none b (h tt))

sum_plus_minus : (f : Format) (a b c : ℕ) → b ≡ 0 → sum f false a true b c ≡ round f false (a + b) c
unfolding sum
sum_plus_minus f a b c z =
    subst (λ (x : ℕ). cond (ltb a x) (round f true (x - a) c) (round f false (a - x) c) ≡ round f false (a + x) c) (sym z)
    (ap (λ (t : Bool). cond t (round f true (0 - a) c) (round f false (a - 0) c)) (leb-suc-zero a) ∙ ap
    (λ (x : ℕ). round f false x c) (at a))
  where
    at : (a : ℕ) → a - 0 ≡ a + 0
    at a = omega arith

times_zero : (a d : ℕ) → a ≡ 0 → a * d ≡ 0
times_zero a d z = ap (λ (x : ℕ). x * d) z ∙ zero-mul d

add_fin : (f : Format) (s : Bool) (m : ℕ) (e : ℤ) (t : Bool) (n : ℕ) (d : ℤ)
    → add f (fin s m e) (fin t n d) ≡ sum f s (m * up e * down d) t (n * up d * down e) (down e * down d)
unfolding add
add_fin f s m e t n d = refl

sum_plus : (f : Format) (s : Bool) (a b c : ℕ) → sum f s a s b c ≡ round f s (a + b) c
unfolding sum
sum_plus f true a b c = refl
sum_plus f false a b c = refl

pub add≈ : (f : Format) (x y : Float) → Some x → Some y → add f x y ≈ add f (abs x) (abs y)
add≈ f nan y p q = absurd p.fin
add≈ f (inf s) y p q = absurd p.fin
add≈ f (fin s m e) nan p q = absurd q.fin
add≈ f (fin s m e) (inf t) p q = absurd q.fin
add≈ f (fin false m e) (fin false n d) p q =
    ≈-refl (add f (fin false m e) (fin false n d))
    (plus_nn (add f (fin false m e) (fin false n d)) (add_plus f (fin false m e) (fin false n d) tt tt))
add≈ f (fin true m e) (fin false n d) p q =
    subst (λ (z : Float). z ≈ add f (fin false m e) (fin false n d))
    (sym (add_fin f true m e false n d ∙ sum_minus_plus f (m * up e * down d) (n * up d * down e) (down e * down d)
    (times_zero (m * up e) (down d) (minus_zero m e p.min)) ∙ sym
    (add_fin f false m e false n d ∙ sum_plus f false _ _ _)))
    (≈-refl (add f (fin false m e) (fin false n d))
    (plus_nn (add f (fin false m e) (fin false n d)) (add_plus f (fin false m e) (fin false n d) tt tt)))
add≈ f (fin false m e) (fin true n d) p q =
    subst (λ (z : Float). z ≈ add f (fin false m e) (fin false n d))
    (sym (add_fin f false m e true n d ∙ sum_plus_minus f (m * up e * down d) (n * up d * down e) (down e * down d)
    (times_zero (n * up d) (down e) (minus_zero n d q.min)) ∙ sym
    (add_fin f false m e false n d ∙ sum_plus f false _ _ _)))
    (≈-refl (add f (fin false m e) (fin false n d))
    (plus_nn (add f (fin false m e) (fin false n d)) (add_plus f (fin false m e) (fin false n d) tt tt)))
add≈ f (fin true m e) (fin true n d) p q =
    subst (λ (z : Float). z ≈ add f (fin false m e) (fin false n d))
    (sym (add_fin f true m e true n d ∙ sum_plus f true _ _ _))
    (subst (λ (z : Float). round f true (m * up e * down d + n * up d * down e) (down e * down d) ≈ z)
    (sym (add_fin f false m e false n d ∙ sum_plus f false _ _ _))
    (zero≈ f (m * up e * down d + n * up d * down e) (down e * down d) (mul-pos (down_pos e) (down_pos d))
    (both (m * up e * down d) (n * up d * down e) (times_zero (m * up e) (down d) (minus_zero m e p.min))
    (times_zero (n * up d) (down e) (minus_zero n d q.min)))))
  where
    both : (a b : ℕ) → a ≡ 0 → b ≡ 0 → a + b ≡ 0
    both a b p q = omega arith

-- ---- products with a value of the sign +, and halves
pub mul≈ : (f : Format) (k x : Float) → T (nonneg k) → Some x → mul f k x ≈ mul f k (abs x)
unfolding mul
mul≈ f nan x n p = absurd n
mul≈ f (inf s) x n p = absurd n
mul≈ f (fin true o g) x n p = absurd n
mul≈ f (fin false o g) nan n p = absurd p.fin
mul≈ f (fin false o g) (inf s) n p = absurd p.fin
mul≈ f (fin false o g) (fin false m e) n p = ≈-refl _ (plus_nn _ (mul_plus f (fin false o g) (fin false m e) tt tt))
mul≈ f (fin false o g) (fin true m e) n p =
    zero≈ f (o * up g * (m * up e)) (down g * down e) (mul-pos (down_pos g) (down_pos e))
    (ap (λ (z : ℕ). o * up g * z) (minus_zero m e p.min) ∙ mul-zero (o * up g))

half≈ : (f : Format) (x : Float) → Some x → div f x 2f ≈ div f (abs x) 2f
unfolding div
half≈ f nan p = absurd p.fin
half≈ f (inf s) p = absurd p.fin
half≈ f (fin false m e) p = ≈-refl _ (plus_nn _ (half_plus f (fin false m e) tt))
half≈ f (fin true m e) p =
    zero≈ f (m * up e * 1) (2 * down e) (twice (down e) (down_pos e)) (times_zero (m * up e) 1 (minus_zero m e p.min))
  where
    twice : (a : ℕ) → 0 < a → 0 < 2 * a
    twice a h = omega arith

-- ---- what lies between 0 and a finite value
pub nonneg_some : (x : Float) → T (nonneg x) → Some x
nonneg_some x p = record { fin = go x p; min = cross→le 0f x tt p (zero-le (num x * 1) (den x)) }
  where
    zero-le : (a b : ℕ) → 0 * b ≤ a
    zero-le a b = omega arith

    go : (x : Float) → T (nonneg x) → T (finite x)
    go nan p = p
    go (inf s) p = p
    go (fin s m e) p = tt

pub between_some : (z hi : Float) → T (le 0f z) → T (le z hi) → T (finite hi) → Some z
unfolding le
between_some nan hi a h p = absurd a
between_some (inf true) hi a h p = absurd a
between_some (inf false) nan a h p = absurd p
between_some (inf false) (inf t) a h p = absurd p
between_some (inf false) (fin t n d) a h p = absurd h
between_some (fin s m e) hi a h p = record { fin = tt; min = a }

-- as `below_finite`, up to ≈
pub near_some : (z w : Float) → z ≈ w → T (nonneg w) → Some z
near_some z w q n = between_some z w (le_le_trans 0f w z (nonneg_some w n).min q.ge) q.le (nonneg_some w n).fin

halved_back : (f : Format) (z : Float) → T (plus z) → T (nonneg (div f z 2f)) → T (nonneg z)
unfolding div
halved_back f nan p n = p
halved_back f (inf s) p n = n
halved_back f (fin s m e) p n = p

-- ---- the middle of a and b, where the double of b is in range
pub record Mid (f : Format) (a b m : Float) : Type 0 where
  pub some : Some m
  pub fitting : T (fits f m)
  pub above : T (le a m)
  pub below : T (le m b)

pub mid_some : (f : Format) (a b : Float) → Some a → Some b → T (fits f a) → T (fits f b) → T (le a b)
    → num (abs b) * 2 < 2 ^ suc (emax f) * den (abs b) → Mid f a b (mid f a b)
mid_some f a b sa sb fa fb h fine =
    let ea = abs≈ a sa in
    let eb = abs≈ b sb in
    let a' = abs a in
    let b' = abs b in
    let na = abs_nonneg a sa.fin in
    let nb = abs_nonneg b sb.fin in
    let h' = le_le_trans a' a b' ea.ge (le_le_trans a b b' h eb.le) in
    let w = mid_between f a' b' na nb (abs_fits f a fa) (abs_fits f b fb) h' fine in
    let S = add f b a in
    let S' = add f b' a' in
    let m = div f S 2f in
    let m' = div f S' 2f in
    let eS : S ≈ S' = add≈ f b a sb sa in
    let nS' : T (nonneg S') = halved_back f S' (add_plus f b' a' nb na) w.finite in
    let sS : Some S = near_some S S' eS nS' in
    let nS : T (nonneg (abs S)) = abs_nonneg S sS.fin in
    let eA : abs S ≈ S' = ≈-trans (abs S) S S' (≈-sym S (abs S) (abs≈ S sS)) eS in
    let eH : div f (abs S) 2f ≈ m' =
    record { le = half_mono f (abs S) S' nS nS' eA.le; ge = half_mono f S' (abs S) nS' nS eA.ge } in
    let em : m ≈ m' = ≈-trans m (div f (abs S) 2f) m' (half≈ f S sS) eH in
    record {
      some = near_some m m' em w.finite;
      fitting = div-fits f S 2f;
      above = le_le_trans a a' m ea.le (le_le_trans a' m' m w.above em.ge);
      below = le_le_trans m b' b (le_le_trans m m' b' em.le w.below) eb.ge;
    }

-- ---- sums grow with each operand, and are 0 or more
pub add_mono_some : (f : Format) (x x' y y' : Float) → Some x → Some x' → Some y → Some y' → T (le x x') → T (le y y')
    → T (le (add f x y) (add f x' y'))
add_mono_some f x x' y y' p p' q q' h k =
    le_le_trans (add f x y) (add f (abs x) (abs y)) (add f x' y') (add≈ f x y p q).le
    (le_le_trans (add f (abs x) (abs y)) (add f (abs x') (abs y')) (add f x' y')
    (add_mono f (abs x) (abs x') (abs y) (abs y')
    (abs_nonneg x p.fin) (abs_nonneg x' p'.fin) (abs_nonneg y q.fin) (abs_nonneg y' q'.fin)
    (abs_le x x' p p' h) (abs_le y y' q q' k))
    (add≈ f x' y' p' q').ge)

pub plus_min : (z : Float) → T (plus z) → T (le 0f z)
unfolding le
plus_min nan p = absurd p
plus_min (inf true) p = absurd p
plus_min (inf false) p = tt
plus_min (fin s m e) p = (nonneg_some (fin s m e) p).min

pub add_min : (f : Format) (x y : Float) → Some x → Some y → T (le 0f (add f x y))
add_min f x y p q =
    le_le_trans 0f (add f (abs x) (abs y)) (add f x y)
    (plus_min (add f (abs x) (abs y)) (add_plus f (abs x) (abs y) (abs_nonneg x p.fin) (abs_nonneg y q.fin)))
    (add≈ f x y p q).ge
