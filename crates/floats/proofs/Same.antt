-- Two values that fit, are equal and above 0 are one: an odd number times a power of 2 is written in one way.
-- The library has it of whole values alone. Assumes nothing.
use Rattle.std.proofs.Common.{◌≡◌, ℕ, zero, suc, ◌*◌, ◌%◌, ◌^◌, ◌<◌, Bool, true, false, ◌&&◌, T, eqb, ltb, leb, ℤ, pos, negsuc, sym, refl, ap, ◌∙◌, zero-lt-suc, mul_assoc, pow-suc, zero-mul, mul-one, mul_left_comm, arith, eqb→eq, ltb→lt}
use native.Mathlib.Nat.{pow-succ', eq_of_mul-eq-mul_right}
use lib.Ieee.{Float, nan, inf, fin, Format, prec, emax, low, up, down, eq, lt, fits}
use lib.Ieee.Fits.{and_l}

even_odd : (m t : ℕ) → m % 2 ≡ 1 → m ≡ 2 * t → ⊥
even_odd m t o h = omega arith

odd_power : (m n a b : ℕ) → m % 2 ≡ 1 → n % 2 ≡ 1 → m * 2 ^ a ≡ n * 2 ^ b → (m ≡ n) × (a ≡ b)
odd_power m n zero zero o p h = (sym (mul-one m) ∙ h ∙ mul-one n, refl)
odd_power m n zero (suc b) o p h =
    absurd (even_odd m (n * 2 ^ b) o (sym (mul-one m) ∙ h ∙ ap (λ (x : ℕ). n * x) (pow-succ' 2 b) ∙ mul_left_comm n 2 (2 ^ b)))
odd_power m n (suc a) zero o p h =
    absurd (even_odd n (m * 2 ^ a) p (sym (mul-one n) ∙ sym h ∙ ap (λ (x : ℕ). m * x) (pow-succ' 2 a) ∙ mul_left_comm m 2 (2 ^ a)))
odd_power m n (suc a) (suc b) o p h =
    let r = odd_power m n a b o p (eq_of_mul-eq-mul_right 2 (zero-lt-suc 1) (m * 2 ^ a) (n * 2 ^ b)
    (mul_assoc m (2 ^ a) 2 ∙ ap (λ (x : ℕ). m * x) (sym (pow-suc 2 a)) ∙ h ∙ ap (λ (x : ℕ). n * x) (pow-suc 2 b) ∙ sym (mul_assoc n (2 ^ b) 2))) in
    (r.0, ap suc r.1)

-- of a value that fits and is not 0, m is odd
is_odd : (f : Format) (s : Bool) (m : ℕ) (e : ℤ) → T (fits f (fin s (suc m) e)) → suc m % 2 ≡ 1
unfolding fits
is_odd f s m e t =
    eqb→eq (suc m % 2) 1 (and_l (eqb (suc m % 2) 1) (ltb (suc m) (2 ^ prec f)) (and_l (eqb (suc m % 2) 1 && ltb (suc m) (2 ^ prec f)) (leb (down e) (2 ^ low f))
    (and_l (eqb (suc m % 2) 1 && ltb (suc m) (2 ^ prec f) && leb (down e) (2 ^ low f)) (ltb (suc m * up e) (2 ^ suc (emax f) * down e)) t)))

one_way : (m n : ℕ) (e g : ℤ) → m % 2 ≡ 1 → n % 2 ≡ 1 → m * up e * down g ≡ n * up g * down e → (m ≡ n) × (e ≡ g)
one_way m n (pos a) (pos b) o p h =
    let r = odd_power m n a b o p (sym (mul-one (m * 2 ^ a)) ∙ h ∙ mul-one (n * 2 ^ b)) in
    (r.0, ap pos r.1)
one_way m n (pos a) (negsuc b) o p h =
    absurd (even_odd n (m * 2 ^ a * 2 ^ b) p
    (sym (mul-one n) ∙ sym (mul-one (n * 1)) ∙ sym h ∙ ap (λ (x : ℕ). m * 2 ^ a * x) (pow-succ' 2 b) ∙ mul_left_comm (m * 2 ^ a) 2 (2 ^ b)))
one_way m n (negsuc a) (pos b) o p h =
    absurd (even_odd m (n * 2 ^ b * 2 ^ a) o
    (sym (mul-one m) ∙ sym (mul-one (m * 1)) ∙ h ∙ ap (λ (x : ℕ). n * 2 ^ b * x) (pow-succ' 2 a) ∙ mul_left_comm (n * 2 ^ b) 2 (2 ^ a)))
one_way m n (negsuc a) (negsuc b) o p h =
    let r = odd_power m n (suc b) (suc a) o p (ap (λ (x : ℕ). x * 2 ^ suc b) (sym (mul-one m)) ∙ h ∙ ap (λ (x : ℕ). x * 2 ^ suc a) (mul-one n)) in
    (r.0, ap negsuc (down_suc (sym r.1)))
  where
    down_suc : {x y : ℕ} → suc x ≡ suc y → x ≡ y
    down_suc q = omega arith

no_zero : (e : ℤ) → T (ltb (0 * down e) (0 * up e * 1)) → ⊥
no_zero e h = none (0 * down e) (0 * up e * 1) (0 * up e) (zero-mul (up e)) refl (ltb→lt (0 * down e) (0 * up e * 1) h)
  where
    none : (a b c : ℕ) → c ≡ 0 → b ≡ c * 1 → a < b → ⊥
    none a b c z k l = omega arith

pub equal_same : (f : Format) (x y : Float) → T (fits f x) → T (fits f y) → T (lt (fin false 0 (pos 0)) x) → T (lt (fin false 0 (pos 0)) y) → T (eq x y) → x ≡ y
unfolding eq lt
equal_same f nan y p q a b h = absurd h
equal_same f (inf s) nan p q a b h = absurd h
equal_same f (inf true) (inf t) p q a b h = absurd a
equal_same f (inf false) (inf true) p q a b h = absurd b
equal_same f (inf false) (inf false) p q a b h = refl
equal_same f (inf s) (fin t n g) p q a b h = absurd h
equal_same f (fin s m e) nan p q a b h = absurd h
equal_same f (fin s m e) (inf t) p q a b h = absurd h
equal_same f (fin true m e) (fin t n g) p q a b h = absurd a
equal_same f (fin false m e) (fin true n g) p q a b h = absurd b
equal_same f (fin false zero e) (fin false n g) p q a b h = absurd (no_zero e a)
equal_same f (fin false (suc m) e) (fin false zero g) p q a b h = absurd (no_zero g b)
equal_same f (fin false (suc m) e) (fin false (suc n) g) p q a b h =
    let r = one_way (suc m) (suc n) e g (is_odd f false m e p) (is_odd f false n g q)
    (eqb→eq (suc m * up e * down g) (suc n * up g * down e) (and_l (eqb (suc m * up e * down g) (suc n * up g * down e)) _ h)) in
    λ i. fin false (r.0 i) (r.1 i)
