-- A number in decimal: it is what the library prints, and a small number has few digits. Assumes nothing.
use mathlib.Core.Path.{◌≡◌, refl, sym, ap, ◌∙◌}
use mathlib.Core.Bool.{Bool, true, false, cond}
use mathlib.Core.List.{List, [], ◌∷◌, ◌++◌, append_assoc, append-nil}
use Prim.Native.Nat.{ℕ, zero, suc, ◌+◌, ◌/◌, ◌%◌, ◌^◌, ◌<◌, ◌≤◌}
use native.Mathlib.Nat.{pow-suc}
use native.Mathlib.Omega.{arith}
use borrow.Author.Tests.{lt-ltb, le-ltb, ltb-true, ltb-false, ne_eqb}
use lib.Dec.{eqb, ltb}
use lib.ListN.{length, length-append}
use Rattle.std.specs.Fmt as fmt
use Rattle.std.specs.Fmt.{digit_glyph, digits_onto}
use Rattle.panel_lines.specs.Panel.{digits, decimal}

-- ---- what the library prints: its digits stand before those that it is handed
one_digit : (x : ℕ) → x < 10 → digit_glyph false x ≡ 48 + x
one_digit x l = rw (lt-ltb x 10 l)

printed_one : (k m x : ℕ) (acc : List ℕ) → x < 10 → digits_onto (suc m) 10 false x acc ≡ digits (suc k) x ++ acc
unfolding digits
printed_one k m x acc l =
    let q : x / 10 ≡ 0 = omega arith in
    let r : x % 10 ≡ x = omega arith in
    rw (q, r, lt-ltb x 10 l) refl

printed : (k m x : ℕ) (acc : List ℕ) → x < 10 ^ suc k → k ≤ m → digits_onto (suc m) 10 false x acc ≡ digits (suc k) x ++ acc
unfolding digits
printed zero m x acc l h = printed_one zero m x acc (omega (arith, pow-suc 10 0))
printed (suc k) zero x acc l h = absurd (omega arith)
printed (suc k) (suc m) x acc l h =
    by (ltb x 10) refl (λ g. printed k m (x / 10) (digit_glyph false (x % 10) ∷ acc) g (omega arith)) (omega (arith, pow-suc 10 (suc k)))
  where
    by : (b : Bool) → ltb x 10 ≡ b
        → (x / 10 < 10 ^ suc k → digits_onto (suc m) 10 false (x / 10) (digit_glyph false (x % 10) ∷ acc) ≡ digits (suc k) (x / 10) ++ (digit_glyph false (x % 10) ∷ acc))
        → x / 10 < 10 ^ suc k → digits_onto (suc (suc m)) 10 false x acc ≡ digits (suc (suc k)) x ++ acc
    by true e f g = printed_one (suc k) (suc m) x acc (ltb-true x 10 e)
    by false e f g =
        let n : eqb (x / 10) 0 ≡ false = ne_eqb (x / 10) 0 (λ z. omega (arith, z, ltb-false x 10 e)) in
        rw (n, e)
        (f g ∙ ap (λ (d : ℕ). digits (suc k) (x / 10) ++ (d ∷ acc)) (one_digit (x % 10) (omega arith))
        ∙ sym (append_assoc (digits (suc k) (x / 10)) ((48 + x % 10) ∷ []) acc))

pub printed_decimal : (x : ℕ) → x < 2 ^ 64 → fmt.decimal x ≡ decimal x
unfolding fmt.digits
printed_decimal x h = printed 19 63 x [] (omega arith) (omega arith) ∙ append-nil (decimal x)

-- ---- how many digits
digits_few : (n k x : ℕ) → x < 10 ^ suc k → length (digits n x) ≤ suc k
unfolding digits
digits_few zero k x l = omega arith
digits_few (suc n) k x l = by (ltb x 10) refl k l (λ j. digits_few n j (x / 10))
  where
    by : (b : Bool) → ltb x 10 ≡ b → (k : ℕ) → x < 10 ^ suc k → ((j : ℕ) → x / 10 < 10 ^ suc j → length (digits n (x / 10)) ≤ suc j)
        → length (cond b ((48 + x) ∷ []) (digits n (x / 10) ++ ((48 + x % 10) ∷ []))) ≤ suc k
    by true e k l f = omega arith
    by false e zero l f = absurd (omega (arith, ltb-false x 10 e, pow-suc 10 0))
    by false e (suc k) l f = let h = f k (omega (arith, pow-suc 10 (suc k))) in simp length-append (omega arith)

pub decimal_few : (k x : ℕ) → x < 10 ^ suc k → length (decimal x) ≤ suc k
decimal_few k x l = digits_few 20 k x l

-- ---- a number of two digits or more is its tenth's and a digit
digits_more : (n x : ℕ) → x < 10 ^ suc n → digits (suc (suc n)) x ≡ digits (suc n) x
unfolding digits
digits_more zero x l = let q : ltb x 10 ≡ true = lt-ltb x 10 (omega (arith, pow-suc 10 0)) in rw q
digits_more (suc n) x l =
    let h : x / 10 < 10 ^ suc n = omega (arith, pow-suc 10 (suc n)) in
    ap (λ (d : List ℕ). cond (ltb x 10) ((48 + x) ∷ []) (d ++ ((48 + x % 10) ∷ []))) (digits_more n (x / 10) h)

pub decimal_more : (x : ℕ) → 10 ≤ x → x < 18446744073709551616 → decimal x ≡ decimal (x / 10) ++ ((48 + x % 10) ∷ [])
unfolding digits
decimal_more x l h =
    rw (le-ltb x 10 l) (ap (λ (d : List ℕ). d ++ ((48 + x % 10) ∷ [])) (sym (digits_more 18 (x / 10) (omega arith))))
