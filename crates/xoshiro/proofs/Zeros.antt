-- Only the state of four zeros steps to it, or back to it. Assumes nothing.
use Rattle.std.proofs.Common.{◌≡◌, ℕ, ◌^◌, ◌<◌, Bool, true, false, sym, refl, ap, ◌∙◌, arith}
use Rattle.std.proofs.lemmas.Bool.Decides.{nat_tests}
use lib.Bits.{bit_xor, xor_zero_r}
use Rattle.xoshiro.specs.declared.State.{State}
use Rattle.xoshiro.specs.Xoshiro.{shifted, rotated, smeared, zeros, zeros_of, next_of, back_of}
use Rattle.xoshiro.proofs.Words.{xor_back, smeared_undo, rotated_undo}
use Rattle.xoshiro.proofs.Inverse.{Held, step_back}

-- a ^ b is 0 where a is b alone
xor_none : (a b : ℕ) → bit_xor a b ≡ 0 → a ≡ b
xor_none a b e = sym (xor_back a b) ∙ ap (λ (x : ℕ). bit_xor x b) e

turned_none : (x : ℕ) → rotated x 45 ≡ 0 → x ≡ 0
turned_none x e =
    let l : x < 2 ^ 64 = omega arith in
    sym (rotated_undo x l) ∙ ap (λ (y : ℕ). rotated y 19) e

smeared_none : (x : ℕ) → smeared 17 x ≡ 0 → x ≡ 0
smeared_none x e = sym (smeared_undo x) ∙ ap (λ (y : ℕ). smeared 34 (smeared 17 y)) e

same : (s : State) → s.s0 ≡ 0 → s.s1 ≡ 0 → s.s2 ≡ 0 → s.s3 ≡ 0 → s ≡ zeros
same s p q r t = λ j. record { s0 = p j; s1 = q j; s2 = r j; s3 = t j }

-- no state but four zeros leads to four zeros
pub zeros_only : (s : State) → next_of s ≡ zeros → s ≡ zeros
zeros_only s e =
    let x2 = bit_xor s.s2 s.s0 in
    let x3 = bit_xor s.s3 s.s1 in
    let e3 : x3 ≡ 0 = turned_none x3 (ap (λ (x : State). x.s3) e) in
    let e0 : s.s0 ≡ 0 = xor_none s.s0 x3 (ap (λ (x : State). x.s0) e) ∙ e3 in
    let same2 : x2 ≡ s.s2 = ap (bit_xor s.s2) e0 ∙ xor_zero_r s.s2 in
    let e12 : s.s1 ≡ s.s2 = xor_none s.s1 x2 (ap (λ (x : State). x.s1) e) ∙ same2 in
    let f : smeared 17 s.s1 ≡ 0 =
    ap (λ (x : ℕ). bit_xor x (shifted s.s1 17)) (e12 ∙ sym same2) ∙ ap (λ (x : State). x.s2) e in
    let e1 : s.s1 ≡ 0 = smeared_none s.s1 f in
    same s e0 e1 (sym e12 ∙ e1) (xor_none s.s3 s.s1 e3 ∙ e1)

pub zeros_before : (s : State) → Held s → back_of s ≡ zeros → s ≡ zeros
zeros_before s h e = sym (step_back s h) ∙ ap next_of e

-- the test says it of the words
pub zeros_told : (s : State) → zeros_of s ≡ true → s ≡ zeros
unfolding zeros_of
zeros_told s e = same s (grind (arith, nat_tests)) (grind (arith, nat_tests)) (grind (arith, nat_tests)) (grind (arith, nat_tests))

-- a state that passes the test passes it after what leads to four zeros from four zeros alone
pub passing : (s t : State) → (t ≡ zeros → s ≡ zeros) → zeros_of s ≡ false → zeros_of t ≡ false
unfolding zeros_of
passing s t only e = go (zeros_of t) refl
  where
    go : (b : Bool) → zeros_of t ≡ b → b ≡ false
    go false f = refl
    go true f = sym (ap zeros_of (only (zeros_told t f))) ∙ e

-- so after every step
pub never_zeros : (s : State) → zeros_of s ≡ false → zeros_of (next_of s) ≡ false
never_zeros s e = passing s (next_of s) (zeros_only s) e
