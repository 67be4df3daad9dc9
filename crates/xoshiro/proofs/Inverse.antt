-- The step back and the step undo each other. Assumes nothing.
use Rattle.std.proofs.Common.{◌≡◌, ℕ, ◌^◌, ◌<◌, ap, ◌∙◌, ap₂}
use Rattle.std.specs.Int.Bits.{xor_assoc}
use lib.Bits.{bit_xor, xor_comm, xor_lt}
use Rattle.xoshiro.specs.declared.State.{State}
use Rattle.xoshiro.specs.Xoshiro.{shifted, rotated, smeared, next_of, back_of}
use Rattle.xoshiro.proofs.Words.{xor_undo, xor_back, xor_meet, smeared_undo, smeared_back, rotated_undo, rotated_back}

-- the words of a state have 64 bits, as in every state that a program holds
pub record Held (s : State) : Type 0 where
  pub s0 : s.s0 < 2 ^ 64
  pub s1 : s.s1 < 2 ^ 64
  pub s2 : s.s2 < 2 ^ 64
  pub s3 : s.s3 < 2 ^ 64

same : (s : State) (a b c d : ℕ) → a ≡ s.s0 → b ≡ s.s1 → c ≡ s.s2 → d ≡ s.s3 → record { s0 = a; s1 = b; s2 = c; s3 = d } ≡ s
same s a b c d p q r t = λ j. record { s0 = p j; s1 = q j; s2 = r j; s3 = t j }

-- a ^ (b ^ a) is b
around : (a b : ℕ) → bit_xor a (bit_xor b a) ≡ b
around a b = ap (bit_xor a) (xor_comm b a) ∙ xor_undo a b

pub back_step : (s : State) → Held s → back_of (next_of s) ≡ s
back_step s h =
    let x2 = bit_xor s.s2 s.s0 in
    let x3 = bit_xor s.s3 s.s1 in
    let t = shifted s.s1 17 in
    let e3 : rotated (rotated x3 45) 19 ≡ x3 = rotated_undo x3 (xor_lt 64 s.s3 s.s1 h.s3 h.s1) in
    let e0 : bit_xor (bit_xor s.s0 x3) (rotated (rotated x3 45) 19) ≡ s.s0 =
    ap (bit_xor (bit_xor s.s0 x3)) e3 ∙ xor_back s.s0 x3 in
    let e1 : smeared 34 (smeared 17 (bit_xor (bit_xor s.s1 x2) (bit_xor x2 t))) ≡ s.s1 =
    ap (λ (x : ℕ). smeared 34 (smeared 17 x)) (xor_meet s.s1 x2 t) ∙ smeared_undo s.s1 in
    same s _ _ _ _ e0 e1
    (ap₂ (λ (x y : ℕ). bit_xor (bit_xor (bit_xor s.s1 x2) x) y) e1 e0
    ∙ ap (λ (x : ℕ). bit_xor x s.s0) (xor_assoc s.s1 x2 s.s1 ∙ around s.s1 x2)
    ∙ xor_back s.s2 s.s0)
    (ap₂ bit_xor e3 e1 ∙ xor_back s.s3 s.s1)

pub step_back : (s : State) → Held s → next_of (back_of s) ≡ s
step_back s h =
    let x3 = rotated s.s3 19 in
    let p0 = bit_xor s.s0 x3 in
    let p1 = smeared 34 (smeared 17 (bit_xor s.s1 s.s2)) in
    let x2 = bit_xor s.s1 p1 in
    let e2 : bit_xor (bit_xor x2 p0) p0 ≡ x2 = xor_back x2 p0 in
    let e3 : bit_xor (bit_xor x3 p1) p1 ≡ x3 = xor_back x3 p1 in
    same s _ _ _ _
    (ap (bit_xor p0) e3 ∙ xor_back s.s0 x3)
    (ap (bit_xor p1) e2 ∙ around p1 s.s1)
    (ap (λ (x : ℕ). bit_xor x (shifted p1 17)) e2
    ∙ xor_assoc s.s1 p1 (shifted p1 17)
    ∙ ap (bit_xor s.s1) (smeared_back (bit_xor s.s1 s.s2))
    ∙ xor_undo s.s1 s.s2)
    (ap (λ (x : ℕ). rotated x 45) e3 ∙ rotated_back s.s3 h.s3)
