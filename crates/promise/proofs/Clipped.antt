-- The plain side's flag is the window rule's: where the product, once cut to whole, is in the range of i32, the rule's sum is that of
-- the cut product. Assumes nothing.
use mathlib.Core.Path.{◌≡◌, refl, sym, ap, ◌∙◌}
use mathlib.Core.Bool.{Bool, true, false, not, ◌&&◌, ◌||◌, or-true, or-false}
use Prim.Native.Nat.{ℕ, zero, suc, ◌*◌, ◌/◌, ◌-◌, ◌^◌, ◌≤◌, ◌<◌, min}
use native.Mathlib.Omega.{arith}
use borrow.Author.Tests.{ltb-true, ltb-false, le-leb, lt-leb}
use lib.Dec.{ltb, leb, leb-zero}
use lib.IntN.{ℤ, pos, negsuc, neg_ℤ, ◌+ℤ◌}
use lib.Signed.{le_z}
use lib.Ieee.{Float, nan, inf, fin, up, down, to_signed}
use Rattle.remy.specs.declared.action.Action.{Action}
use Rattle.remy.specs.Action.{cut_outside, outside, rule_of, product_of}
use Rattle.promise.specs.PlainSender.{within, clips_at, clips}

-- ---- a sum outside 0..=1,000,000
not_leb : (n c : ℕ) → not (leb n c) ≡ ltb c n
not_leb n c = go (ltb c n) refl
  where
    go : (b : Bool) → ltb c n ≡ b → not (leb n c) ≡ b
    go true e = ap not (lt-leb n c (ltb-true c n e))
    go false e = ap not (le-leb n c (ltb-false c n e))

sum_outside : (z : ℤ) → not (within (pos 0) z (pos 1000000)) ≡ outside z
unfolding outside
sum_outside (pos n) = ap (λ (b : Bool). not (b && leb n 1000000)) (leb-zero n) ∙ not_leb n 1000000
sum_outside (negsuc n) = refl

-- ---- a whole number against the range of i32
below_end : (q : ℕ) → 2147483648 < q → le_z (negsuc 2147483647) (neg_ℤ (pos q)) ≡ false
below_end zero h = absurd (omega arith)
below_end (suc k) h = lt-leb k 2147483647 (omega arith)

in_below : (q : ℕ) → q ≤ 2147483648 → within (negsuc 2147483647) (neg_ℤ (pos q)) (pos 2147483647) ≡ true
in_below zero h = refl
in_below (suc k) h = ap (λ (b : Bool). b && true) (le-leb k 2147483647 (omega arith))

-- ---- a finite product of the magnitude q once it is cut, and the rule's sum with it
negative : (q : ℕ) (i : ℤ)
    → not (within (negsuc 2147483647) (neg_ℤ (pos q)) (pos 2147483647) && within (pos 0) (neg_ℤ (pos q) +ℤ i) (pos 1000000))
    ≡ (outside (neg_ℤ (pos (min q (2 ^ 31))) +ℤ i) || ltb (2 ^ 31) q)
negative q i = go (ltb 2147483648 q) refl
  where
    go : (b : Bool) → ltb 2147483648 q ≡ b
        → not (within (negsuc 2147483647) (neg_ℤ (pos q)) (pos 2147483647) && within (pos 0) (neg_ℤ (pos q) +ℤ i) (pos 1000000))
        ≡ (outside (neg_ℤ (pos (min q 2147483648)) +ℤ i) || b)
    go true e =
        let h = ltb-true 2147483648 q e in
        ap (λ (b : Bool). not ((b && le_z (neg_ℤ (pos q)) (pos 2147483647)) && within (pos 0) (neg_ℤ (pos q) +ℤ i) (pos 1000000))) (below_end q h)
        ∙ sym (or-true (outside (neg_ℤ (pos (min q 2147483648)) +ℤ i)))
    go false e =
        let h = ltb-false 2147483648 q e in
        let m : q ≡ min q 2147483648 = omega arith in
        ap (λ (b : Bool). not (b && within (pos 0) (neg_ℤ (pos q) +ℤ i) (pos 1000000))) (in_below q h)
        ∙ sum_outside (neg_ℤ (pos q) +ℤ i) ∙ ap (λ (n : ℕ). outside (neg_ℤ (pos n) +ℤ i)) m ∙ sym (or-false (outside (neg_ℤ (pos (min q 2147483648)) +ℤ i)))

positive : (q : ℕ) (i : ℤ)
    → not (within (negsuc 2147483647) (pos q) (pos 2147483647) && within (pos 0) (pos q +ℤ i) (pos 1000000))
    ≡ (outside (pos (min q (2 ^ 31 - 1)) +ℤ i) || ltb (2 ^ 31 - 1) q)
positive q i = go (ltb 2147483647 q) refl
  where
    go : (b : Bool) → ltb 2147483647 q ≡ b
        → not (leb q 2147483647 && within (pos 0) (pos q +ℤ i) (pos 1000000)) ≡ (outside (pos (min q 2147483647) +ℤ i) || b)
    go true e =
        ap (λ (b : Bool). not (b && within (pos 0) (pos q +ℤ i) (pos 1000000))) (lt-leb q 2147483647 (ltb-true 2147483647 q e))
        ∙ sym (or-true (outside (pos (min q 2147483647) +ℤ i)))
    go false e =
        let h = ltb-false 2147483647 q e in
        let m : q ≡ min q 2147483647 = omega arith in
        ap (λ (b : Bool). not (b && within (pos 0) (pos q +ℤ i) (pos 1000000))) (le-leb q 2147483647 h)
        ∙ sum_outside (pos q +ℤ i) ∙ ap (λ (n : ℕ). outside (pos n +ℤ i)) m ∙ sym (or-false (outside (pos (min q 2147483647) +ℤ i)))

clips_at_lem : (x : Float) (i : ℤ) → clips_at x i ≡ (outside (to_signed 31 x +ℤ i) || cut_outside x)
unfolding clips_at cut_outside to_signed
clips_at_lem nan i = sym (or-true (outside (pos 0 +ℤ i)))
clips_at_lem (inf s) i = sym (or-true (outside (to_signed 31 (inf s) +ℤ i)))
clips_at_lem (fin true m e) i = negative (m * up e / down e) i
clips_at_lem (fin false m e) i = positive (m * up e / down e) i

pub clips_rule : (a : Action) (w : ℕ) → clips a w ≡ (rule_of a w).clipped
unfolding rule_of
clips_rule a w = clips_at_lem (product_of a w) a.window_increment
