-- A text stored, and a number's digits. Assumes nothing.
use mathlib.Core.Path.{◌≡◌, refl, sym, ap, ◌∙◌}
use mathlib.Core.List.{List, ◌++◌, append_assoc}
use Prim.Native.Nat.{ℕ, ◌+◌, ◌-◌, ◌≤◌}
use native.Mathlib.Omega.{arith}
use lib.ListN.{length, take, drop}
use lib.Seq.{sets-eq, drop-drop}
use borrow.Rule.Slice.PartMut.{put_mid}
use Rattle.panel_lines.specs.Parts.{Wrote}

-- a text that a slice of the buffer holds
pub text_put : (l text new : List ℕ) (at : ℕ) → at + length text ≤ length l → new ≡ text
    → Wrote l at (put_mid at ((at + length text) - at) l new) (at + length text) text
text_put l text new at h e = record {
  place = refl;
  stored =
      ap (put_mid at ((at + length text) - at) l) e
      ∙ ap (λ (k : ℕ). put_mid at k l text) (let z : (at + length text) - at ≡ length text = omega arith in z)
      ∙ ap (λ (r : List ℕ). take at l ++ (text ++ r)) (drop-drop (length text) at l)
      ∙ sym (append_assoc (take at l) text (drop (at + length text) l)) ∙ sym (sets-eq text l at h);
}
