-- Runs of stores: one after the other, and the loops that store a number's bytes from the last one on, and a list of numbers. Assumes nothing.
use mathlib.Core.Path.{◌≡◌, refl, sym, ap, ◌∙◌}
use mathlib.Core.List.{List, [], ◌∷◌, ◌++◌}
use Prim.Native.Nat.{ℕ, suc, ◌+◌, ◌-◌, ◌*◌, ◌/◌, ◌%◌, ◌<◌, ◌≤◌}
use native.Mathlib.Nat.{add-zero, add-suc, suc-add}
use native.Mathlib.Omega.{arith}
use lib.ListN.{length, get_or, set, take}
use lib.Seq.{sets, set_comm, length-take-le}
use Rattle.std.proofs.lemmas.List.{take_more}
use Rattle.wire.specs.Bytes.{bytes_of, shorts_bytes}
use Rattle.wire.proofs.Bytes.{bytes_count, shorts_count, shorts_more}

pub sets_append : (xs l : List ℕ) (at : ℕ) (ys : List ℕ) → sets (sets l at xs) (at + length xs) ys ≡ sets l at (xs ++ ys)
sets_append [] l at ys = ap (λ (k : ℕ). sets l k ys) (add-zero at)
sets_append (x ∷ xs) l at ys =
    ap (λ (k : ℕ). sets (sets (set l at x) (suc at) xs) k ys) (add-suc at (length xs) ∙ sym (suc-add at (length xs)))
    ∙ sets_append xs (set l at x) (suc at) ys

-- a store past the run may come before it
pub set_before : (xs l : List ℕ) (at j a : ℕ) → at + length xs ≤ j → sets (set l j a) at xs ≡ set (sets l at xs) j a
set_before [] l at j a h = refl
set_before (x ∷ xs) l at j a h =
    ap (λ (r : List ℕ). sets r (suc at) xs) (set_comm l j at a x (λ e. absurd (let q : j ≡ at = e in omega arith)))
    ∙ set_before xs (set l at x) (suc at) j a (omega arith)

-- one run after another
pub wrote : (l m : List ℕ) (at n : ℕ) (xs ys : List ℕ) {r : List ℕ} → r ≡ sets m (at + n) ys → m ≡ sets l at xs → length xs ≡ n → r ≡ sets l at (xs ++ ys)
wrote l m at n xs ys q p e =
    q ∙ ap (λ (z : List ℕ). sets z (at + n) ys) p ∙ ap (λ (k : ℕ). sets (sets l at xs) (at + k) ys) (sym e) ∙ sets_append xs l at ys

-- ---- the bytes of a number, the last one first
last_first : (l : List ℕ) (at k x : ℕ) → sets (set l (at + k) (x % 256)) at (bytes_of k (x / 256)) ≡ sets l at (bytes_of (suc k) x)
unfolding bytes_of
last_first l at k x =
    let e = bytes_count k (x / 256) in
    set_before (bytes_of k (x / 256)) l at (at + k) (x % 256) (omega arith)
    ∙ ap (λ (n : ℕ). set (sets l at (bytes_of k (x / 256))) (at + n) (x % 256)) (sym e)
    ∙ sets_append (bytes_of k (x / 256)) l at (x % 256 ∷ [])

pub put_turn : (l : List ℕ) (at left x : ℕ) → 0 < left
    → sets (set l (at + (left - 1)) (x % 256)) at (bytes_of (left - 1) (x / 256)) ≡ sets l at (bytes_of left x)
put_turn l at left x h =
    last_first l at (left - 1) x ∙ ap (λ (k : ℕ). sets l at (bytes_of k x)) (let e : suc (left - 1) ≡ left = omega arith in e)

pub put_done : (l : List ℕ) (at left x : ℕ) → left ≤ 0 → l ≡ sets l at (bytes_of left x)
unfolding bytes_of
put_done l at left x h = ap (λ (k : ℕ). sets l at (bytes_of k x)) (let e : 0 ≡ left = omega arith in e)

-- ---- a list of numbers, two bytes each: none, and one more
pub list_turn : (l : List ℕ) (at : ℕ) (xs : List ℕ) (k : ℕ) {l1 l2 : List ℕ} → k < length xs → l1 ≡ sets l at (shorts_bytes (take k xs))
    → l2 ≡ sets l1 (at + 2 * k) (bytes_of 2 (get_or xs k 0)) → l2 ≡ sets l at (shorts_bytes (take (k + 1) xs))
list_turn l at xs k {l1} h p q =
    wrote l l1 at (2 * k) (shorts_bytes (take k xs)) (bytes_of 2 (get_or xs k 0)) q p
    (shorts_count (take k xs) ∙ ap (λ (n : ℕ). 2 * n) (length-take-le k xs (omega arith)))
    ∙ ap (sets l at) (sym (ap shorts_bytes (take_more xs k 0 h) ∙ shorts_more (take k xs) (get_or xs k 0)))

pub list_none : (l : List ℕ) (at : ℕ) (xs : List ℕ) → l ≡ sets l at (shorts_bytes (take 0 xs))
unfolding shorts_bytes
list_none l at xs = refl
