-- The loop that writes windows, four bytes each: the first i are in the buffer. Assumes nothing.
use mathlib.Core.Path.{◌≡◌, refl, sym, ap, ◌∙◌}
use mathlib.Core.List.{List, [], ◌∷◌, ◌++◌, append_assoc, append-nil}
use Prim.Native.Nat.{ℕ, ◌+◌, ◌*◌, ◌<◌}
use native.Mathlib.Omega.{arith}
use lib.ListN.{length, get_or, take, length-append}
use lib.Seq.{sets, length-take-le}
use Rattle.std.proofs.lemmas.List.{take_more}
use Rattle.wire.specs.Bytes.{bytes_of}
use Rattle.wire.proofs.Bytes.{bytes_count}
use Rattle.wire.proofs.Stores.{wrote}
use Rattle.host_burst.specs.Bursts.{windows_bytes}

pub windows_count : (ws : List ℕ) → length (windows_bytes ws) ≡ 4 * length ws
unfolding windows_bytes
windows_count [] = refl
windows_count (w ∷ ws) = length-append (bytes_of 4 w) (windows_bytes ws) ∙ omega (arith, bytes_count 4 w, windows_count ws)

one_more : (ws : List ℕ) (x : ℕ) → windows_bytes (ws ++ (x ∷ [])) ≡ windows_bytes ws ++ bytes_of 4 x
unfolding windows_bytes
one_more [] x = append-nil (bytes_of 4 x)
one_more (w ∷ ws) x = ap (λ (l : List ℕ). bytes_of 4 w ++ l) (one_more ws x) ∙ sym (append_assoc (bytes_of 4 w) (windows_bytes ws) (bytes_of 4 x))

pub none : (out ws : List ℕ) → out ≡ sets out 0 (windows_bytes (take 0 ws))
unfolding windows_bytes
none out ws = refl

pub turn : (out ws : List ℕ) (i : ℕ) {o r : List ℕ} → i < length ws → o ≡ sets out 0 (windows_bytes (take i ws)) → r ≡ sets o (4 * i) (bytes_of 4 (get_or ws i 0))
    → r ≡ sets out 0 (windows_bytes (take (i + 1) ws))
turn out ws i {o} l p q =
    wrote out o 0 (4 * i) (windows_bytes (take i ws)) (bytes_of 4 (get_or ws i 0))
    (q ∙ ap (λ (k : ℕ). sets o k (bytes_of 4 (get_or ws i 0))) (let z : 4 * i ≡ 0 + 4 * i = omega arith in z)) p
    (windows_count (take i ws) ∙ ap (λ (k : ℕ). 4 * k) (length-take-le i ws (omega arith)))
    ∙ ap (sets out 0) (sym (ap windows_bytes (take_more ws i 0 l) ∙ one_more (take i ws) (get_or ws i 0)))
