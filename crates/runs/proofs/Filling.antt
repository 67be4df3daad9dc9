-- A buffer filled byte by byte. Assumes nothing.
use mathlib.Core.Path.{◌≡◌, sym, ap, ◌∙◌}
use mathlib.Core.List.{List, [], ◌∷◌, ◌++◌, map-append}
use Prim.Native.Nat.{ℕ, ◌+◌, ◌%◌, ◌<◌, ◌≤◌}
use native.Mathlib.Numerals.{add-one}
use native.Mathlib.Omega.{arith}
use lib.ListN.{length, take, get_or, set}
use lib.Seq.{take-suc, take-suc-set, take_all}
use Rattle.runs.specs.Script.{bytes_of}

-- the first i bytes are those of the first i words
abbrev pub Filled : List ℕ → List ℕ → ℕ → Type 0
Filled ws buf i = take i buf ≡ bytes_of (take i ws)

module _ (ws buf : List ℕ) (i : ℕ) where
  pub fill_more : i < length ws → i < length buf → Filled ws buf i → Filled ws (set buf i (get_or ws i 0 % 256)) (i + 1)
  fill_more h k f =
      ap (λ (n : ℕ). take n (set buf i (get_or ws i 0 % 256))) (add-one i)
      ∙ take-suc-set buf i (get_or ws i 0 % 256) k
      ∙ ap (λ (l : List ℕ). l ++ (get_or ws i 0 % 256 ∷ [])) f
      ∙ sym (map-append (λ (w : ℕ). w % 256) (take i ws) (get_or ws i 0 ∷ []))
      ∙ ap bytes_of (sym (take-suc ws i 0 h))
      ∙ ap (λ (n : ℕ). bytes_of (take n ws)) (sym (add-one i))

  pub all_filled : length buf ≡ length ws → length ws ≤ i → Filled ws buf i → buf ≡ bytes_of ws
  all_filled h k f = sym (take_all i buf (omega arith)) ∙ f ∙ ap bytes_of (take_all i ws k)
