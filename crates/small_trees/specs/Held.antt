-- How a list of at most three splits is held: the first count of three numbers, and zeros behind. So the list gives the fields back.
use Rattle.std.specs.Prelude.{◌≡◌, ◌≤◌, ◌-◌, ◌++◌, cond, leb, List, ℕ, length, take, drop, replicate, Option, Some, None}
use Rattle.std.proofs.Common.{sym, ap, subst, ◌∙◌}
use Rattle.std.proofs.lemmas.List.{length-take-le, take-append-drop}

pub record Packed (splits : List ℕ) (count : ℕ) : Type 0 where
  pub few : count ≤ 3
  pub three : length splits ≡ 3
  pub behind : drop count splits ≡ replicate (3 - count) 0

-- a list that is held
abbrev pub held_of : List ℕ → Option (List ℕ)
held_of l = cond (leb (length l) 3) (Some l) None

-- the three numbers of a list
abbrev pub unpacked : List ℕ → List ℕ
unpacked l = l ++ replicate (3 - length l) 0

module _ (splits : List ℕ) (count : ℕ) (p : Packed splits count) where
  pub count_back : length (take count splits) ≡ count
  count_back = length-take-le count splits (subst (λ (n : ℕ). count ≤ n) (sym p.three) p.few)

  pub splits_back : unpacked (take count splits) ≡ splits
  splits_back =
      ap (λ (n : ℕ). take count splits ++ replicate (3 - n) 0) count_back
      ∙ ap (λ (l : List ℕ). take count splits ++ l) (sym p.behind)
      ∙ take-append-drop count splits
