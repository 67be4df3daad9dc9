-- The product of three axes: its length, and its element k. Assumes nothing.
use mathlib.Core.Path.{◌≡◌, sym, ap, ◌∙◌}
use mathlib.Core.List.{List}
use Prim.Native.Nat.{ℕ, ◌+◌, ◌*◌, ◌-◌, ◌/◌, ◌%◌, ◌<◌, ◌≤◌}
use native.Mathlib.Omega.{arith}
use native.Mathlib.Nat.{mul-le-mul}
use lib.ListN.{length, get_or, drop, length-drop}
use lib.Seq.{get_or-drop}
use lib.IntN.{ℤ, pos}
use lib.Ieee.{Float, nan}
use mir.Syntax.{w64}
use mir.Val.{Fits}
use Rattle.remy.specs.declared.action.Action.{Action}
use Rattle.remy.specs.Action.{action_of}
use Rattle.trainer.specs.Candidates.{no_candidate}
use Rattle.trainer.proofs.Pick as pick
use Rattle.trainer.proofs.Product.{product_length, product_at}
use Rattle.host_lists.specs.Parts.{product_of, Few}

module _ {ms : List Float} {is : List ℤ} {ds : List Float} (few : Few ms is ds) where
  pub each_few : length is * length ds ≤ 256
  each_few = mul-le-mul few.increments few.delays

  pub all_few : length ms * (length is * length ds) ≤ 4096
  all_few = mul-le-mul few.multipliers each_few

  pub each_fits : Fits w64 (length is * length ds)
  each_fits = record { fits = omega (arith, each_few) }

  pub all_fits : Fits w64 (length ms * (length is * length ds))
  all_fits = record { fits = omega (arith, all_few) }

  -- the places of action k on the three axes
  module _ (k : ℕ) (h : k < length ms * (length is * length ds)) where
    pub each_some : 0 < length is * length ds
    each_some = pick.each_some (length ms) (length is) (length ds) k h

    pub last_some : 0 < length ds
    last_some = pick.last_some (length ms) (length is) (length ds) k h

    pub first_below : k / (length is * length ds) < length ms
    first_below = pick.first_below (length ms) (length is) (length ds) k h

    pub second_below : k % (length is * length ds) / length ds < length is
    second_below = pick.second_below (length ms) (length is) (length ds) k h

    pub third_below : k % (length is * length ds) % length ds < length ds
    third_below = pick.third_below (length ms) (length is) (length ds) k h

    pub first_fits : Fits w64 (k / (length is * length ds) * 8)
    first_fits = record { fits = omega (arith, first_below, few.multipliers) }

    pub second_fits : Fits w64 (k % (length is * length ds) / length ds * 4)
    second_fits = record { fits = omega (arith, second_below, few.increments) }

    pub third_fits : Fits w64 (k % (length is * length ds) % length ds * 8)
    third_fits = record { fits = omega (arith, third_below, few.delays) }

module _ (ms : List Float) (is : List ℤ) (ds : List Float) where
  pub all_count : length (product_of ms is ds) ≡ length ms * (length is * length ds)
  all_count = product_length ds ms is

  pub element : (k : ℕ) {x z : Float} {y v : ℤ} {a : Action} → k < length ms * (length is * length ds) → x ≡ get_or ms (k / (length is * length ds)) nan
      → y ≡ get_or is (k % (length is * length ds) / length ds) (pos 0) → z ≡ get_or ds (k % (length is * length ds) % length ds) nan → v ≡ y
      → a ≡ action_of x v z → a ≡ get_or (product_of ms is ds) k no_candidate
  element k h ex ey ez ev ea = ea ∙ rw (ev, ex, ey, ez) (sym (product_at ds ms is k no_candidate h))

  pub rest_count : (from n : ℕ) → from + n ≡ length ms * (length is * length ds) → length (drop from (product_of ms is ds)) ≡ n
  rest_count from n e = length-drop from (product_of ms is ds) ∙ (let c = all_count in omega arith)

  pub rest-is : (from : ℕ) → length ms * (length is * length ds) - from ≡ length (drop from (product_of ms is ds))
  rest-is from = sym (length-drop from (product_of ms is ds) ∙ ap (λ (n : ℕ). n - from) all_count)

  pub rest_at : (from j : ℕ) {a : Action} → a ≡ get_or (product_of ms is ds) (from + j) no_candidate → a ≡ get_or (drop from (product_of ms is ds)) j no_candidate
  rest_at from j e = e ∙ sym (get_or-drop from (product_of ms is ds) j no_candidate)
