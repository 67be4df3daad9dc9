-- What the private functions of the code are held to.
use Rattle.std.specs.Prelude.{cond, List, [], ◌∷◌, ◌++◌, map, ℕ, ◌≤◌, length, drop, eqb, ℤ, Float, Option, Some, None, Result}
use Rattle.refusal.specs.declared.Refusal.{Refusal}
use Rattle.refusal.specs.declared.Refusal.TheVariants.{BadLength, NotAdmitted}
use Rattle.refusal.specs.Guards.{Check, check, checked, pass}
use Rattle.remy.specs.declared.action.Action.{Action}
use Rattle.remy.specs.Action.{action_of, valid_of}
use Rattle.trainer.specs.declared.settings.Settings.{Settings}
use Rattle.trainer.specs.Candidates.{flat_map, candidates_of}
use Rattle.wire.specs.Fields.{action_at}
use Rattle.host_lists.specs.Lists.{list_fits, list_after}

-- the product of three axes, the first outermost
abbrev pub product_of : List Float → List ℤ → List Float → List Action
product_of ms is ds = flat_map (λ (m : Float). flat_map (λ (i : ℤ). map (action_of m i) ds) is) ms

-- at most 16 values an axis
pub record Few (ms : List Float) (is : List ℤ) (ds : List Float) : Type 0 where
  pub multipliers : length ms ≤ 16
  pub increments : length is ≤ 16
  pub delays : length ds ≤ 16

-- the action itself where it is asked for
unfoldable pub own_part : Option Action → List Action
own_part (Some a) = a ∷ []
own_part None = []

-- the action where it is asked for, then a list from one place on
abbrev pub row_of : Option Action → ℕ → List Action → List Action
row_of own from xs = own_part own ++ drop from xs

-- what the candidate call answers of settings that were tested
abbrev pub with_order : List ℕ → List Check
with_order action = check (eqb (length action) 20) BadLength ∷ check (valid_of (action_at action 0)) NotAdmitted ∷ []

unfoldable pub candidates_with : Settings → List ℕ → List ℕ → Result ℕ Refusal
candidates_with s action out = checked (with_order action) (list_fits (candidates_of s (action_at action 0)) out)

unfoldable pub candidates_with_after : Settings → List ℕ → List ℕ → List ℕ
candidates_with_after s action out = cond (pass (with_order action)) (list_after (candidates_of s (action_at action 0)) out) out
