-- The cube of a node does not depend on the fuel, and a child's cube is its parent's halved. Assumes nothing.
use mathlib.Core.Path.{◌≡◌, refl, sym, ap, ◌∙◌}
use mathlib.Core.Logic.{⊎_elim}
use mathlib.Core.List.{List}
use Prim.Native.Nat.{ℕ, zero, suc, ◌-◌, ◌/◌, ◌%◌, ◌<◌, ◌≤◌}
use native.Mathlib.Omega.{arith}
use borrow.Author.Tests.{eq-eqb, ne_eqb}
use lib.ListN.{get_or}
use Rattle.remy.specs.declared.cube.Cube.{Cube}
use Rattle.remy.specs.Cube.{child_cube}
use Rattle.rule_tree.specs.Nodes.{slots}
use Rattle.rule_tree.specs.Cubes.{Before, cube_at}
use Rattle.rule_tree.proofs.Owners.{same_or_not}

-- the parent of node i
abbrev pub parent_of : List ℕ → ℕ → ℕ
parent_of ps i = get_or ps ((i - 1) / 8) 0

pub root_cube : (d : ℕ) (ps : List ℕ) (root : Cube) (i : ℕ) → i ≡ 0 → cube_at d ps root i ≡ root
unfolding cube_at
root_cube zero ps root i e = refl
root_cube (suc d) ps root i e = rw (eq-eqb i 0 e)

-- one step down
pub step_cube : (d : ℕ) (ps : List ℕ) (root : Cube) (i : ℕ) → (i ≡ 0 → ⊥)
    → cube_at (suc d) ps root i ≡ child_cube (cube_at d ps root (parent_of ps i)) ((i - 1) % 8)
unfolding cube_at
step_cube d ps root i n = rw (ne_eqb i 0 n)

module _ (ps : List ℕ) (root : Cube) (low : Before ps) where
  pub parent_before : (i : ℕ) → i < slots → (i ≡ 0 → ⊥) → parent_of ps i < i
  parent_before i b n = let z : 0 < i = positive i n in omega (arith, low ((i - 1) / 8) (omega arith))
    where
      positive : (i : ℕ) → (i ≡ 0 → ⊥) → 0 < i
      positive zero n = absurd (n refl)
      positive (suc i) n = omega arith

  pub fuel : (d e i : ℕ) → i < slots → i ≤ d → i ≤ e → cube_at d ps root i ≡ cube_at e ps root i
  fuel zero e i b p q = root_cube zero ps root i (omega arith) ∙ sym (root_cube e ps root i (omega arith))
  fuel (suc d) zero i b p q = root_cube (suc d) ps root i (omega arith) ∙ sym (root_cube zero ps root i (omega arith))
  fuel (suc d) (suc e) i b p q =
      ⊎_elim (λ (z : i ≡ 0). root_cube (suc d) ps root i z ∙ sym (root_cube (suc e) ps root i z))
      (λ (n : i ≡ 0 → ⊥).
      let l : parent_of ps i < i = parent_before i b n in
      step_cube d ps root i n
      ∙ ap (λ (c : Cube). child_cube c ((i - 1) % 8)) (fuel d e (parent_of ps i) (omega arith) (omega arith) (omega arith))
      ∙ sym (step_cube e ps root i n))
      (same_or_not i 0)

  -- child (i - 1) % 8 of its parent
  pub child_step : (i : ℕ) → i < slots → (i ≡ 0 → ⊥)
      → cube_at i ps root i ≡ child_cube (cube_at (parent_of ps i) ps root (parent_of ps i)) ((i - 1) % 8)
  child_step i b n =
      let l : parent_of ps i < i = parent_before i b n in
      fuel i (suc (i - 1)) i b (omega arith) (omega arith) ∙ step_cube (i - 1) ps root i n
      ∙ ap (λ (c : Cube). child_cube c ((i - 1) % 8))
      (fuel (i - 1) (parent_of ps i) (parent_of ps i) (omega arith) (omega arith) (omega arith))
