-- The array of cubes, filled by rising node. Assumes nothing.
use mathlib.Core.Path.{◌≡◌, sym, ap, subst, ◌∙◌}
use mathlib.Core.Logic.{⊎_elim}
use mathlib.Core.List.{List}
use Prim.Native.Nat.{ℕ, ◌+◌, ◌-◌, ◌%◌, ◌<◌, ◌≤◌}
use native.Mathlib.Nat.{eq-or-lt_of_le}
use native.Mathlib.Omega.{arith}
use lib.ListN.{length, set, replicate, get_or-replicate}
use lib.Seq.{get_or-set_same, get_or-set_other}
use Rattle.remy.specs.declared.cube.Cube.{Cube}
use Rattle.remy.specs.Cube.{child_cube}
use Rattle.rule_tree.specs.Cubes.{Before, cube_at}
use Rattle.rule_tree.proofs.CubeSteps.{parent_of, root_cube, parent_before, child_step}
use Rattle.ranges.specs.Cubes.{no_cube, cube_in, CubesAre}

module _ (ps : List ℕ) (root : Cube) where
  abbrev at : ℕ → Cube
  at k = cube_at k ps root k

  pub cubes_first : CubesAre (replicate 513 root) 1 at
  cubes_first k l = get_or-replicate 513 k root no_cube (omega arith) ∙ sym (root_cube k ps root k (omega arith))

  module _ (low : Before ps) (i : ℕ) (a : 1 ≤ i) (b : i < 513) where
    pub parent_low : parent_of ps i < i
    parent_low = parent_before ps root low i b (λ e. omega (arith, a, e))

    pub cubes_more : (out : List Cube) → length out ≡ 513 → CubesAre out i at → (d : Cube) → d ≡ child_cube (cube_in out (parent_of ps i)) ((i - 1) % 8) → CubesAre (set out i d) (i + 1) at
    cubes_more out n h d e k l =
        ⊎_elim
        (λ (z : k ≡ i). subst (λ (j : ℕ). cube_in (set out i d) j ≡ at j) (sym z)
        (get_or-set_same out i d no_cube (omega arith) ∙ e
        ∙ ap (λ (c : Cube). child_cube c ((i - 1) % 8)) (h (parent_of ps i) parent_low)
        ∙ sym (child_step ps root low i b (λ y. omega (arith, a, y)))))
        (λ (q : k < i). get_or-set_other out i k d no_cube (λ y. omega (arith, y)) ∙ h k q)
        (eq-or-lt_of_le (omega arith))
