-- An array of cubes, one a node.
use Rattle.std.specs.Prelude.{◌≡◌, List, ℕ, ◌<◌, get_or}
use Rattle.std.specs.Float.{nan}
use Rattle.remy.specs.declared.cube.Cube.{Cube}
use Rattle.remy.specs.Cube.{point_of}

-- what reading past the end of an array of cubes gives
abbrev pub no_cube : Cube
no_cube = record { min = point_of nan nan nan; max = point_of nan nan nan }

abbrev pub cube_in : List Cube → ℕ → Cube
cube_in cubes i = get_or cubes i no_cube

-- the first n of an array are the cubes f 0, f 1, ..
abbrev pub CubesAre : List Cube → ℕ → (ℕ → Cube) → Type 0
CubesAre cubes n f = (i : ℕ) → i < n → cube_in cubes i ≡ f i
