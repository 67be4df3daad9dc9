-- The row that holds a point, by the place in the root and then by the place in the child. Assumes nothing.
use mathlib.Core.Path.{◌≡◌, refl, sym, ap, ap₂, ◌∙◌}
use mathlib.Core.Bool.{Bool, true, false}
use Prim.Native.Nat.{ℕ, ◌+◌, ◌*◌, ◌/◌, ◌%◌, ◌<◌}
use native.Mathlib.Omega.{arith}
use lib.Ieee.{fits}
use Rattle.remy.specs.declared.point.Point.{Point}
use Rattle.remy.specs.declared.cube.Cube.{Cube}
use Rattle.remy.specs.declared.cube.Child.{Child}
use Rattle.remy.specs.Cube.{usual_ends, root_of, child_cube, contains_of, place_of_point, toward_of, Whole}
use Rattle.remy.proofs.Ends.{whole_admitted, usual_admitted}
use Rattle.remy.proofs.Partition.{whole_child, child_inside, no_child, place_holds, place_only, place_below}
use Rattle.std.specs.Prelude.{Some, None}
use Rattle.even.specs.Even.{even_cube, row_of}
use Rattle.even.proofs.Rows.{first_row, no_row}

abbrev box : Cube
box = root_of usual_ends

pub usual_whole : Whole (root_of usual_ends)
unfolding fits
usual_whole = whole_admitted usual_ends tt tt tt usual_admitted

whole : Whole box
whole = usual_whole

-- the place in the root, and in the child there
abbrev pub toward_row : Point → ℕ
toward_row p = let c = place_of_point box p in c * 8 + place_of_point (child_cube box c) p

module _ (p : Point) where
  below : toward_row p < 64
  below = let a = place_below box p in let b = place_below (child_cube box (place_of_point box p)) p in omega arith

  module _ (e : contains_of box p ≡ true) where
    holds : contains_of (even_cube (toward_row p)) p ≡ true
    unfolding even_cube
    holds =
        let c = place_of_point box p in
        let d = place_of_point (child_cube box c) p in
        let a = place_below box p in
        let b = place_below (child_cube box c) p in
        let x : (c * 8 + d) / 8 ≡ c = omega arith in
        let y : (c * 8 + d) % 8 ≡ d = omega arith in
        ap₂ (λ (i j : ℕ). contains_of (child_cube (child_cube box i) j) p) x y
        ∙ place_holds (child_cube box c) (whole_child box whole c) p (place_holds box whole p e)

    one : (j : ℕ) → j < 64 → contains_of (even_cube j) p ≡ true → j ≡ toward_row p
    unfolding even_cube
    one j l h =
        let w = whole_child box whole (j / 8) in
        let x : j / 8 ≡ place_of_point box p =
        place_only box whole p (j / 8) (omega arith) (child_inside (child_cube box (j / 8)) w p (j % 8) h) in
        let y : j % 8 ≡ place_of_point (child_cube box (j / 8)) p = place_only (child_cube box (j / 8)) w p (j % 8) (omega arith) h in
        let z : j ≡ j / 8 * 8 + j % 8 = omega arith in
        z ∙ ap₂ (λ (a b : ℕ). a * 8 + b) x (y ∙ ap (λ (a : ℕ). place_of_point (child_cube box a) p) x)

    others : (j : ℕ) → j < toward_row p → contains_of (even_cube j) p ≡ false
    others j l = go (contains_of (even_cube j) p) refl
      where
        go : (b : Bool) → contains_of (even_cube j) p ≡ b → b ≡ false
        go true x = absurd (let y = below in let z = one j (omega arith) x in omega arith)
        go false x = refl

    pub row_inside : row_of p ≡ Some (toward_row p)
    row_inside = first_row 64 0 (toward_row p) p (omega arith) below (λ j a l. others j l) holds

  pub row_outside : contains_of box p ≡ false → row_of p ≡ None
  unfolding even_cube
  row_outside e =
      no_row 64 0 p (λ j a l. no_child (child_cube box (j / 8)) (whole_child box whole (j / 8)) p (no_child box whole p e (j / 8)) (j % 8))

-- ---- what the code holds
pub small : (c : Cube) (p : Point) (a : Child) → a ≡ toward_of c p → a.number < 8
unfolding toward_of
small c p a e = let b = place_below c p in let f : a.number ≡ place_of_point c p = ap (λ (x : Child). x.number) e in omega arith

pub two_turns : (r : Cube) (p : Point) (a b : Child) → r ≡ box → contains_of r p ≡ true → a ≡ toward_of r p → b ≡ toward_of a.cube p
    → Some (a.number * 8 + b.number) ≡ row_of p
unfolding toward_of
two_turns r p a b z e x y =
    let f : a ≡ toward_of box p = x ∙ ap (λ (c : Cube). toward_of c p) z in
    let g : b.number ≡ place_of_point (child_cube box (place_of_point box p)) p =
    ap (λ (k : Child). k.number) y ∙ ap (λ (k : Child). place_of_point k.cube p) f in
    ap₂ (λ (i j : ℕ). Some (i * 8 + j)) (ap (λ (k : Child). k.number) f) g
    ∙ sym (row_inside p (ap (λ (c : Cube). contains_of c p) (sym z) ∙ e))

pub no_turn : (r : Cube) (p : Point) → r ≡ box → contains_of r p ≡ false → None ≡ row_of p
no_turn r p z e = sym (row_outside p (ap (λ (c : Cube). contains_of c p) (sym z) ∙ e))
