-- 01's lens checks that are marked *, together, over the definitions that the contracts cite. Assumes nothing.
use mathlib.Core.Path.{◌≡◌, refl, subst, ◌∙◌}
use mathlib.Core.Bool.{Bool, true, false}
use mathlib.Core.List.{[], ◌∷◌}
use Prim.Native.Nat.{ℕ}
use lib.IntN.{pos, negsuc}
use lib.ListN.{length}
use lib.Ieee.{Float, nan, fin, le, lt, add, div}
use Rattle.quantities.specs.Time.{span}
use Rattle.remy.specs.declared.action.Action.{Action}
use Rattle.remy.specs.declared.point.Point.{Point}
use Rattle.remy.specs.Action.{action_of, valid_of, window_of}
use Rattle.remy.specs.Cube.{zero, point_of, usual_ends, root_of, contains_of, child_cube, half_cube, half_of}
use Rattle.remy.proofs.Lens.{upper_end_out, nan_ack, nan_send, nan_ratio, window_six, window_none, window_most, window_nan}
use Rattle.std.specs.Prelude.{Some, None, Ok}
use Rattle.rule_tree.specs.Walk.{first_from, descend, leaf_of}
use Rattle.rule_tree.specs.Change.{fresh_tree, split_at_of}
use Rattle.rule_tree.specs.Calls.{most_used_of}
use Rattle.rule_tree.proofs.Plain.{PointFits}
use Rattle.rule_tree.proofs.Changing.{fresh_length, split_length}
use Rattle.rule_tree_laws.proofs.Lens.{root_split, root_split_grown, lens_most_used}
use Rattle.sender.specs.Memory.{averaged}
use Rattle.sender.proofs.Averages.{eight_sixteen}
use Rattle.record.proofs.BytesFit.{ends-fit}
use Rattle.promise.specs.Demand3.{InLeaf, InNoLeaf}
use Rattle.promise.proofs.Ways.{in_leaf, in_no_leaf}

-- m times 2 ^ e, and one half
abbrev pub whole : ℕ → ℕ → Float
whole m e = fin false m (pos e)

abbrev pub half : Float
half = fin false 1 (negsuc 0)

-- the points (300, 0, 0), (0, 0, 500) and (0, 0, 1000)
abbrev pub late : Point
late = point_of (whole 75 2) zero zero

abbrev pub slow : Point
slow = point_of zero zero (whole 125 2)

abbrev pub outer : Point
outer = point_of zero zero (whole 125 3)

-- the new tree with action a and its root split; d is any delay
pub record LensChecks (a : Action) (d : Float) : Type 0 where
  -- "Root split: (300,0,0) node 5; (0,0,500) node 2; (0,0,1000) none; NaN none"
  pub late_in_5 : InLeaf (root_split a) late 5
  pub slow_in_2 : InLeaf (root_split a) slow 2
  pub outer_in_none : InNoLeaf (root_split a) outer
  pub nan_in_none :
      (x y : Float)
      → InNoLeaf (root_split a) (point_of nan x y) × (InNoLeaf (root_split a) (point_of x nan y) × InNoLeaf (root_split a) (point_of x y nan))
  -- "Window, multiplier, increment: 10, 0.5, +1 gives 6; 3, 0.5, -5 gives 0; 4294967295, 1, 0 gives 1,000,000; NaN, +7 gives 7"
  pub window_1 : window_of (action_of half (pos 1) d) 10 ≡ 6
  pub window_2 : window_of (action_of half (negsuc 4) d) 3 ≡ 0
  pub window_3 : window_of (action_of (whole 1 0) (pos 0) d) 4294967295 ≡ 1000000
  pub window_4 : (w : ℕ) → window_of (action_of nan (pos 7) d) w ≡ 7
  -- "Gaps 8, 16 average 9"
  pub gaps : averaged (averaged None (span (whole 1 3))) (span (whole 1 4)) ≡ Some (span (whole 9 0))
  -- "Counts 0 5 0 5 0 0 0 0 0: node 3", among all leaves and among the unmarked
  pub counts : (u : Bool) → most_used_of u (root_split a) (0 ∷ 5 ∷ 0 ∷ 5 ∷ 0 ∷ 0 ∷ 0 ∷ 0 ∷ 0 ∷ []) ≡ Ok (Some 3)

-- ---- the root split
late_leaf : (a : Action) → leaf_of (root_split a) late ≡ 5
unfolding split_at_of descend first_from contains_of child_cube half_cube half_of le lt add div
late_leaf a = refl

slow_leaf : (a : Action) → leaf_of (root_split a) slow ≡ 2
unfolding split_at_of descend first_from contains_of child_cube half_cube half_of le lt add div
slow_leaf a = refl

box_holds_lem : (contains_of (root_of usual_ends) late ≡ true) × (contains_of (root_of usual_ends) slow ≡ true)
unfolding contains_of le lt
box_holds_lem = (refl, refl)

split_sized : (a : Action) → length (root_split a).nodes ≡ 513
split_sized a = split_length (fresh_tree usual_ends a) 0 ∙ fresh_length usual_ends a

split_box : (a : Action) → (root_split a).ends ≡ usual_ends
unfolding split_at_of
split_box a = refl

module _ (a : Action) (v : valid_of a ≡ true) (p : Point) where
  split_fits : PointFits (root_split a).ends
  split_fits = rw (split_box a) ends-fit

  split_inside : (i : ℕ) → contains_of (root_of usual_ends) p ≡ true → leaf_of (root_split a) p ≡ i → InLeaf (root_split a) p i
  split_inside i e l = subst (InLeaf (root_split a) p) l (in_leaf (root_split a) (root_split_grown a v) (split_sized a) split_fits p (rw (split_box a) e))

  split_outside : contains_of (root_of usual_ends) p ≡ false → InNoLeaf (root_split a) p
  split_outside e = in_no_leaf (root_split a) (root_split_grown a v) (split_sized a) split_fits p (rw (split_box a) e)

pub lens_checks : (a : Action) → valid_of a ≡ true → (d : Float) → LensChecks a d
lens_checks a v d =
    let box = root_of usual_ends in
    record {
      late_in_5 = split_inside a v late 5 box_holds_lem.0 (late_leaf a);
      slow_in_2 = split_inside a v slow 2 box_holds_lem.1 (slow_leaf a);
      outer_in_none = split_outside a v outer upper_end_out;
      nan_in_none =
          λ x y. (
            split_outside a v (point_of nan x y) (nan_ack box x y),
            (split_outside a v (point_of x nan y) (nan_send box x y), split_outside a v (point_of x y nan) (nan_ratio box x y)),
          );
      window_1 = window_six d;
      window_2 = window_none d;
      window_3 = window_most d;
      window_4 = window_nan d;
      gaps = eight_sixteen;
      counts = λ u. lens_most_used a u v;
    }
