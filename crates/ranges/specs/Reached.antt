-- 02, wish 12: "all leaves that some point within these ranges, both ends counted, could reach".
use Rattle.std.specs.Prelude.{◌≡◌, Bool, true, false, ◌&&◌, List, [], ◌∷◌, ◌⊎◌, ℕ, suc, ◌≤◌, T, Float, Some, Ok}
use Rattle.std.specs.Float.{binary64}
use Rattle.std.specs.Float.Ieee.{le, fits}
use Rattle.remy.specs.declared.point.Point.{Point}
use Rattle.remy.specs.declared.cube.Cube.{Cube}
use Rattle.remy.specs.Cube.{ack, send, ratio, contains_of, root_of}
use Rattle.rule_tree.specs.declared.RuleTree.{RuleTree}
use Rattle.rule_tree.specs.Nodes.{node_at_of, action_in}
use Rattle.rule_tree.specs.Walk.{leaf_of}
use Rattle.rule_tree.specs.Calls.{lookup_of}
use Rattle.ranges.specs.declared.Ranges.{Ranges}
use Rattle.ranges.specs.Ranges.{each, lowest_of, highest_of}

-- "some point within these ranges, both ends counted"
abbrev pub between : Float → Float → Float → Bool
between lo hi x = le lo x && le x hi

unfoldable pub in_ranges : Ranges → Point → Bool
in_ranges r p = each (λ axis. between (axis (lowest_of r)) (axis (highest_of r)) (axis p))

-- "Where both ends are equal on all three axes"
abbrev pub point_ranges : Point → Ranges
point_ranges p =
    record {
      ack_ewma = record { lowest = ack p; highest = ack p };
      send_ewma = record { lowest = send p; highest = send p };
      rtt_ratio = record { lowest = ratio p; highest = ratio p };
    }

-- three binary64 values
pub record Fits (p : Point) : Type 0 where
  pub acks : T (fits binary64 (ack p))
  pub sends : T (fits binary64 (send p))
  pub ratios : T (fits binary64 (ratio p))

-- some point within the ranges lies in the cube
pub record Met (c : Cube) (r : Ranges) : Type 0 where
  pub point : Point
  pub fitting : Fits point
  pub within : in_ranges r point ≡ true
  pub inside : contains_of c point ≡ true

-- "could reach": lookup ends at leaf i for it and finds its action
pub record Reached (t : RuleTree) (r : Ranges) (i : ℕ) : Type 0 where
  pub point : Point
  pub fitting : Fits point
  pub within : in_ranges r point ≡ true
  pub box : contains_of (root_of t.ends) point ≡ true
  pub leaf : leaf_of t point ≡ i
  pub found : lookup_of t point ≡ Ok (Some (action_in (node_at_of t.nodes i)))

-- "each once, none missing"
abbrev pub Listed : ℕ → List ℕ → Type 0
Listed i [] = T false
Listed i (x ∷ xs) = (x ≡ i) ⊎ Listed i xs

-- "by rising node": a or more, and each above the one before it
abbrev pub Rising : ℕ → List ℕ → Type 0
Rising a [] = T true
Rising a (x ∷ xs) = (a ≤ x) × Rising (suc x) xs
