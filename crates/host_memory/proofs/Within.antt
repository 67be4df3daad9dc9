-- The ways through the leaves within ranges: the six floats, and the refusals. Assumes nothing.
use mathlib.Core.Path.{◌≡◌, ap}
use mathlib.Core.Bool.{true, false}
use mathlib.Core.List.{List}
use Prim.Native.Nat.{ℕ, ◌+◌, ◌*◌, ◌/◌, ◌<◌, ◌≤◌}
use native.Mathlib.Omega.{arith}
use borrow.Author.Tests.{le-leb, lt-leb}
use lib.Dec.{leb}
use lib.Ieee.{Float}
use lib.ListN.{length}
use lib.Seq.{sets}
use Rattle.std.specs.Prelude.{Result, Ok, Err}
use Rattle.refusal.specs.declared.Refusal.{Refusal}
use Rattle.refusal.specs.declared.Refusal.TheVariants.{BadRanges, ShortList}
use Rattle.refusal.specs.Guards.{pass}
use Rattle.rule_tree.specs.declared.RuleTree.{RuleTree}
use Rattle.rule_tree.specs.Grown.{grown_of}
use Rattle.rule_tree.proofs.Lists.{length_tabulate}
use Rattle.wire.specs.Bytes.{shorts_bytes, number_at}
use Rattle.wire.specs.Fields.{float_at}
use Rattle.ranges.specs.declared.Range.{Range}
use Rattle.ranges.specs.declared.Ranges.{Ranges}
use Rattle.ranges.specs.Ranges.{ordered_of, leaves_within}
use Rattle.host_memory.specs.Within.{range_at, ranges_in, list_in, listed_in, listed_after}

-- ---- the ranges
pub range_read : (bytes : List ℕ) (at : ℕ) {x y : Float} → x ≡ float_at bytes at → y ≡ float_at bytes (at + 8)
    → record { lowest = x; highest = y } ≡ range_at bytes at
range_read bytes at a b j = record { lowest = a j; highest = b j }

pub ranges_read : (bytes : List ℕ) {x y z : Range} → x ≡ range_at bytes 0 → y ≡ range_at bytes 16 → z ≡ range_at bytes 32
    → record { ack_ewma = x; send_ewma = y; rtt_ratio = z } ≡ ranges_in bytes
ranges_read bytes a b c j = record { ack_ewma = a j; send_ewma = b j; rtt_ratio = c j }

-- ---- over a tree
pub places : (out : List ℕ) → length (list_in out) ≡ length out / 2
places out = length_tabulate (length out / 2) (λ i. number_at out (2 * i) 2)

module _ (t : RuleTree) (r : Ranges) (out : List ℕ) (g : grown_of t ≡ true) where
  abbrev Listed : Result ℕ Refusal → List ℕ → Type 0
  Listed x o = (x ≡ listed_in t r out) × (o ≡ listed_after t r out)

  pub disordered : ordered_of r ≡ false → Listed (Err BadRanges) out
  unfolding listed_in listed_after pass
  disordered o = (rw (g, o), rw (g, o))

  module _ (o : ordered_of r ≡ true) (n : ℕ) (e : n ≡ length (leaves_within t r)) where
    pub too_short : length out / 2 < n → Listed (Err ShortList) out
    unfolding listed_in listed_after pass
    too_short l =
        let b : leb (length (leaves_within t r)) (length (list_in out)) ≡ false = lt-leb (length (leaves_within t r)) (length (list_in out)) (omega (arith, places out)) in
        (rw (g, o, b), rw (g, o, b))

    pub written : {p : List ℕ} → n ≤ length out / 2 → p ≡ sets out 0 (shorts_bytes (leaves_within t r)) → Listed (Ok (2 * n)) p
    unfolding listed_in listed_after pass
    written l w =
        let b : leb (length (leaves_within t r)) (length (list_in out)) ≡ true = le-leb (length (leaves_within t r)) (length (list_in out)) (omega (arith, places out)) in
        (rw (g, o, b) (ap (λ (k : ℕ). Ok (2 * k)) e), rw (g, o, b) w)
