-- A list of nodes in which one node and eight in a row are others: what stands where. Assumes nothing.
use mathlib.Core.Path.{◌≡◌, sym, ap, ◌∙◌}
use mathlib.Core.Logic.{⊎_elim, ◌⊎◌, inl, inr}
use mathlib.Core.List.{List}
use Prim.Native.Nat.{ℕ, ◌+◌, ◌-◌, ◌<◌, ◌≤◌}
use native.Mathlib.Omega.{arith}
use lib.ListN.{length, set, length-set}
use lib.Seq.{get_or-set_same, get_or-set_other}
use Rattle.rule_tree.specs.declared.Node.{Node}
use Rattle.rule_tree.specs.Lists.{fill}
use Rattle.rule_tree.specs.Nodes.{no_node, node_at_of}
use Rattle.rule_tree.proofs.Lists.{length_fill, get_d_fill, get_d_fill_other}
use Rattle.rule_tree.proofs.Owners.{same_or_not, below_or_not}

-- ---- node p becomes x, and eight nodes from f on become y
abbrev pub patched : List Node → ℕ → Node → ℕ → Node → List Node
patched ns p x f y = fill (set ns p x) f 8 y

pub data Place (f p i : ℕ) : Type 0 where
  new : f ≤ i → i < f + 8 → Place f p i
  here : i ≡ p → Place f p i
  other : (i ≡ p → ⊥) → (i < f) ⊎ (f + 8 ≤ i) → Place f p i

pub place : (f p i : ℕ) → p < f → Place f p i
place f p i l =
    ⊎_elim
    (λ (a : i < f). ⊎_elim (λ (e : i ≡ p). here e) (λ (n : i ≡ p → ⊥). other n (inl a)) (same_or_not i p))
    (λ (a : f ≤ i).
    ⊎_elim (λ (b : i < f + 8). new a b) (λ (b : f + 8 ≤ i). other (λ z. omega (arith, z)) (inr b)) (below_or_not i (f + 8)))
    (below_or_not i f)

module _ (ns : List Node) (p : ℕ) (x : Node) (f : ℕ) (y : Node) where
  pub patched_count : length (patched ns p x f y) ≡ length ns
  patched_count = length_fill (set ns p x) f 8 y ∙ length-set ns p x

  pub patched_new : (i : ℕ) → f + 8 ≤ length ns → f ≤ i → i < f + 8 → node_at_of (patched ns p x f y) i ≡ y
  patched_new i l a b =
      let e : f + (i - f) ≡ i = omega arith in
      let c = length-set ns p x in
      ap (λ (j : ℕ). node_at_of (patched ns p x f y) j) (sym e) ∙ get_d_fill (set ns p x) f 8 y no_node (i - f) (omega arith) (omega arith)

  patched_away : (i : ℕ) → (i < f) ⊎ (f + 8 ≤ i) → node_at_of (patched ns p x f y) i ≡ node_at_of (set ns p x) i
  patched_away i (inl a) = get_d_fill_other (set ns p x) f 8 y no_node i (λ k l z. omega (arith, z))
  patched_away i (inr a) = get_d_fill_other (set ns p x) f 8 y no_node i (λ k l z. omega (arith, z))

  pub patched_here : p < f → p < length ns → node_at_of (patched ns p x f y) p ≡ x
  patched_here a l = patched_away p (inl a) ∙ get_or-set_same ns p x no_node l

  pub patched_other : (i : ℕ) → (i ≡ p → ⊥) → (i < f) ⊎ (f + 8 ≤ i) → node_at_of (patched ns p x f y) i ≡ node_at_of ns i
  patched_other i n a = patched_away i a ∙ get_or-set_other ns p i x no_node n
