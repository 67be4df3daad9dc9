-- The lines, stored part after part, and the room that they take. Assumes nothing.
use mathlib.Core.Path.{◌≡◌, refl, sym, ap, subst, ◌∙◌}
use mathlib.Core.Bool.{cond}
use mathlib.Core.List.{List, [], ◌∷◌, ◌++◌, append_assoc}
use mathlib.Core.Logic.{⊎_elim}
use Prim.Native.Nat.{ℕ, zero, suc, ◌+◌, ◌*◌, ◌<◌, ◌≤◌}
use native.Mathlib.Nat.{eq-or-lt_of_le}
use native.Mathlib.Numerals.{add-one}
use native.Mathlib.Omega.{arith}
use borrow.Author.Tests.{eq-eqb, ne_eqb}
use lib.ListN.{length, set, length-append}
use lib.Seq.{sets}
use Rattle.rule_tree.specs.declared.Node.{Node}
use Rattle.rule_tree.specs.declared.RuleTree.{RuleTree}
use Rattle.rule_tree.specs.Nodes.{node_at_of, is_leaf_of, node_count}
use Rattle.wire.proofs.Stores.{wrote}
use Rattle.panel_lines.specs.Panel.{decimal, share_of, leaf_line, leaf_lines, first_line, lines_of}
use Rattle.panel_lines.specs.Parts.{Wrote, node_line}

pub then : {l m r : List ℕ} {at k j : ℕ} {xs ys : List ℕ} → Wrote l at m k xs → Wrote m k r j ys → Wrote l at r j (xs ++ ys)
then {l} {m} {r} {at} {k} {j} {xs} {ys} p q = record {
  place = omega (arith, length-append xs ys, p.place, q.place);
  stored = wrote l m at (length xs) xs ys (q.stored ∙ ap (λ (n : ℕ). sets m n ys) p.place) p.stored refl;
}

pub byte : (l : List ℕ) (at b : ℕ) → Wrote l at (set l at b) (at + 1) (b ∷ [])
byte l at b = record { place = refl; stored = refl }

pub nothing : (l : List ℕ) (at : ℕ) → Wrote l at l at []
nothing l at = record { place = omega arith; stored = refl }

pub named : {l m : List ℕ} {at k : ℕ} {xs ys : List ℕ} → xs ≡ ys → Wrote l at m k xs → Wrote l at m k ys
named {l} {m} {at} {k} e p = subst (λ (zs : List ℕ). Wrote l at m k zs) e p

-- ---- a leaf's line
pub leaf_count : (i share : ℕ) → length (leaf_line i share) ≡ length (decimal i) + (length (decimal share) + 2)
leaf_count i share =
    let a = length-append (decimal i) (32 ∷ (decimal share ++ (10 ∷ []))) in
    let b = length-append (decimal share) (10 ∷ []) in
    omega arith

pub leaf_written : (i share : ℕ) {l l1 l2 : List ℕ} {at space end : ℕ} → Wrote l at l1 space (decimal i)
    → Wrote (set l1 space 32) (space + 1) l2 end (decimal share) → Wrote l at (set l2 end 10) (end + 1) (leaf_line i share)
leaf_written i share {l} {l1} {l2} {at} {space} {end} p q =
    named (simp append_assoc) (then (then (then p (byte l1 space 32)) q) (byte l2 end 10))

-- ---- a node's line, if it is a leaf
module _ (x : Node) (i share : ℕ) where
  pub node_leaf : x.children ≡ 0 → leaf_line i share ≡ node_line x i share
  node_leaf e = rw (eq-eqb x.children 0 e)

  pub node_skipped : (l : List ℕ) (at : ℕ) → (x.children ≡ 0 → ⊥) → Wrote l at l at (node_line x i share)
  node_skipped l at n = rw (ne_eqb x.children 0 n) (nothing l at)

-- ---- the leaves' lines
module _ (nodes : List Node) (share : ℕ → ℕ) where
  abbrev line : ℕ → List ℕ
  line i = node_line (node_at_of nodes i) i (share i)

  lines_suc : (i : ℕ) → leaf_lines nodes share (suc i) ≡ leaf_lines nodes share i ++ line i
  unfolding leaf_lines
  lines_suc i = refl

  lines_more : (i : ℕ) → leaf_lines nodes share i ++ line i ≡ leaf_lines nodes share (i + 1)
  lines_more i = sym (ap (leaf_lines nodes share) (add-one i) ∙ lines_suc i)

  pub lines_count : (i : ℕ) → length (leaf_lines nodes share (suc i)) ≡ length (leaf_lines nodes share i) + length (line i)
  lines_count i = ap length (lines_suc i) ∙ length-append (leaf_lines nodes share i) (line i)

  pub lines_grow : (i n : ℕ) → i < n → length (leaf_lines nodes share i) + length (line i) ≤ length (leaf_lines nodes share n)
  lines_grow i zero l = absurd (omega arith)
  lines_grow i (suc n) l =
      let e = lines_count n in
      ⊎_elim (λ (p : i ≡ n). subst (λ (k : ℕ). length (leaf_lines nodes share k) + length (line k) ≤ length (leaf_lines nodes share (suc n))) (sym p) (omega arith))
      (λ (q : i < n). let h = lines_grow i n q in omega arith)
      (eq-or-lt_of_le (let q : i ≤ n = omega arith in q))

  pub line_room : (i at n : ℕ) {k r : ℕ} → i < n → k ≡ at + length (leaf_lines nodes share i) → at + length (leaf_lines nodes share n) ≤ r → k + length (line i) ≤ r
  line_room i at n l p h = let g = lines_grow i n l in omega arith

  pub lines_none : (l : List ℕ) (at : ℕ) → Wrote l at l at (leaf_lines nodes share 0)
  unfolding leaf_lines
  lines_none l at = nothing l at

  pub lines_turn : (i : ℕ) {l m r : List ℕ} {at k j : ℕ} → Wrote l at m k (leaf_lines nodes share i) → Wrote m k r j (line i) → Wrote l at r j (leaf_lines nodes share (i + 1))
  lines_turn i p q = named (lines_more i) (then p q)

  pub lines_done : (i n : ℕ) {l m : List ℕ} {at k : ℕ} → i ≡ n → Wrote l at m k (leaf_lines nodes share i) → Wrote l at m k (leaf_lines nodes share n)
  lines_done i n e p = named (ap (leaf_lines nodes share) e) p

pub lines_same : (nodes : List Node) (f g : ℕ → ℕ) (n : ℕ) → ((i : ℕ) → i < n → f i ≡ g i) → leaf_lines nodes f n ≡ leaf_lines nodes g n
unfolding leaf_lines
lines_same nodes f g zero h = refl
lines_same nodes f g (suc n) h =
    ap (λ (r : List ℕ). r ++ cond (is_leaf_of nodes n) (leaf_line n (f n)) []) (lines_same nodes f g n (λ i l. h i (omega arith)))
    ∙ ap (λ (k : ℕ). leaf_lines nodes g n ++ cond (is_leaf_of nodes n) (leaf_line n k) []) (h n (omega arith))

-- ---- the first line
abbrev pub leaves : List ℕ
leaves = 108 ∷ 101 ∷ 97 ∷ 118 ∷ 101 ∷ 115 ∷ 32 ∷ []

abbrev pub splits : List ℕ
splits = 32 ∷ 115 ∷ 112 ∷ 108 ∷ 105 ∷ 116 ∷ 115 ∷ 32 ∷ []

pub first_count : (s : ℕ) → length (first_line s) ≡ 16 + (length (decimal (1 + 7 * s)) + length (decimal s))
first_count s =
    let a = length-append (decimal (1 + 7 * s)) (splits ++ (decimal s ++ (10 ∷ []))) in
    let b = length-append (decimal s) (10 ∷ []) in
    omega arith

pub first_written : (s : ℕ) {l l1 l2 l3 l4 : List ℕ} {a b d e : ℕ} → Wrote l 0 l1 a leaves → Wrote l1 a l2 b (decimal (1 + 7 * s))
    → Wrote l2 b l3 d splits → Wrote l3 d l4 e (decimal s) → Wrote l 0 (set l4 e 10) (e + 1) (first_line s)
first_written s {l} {l1} {l2} {l3} {l4} {a} {b} {d} {e} p q r t =
    named (simp append_assoc) (then (then (then (then p q) r) t) (byte l4 e 10))

-- ---- all the lines
pub lines_length : (t : RuleTree) (xs : List ℕ) → length (lines_of t xs) ≡ length (first_line t.splits) + length (leaf_lines t.nodes (share_of t xs) (node_count t.splits))
unfolding lines_of
lines_length t xs = length-append (first_line t.splits) (leaf_lines t.nodes (share_of t xs) (node_count t.splits))

pub lines_written : (t : RuleTree) (xs : List ℕ) {l m r : List ℕ} {k j : ℕ} {text : List ℕ} → text ≡ leaf_lines t.nodes (share_of t xs) (node_count t.splits)
    → Wrote l 0 m k (first_line t.splits) → Wrote m k r j text → Wrote l 0 r j (lines_of t xs)
unfolding lines_of
lines_written t xs e p q = then p (named e q)
