-- The ways through the panel, each by the tests that lead there. Assumes nothing.
use mathlib.Core.Path.{◌≡◌, refl, sym, ap, ◌∙◌}
use mathlib.Core.Bool.{true, false}
use mathlib.Core.List.{List}
use Prim.Native.Nat.{ℕ, ◌-◌, ◌*◌, ◌<◌, ◌≤◌}
use native.Mathlib.Omega.{arith}
use borrow.Author.Tests.{le-leb, lt-leb, eq-eqb, ne_eqb}
use lib.Dec.{leb}
use lib.ListN.{length, take, drop, length-drop}
use lib.Seq.{sets, take_all, take_at}
use Rattle.std.specs.Prelude.{Result, Ok, Err}
use Rattle.refusal.specs.declared.Refusal.{Refusal}
use Rattle.refusal.specs.declared.Refusal.TheVariants.{BadCounts, BadLength, ShortBuffer}
use Rattle.rule_tree.specs.declared.RuleTree.{RuleTree}
use Rattle.rule_tree.specs.Nodes.{node_count}
use Rattle.rule_tree.specs.Counts.{capped_total, counts_hold}
use Rattle.rule_tree.specs.Grown.{grown_of}
use Rattle.rule_tree.proofs.Links.{grown_splits}
use Rattle.rule_tree.proofs.Counting.{counts_accepted}
use Rattle.trainer.specs.declared.Trainer.{Trainer}
use Rattle.record.specs.Calls.{load_of}
use Rattle.record.proofs.CallWays.{stored}
use Rattle.record.proofs.Loading.{accepted_grown, load_again}
use Rattle.record.proofs.BytesFit.{loaded_is}
use Rattle.panel_lines.specs.Panel.{lines_of, record_part, counts_part, counts_in, tree_in, start_holds, panel_of, out_after}
use Rattle.panel_lines.specs.Parts.{Wrote, Lines, lines_shown, lines_after, counts_shown, counts_after}
use Rattle.panel_lines.proofs.Room.{lines_fit}
use Rattle.panel_lines.proofs.Nested.{panel_nested}

-- a part from the first place on, as the code lends it
pub part_first : (n : ℕ) (l : List ℕ) → take (n - 0) (drop 0 l) ≡ take n l
part_first n l = ap (λ (k : ℕ). take k l) (let e : n - 0 ≡ n = omega arith in e)

-- and the rest from place n on
pub part-rest : (n k : ℕ) (l : List ℕ) → n ≡ k → take (length l - n) (drop n l) ≡ drop k l
part-rest n k l e = take_all (length l - n) (drop n l) (omega (arith, length-drop n l)) ∙ ap (λ (j : ℕ). drop j l) e

-- ---- the lines
pub lines_taken : (t : RuleTree) (xs buf : List ℕ) (all : ℕ) → t.splits ≤ 64 → counts_hold t xs ≡ true → all ≡ capped_total xs → 8192 ≤ length buf → Lines buf t xs all
lines_taken t xs buf all l h e r =
    let a = counts_accepted t xs h in
    record { few = l; taken = h; sum = omega (arith, a.total_held); room = omega (arith, lines_fit t xs l) }

module _ (t : RuleTree) (xs out : List ℕ) where
  pub shown_bad : counts_hold t xs ≡ false → (Err BadCounts ≡ lines_shown t xs out) × (out ≡ lines_after t xs out (lines_shown t xs out))
  unfolding lines_after
  shown_bad h = (rw h, rw h)

  module _ (h : counts_hold t xs ≡ true) {l m : List ℕ} {n : ℕ} (w : Wrote l 0 m n (lines_of t xs)) where
    size : n ≡ length (lines_of t xs)
    size = omega (arith, w.place)

    pub shown_short : length out < n → (Err ShortBuffer ≡ lines_shown t xs out) × (out ≡ lines_after t xs out (lines_shown t xs out))
    unfolding lines_after
    shown_short s =
        let q : leb (length (lines_of t xs)) (length out) ≡ false = lt-leb (length (lines_of t xs)) (length out) (omega (arith, size)) in
        (rw (h, q), rw (h, q))

    -- the bytes written are those of the lines
    pub first_bytes : n ≤ length l → take n m ≡ lines_of t xs
    first_bytes f =
        ap (take n) (stored l (lines_of t xs) (omega (arith, size)) w.stored)
        ∙ take_at (lines_of t xs) (drop (length (lines_of t xs)) l) n (sym size)

    pub shown_taken : {r : List ℕ} → n ≤ length out → r ≡ sets out 0 (lines_of t xs)
        → (Ok n ≡ lines_shown t xs out) × (r ≡ lines_after t xs out (lines_shown t xs out))
    unfolding lines_after
    shown_taken s p =
        let q : leb (length (lines_of t xs)) (length out) ≡ true = le-leb (length (lines_of t xs)) (length out) (omega (arith, size)) in
        (rw (h, q, size), rw (h, q) (stored out (lines_of t xs) (omega (arith, size)) p))

-- ---- the counts
module _ (t : RuleTree) (bytes out : List ℕ) where
  pub counts_few : (length bytes ≡ 8 * node_count t.splits → ⊥)
      → (Err BadCounts ≡ counts_shown t bytes out) × (out ≡ counts_after t bytes out (counts_shown t bytes out))
  unfolding counts_shown lines_after
  counts_few h = let q = ne_eqb (length bytes) (8 * node_count t.splits) h in (rw q, rw q)

  shown_as_lem : length bytes ≡ 8 * node_count t.splits → lines_shown t (counts_in bytes (node_count t.splits)) out ≡ counts_shown t bytes out
  unfolding counts_shown
  shown_as_lem h = rw (eq-eqb (length bytes) (8 * node_count t.splits) h)

  pub counts_whole : (xs : List ℕ) {v : Result ℕ Refusal} {r : List ℕ} → length bytes ≡ 8 * node_count t.splits → xs ≡ counts_in bytes (node_count t.splits)
      → v ≡ lines_shown t xs out → r ≡ lines_after t xs out (lines_shown t xs out)
      → (v ≡ counts_shown t bytes out) × (r ≡ counts_after t bytes out (counts_shown t bytes out))
  counts_whole xs h e p q = (
    p ∙ ap (λ (ys : List ℕ). lines_shown t ys out) e ∙ shown_as_lem h,
    q ∙ ap (λ (ys : List ℕ). lines_after t ys out (lines_shown t ys out)) e
        ∙ ap (lines_after t (counts_in bytes (node_count t.splits)) out) (shown_as_lem h),
  )

-- ---- the record
-- a loaded trainer's tree is grown
pub load_grown : (bytes : List ℕ) (t : Trainer) → load_of bytes ≡ Ok t → grown_of t.tree ≡ true
load_grown bytes t e = accepted_grown t (load_again bytes t e).accepted

pub load_splits : (bytes : List ℕ) (t : Trainer) → load_of bytes ≡ Ok t → t.tree.splits ≤ 64
load_splits bytes t e = grown_splits t.tree (load_grown bytes t e)

module _ (input out : List ℕ) where
  pub panel_short : start_holds input ≡ false → (Err BadLength ≡ panel_of input out) × (out ≡ out_after input out (panel_of input out))
  unfolding panel_of out_after
  panel_short h = (rw h, rw h)

  after_same : (x : Result ℕ Refusal) → counts_after (tree_in input) (counts_part input) out x ≡ out_after input out x
  unfolding out_after lines_after
  after_same (Ok n) = refl
  after_same (Err r) = refl

  module _ (h : start_holds input ≡ true) where
    pub panel_refused : (r : Refusal) → load_of (record_part input) ≡ Err r → (Err r ≡ panel_of input out) × (out ≡ out_after input out (panel_of input out))
    unfolding out_after
    panel_refused r e =
        let p : panel_of input out ≡ Err r = panel_nested input out ∙ rw (h, e) in
        (sym p, rw p)

    pub panel_shown : (t : Trainer) (bytes : List ℕ) {v : Result ℕ Refusal} {r : List ℕ} → load_of (record_part input) ≡ Ok t → bytes ≡ counts_part input
        → v ≡ counts_shown t.tree bytes out → r ≡ counts_after t.tree bytes out (counts_shown t.tree bytes out)
        → (v ≡ panel_of input out) × (r ≡ out_after input out (panel_of input out))
    panel_shown t bytes e f p q =
        let s : counts_shown t.tree (counts_part input) out ≡ panel_of input out = sym (panel_nested input out ∙ rw (h, e)) in
        let z : t.tree ≡ tree_in input = ap (λ (u : Trainer). u.tree) (sym (loaded_is (record_part input) t e)) in (
          p ∙ ap (λ (b : List ℕ). counts_shown t.tree b out) f ∙ s,
          q ∙ ap (λ (b : List ℕ). counts_after t.tree b out (counts_shown t.tree b out)) f
              ∙ ap (counts_after t.tree (counts_part input) out) s
              ∙ ap (λ (b : RuleTree). counts_after b (counts_part input) out (panel_of input out)) z
              ∙ after_same (panel_of input out),
        )
