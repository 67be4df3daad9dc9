-- Laws of the panel: the leaves that the first line tells are those that are listed, the size of the read buffer changes no answer, and
-- 8,192 bytes hold any lines. Assumes nothing.
use mathlib.Core.Path.{◌≡◌, refl, sym, ap, ◌∙◌}
use mathlib.Core.Bool.{Bool, true, false, ◌&&◌, cond}
use mathlib.Core.List.{List, [], ◌∷◌}
use mathlib.Core.Logic.{⊎_elim, ◌⊎◌}
use Prim.Native.Nat.{ℕ, ◌+◌, ◌*◌, ◌≤◌}
use native.Mathlib.Omega.{arith}
use borrow.Author.Tests.{le-leb, leb-true, leb-false, ne_eqb}
use lib.Dec.{eqb, leb}
use lib.ListN.{length, take, length-drop}
use lib.Seq.{take_all, length-take-le}
use Rattle.std.specs.Prelude.{Result, Ok, Err}
use Rattle.refusal.specs.declared.Refusal.{Refusal}
use Rattle.refusal.specs.declared.Refusal.TheVariants.{BadCounts, BadField, BadLength, ShortBuffer, UnknownVersion}
use Rattle.refusal.specs.Guards.{check, checked, and_then}
use Rattle.rule_tree.specs.declared.RuleTree.{RuleTree}
use Rattle.rule_tree.specs.Lists.{count_below}
use Rattle.rule_tree.specs.Nodes.{is_leaf_of, node_count}
use Rattle.rule_tree.proofs.Lists.{length_tabulate}
use Rattle.rule_tree.specs.Counts.{counts_hold}
use Rattle.trainer.specs.declared.Trainer.{Trainer}
use Rattle.wire.specs.Bytes.{number_at}
use Rattle.record.specs.Calls.{version_holds, body_holds, load_of}
use Rattle.record.proofs.Size.{leaves_count}
use Rattle.record.proofs.Loading.{accepted_grown, load_again, load_refused}
use Rattle.record.proofs.BytesFit.{loaded_is}
use Rattle.panel_lines.specs.Panel.{lines_of, record_part, counts_part, counts_in, tree_in, counts_of, text_of, start_holds, panel_of, out_after}
use Rattle.panel_lines.specs.Parts.{fitted, counts_shown, record_shown}
use Rattle.panel_lines.proofs.Room.{lines_fit}
use Rattle.panel_lines.proofs.Ways.{load_splits}
use Rattle.panel_lines.proofs.Nested.{long_start, first_number, first_record, panel_nested}

-- ---- "leaves L": as many as are listed
pub leaves_told : (bytes : List ℕ) (t : Trainer) → load_of bytes ≡ Ok t → count_below (node_count t.tree.splits) (is_leaf_of t.tree.nodes) ≡ 1 + 7 * t.tree.splits
leaves_told bytes t e =
    leaves_count t.tree (accepted_grown t (load_again bytes t e).accepted)
    (ap (λ (u : Trainer). length u.tree.nodes) (sym (loaded_is bytes t e)) ∙ length_tabulate 513 _)

-- ---- an input of more bytes than any that is taken
-- what is answered to it hangs on the record alone
too_many : Result Trainer Refusal → Result ℕ Refusal
too_many loaded = and_then loaded (λ t. Err BadCounts)

long_answer : ℕ → Result Trainer Refusal → Result ℕ Refusal
long_answer n loaded = checked (check (leb n 16384) BadLength ∷ []) (too_many loaded)

module _ (input out : List ℕ) (l : 20493 ≤ length input) where
  n : ℕ
  n = number_at input 0 4

  started : start_holds input ≡ leb n 16384
  unfolding n
  started = long_start input (omega arith)

  long_counts : (t : RuleTree) → n ≤ 16384 → t.splits ≤ 64 → counts_shown t (counts_part input) out ≡ Err BadCounts
  unfolding counts_shown n
  long_counts t m f =
      rw (ne_eqb (length (counts_part input)) (8 * node_count t.splits) (λ e. absurd (omega (arith, length-drop (4 + n) input, e))))

  long_record : n ≤ 16384 → (r : Result Trainer Refusal) → load_of (record_part input) ≡ r → record_shown r (counts_part input) out ≡ too_many r
  unfolding too_many
  long_record m (Ok t) e = long_counts t.tree m (load_splits (record_part input) t e)
  long_record m (Err r) e = refl

  long_panel : panel_of input out ≡ long_answer n (load_of (record_part input))
  unfolding long_answer
  long_panel = panel_nested input out ∙ rw started (by (leb n 16384) refl)
    where
      by : (b : Bool) → leb n 16384 ≡ b
          → cond b (record_shown (load_of (record_part input)) (counts_part input) out) (Err BadLength) ≡ cond b (too_many (load_of (record_part input))) (Err BadLength)
      by true e = long_record (leb-true n 16384 e) (load_of (record_part input)) refl
      by false e = refl

long_after : (input out : List ℕ) (n : ℕ) (r : Result Trainer Refusal) → out_after input out (long_answer n r) ≡ out
unfolding out_after long_answer too_many
long_after input out n r = by (leb n 16384) r
  where
    by : (b : Bool) (r : Result Trainer Refusal) → out_after input out (cond b (too_many r) (Err BadLength)) ≡ out
    by true (Ok t) = refl
    by true (Err e) = refl
    by false r = refl

-- ---- the read buffer's size changes no answer
module _ (input out : List ℕ) where
  first : List ℕ
  first = take 20493 input

  module _ (l : 20493 ≤ length input) where
    first_length : 20493 ≤ length first
    unfolding first
    first_length = omega (arith, length-take-le 20493 input l)

    same_answer : long_answer (number_at first 0 4) (load_of (record_part first)) ≡ long_answer (number_at input 0 4) (load_of (record_part input))
    unfolding long_answer first
    same_answer = ap (λ (k : ℕ). long_answer k (load_of (record_part first))) (first_number 20493 (omega arith) input) ∙ by (leb (number_at input 0 4) 16384) refl
      where
        by : (b : Bool) → leb (number_at input 0 4) 16384 ≡ b
            → cond b (too_many (load_of (record_part first))) (Err BadLength) ≡ cond b (too_many (load_of (record_part input))) (Err BadLength)
        by true e = ap (λ (r : List ℕ). too_many (load_of r)) (first_record 20493 (omega arith) input (leb-true (number_at input 0 4) 16384 e))
        by false e = refl

    long_same : panel_of first out ≡ panel_of input out
    unfolding n
    long_same = long_panel first out first_length ∙ same_answer ∙ sym (long_panel input out l)

    long_kept : out_after first out (panel_of first out) ≡ out_after input out (panel_of input out)
    long_kept =
        ap (out_after first out) (long_panel first out first_length) ∙ long_after first out _ _
        ∙ sym (ap (out_after input out) (long_panel input out l) ∙ long_after input out _ _)

  pub buffer_same : (panel_of (take 20493 input) out ≡ panel_of input out)
      × (out_after (take 20493 input) out (panel_of (take 20493 input) out) ≡ out_after input out (panel_of input out))
  unfolding first
  buffer_same = by (leb 20493 (length input)) refl
    where
      by : (b : Bool) → leb 20493 (length input) ≡ b → (panel_of (take 20493 input) out ≡ panel_of input out)
          × (out_after (take 20493 input) out (panel_of (take 20493 input) out) ≡ out_after input out (panel_of input out))
      by true e = let l = leb-true 20493 (length input) e in (long_same l, long_kept l)
      by false e =
          let q = take_all 20493 input (omega (arith, leb-false 20493 (length input) e)) in
          (ap (λ (r : List ℕ). panel_of r out) q, ap (λ (r : List ℕ). out_after r out (panel_of r out)) q)

-- ---- a buffer of 8,192 bytes holds any lines
fitted_room : (text out : List ℕ) → length text ≤ length out → fitted text out ≡ Ok (length text)
fitted_room text out l = rw (le-leb (length text) (length out) l)

module _ (out : List ℕ) (room : 8192 ≤ length out) where
  counts_never : (t : RuleTree) (bytes : List ℕ) → t.splits ≤ 64 → counts_shown t bytes out ≡ Err ShortBuffer → ⊥
  unfolding counts_shown
  counts_never t bytes l e = by (eqb (length bytes) (8 * node_count t.splits)) (counts_hold t (counts_in bytes (node_count t.splits))) e
    where
      xs : List ℕ
      xs = counts_in bytes (node_count t.splits)

      by : (b d : Bool) → cond b (cond d (fitted (lines_of t xs) out) (Err BadCounts)) (Err BadCounts) ≡ Err ShortBuffer → ⊥
      by true true e = let f = fitted_room (lines_of t xs) out (omega (arith, lines_fit t xs l)) in cc
      by true false e = cc
      by false d e = cc

  record_never : (bytes rest : List ℕ) (r : Result Trainer Refusal) → load_of bytes ≡ r → record_shown r rest out ≡ Err ShortBuffer → ⊥
  record_never bytes rest (Ok t) q e = counts_never t.tree rest (load_splits bytes t q) e
  record_never bytes rest (Err r) q e =
      ⊎_elim (λ (z : r ≡ BadLength). cc)
      (λ (z : (r ≡ UnknownVersion) ⊎ (r ≡ BadField)). ⊎_elim (λ (y : r ≡ UnknownVersion). cc) (λ (y : r ≡ BadField). cc) z)
      (load_refused bytes r q)

  pub never_short : (input : List ℕ) → panel_of input out ≡ Err ShortBuffer → ⊥
  never_short input e = by (start_holds input) (sym (panel_nested input out) ∙ e)
    where
      by : (b : Bool) → cond b (record_shown (load_of (record_part input)) (counts_part input) out) (Err BadLength) ≡ Err ShortBuffer → ⊥
      by true e = record_never (record_part input) (counts_part input) (load_of (record_part input)) refl e
      by false e = cc

-- ---- a size is that of bytes in the lent buffer
pub size_inside : (input out : List ℕ) (n : ℕ) → panel_of input out ≡ Ok n → n ≤ length out
unfolding panel_of
size_inside input out n e =
    by (start_holds input) (version_holds (record_part input)) (body_holds (record_part input))
    (eqb (length (counts_part input)) (8 * node_count (tree_in input).splits) && counts_hold (tree_in input) (counts_of input))
    (leb (length (text_of input)) (length out)) refl e
  where
    by : (x y z c f : Bool) → leb (length (text_of input)) (length out) ≡ f
        → checked (check x BadLength ∷ check y UnknownVersion ∷ check z BadField ∷ check c BadCounts ∷ check f ShortBuffer ∷ []) (Ok (length (text_of input))) ≡ Ok n
        → n ≤ length out
    by true true true true true l e = let q : length (text_of input) ≡ n = cc in omega (arith, leb-true (length (text_of input)) (length out) l)
    by true true true true false l e = absurd (cc)
    by true true true false f l e = absurd (cc)
    by true true false c f l e = absurd (cc)
    by true false z c f l e = absurd (cc)
    by false y z c f l e = absurd (cc)
