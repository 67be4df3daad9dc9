-- The panel of a saved record and the bytes after it; and of a fresh record and the count 5, the lines of 01's example. Assumes nothing.
use mathlib.Core.Path.{◌≡◌, refl, ap, ◌∙◌}
use mathlib.Core.Bool.{true}
use mathlib.Core.List.{List, ◌++◌, append_assoc}
use Prim.Native.Nat.{ℕ, ◌+◌, ◌-◌, ◌≤◌}
use native.Mathlib.Omega.{arith}
use borrow.Author.Tests.{le-leb}
use lib.ListN.{length, drop, length-append}
use lib.Seq.{take_at, drop_at}
use Rattle.std.specs.Prelude.{Result, Ok, Err}
use Rattle.refusal.specs.declared.Refusal.{Refusal}
use Rattle.rule_tree.specs.declared.RuleTree.{RuleTree}
use Rattle.rule_tree.specs.Nodes.{node_count}
use Rattle.trainer.specs.declared.Trainer.{Trainer}
use Rattle.trainer.specs.State.{accepted_of}
use Rattle.wire.specs.Bytes.{bytes_of, number_at}
use Rattle.record.specs.Layout.{layout_of}
use Rattle.record.specs.Write.{version, body_of, record_in, record_of}
use Rattle.record.specs.Calls.{load_of}
use Rattle.wire.proofs.Bytes.{bytes_count, number_stands}
use Rattle.record.proofs.Size.{record_small}
use Rattle.record.proofs.RoundTrip.{TrainerFits}
use Rattle.record.proofs.Loading.{accepted_grown, load_saved}
use Rattle.record.proofs.BytesFit.{loaded_is}
use Rattle.panel_lines.specs.Panel.{lines_of, record_part, counts_part, counts_in, start_holds, tree_in, panel_of, out_after}
use Rattle.panel_lines.specs.Parts.{lines_after, counts_shown, counts_after}
use Rattle.panel_lines.proofs.Nested.{panel_nested}

-- ---- a saved record, and whatever bytes come after it
module _ (t : Trainer) (f : TrainerFits t) (a : accepted_of t ≡ true) (more : List ℕ) where
  input : List ℕ
  input = record_of t ++ more

  size : length (record_of t) ≤ 11076
  size = record_small (layout_of version) version t (accepted_grown t a) f.tree.full

  body : 4 + length (body_of t) ≡ length (record_of t)
  unfolding record_in
  body = omega (arith, length-append (bytes_of 4 (length (body_of t))) (body_of t), bytes_count 4 (length (body_of t)))

  told : number_at input 0 4 ≡ length (body_of t)
  unfolding input record_in
  told =
      number_stands (record_of t ++ more) 0 4 (length (body_of t)) (body_of t ++ more) (omega (arith, body, size))
      (append_assoc (bytes_of 4 (length (body_of t))) (body_of t) more)

  place : length (record_of t) ≡ 4 + number_at input 0 4
  place = omega (arith, told, body)

  starts : start_holds input ≡ true
  unfolding start_holds input
  starts =
      let n = length-append (record_of t) more in
      let l = place in
      let p = le-leb 4 (length input) (omega (arith, body)) in
      let q = le-leb (number_at input 0 4) 16384 (omega (arith, size)) in
      let r = le-leb (number_at input 0 4) (length input - 4) (omega arith) in
      rw (p, q, r)

  loads : load_of (record_part input) ≡ Ok t
  unfolding input
  loads = ap load_of (take_at (record_of t) more _ place) ∙ load_saved t f a

  counts : counts_part input ≡ more
  unfolding input
  counts = drop_at (record_of t) more _ place

  pub saved_shown : (out : List ℕ) → panel_of (record_of t ++ more) out ≡ counts_shown t.tree more out
  unfolding input
  saved_shown out = panel_nested (record_of t ++ more) out ∙ rw (starts, loads, counts)

  tree : tree_in input ≡ t.tree
  tree = ap (λ (u : Trainer). u.tree) (loaded_is (record_part input) t loads)

  pub saved_after : (out : List ℕ) (x : Result ℕ Refusal) → out_after (record_of t ++ more) out x ≡ counts_after t.tree more out x
  unfolding out_after lines_after input
  saved_after out (Ok n) =
      ap (λ (r : RuleTree). lines_of r (counts_in (counts_part input) (node_count r.splits)) ++ drop n out) tree
      ∙ ap (λ (b : List ℕ). lines_of t.tree (counts_in b (node_count t.tree.splits)) ++ drop n out) counts
  saved_after out (Err r) = refl
