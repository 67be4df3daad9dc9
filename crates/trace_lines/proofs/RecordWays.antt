-- The ways through a record and a trace, each by the tests that lead there. Assumes nothing.
use mathlib.Core.Path.{◌≡◌, refl, sym, ap, ◌∙◌}
use mathlib.Core.Bool.{Bool, true, false, cond}
use mathlib.Core.List.{List}
use Prim.Native.Nat.{ℕ}
use Rattle.std.specs.Prelude.{[], ◌∷◌, Result, Ok, Err}
use Rattle.refusal.specs.declared.Refusal.{Refusal}
use Rattle.refusal.specs.declared.Refusal.TheVariants.{BadField, BadLength, UnknownVersion}
use Rattle.refusal.specs.Guards.{check, checked, and_then}
use Rattle.trainer.specs.declared.Trainer.{Trainer}
use Rattle.record.specs.Read.{read_of}
use Rattle.record.specs.Calls.{version_holds, body_holds, load_of}
use Rattle.record.proofs.Loading.{loaded_then}
use Rattle.record.proofs.BytesFit.{loaded_is}
use Rattle.rule_tree.specs.declared.RuleTree.{RuleTree}
use Rattle.panel_lines.specs.Panel.{record_part, start_holds, tree_in}
use Rattle.panel_lines.proofs.Nested.{part_held}
use Rattle.trace_lines.specs.Trace.{trace_part, trace_of, out_after}
use Rattle.trace_lines.specs.Parts.{traced_of, traced_after}
use Rattle.trace_lines.proofs.Ways.{Traced}

module _ (input out : List ℕ) where
  call : Trainer → Result ℕ Refusal
  call t = traced_of t.tree (trace_part input) out

  -- a record that starts is loaded, and then the trace is answered over its trainer's tree
  trace_nested : trace_of input out ≡ checked (check (start_holds input) BadLength ∷ []) (and_then (load_of (record_part input)) call)
  unfolding trace_of traced_of call
  trace_nested = by (start_holds input) refl
    where
      rest : Result ℕ Refusal → Result ℕ Refusal
      rest r = checked (check (version_holds (record_part input)) UnknownVersion ∷ check (body_holds (record_part input)) BadField ∷ []) r

      by : (b : Bool) → start_holds input ≡ b
          → cond b (rest (call (read_of (record_part input)))) (Err BadLength) ≡ cond b (and_then (load_of (record_part input)) call) (Err BadLength)
      by true h =
          ap (λ (b : Bool). cond b (rest (call (read_of (record_part input)))) (Err BadLength)) (sym (part_held input h))
          ∙ sym (loaded_then (record_part input) call)
      by false h = refl

  pub trace_short : start_holds input ≡ false → (Err BadLength ≡ trace_of input out) × (out ≡ out_after input out (trace_of input out))
  unfolding out_after
  trace_short h = let e : trace_of input out ≡ Err BadLength = trace_nested ∙ rw h in (sym e, rw e)

  after_same : (x : Result ℕ Refusal) → traced_after (tree_in input) (trace_part input) out x ≡ out_after input out x
  unfolding out_after traced_after
  after_same (Ok n) = refl
  after_same (Err r) = refl

  module _ (h : start_holds input ≡ true) where
    pub trace_refused : (r : Refusal) → load_of (record_part input) ≡ Err r → (Err r ≡ trace_of input out) × (out ≡ out_after input out (trace_of input out))
    unfolding out_after
    trace_refused r e =
        let p : trace_of input out ≡ Err r = trace_nested ∙ rw (h, e) in
        (sym p, rw p)

    pub trace_taken : (t : Trainer) (bytes : List ℕ) {v : Result ℕ Refusal} {r : List ℕ} → load_of (record_part input) ≡ Ok t → bytes ≡ trace_part input
        → Traced t.tree bytes out v r → (v ≡ trace_of input out) × (r ≡ out_after input out (trace_of input out))
    unfolding call
    trace_taken t bytes e f p =
        let s : traced_of t.tree (trace_part input) out ≡ trace_of input out = sym (trace_nested ∙ rw (h, e)) in
        let z : t.tree ≡ tree_in input = ap (λ (u : Trainer). u.tree) (sym (loaded_is (record_part input) t e)) in (
          p.0 ∙ ap (λ (b : List ℕ). traced_of t.tree b out) f ∙ s,
          p.1 ∙ ap (λ (b : List ℕ). traced_after t.tree b out (traced_of t.tree b out)) f
              ∙ ap (traced_after t.tree (trace_part input) out) s
              ∙ ap (λ (b : RuleTree). traced_after b (trace_part input) out (trace_of input out)) z
              ∙ after_same (trace_of input out),
        )
