-- `trace` loads the record, then writes the lines of the trace over its trainer's tree. Assumes nothing.
use Rattle.std.proofs.Common.{◌≡◌, ◌∙◌, sym, ap, ℕ, take, Ok, Err}
use Rattle.std.proofs.lemmas.Grind.{common_steps}
use native.Mathlib.Omega.{arith}
use lib.Seq.{length-take-le}
use Rattle.refusal.specs.declared.Refusal.TheVariants.{BadLength}
use Rattle.record.specs.Calls.{load_of}
use Rattle.panel_lines.specs.Panel.{record_part}
use Rattle.panel_lines.proofs.Ways.{part-rest, load_grown, load_splits}
use Rattle.trace_lines.proofs.RecordWays as law
use Rattle.trace_lines.proofs.trace.Goals as goal

pub returns-in_err-n : goal.returns-in_err-n
returns-in_err-n c =
    let e : c.from_residual.result ≡ Err BadLength = grind (arith, common_steps) in
    let w = law.trace_short c.args.input.now c.args.out.now c.in_err-n.ensures.1 in
    (e ∙ w.0, w.1)

pub slice_bounds-load-end : goal.slice_bounds-load-end
slice_bounds-load-end c = sym (length-take-le c.in_ok-n.n c.args.input.now c.in_ok-n.ensures.2)

pub returns-in_err-t : goal.returns-in_err-t
returns-in_err-t c =
    let l : load_of (record_part c.args.input.now) ≡ Err c.in_err-t.field-0.0 =
    ap (λ (k : ℕ). load_of (take k c.args.input.now)) (sym c.in_ok-n.ensures.1) ∙ sym c.load.ensures ∙ c.in_err-t.was in
    let e : c.from_residual-in_err-t.result ≡ Err c.in_err-t.field-0.0 = grind (arith, common_steps) in
    let w = law.trace_refused c.args.input.now c.args.out.now c.in_ok-n.ensures.0 _ l in
    (e ∙ w.0, w.1)

pub invariant_of-tree : goal.invariant_of-tree
invariant_of-tree c =
    let l = sym c.load.ensures ∙ c.in_ok-t.was in
    record { grown = load_grown _ c.in_ok-t.t l; few = load_splits _ c.in_ok-t.t l }

pub returns : goal.returns
returns c =
    let l : load_of (record_part c.args.input.now) ≡ Ok c.in_ok-t.t =
    ap (λ (k : ℕ). load_of (take k c.args.input.now)) (sym c.in_ok-n.ensures.1) ∙ sym c.load.ensures ∙ c.in_ok-t.was in
    law.trace_taken c.args.input.now c.args.out.now c.in_ok-n.ensures.0 c.in_ok-t.t _ l
    (part-rest c.in_ok-n.n _ c.args.input.now c.in_ok-n.ensures.1) c.traced.ensures
