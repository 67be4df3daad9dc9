-- `host_memory::listed` tests in the order 28, 29, and a refusal leaves the buffer. Assumes nothing.
use Rattle.std.proofs.Common.{sym, ap, ◌∙◌, length, List, ℕ}
use Rattle.std.proofs.lemmas.List.Edits.{sets}
use Rattle.wire.specs.Bytes.{shorts_bytes}
use Rattle.host_memory.proofs.Within as law
use Rattle.host_memory.proofs.listed.Goals as goal

pub returns-then-not-ordered : goal.returns-then-not-ordered
returns-then-not-ordered c =
    law.disordered c.args.t.tree.now c.args.r c.args.out.now c.args.t.grown (sym c.ordered.ensures ∙ c.if-not-ordered.true)

pub returns-then-out-n : goal.returns-then-out-n
returns-then-out-n c =
    law.too_short c.args.t.tree.now c.args.r c.args.out.now c.args.t.grown (sym c.ordered.ensures ∙ c.if-not-ordered.false) c.len-n.result
    (c.len-n.ensures.value ∙ ap length c.found_in-found.ensures) c.if-out-n.true

pub returns : goal.returns
returns c =
    law.written c.args.t.tree.now c.args.r c.args.out.now c.args.t.grown (sym c.ordered.ensures ∙ c.if-not-ordered.false) c.len-n.result
    (c.len-n.ensures.value ∙ ap length c.found_in-found.ensures) c.if-out-n.false
    (c.put_list.ensures ∙ ap (λ (ls : List ℕ). sets c.args.out.now 0 (shorts_bytes ls)) (c.as_slice.ensures.value ∙ c.found_in-found.ensures))
