-- `write` meets its contract. Assumes nothing.
use Rattle.std.proofs.Common.{rules, ◌≡◌, ◌∙◌, refl, sym, ap, ◌+◌, ◌-◌, ◌*◌, ℕ, List, length}
use lib.ListN.{length-set}
use lib.Seq.{sets, length-take-le}
use Rattle.rule_tree.proofs.Links.{grown_splits}
use Rattle.record.proofs.Size as law
use Rattle.record.proofs.Writing.{payload_used}
use native.Mathlib.Omega.{arith}
use Rattle.record.proofs.inner.write.write.Goals as goal

pub put_splits-requires : goal.put_splits-requires
put_splits-requires c = omega (
  arith,
  c.requires.1,
  grown_splits c.args.t.now.tree c.requires.0,
  c.put.auto.buf,
  length-set c.put.new.buf 4 c.args.version,
  c.put_settings.auto.buf,
  c.put_ends-count.auto.buf,
  c.put_ends-count.ensures.0,
)

pub slice_bounds-put_nodes-end : goal.slice_bounds-put_nodes-end
slice_bounds-put_nodes-end c =
    let full : length c.args.t.now.tree.nodes ≡ 513 = search rules in
    let few = grown_splits c.args.t.now.tree c.requires.0 in
    sym (length-take-le _ c.args.t.now.tree.nodes (omega (arith, full, few, c.from-splits.ensures)))

pub put_nodes-state-requires : goal.put_nodes-state-requires
put_nodes-state-requires c =
    let full : length c.args.t.now.tree.nodes ≡ 513 = search rules in
    let few = grown_splits c.args.t.now.tree c.requires.0 in
    omega (
      arith,
      c.requires.1,
      few,
      ap length (payload_used c.args.l c.args.t.now.tree c.from-splits.result c.from-splits.ensures (omega (arith, few, full))),
      law.nodes_length c.args.l c.args.version c.args.t.now c.requires.0 full,
      c.put.auto.buf,
      length-set c.put.new.buf 4 c.args.version,
      c.put_settings.auto.buf,
      c.put_ends-count.auto.buf,
      c.put_ends-count.ensures.0,
      c.put_splits.auto.buf,
    )

pub put_state-requires : goal.put_state-requires
put_state-requires c =
    let full : length c.args.t.now.tree.nodes ≡ 513 = search rules in
    let few = grown_splits c.args.t.now.tree c.requires.0 in
    omega (
      arith,
      c.requires.1,
      c.put_nodes-state.ensures.0,
      ap length (payload_used c.args.l c.args.t.now.tree c.from-splits.result c.from-splits.ensures (omega (arith, few, full))),
      law.nodes_length c.args.l c.args.version c.args.t.now c.requires.0 full,
      c.put.auto.buf,
      length-set c.put.new.buf 4 c.args.version,
      c.put_settings.auto.buf,
      c.put_ends-count.auto.buf,
      c.put_ends-count.ensures.0,
      c.put_splits.auto.buf,
      c.put_nodes-state.auto.buf,
    )

pub returns : goal.returns
returns c =
    let full : length c.args.t.now.tree.nodes ≡ 513 = search rules in
    let few = grown_splits c.args.t.now.tree c.requires.0 in
    let n = payload_used c.args.l c.args.t.now.tree c.args.t.now.tree.splits refl (omega (arith, few, full)) in
    record {
      stored = law.record_written c.args.buf.now c.args.l c.args.version c.args.t.now c.requires.0 full (c.size.result - 4) _ _ (omega (arith, c.size.ensures.0))
          c.put.ensures c.put_settings.ensures c.put_ends-count.ensures.1 c.put_ends-count.ensures.0 c.put_splits.ensures
          ((rw c.from-splits.ensures at c.put_nodes-state.ensures.1) ∙ ap (sets c.put_splits.new.buf (c.put_ends-count.result + 2 + 2 * c.args.t.now.tree.splits)) n)
          ((rw c.from-splits.ensures at c.put_nodes-state.ensures.0) ∙ ap (λ (xs : List ℕ). c.put_ends-count.result + 2 + 2 * c.args.t.now.tree.splits + length xs) n) c.put_state.ensures;
      size = law.record_size c.args.l c.args.version c.args.t.now c.requires.0 full;
    }
