-- `same_record` meets its contract. Assumes nothing.
use Rattle.record.proofs.CallWays as law
use mathlib.Core.Path.{sym, ap, ◌∙◌}
use mathlib.Core.List.{List}
use Prim.Native.Nat.{ℕ}
use lib.ListN.{replicate, length-replicate}
use lib.Seq.{length-take-le}
use Rattle.rule_tree.proofs.Links.{grown_splits}
use Rattle.wire.specs.Bytes.{same_bytes}
use Rattle.wire.proofs.Bytes.{same_tested}
use native.Mathlib.Omega.{arith}
use Rattle.record.proofs.inner.body.same_record.Goals as goal

pub slice_bounds-eq-end : goal.slice_bounds-eq-end
slice_bounds-eq-end c = sym (length-take-le _ c.write.new.buf
    (omega (arith, c.size-size.ensures, c.write.auto.buf, grown_splits c.args.t.now.tree c.requires)))

pub returns : goal.returns
returns c = c.eq.ensures
    ∙ same_tested _ c.args.bytes.now
    ∙ ap (λ (l : List ℕ). same_bytes l c.args.bytes.now)
    (law.record_first (replicate 11076 0) c.args.l c.args.version c.args.t.now _ (omega (arith, c.size-size.ensures, c.write.ensures.size))
    (omega (arith, c.size-size.ensures, grown_splits c.args.t.now.tree c.requires, length-replicate {A = ℕ} 11076 0)) c.write.ensures.stored)
