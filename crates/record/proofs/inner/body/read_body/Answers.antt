-- `read_body` meets its contract. Assumes nothing.
use Rattle.std.proofs.Common.{◌≡◌, ◌∙◌, true, false, sym, refl, Err}
use Rattle.std.proofs.lemmas.Grind.{common_steps}
use native.Mathlib.Omega.{arith}
use Rattle.refusal.specs.declared.Refusal.TheVariants.{BadField}
use Rattle.record.proofs.CallWays as law
use Rattle.record.proofs.Loading.{accepted_grown}
use Rattle.record.proofs.inner.body.read_body.Goals as goal

pub returns-in_err-of : goal.returns-in_err-of
returns-in_err-of c =
    let e : c.from_residual.result ≡ Err BadField = grind (arith, common_steps) in
    e ∙ law.body_over c.args.bytes.now _ c.byte_at-version.ensures c.of_version-l.result c.of_version-l.ensures c.in_err-of.ensures.1

pub returns-then-not-accepted : goal.returns-then-not-accepted
returns-then-not-accepted c =
    law.body_is c.args.bytes.now _ c.byte_at-version.ensures c.of_version-l.result c.of_version-l.ensures c.in_ok-of.field-0.bytes.now c.in_ok-of.field-0.layout c.in_ok-of.field-0.splits c.in_ok-of.ensures _ c.trainer-t.ensures
    false _ (sym c.accepted.ensures ∙ c.if-not-accepted.true) refl

pub same_record-requires : goal.same_record-requires
same_record-requires c = accepted_grown _ (sym c.accepted.ensures ∙ c.if-not-accepted.false)

pub returns-then-not-same_record : goal.returns-then-not-same_record
returns-then-not-same_record c =
    law.body_is c.args.bytes.now _ c.byte_at-version.ensures c.of_version-l.result c.of_version-l.ensures c.in_ok-of.field-0.bytes.now c.in_ok-of.field-0.layout c.in_ok-of.field-0.splits c.in_ok-of.ensures _ c.trainer-t.ensures
    true false (sym c.accepted.ensures ∙ c.if-not-accepted.false) (sym c.same_record.ensures ∙ c.if-not-same_record.true)

pub returns : goal.returns
returns c =
    law.body_is c.args.bytes.now _ c.byte_at-version.ensures c.of_version-l.result c.of_version-l.ensures c.in_ok-of.field-0.bytes.now c.in_ok-of.field-0.layout c.in_ok-of.field-0.splits c.in_ok-of.ensures _ c.trainer-t.ensures
    true true (sym c.accepted.ensures ∙ c.if-not-accepted.false) (sym c.same_record.ensures ∙ c.if-not-same_record.false)
