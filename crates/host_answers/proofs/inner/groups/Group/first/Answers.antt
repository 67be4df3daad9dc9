-- `host_answers::inner::groups::Group::first`: a group that is cut, or of no kind, is refused for any trainer. Assumes nothing.
use Rattle.std.proofs.Common.{◌≡◌, ◌≤◌, ◌+◌, ◌*◌, ℕ, Err, length, arith, sym, ap, ◌∙◌}
use Rattle.std.proofs.lemmas.Grind.{common_steps}
use Rattle.host_answers.specs.Answers.{group_size}
use Rattle.host_answers.specs.Parts.{kind_of}
use Rattle.host_answers.proofs.Groups as law
use Rattle.host_answers.proofs.inner.groups.Group.first.Goals as goal

pub returns-then-size-bytes : goal.returns-then-size-bytes
returns-then-size-bytes c = λ t. law.group_cut c.args.bytes.now t (omega (arith, c.short_at-n.ensures, c.if-size-bytes.true))

pub returns-in_err-try_from : goal.returns-in_err-try_from
returns-in_err-try_from c =
    let e : c.from_residual.result ≡ Err c.in_err-try_from.field-0.0 = grind (arith, common_steps) in
    let k = sym (c.try_from.ensures ∙ ap kind_of c.byte_at.ensures) ∙ c.in_err-try_from.was in
    rw e (λ t. law.group_unknown c.args.bytes.now t (omega (arith, c.short_at-n.ensures, c.if-size-bytes.false)) k)

pub returns : goal.returns
returns c =
    let k = sym (c.try_from.ensures ∙ ap kind_of c.byte_at.ensures) ∙ c.in_ok-try_from.was in
    let l : group_size c.args.bytes.now ≤ length c.args.bytes.now = omega (arith, c.short_at-n.ensures, c.if-size-bytes.false) in
    let s = ap (λ (n : ℕ). 3 + 8 * n) c.short_at-n.ensures in
    (law.rest_is c.args.bytes.now s, λ t. law.group_is c.args.bytes.now t l k (law.body_is c.args.bytes.now s))
