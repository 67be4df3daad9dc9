-- `host_answers::inner::groups::groups_on`: group by group, to the end or to the first refusal. Assumes nothing.
use Rattle.std.proofs.Common.{arith, sym, ◌∙◌}
use borrow.Author.Tests.{eqb-true, eqb-false}
use Rattle.std.proofs.lemmas.Grind.{common_steps}
use Rattle.host_answers.proofs.Groups as law
use Rattle.host_answers.proofs.inner.groups.groups_on.Goals as goal

pub returns-in_err-t : goal.returns-in_err-t
returns-in_err-t c = let f = law.load_refused c.args.held.now c.args.list.now _ c.load.ensures c.in_err-t.was in grind (arith, common_steps, f)

pub loop-rest-init : goal.loop-rest-init
loop-rest-init c =
    (law.load_ready c.args.held.now _ c.load.ensures c.in_ok-t.was, law.groups_begin c.args.held.now c.args.list.now _ c.load.ensures c.in_ok-t.was)

pub returns-in_err-group : goal.returns-in_err-group
returns-in_err-group c =
    let n = eqb-false _ _ (sym c.is_empty.ensures ∙ c.loop-rest-test.true) in
    let f =
    law.groups_refused c.args.held.now c.args.list.now c.loop-rest.t c.loop-rest.rest.now c.loop-rest.invariant.1 n _
    (c.in_err-group.ensures c.loop-rest.t) in
    grind (arith, common_steps, f)

pub returns-in_err-t-2 : goal.returns-in_err-t-2
returns-in_err-t-2 c =
    let n = eqb-false _ _ (sym c.is_empty.ensures ∙ c.loop-rest-test.true) in
    let f =
    law.groups_refused c.args.held.now c.args.list.now c.loop-rest.t c.loop-rest.rest.now c.loop-rest.invariant.1 n _
    (sym (c.in_ok-group.ensures.1 c.loop-rest.t) ∙ sym c.answered_by.ensures ∙ c.in_err-t-2.was) in
    grind (arith, common_steps, f)

pub loop-rest-preserved : goal.loop-rest-preserved
loop-rest-preserved c =
    let n = eqb-false _ _ (sym c.is_empty.ensures ∙ c.loop-rest-test.true) in
    let e = sym (c.in_ok-group.ensures.1 c.loop-rest.t) ∙ sym c.answered_by.ensures ∙ c.in_ok-t-2.was in (
      law.group_ready c.args.held.now c.args.list.now c.loop-rest.t c.loop-rest.rest.now c.loop-rest.invariant.1 n _ e c.loop-rest.invariant.0,
      law.groups_next c.args.held.now c.args.list.now c.loop-rest.t c.loop-rest.rest.now c.loop-rest.invariant.1 n _ e c.in_ok-group.ensures.0,
    )

pub returns : goal.returns
returns c =
    law.groups_done c.args.held.now c.args.list.now c.loop-rest.t c.loop-rest.rest.now c.loop-rest.invariant.1
    (eqb-true _ _ (sym c.is_empty.ensures ∙ c.loop-rest-test.false))
