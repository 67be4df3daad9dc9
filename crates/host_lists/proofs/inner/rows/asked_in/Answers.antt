-- `host_lists::inner::rows::asked_in` writes what an accepted trainer asks for, by its phase. Assumes nothing.
use Rattle.trainer.specs.declared.phase.Phase.TheVariants.{Own, Try}
use Rattle.trainer.proofs.PhaseLaws.{number_at}
use Rattle.trainer.proofs.AcceptedFacts as facts
use Rattle.host_lists.proofs.Rows as law
use Rattle.host_lists.proofs.inner.rows.asked_in.Goals as goal

pub invariant_of-candidates : goal.invariant_of-candidates
invariant_of-candidates c =
    let s = facts.scoring_ask _ c.requires.accepted (number_at _ _ Own c.requires.named c.in-Own.is) in
    record { set = s.settings; grown = s.grown; leaf = s.leaf }

pub invariant_of-candidates-in-Try : goal.invariant_of-candidates-in-Try
invariant_of-candidates-in-Try c =
    let s = facts.scoring_try _ c.requires.accepted (number_at _ _ Try c.requires.named c.in-Try.is) in
    record { set = s.settings; grown = s.grown; leaf = s.leaf }

pub put_candidates-requires-in-Try : goal.put_candidates-requires-in-Try
put_candidates-requires-in-Try c =
    rw (c.candidates-list-in-Try.ensures.settings, c.candidates-list-in-Try.ensures.action, c.from.ensures)
    (law.try_from_lem c.args.t.now c.requires.accepted (number_at _ _ Try c.requires.named c.in-Try.is))

pub returns-in-Own : goal.returns-in-Own
returns-in-Own c =
    law.row_ask c.args.t.now c.args.out.now (number_at _ _ Own c.requires.named c.in-Own.is)
    (rw (c.candidates-list.ensures.settings, c.candidates-list.ensures.action) at c.put_candidates.ensures)

pub returns-in-Try : goal.returns-in-Try
returns-in-Try c =
    let p = number_at _ _ Try c.requires.named c.in-Try.is in
    law.row_try c.args.t.now c.args.out.now (law.not_four c.args.t.now p) p
    (rw (c.candidates-list-in-Try.ensures.settings, c.candidates-list-in-Try.ensures.action, c.from.ensures) at c.put_candidates-in-Try.ensures)

pub returns-in_default : goal.returns-in_default
returns-in_default c = law.row_else c.args.t.now c.args.out.now c.args.phase c.requires.named c.in_default.not-Own c.in_default.not-Try
