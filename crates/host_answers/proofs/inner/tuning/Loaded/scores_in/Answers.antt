-- `host_answers::inner::tuning::Loaded::scores_in` begins by the trainer's phase. Assumes nothing.
use native.Mathlib.Omega.{arith}
use Rattle.trainer.specs.declared.phase.Phase.TheVariants.{Own, Try}
use Rattle.trainer.proofs.PhaseLaws.{number_at}
use Rattle.trainer.proofs.AcceptedFacts as facts
use Rattle.host_answers.proofs.Begins as law
use Rattle.host_answers.proofs.inner.tuning.Loaded.scores_in.Goals as goal

pub invariant_of-at : goal.invariant_of-at
invariant_of-at c =
    let s = facts.scoring_ask _ c.args.self.ready.accepted (number_at _ _ Own c.requires.named c.in-Own.is) in
    record { set = s.settings; grown = s.grown; leaf = s.leaf }

pub tune-requires-clause-leaf : goal.tune-requires-clause-leaf
tune-requires-clause-leaf c =
    facts.leaf_slot _ (facts.scoring_ask _ c.args.self.ready.accepted (number_at _ _ Own c.requires.named c.in-Own.is))

pub tune-requires-clause-before : goal.tune-requires-clause-before
tune-requires-clause-before c =
    law.own_begun c.args.self.trainer.now c.args.self.ready c.args.scores.now (number_at _ _ Own c.requires.named c.in-Own.is)
    c.float_at.ensures (rw (c.candidates.ensures.settings, c.candidates.ensures.action) at c.begun_by-first.ensures)

pub invariant_of-tuned_of : goal.invariant_of-tuned_of
invariant_of-tuned_of c =
    let s = facts.scoring_try _ c.args.self.ready.accepted (number_at _ _ Try c.requires.named c.in-Try.is) in
    record { set = s.settings; grown = s.grown; leaf = s.leaf }

pub tune-requires-in-Try-clause-leaf : goal.tune-requires-in-Try-clause-leaf
tune-requires-in-Try-clause-leaf c =
    facts.leaf_slot _ (facts.scoring_try _ c.args.self.ready.accepted (number_at _ _ Try c.requires.named c.in-Try.is))

pub tune-requires-in-Try-clause-before : goal.tune-requires-in-Try-clause-before
tune-requires-in-Try-clause-before c =
    law.tried_begun c.args.self.trainer.now c.args.self.ready c.args.scores.now (number_at _ _ Try c.requires.named c.in-Try.is) c.tuned_of.ensures

pub returns-in_default : goal.returns-in_default
returns-in_default c =
    law.unwanted_else c.args.self.trainer.now c.args.self.ready c.args.scores.now _ (omega (arith, c.requires.some)) c.args.phase c.requires.named c.in_default.not-Own c.in_default.not-Try
