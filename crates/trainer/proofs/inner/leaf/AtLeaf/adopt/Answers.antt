-- The one kept is a valid action. Assumes nothing.
use Rattle.trainer.proofs.Steps.{kept_within, adopted_valid}
use Rattle.trainer.proofs.inner.leaf.AtLeaf.adopt.Goals as goal

pub try_from-requires : goal.try_from-requires
try_from-requires c =
    rw c.with_action.ensures
    (adopted_valid c.args.self.trainer.now _ _
    (record { settings = c.args.self.set; grown = c.args.self.grown; leaf = c.args.self.leaf })
    (kept_within c.args.self.trainer.now c.args.kept c.args.score _ c.requires c.in-Some.ensures)
    (rw (c.candidates.ensures.settings, c.candidates.ensures.action) at c.at-c.ensures))
