-- A grown tree has a most used leaf. Assumes nothing.
use Rattle.std.proofs.Common.{sym, ◌∙◌, false, arith}
use Rattle.std.proofs.lemmas.Grind.{common_steps}
use Rattle.rule_tree.proofs.GrownTree.{chosen_found}
use Rattle.trainer.proofs.AcceptedFacts.{accepted_grown}
use Rattle.trainer.proofs.Steps.{chosen_slot}
use Rattle.trainer.proofs.inner.counting.Counting.most_used_leaf.Goals as goal

pub unwrap-requires : goal.unwrap-requires
unwrap-requires c =
    let m = chosen_found c.args.self.asked.trainer.now.tree c.args.self.counts.now c.args.self.counts_hold (accepted_grown _ c.args.self.asked.accepted) in
    let e = c.most_used.ensures ∙ m.1 in
    grind (arith, common_steps)

pub returns-clause-slot : goal.returns-clause-slot
returns-clause-slot c =
    chosen_slot c.args.self.asked.trainer.now.tree _ (accepted_grown _ c.args.self.asked.accepted) c.args.self.counts_hold false _ (sym c.most_used.ensures ∙ c.unwrap.ensures)
