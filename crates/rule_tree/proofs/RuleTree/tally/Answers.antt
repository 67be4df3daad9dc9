-- A refusal leaves the list.
use Rattle.std.proofs.Common.{arith, ◌≡◌}
use Rattle.std.proofs.lemmas.Grind.{common_steps}
use Rattle.rule_tree.specs.Calls.{tally_of}
use Rattle.rule_tree.proofs.Looking.{counted_refused}
use Rattle.rule_tree.proofs.RuleTree.tally.Goals as goal

pub returns-in_err-t : goal.returns-in_err-t
unfolding tally_of
returns-in_err-t c =
    let e : c.from_residual.result ≡ tally_of c.args.self c.args.counts.now c.args.p = grind (arith, common_steps) in
    (e, counted_refused _ _ _ c.from_residual.ensures.0 e)

pub returns-in_err-counts : goal.returns-in_err-counts
unfolding tally_of
returns-in_err-counts c =
    let e : c.from_residual-in_err-counts.result ≡ tally_of c.args.self c.args.counts.now c.args.p = grind (arith, common_steps) in
    (e, counted_refused _ _ _ c.from_residual-in_err-counts.ensures.0 e)
