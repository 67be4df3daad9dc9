-- Within the list there is a candidate. Assumes nothing.
use Rattle.std.proofs.Common.{sym, ◌∙◌, arith}
use Rattle.std.proofs.lemmas.Grind.{common_steps}
use Rattle.trainer.proofs.Pick.{pick_within}
use Rattle.trainer.proofs.inner.list.Candidates.at.Goals as goal

pub unwrap-requires : goal.unwrap-requires
unwrap-requires c =
    let e = pick_within _ c.args.k c.pick.result (rw c.from.ensures at c.pick.ensures) c.requires in
    grind (arith, common_steps)

pub returns : goal.returns
returns c =
    let e = sym c.unwrap.ensures ∙ pick_within _ c.args.k c.pick.result (rw c.from.ensures at c.pick.ensures) c.requires in
    cc
