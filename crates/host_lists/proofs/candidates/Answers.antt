-- `host_lists::candidates` tests the settings, then the action. Assumes nothing.
use Rattle.std.proofs.Common.{sym, ◌∙◌, arith}
use Rattle.std.proofs.lemmas.Grind.{common_steps}
use Rattle.host_lists.proofs.CandidateCalls as law
use Rattle.host_lists.proofs.candidates.Goals as goal

pub returns-in_err-s : goal.returns-in_err-s
returns-in_err-s c = law.candidates_unread c.args.settings.now c.args.action.now c.args.out.now c.settings_of.ensures c.in_err-s.was (grind (arith, common_steps))

pub returns-then-not-hold : goal.returns-then-not-hold
returns-then-not-hold c =
    law.candidates_bad c.args.settings.now c.args.action.now c.args.out.now c.settings_of.ensures c.in_ok-s.was (sym c.hold.ensures ∙ c.if-not-hold.true)

pub returns : goal.returns
returns c =
    law.candidates_taken c.args.settings.now c.args.action.now c.args.out.now c.settings_of.ensures c.in_ok-s.was (sym c.hold.ensures ∙ c.if-not-hold.false)
    c.candidates_with.ensures
