-- `load` meets its contract: once the length and the version hold, it answers as the body is taken. Assumes nothing.
use mathlib.Core.Path.{sym, ◌∙◌}
use Rattle.record.proofs.CallWays.{load_body}
use Rattle.record.proofs.load.Goals as goal

pub returns : goal.returns
returns c =
    c.read_body.ensures
    ∙ load_body c.args.bytes.now (sym c.length_holds.ensures ∙ c.if-not-length_holds.false) (sym c.version_holds.ensures ∙ c.if-not-version_holds.false)
