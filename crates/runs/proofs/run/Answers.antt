-- The words by the contracts are those of the plain trainer and sender.
use mathlib.Core.Path.{sym, ◌∙◌}
use native.Mathlib.Omega.{arith}
use Rattle.runs.proofs.Putting as law
use Rattle.runs.proofs.Agrees.{agrees}
use Rattle.runs.proofs.run.Goals as goal

pub returns : goal.returns
returns c =
    let n = c.new-w.ensures in
    let s = c.run_all.ensures in
    let p = law.all_put c.args.out.now n.words n.first (agrees c.args.script.now) s in
    let name = sym (s.same ∙ n.same) in
    let laid = p.1 in
    (p.0, grind arith)
