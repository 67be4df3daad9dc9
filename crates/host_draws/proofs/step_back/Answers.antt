-- `step_back` writes the state before the step. Assumes nothing.
use Rattle.std.proofs.Common.{arith}
use Rattle.std.proofs.lemmas.Grind.{common_steps}
use Rattle.host_draws.proofs.Steps as law
use Rattle.host_draws.proofs.step_back.Goals as goal

pub returns-in_err-s : goal.returns-in_err-s
returns-in_err-s c = law.back_refused c.args.generator.now c.state_in.ensures c.in_err-s.was (grind (arith, common_steps))

pub returns : goal.returns
returns c = law.back_taken c.args.generator.now c.state_in.ensures c.in_ok-s.was c.back.ensures c.put_state.ensures
