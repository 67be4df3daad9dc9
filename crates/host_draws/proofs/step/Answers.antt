-- `step` writes the state after the step, and the output. Assumes nothing.
use Rattle.std.proofs.Common.{arith}
use Rattle.std.proofs.lemmas.Grind.{common_steps}
use Rattle.host_draws.proofs.Steps as law
use Rattle.host_draws.proofs.step.Goals as goal

pub returns-in_err-s : goal.returns-in_err-s
returns-in_err-s c = law.step_refused c.args.generator.now c.state_in.ensures c.args.out.now c.in_err-s.was (grind (arith, common_steps))

pub returns : goal.returns
returns c =
    law.step_taken c.args.generator.now c.state_in.ensures c.args.out.now c.in_ok-s.was c.if-out-lt8.false c.next-stepped.ensures c.put_state.ensures c.put.ensures
