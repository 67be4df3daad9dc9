-- `played` takes the events, and writes the sender and the generator back. Assumes nothing.
use Rattle.std.proofs.Common.{rules, arith}
use Rattle.std.proofs.lemmas.Grind.{common_steps}
use Rattle.host_draws.proofs.OwnWays as law
use Rattle.host_draws.proofs.played.Goals as goal

pub returns-in_err-g : goal.returns-in_err-g
returns-in_err-g c =
    law.played_refused c.args.tree.tree.now c.args.sender.now c.args.generator.now c.args.list.now c.args.out.now (search rules) c.state_in.ensures
    c.in_err-g.was (grind (arith, common_steps))

pub returns : goal.returns
returns c =
    law.played_taken c.args.tree.tree.now c.args.sender.now c.args.generator.now c.args.list.now c.args.out.now (search rules) c.state_in.ensures c.in_ok-g.was
    c.of.ensures (omega arith) c.read_sender.ensures c.run-left.ensures c.write_sender.ensures c.put_state.ensures
