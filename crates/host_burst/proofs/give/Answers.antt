-- `give` reads the sender and the acks, runs the burst, and writes what was taken and the sender back. Assumes nothing.
use Rattle.std.proofs.Common.{arith, ◌/◌, ◌≤◌, ◌∙◌, length}
use lib.Seq.{length-take-le}
use Rattle.host_burst.proofs.Giving as law
use Rattle.host_burst.proofs.give.Goals as goal

pub put_windows-requires : goal.put_windows-requires
put_windows-requires c =
    -- no more were taken than the list has
    let few : c.run-ran.result.taken ≤ length c.args.list.now / 21 =
    law.few c.args.tree.tree.now c.args.sender.now c.args.list.now c.args.windows.now c.args.clipped.now c.requires c.of.ensures (c.as_slice.ensures.value ∙ c.acks_in-acks.ensures) c.read_sender.ensures c.run-ran.ensures.0 in
    -- and no more than there are places for windows
    let within : c.run-ran.result.taken ≤ length c.run-ran.new.windows = omega (arith, few, c.requires.few, c.run-ran.auto.windows) in
    omega (arith, length-take-le c.run-ran.result.taken c.run-ran.new.windows within, few, c.requires.windows)

pub run-ran-requires : goal.run-ran-requires
run-ran-requires c =
    let n = law.acks_count c.args.list.now (c.as_slice.ensures.value ∙ c.acks_in-acks.ensures) in
    (omega (arith, n, c.requires.few), omega (arith, n, c.requires.flags))

pub returns : goal.returns
returns c =
    law.given c.args.tree.tree.now c.args.sender.now c.args.list.now c.args.windows.now c.args.clipped.now c.requires c.of.ensures (c.as_slice.ensures.value ∙ c.acks_in-acks.ensures) c.read_sender.ensures c.run-ran.ensures.0 _
    c.run-ran.ensures.1 c.run-ran.ensures.2 c.put_windows.ensures c.write_sender.ensures c.answer.ensures
