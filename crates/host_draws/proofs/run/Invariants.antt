-- The loop's invariant: the first i events left the sender and the generator, and their replies are in out. Assumes nothing.
use mathlib.Core.Path.{◌≡◌}
use Prim.Native.Nat.{◌/◌, ◌≤◌}
use lib.ListN.{length}
use lib.Seq.{sets}
use Rattle.own_draws.specs.OwnRuns.{own_replies, own_end, generator_end}
use Rattle.host_draws.specs.OwnEvents.{calls_in, replies_of}
use Rattle.host_draws.proofs.run.Given as goal

abbrev pub invariant-loop-i : goal.invariant-loop-i
invariant-loop-i l =
    let first = l.initial.left in
    let cs = calls_in l.rules.grown.tree.now l.list l.i in
    (l.i ≤ length l.list / 22) × (length l.out ≡ length l.initial.out)
    × ((l.left.sender ≡ own_end first.sender first.generator cs) × ((l.left.generator ≡ generator_end first.sender first.generator cs)
    × (l.out ≡ sets l.initial.out 0 (replies_of (own_replies first.sender first.generator cs)))))
