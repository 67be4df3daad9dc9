-- The loop's invariant: the first i events left the sender, and their replies are in out. Assumes nothing.
use mathlib.Core.Path.{◌≡◌}
use Prim.Native.Nat.{◌-◌, ◌/◌, ◌≤◌}
use lib.ListN.{length}
use lib.Seq.{sets}
use Rattle.host_sender.specs.Events.{sender_after, replies_bytes}
use Rattle.host_sender.proofs.inner.run.run.Given as goal

abbrev pub invariant-loop-i : goal.invariant-loop-i
invariant-loop-i l =
    let t = l.rules.grown.tree.now in
    (l.i ≤ length l.list / 22) × (length l.out ≡ length l.initial.out)
    × ((l.left ≡ sender_after t l.initial.left l.list l.i) × (l.out ≡ sets l.initial.out 0 (replies_bytes t l.initial.left l.list l.i)))
