-- A sender is written where there is room for it. Assumes nothing.
use mathlib.Core.Path.{◌≡◌, ap, ◌∙◌}
use mathlib.Core.Bool.{true}
use mathlib.Core.List.{List, ◌++◌}
use Prim.Native.Nat.{ℕ, ◌≤◌}
use native.Mathlib.Omega.{arith}
use borrow.Author.Tests.{le-leb}
use lib.Dec.{leb}
use lib.ListN.{length, drop}
use lib.Seq.{sets}
use Rattle.std.specs.Prelude.{Ok}
use Rattle.record.proofs.CallWays.{stored}
use Rattle.sender.specs.declared.Sender.{Sender}
use Rattle.host_sender.specs.Layout.{sender_bytes, stored_in, stored_after}
use Rattle.host_sender.proofs.Writing.{sender_count}

pub room : (s : Sender) (out : List ℕ) {r : List ℕ} → 108 ≤ length out → r ≡ sets out 0 (sender_bytes s)
    → (Ok 108 ≡ stored_in out) × (r ≡ stored_after s out)
unfolding stored_in stored_after
room s out l p =
    let n = sender_count s in
    let q : leb 108 (length out) ≡ true = le-leb 108 (length out) l in
    (rw q, rw q (stored out (sender_bytes s) (omega arith) p ∙ ap (λ (k : ℕ). sender_bytes s ++ drop k out) n))
