-- What taken events leave. Assumes nothing.
use mathlib.Core.Path.{◌≡◌, sym, ap, ◌∙◌}
use mathlib.Core.List.{List, ◌++◌, append-nil}
use Prim.Native.Nat.{ℕ, ◌*◌, ◌/◌, ◌%◌, ◌≤◌}
use native.Mathlib.Omega.{arith}
use borrow.Author.Tests.{eq-eqb, le-leb}
use lib.ListN.{length, drop, drop_of_length-le}
use lib.Seq.{sets}
use Rattle.std.specs.Prelude.{Ok}
use Rattle.rule_tree.specs.declared.RuleTree.{RuleTree}
use Rattle.record.proofs.CallWays.{stored}
use Rattle.sender.specs.declared.Sender.{Sender}
use Rattle.host_sender.specs.Layout.{sender_bytes, sender_at}
use Rattle.host_sender.specs.Events.{sender_after, replies_bytes, event_count, events_in, sender_on, replies_on}
use Rattle.host_sender.proofs.Writing.{sender_count}
use Rattle.host_sender.proofs.Running.{replies_count}

-- a sender written over all of its bytes
pub written_all : (bytes : List ℕ) → length bytes ≡ 108 → (z : Sender) {r : List ℕ} → r ≡ sets bytes 0 (sender_bytes z) → r ≡ sender_bytes z
written_all bytes w z p =
    let c = sender_count z in
    stored bytes (sender_bytes z) (omega arith) p ∙ ap (λ (l : List ℕ). sender_bytes z ++ l) (drop_of_length-le bytes {i = length (sender_bytes z)} (omega arith))
    ∙ append-nil (sender_bytes z)

pub taken : (t : RuleTree) (sender list out : List ℕ) → length sender ≡ 108 → length list % 22 ≡ 0 → 6 * (length list / 22) ≤ length out
    → {v : RuleTree} → v ≡ t → {z u : Sender} {s o : List ℕ} → z ≡ sender_at sender → u ≡ sender_after v z list (event_count list)
    → s ≡ sets sender 0 (sender_bytes u) → o ≡ sets out 0 (replies_bytes v z list (event_count list))
    → (Ok (6 * (length list / 22)) ≡ events_in sender list out) × (s ≡ sender_on t sender list out) × (o ≡ replies_on t sender list out)
unfolding events_in sender_on replies_on
taken t sender list out w c m {v} same {z} {u} a e g h =
    let n = replies_count v z list (event_count list) in
    let p = eq-eqb (length sender) 108 w in
    let q = eq-eqb (length list % 22) 0 c in
    let r = le-leb (6 * (length list / 22)) (length out) m in (
      rw (p, q, r),
      rw (p, q, r) (written_all sender w u g ∙ ap sender_bytes (e ∙ (λ j. sender_after (same j) (a j) list (event_count list)))),
      rw (p, q, r)
          (stored out (replies_bytes v z list (event_count list)) (omega arith) h
          ∙ ap (λ (i : ℕ). replies_bytes v z list (event_count list) ++ drop i out) n
          ∙ (λ j. replies_bytes (same j) (a j) list (event_count list) ++ drop (6 * event_count list) out)),
    )
