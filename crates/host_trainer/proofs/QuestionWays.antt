-- A question's fields stored one after the other. Assumes nothing.
use mathlib.Core.Path.{◌≡◌, refl, ap, ◌∙◌}
use mathlib.Core.List.{List, [], ◌∷◌, ◌++◌}
use Prim.Native.Nat.{ℕ, ◌≤◌}
use native.Mathlib.Omega.{arith}
use borrow.Author.Tests.{le-leb}
use lib.Ieee.{Float, binary64, to_bits}
use lib.ListN.{length, set, drop, length-append}
use lib.Seq.{sets}
use Rattle.remy.specs.declared.action.Action.{Action}
use Rattle.wire.specs.Bytes.{bytes_of}
use Rattle.wire.specs.Fields.{action_bytes}
use Rattle.wire.proofs.Bytes.{bytes_count}
use Rattle.wire.proofs.Fields.{four}
use Rattle.record.proofs.CallWays.{stored}
use Rattle.host_trainer.specs.Questions.{question_fields, fitted, fields_put}

fields_count : (kind leaf : ℕ) (a : Action) (x : Float) → length (question_fields kind leaf a x) ≡ 31
fields_count kind leaf a x = simp (length-append, bytes_count)

pub fields_stored : (out : List ℕ) (kind leaf : ℕ) (a : Action) (x : Float) (b : ℕ) {l1 l2 l3 : List ℕ} → b ≡ to_bits binary64 x → 31 ≤ length out
    → l1 ≡ sets (set out 0 kind) 1 (bytes_of 2 leaf) → l2 ≡ sets l1 3 (action_bytes a) → l3 ≡ sets l2 23 (bytes_of 8 b)
    → l3 ≡ fields_put (question_fields kind leaf a x) out
unfolding fitted fields_put
fields_stored out kind leaf a x b e h p q r =
    let c = fields_count kind leaf a x in
    rw (le-leb 31 (length out) h)
    (stored out (question_fields kind leaf a x) (omega arith)
    (four out 0 (kind ∷ []) (bytes_of 2 leaf) (action_bytes a) 1 3 {l1 = set out 0 kind} (bytes_of 8 b) 23 refl p q r
    refl (simp bytes_count) (simp (length-append, bytes_count))
    ∙ ap (λ (k : ℕ). sets out 0 (kind ∷ (bytes_of 2 leaf ++ (action_bytes a ++ bytes_of 8 k)))) e)
    ∙ ap (λ (k : ℕ). question_fields kind leaf a x ++ drop k out) c)
