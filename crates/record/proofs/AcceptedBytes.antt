-- Bytes whose length holds are a record, in their version's layout, exactly where they are accepted, rule by rule. Assumes nothing.
use mathlib.Core.Path.{◌≡◌, refl, sym, ap, ◌∙◌}
use mathlib.Core.Bool.{Bool, true, false}
use mathlib.Core.List.{List, [], ◌∷◌}
use Prim.Native.Nat.{ℕ, ◌+◌, ◌-◌, ◌≤◌}
use native.Mathlib.Omega.{arith}
use borrow.Author.Tests.{eqb-true, leb-true}
use lib.Dec.{leb}
use lib.ListN.{length}
use Rattle.std.specs.Prelude.{Ok}
use Rattle.std.proofs.lemmas.Bool.{false_from_ne_true}
use Rattle.refusal.specs.declared.Refusal.TheVariants.{BadField, BadLength, UnknownVersion}
use Rattle.refusal.specs.Guards.{check, checked}
use Rattle.rule_tree.proofs.Plain.{and_l, and_r}
use Rattle.trainer.specs.State.{accepted_of}
use Rattle.record.specs.declared.inner.layout.Layout.{Layout}
use Rattle.wire.specs.Bytes.{number_at, same_bytes}
use Rattle.record.specs.Layout.{layout_of}
use Rattle.record.specs.Read.{split_count, version_at, read_of}
use Rattle.record.specs.Calls.{length_holds, version_holds, again_of, body_holds, load_of}
use Rattle.record.specs.Accepted.{accepted_bytes}
use Rattle.wire.proofs.Bytes.{same_of, same_is, never}
use Rattle.record.proofs.Loading.{load_short}
use Rattle.record.proofs.NumbersAgain.{Bytes}
use Rattle.record.proofs.AcceptedParts.{accepted_parts}
use Rattle.record.proofs.WrittenAgain.{read_accepted, written_again}
use Rattle.record.proofs.RecordAccepted.{record_accepted}

module _ (bytes : List ℕ) (all : Bytes bytes) (told : length_holds bytes ≡ true) where
  abbrev lay : Layout
  lay = layout_of (version_at bytes)

  abbrev v : ℕ
  v = version_at bytes

  abbrev count : ℕ
  count = split_count lay bytes

  length_told : 4 + number_at bytes 0 4 ≡ length bytes
  unfolding length_holds
  length_told =
      let r = and_r (leb 4 (length bytes)) _ told in
      let m : 4 ≤ length bytes = leb-true 4 (length bytes) (and_l (leb 4 (length bytes)) _ told) in
      let e : number_at bytes 0 4 ≡ length bytes - 4 = eqb-true _ _ (and_r (leb (number_at bytes 0 4) 16384) _ r) in
      omega arith

  holds_accepted : body_holds bytes ≡ true → accepted_bytes bytes ≡ true
  unfolding body_holds accepted_bytes
  holds_accepted h =
      record_accepted lay v bytes all (and_l (accepted_of (read_of bytes)) _ h)
      (same_is (again_of bytes) bytes (and_r (accepted_of (read_of bytes)) _ h))

  accepted_holds : accepted_bytes bytes ≡ true → body_holds bytes ≡ true
  unfolding body_holds accepted_bytes
  accepted_holds h =
      let p = accepted_parts lay bytes count h in
      let a : accepted_of (read_of bytes) ≡ true = read_accepted lay bytes all p in
      let e : same_bytes (again_of bytes) bytes ≡ true = same_of (again_of bytes) bytes (written_again lay bytes all p v length_told refl) in
      rw (a, e)

  -- "Accepted": bytes are the record of an accepted trainer exactly where the rules hold
  pub accepted_exactly : body_holds bytes ≡ accepted_bytes bytes
  accepted_exactly = go (body_holds bytes) refl
    where
      go : (b : Bool) → body_holds bytes ≡ b → body_holds bytes ≡ accepted_bytes bytes
      go true e = e ∙ sym (holds_accepted e)
      go false e = e ∙ sym (false_from_ne_true (accepted_bytes bytes) (λ a. never (sym e ∙ accepted_holds a)))

-- ---- load, by the rules
load_is : (bytes : List ℕ)
    → load_of bytes
    ≡ checked (check (length_holds bytes) BadLength ∷ check (version_holds bytes) UnknownVersion ∷ check (body_holds bytes) BadField ∷ []) (Ok (read_of bytes))
unfolding load_of
load_is bytes = refl

-- so that load, of any bytes, refuses by the rules
pub load_exactly : (bytes : List ℕ) → Bytes bytes
    → load_of bytes
    ≡ checked (check (length_holds bytes) BadLength ∷ check (version_holds bytes) UnknownVersion ∷ check (accepted_bytes bytes) BadField ∷ []) (Ok (read_of bytes))
load_exactly bytes all = go (length_holds bytes) refl
  where
    go : (b : Bool) → length_holds bytes ≡ b
        → load_of bytes
        ≡ checked (check (length_holds bytes) BadLength ∷ check (version_holds bytes) UnknownVersion ∷ check (accepted_bytes bytes) BadField ∷ []) (Ok (read_of bytes))
    go false e = sym (load_short bytes e) ∙ rw e
    go true e =
        load_is bytes
        ∙ ap (λ (b : Bool). checked (check (length_holds bytes) BadLength ∷ check (version_holds bytes) UnknownVersion ∷ check b BadField ∷ []) (Ok (read_of bytes)))
        (accepted_exactly bytes all e)
