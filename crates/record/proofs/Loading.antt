-- What load answers: it takes back what is written in a known version, and what it takes is written again, in its own version, as the same
-- bytes. Assumes nothing.
use mathlib.Core.Path.{◌≡◌, refl, sym, ap, subst, ◌∙◌}
use mathlib.Core.Bool.{Bool, true, false, cond}
use mathlib.Core.List.{List, [], ◌∷◌, ◌++◌}
use mathlib.Core.Logic.{◌⊎◌, inl, inr}
use Prim.Native.Nat.{ℕ, ◌+◌, ◌-◌, ◌≤◌}
use native.Mathlib.Omega.{arith}
use borrow.Author.Tests.{eq-eqb, le-leb}
use lib.Dec.{eqb, leb}
use lib.ListN.{length}
use Rattle.std.specs.Prelude.{Result, Ok, Err}
use Rattle.std.proofs.lemmas.Bool.{and_from}
use Rattle.refusal.specs.declared.Refusal.{Refusal}
use Rattle.refusal.specs.declared.Refusal.TheVariants.{BadField, BadLength, UnknownVersion}
use Rattle.refusal.specs.Guards.{Check, check, checked, and_then}
use Rattle.rule_tree.specs.Grown.{grown_of}
use Rattle.rule_tree.proofs.Plain.{and_l, and_r, ends_same}
use Rattle.trainer.specs.declared.Trainer.{Trainer}
use Rattle.trainer.specs.State.{box_holds, accepted_of}
use Rattle.trainer.proofs.Holds.{parts as settings_parts}
pub use Rattle.trainer.proofs.AcceptedFacts.{accepted_grown}
use Rattle.trainer.proofs.AcceptedFacts.{accepted_box, accepted_settings}
use Rattle.wire.specs.Bytes.{bytes_of, number_at, same_bytes}
use Rattle.record.specs.Layout.{layout_of, known_of}
use Rattle.record.specs.Write.{version, body_in, record_in, record_of}
use Rattle.record.specs.Read.{version_at, read_in, read_of}
use Rattle.record.specs.Calls.{length_holds, version_holds, again_of, body_holds, load_order, load_of, on_loaded}
use Rattle.wire.proofs.Bytes.{bytes_count, same_self, same_is}
use Rattle.record.proofs.Size.{body_size, record_size, record_small}
use Rattle.record.proofs.Stands.{stands_all, first, next, number_back, byte_back}
use Rattle.record.proofs.RoundTrip.{TrainerFits, Carried, carried_whole, read_back}

-- ---- the ways through load
module _ (bytes : List ℕ) where
  pub load_short : length_holds bytes ≡ false → Err BadLength ≡ load_of bytes
  unfolding load_of
  load_short h = rw h

  pub load_unknown : length_holds bytes ≡ true → version_holds bytes ≡ false → Err UnknownVersion ≡ load_of bytes
  unfolding load_of
  load_unknown h v = rw (h, v)

  pub load_bad : length_holds bytes ≡ true → version_holds bytes ≡ true → body_holds bytes ≡ false → Err BadField ≡ load_of bytes
  unfolding load_of
  load_bad h v b = rw (h, v, b)

  pub load_taken : length_holds bytes ≡ true → version_holds bytes ≡ true → body_holds bytes ≡ true → Ok (read_of bytes) ≡ load_of bytes
  unfolding load_of
  load_taken h v b = rw (h, v, b)

-- a load is refused by 6, 7 or 8
pub load_refused : (bytes : List ℕ) (r : Refusal) → load_of bytes ≡ Err r → (r ≡ BadLength) ⊎ ((r ≡ UnknownVersion) ⊎ (r ≡ BadField))
unfolding load_of
load_refused bytes r e = go (length_holds bytes) (version_holds bytes) (body_holds bytes) e
  where
    go : (l v b : Bool) → checked (check l BadLength ∷ check v UnknownVersion ∷ check b BadField ∷ []) (Ok (read_of bytes)) ≡ Err r
        → (r ≡ BadLength) ⊎ ((r ≡ UnknownVersion) ⊎ (r ≡ BadField))
    go true true true z = absurd (cc)
    go true true false z = inr (inr (cc))
    go true false b z = inr (inl (cc))
    go false v b z = inl (cc)

-- ---- a call on the trainer of a record: its refusals come after those of the load
pub checked_both : {A : Type 0} (first rest : List Check) (answer : Result A Refusal) → checked (first ++ rest) answer ≡ checked first (checked rest answer)
checked_both {A} [] rest answer = refl
checked_both {A} (t ∷ ts) rest answer = ap (λ (r : Result A Refusal). cond t.holds r (Err t.refusal)) (checked_both ts rest answer)

pub loaded_then : {A : Type 0} (bytes : List ℕ) (call : Trainer → Result A Refusal) → on_loaded bytes call ≡ checked (load_order bytes) (call (read_of bytes))
unfolding load_of
loaded_then bytes call = go (length_holds bytes) (version_holds bytes) (body_holds bytes)
  where
    go : (l v b : Bool)
        → and_then (checked (check l BadLength ∷ check v UnknownVersion ∷ check b BadField ∷ []) (Ok (read_of bytes))) call
        ≡ checked (check l BadLength ∷ check v UnknownVersion ∷ check b BadField ∷ []) (call (read_of bytes))
    go true true true = refl
    go true true false = refl
    go true false b = refl
    go false v b = refl

-- ---- an accepted trainer's tree has the settings' ends
pub accepted_ends : (t : Trainer) → TrainerFits t → accepted_of t ≡ true → t.tree.ends ≡ t.settings.ends
unfolding box_holds
accepted_ends t f a =
    ends_same t.tree.ends t.settings.ends f.tree.ends f.settings.ends (accepted_box t a)
    (settings_parts t.settings (accepted_settings t a)).4

-- ---- what is written is taken back
module _ (v : ℕ) (k : known_of v ≡ true) (t : Trainer) (f : TrainerFits t) (a : accepted_of t ≡ true) (can : Carried (layout_of v) t) where
  g : grown_of t.tree ≡ true
  g = accepted_grown t a

  full : length t.tree.nodes ≡ 513
  full = f.tree.full

  abbrev body : List ℕ
  body = body_in (layout_of v) v t

  abbrev bytes : List ℕ
  bytes = record_in (layout_of v) v t

  small : length bytes ≤ 11076
  small = record_small (layout_of v) v t g full

  parts : 4 + length body ≡ length bytes
  parts = body_size (layout_of v) v t g full ∙ sym (record_size (layout_of v) v t g full)

  length_back : number_at bytes 0 4 ≡ length body
  unfolding record_in
  length_back =
      number_back bytes 0 4 (length body) (omega (arith, small, parts))
      (first bytes 0 (bytes_of 4 (length body)) body (stands_all (record_in (layout_of v) v t)))

  some : 5 ≤ length bytes
  some = let e = record_size (layout_of v) v t g full in omega arith

  written_length : length_holds bytes ≡ true
  unfolding length_holds
  written_length =
      let s = small in
      let p = parts in
      let e : leb 4 (length bytes) ≡ true = le-leb 4 (length bytes) (omega arith) in
      let m : leb (length body) 16384 ≡ true = le-leb (length body) 16384 (omega arith) in
      let q : eqb (length body) (length bytes - 4) ≡ true = eq-eqb (length body) (length bytes - 4) (omega arith) in
      rw (e, length_back, m, q)

  version_back : version_at bytes ≡ v
  unfolding record_in
  version_back =
      byte_back bytes 4 v _
      (next bytes 0 4 (bytes_of 4 (length body)) body (bytes_count 4 (length body)) (stands_all (record_in (layout_of v) v t)))

  written_version : version_holds bytes ≡ true
  unfolding version_holds
  written_version = and_from (leb 5 (length bytes)) (known_of (version_at bytes)) (le-leb 5 (length bytes) some) (ap known_of version_back ∙ k)

  read_same : read_of bytes ≡ t
  read_same = ap (λ (n : ℕ). read_in (layout_of n) bytes) version_back ∙ read_back (layout_of v) v t f g can

  written_again : again_of bytes ≡ bytes
  written_again = ap (λ (n : ℕ). record_in (layout_of n) n (read_of bytes)) version_back ∙ ap (record_in (layout_of v) v) read_same

  written_body : body_holds bytes ≡ true
  unfolding body_holds
  written_body =
      and_from (accepted_of (read_of bytes)) (same_bytes (again_of bytes) bytes) (ap accepted_of read_same ∙ a)
      (ap (λ (r : List ℕ). same_bytes r bytes) written_again ∙ same_self bytes)

  -- a trainer that a known version can carry is loaded from its record in that version
  pub load_carried : load_of (record_in (layout_of v) v t) ≡ Ok t
  load_carried = sym (load_taken bytes written_length written_version written_body) ∙ ap (λ (u : Trainer). Ok u) read_same

pub load_saved : (t : Trainer) → TrainerFits t → accepted_of t ≡ true → load_of (record_of t) ≡ Ok t
load_saved t f a = load_carried version refl t f a (carried_whole (layout_of version) t refl refl (accepted_ends t f a))

-- ---- what is taken is written again as the same bytes
pub record Loaded (bytes : List ℕ) (t : Trainer) : Type 0 where
  pub accepted : accepted_of t ≡ true
  pub known : known_of (version_at bytes) ≡ true
  pub again : record_in (layout_of (version_at bytes)) (version_at bytes) t ≡ bytes

load_found : (bytes : List ℕ) → version_holds bytes ≡ true → body_holds bytes ≡ true → Loaded bytes (read_of bytes)
unfolding version_holds body_holds
load_found bytes v b =
    record {
      accepted = and_l (accepted_of (read_of bytes)) (same_bytes (again_of bytes) bytes) b;
      known = and_r (leb 5 (length bytes)) (known_of (version_at bytes)) v;
      again = same_is (again_of bytes) bytes (and_r (accepted_of (read_of bytes)) (same_bytes (again_of bytes) bytes) b);
    }

pub load_again : (bytes : List ℕ) (t : Trainer) → load_of bytes ≡ Ok t → Loaded bytes t
load_again bytes t e = go (length_holds bytes) refl (version_holds bytes) refl (body_holds bytes) refl
  where
    go : (l : Bool) → length_holds bytes ≡ l → (v : Bool) → version_holds bytes ≡ v → (b : Bool) → body_holds bytes ≡ b → Loaded bytes t
    go true p true q true r = let a = load_taken bytes p q r in subst (Loaded bytes) (cc) (load_found bytes q r)
    go true p true q false r = let a = load_bad bytes p q r in absurd (cc)
    go true p false q b r = let a = load_unknown bytes p q in absurd (cc)
    go false p v q b r = let a = load_short bytes p in absurd (cc)

-- the bytes of the version that is saved are those that a save writes
pub load_written : (bytes : List ℕ) (t : Trainer) → load_of bytes ≡ Ok t → version_at bytes ≡ version → record_of t ≡ bytes
load_written bytes t e v = ap (λ (n : ℕ). record_in (layout_of n) n t) (sym v) ∙ (load_again bytes t e).again
