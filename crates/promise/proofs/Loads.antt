-- The loader accepts exactly the records of accepted trainers, in the versions that it knows: what it accepts is written again, in its own
-- version, as the same bytes, and what an accepted trainer writes it accepts. Assumes nothing.
use mathlib.Core.Path.{◌≡◌, sym, ap, subst, ◌∙◌}
use mathlib.Core.Bool.{true, false}
use mathlib.Core.Logic.{◌≢◌}
use mathlib.Core.List.{List, ◌++◌}
use Prim.Native.Nat.{ℕ, ◌<◌}
use borrow.Author.Tests.{ne_eqb}
use lib.ListN.{length, get_or}
use lib.Seq.{get_or-append_seam}
use Rattle.std.specs.Prelude.{Ok, is_ok}
use Rattle.rule_tree.specs.Nodes.{node_at_of, node_holding}
use Rattle.trainer.specs.declared.Trainer.{Trainer}
use Rattle.trainer.specs.State.{accepted_of}
use Rattle.wire.specs.Bytes.{bytes_of}
use Rattle.record.specs.Layout.{layout_of, known_of}
use Rattle.record.specs.Write.{version, body_of, record_in, record_of}
use Rattle.record.specs.Read.{version_at}
use Rattle.record.specs.Calls.{load_of}
use Rattle.wire.proofs.Bytes.{bytes_count}
use Rattle.record.proofs.BytesFit.{loaded_is}
use Rattle.record.proofs.RoundTrip.{Carried}
use Rattle.record.proofs.Loading as loading
use Rattle.promise.proofs.Unembed.{TrainerFits, whole_typed}
use Rattle.promise.proofs.Records.{record_is}
use Rattle.promise.proofs.ReadTypes.{read_typed, read_carried}
use Rattle.promise.proofs.EveryTrainer.{load_back}

-- ---- what a load accepts
module _ (bytes : List ℕ) {t : Trainer} (h : load_of bytes ≡ Ok t) where
  again : loading.Loaded bytes t
  again = loading.load_again bytes t h

  pub load_accepted : accepted_of t ≡ true
  load_accepted = again.accepted

  pub load_typed : TrainerFits t
  load_typed = subst TrainerFits (loaded_is bytes t h) (read_typed (layout_of (version_at bytes)) bytes (ap accepted_of (loaded_is bytes t h) ∙ load_accepted))

  load_carried : Carried (layout_of (version_at bytes)) t
  load_carried = subst (Carried (layout_of (version_at bytes))) (loaded_is bytes t h) (read_carried (layout_of (version_at bytes)) bytes)

  -- "written again as version 3, whose bytes alone are compared"
  pub load_written : version_at bytes ≡ version → record_of t ≡ bytes
  load_written v = loading.load_written bytes t h v

  -- whatever version was loaded, what is saved then loads as the same trainer
  pub saved_again : load_of (record_of t) ≡ Ok t
  saved_again = load_back t load_accepted load_typed

  -- a record that leaves the parents out: "its parents holding the default action, unmarked"
  pub parents_given :
      version_at bytes ≡ 1 → (i : ℕ) → i < 513 → (node_at_of t.tree.nodes i).children ≢ 0
      → node_at_of t.tree.nodes i
      ≡ node_holding t.settings.default_action (node_at_of t.tree.nodes i).children false
  parents_given v i l n =
      let c = subst (λ (k : ℕ). Carried (layout_of k) t) v load_carried in
      c.parents i l (ne_eqb (node_at_of t.tree.nodes i).children 0 n)

-- older versions "are written again as version 3"
pub written_version : (t : Trainer) → version_at (record_of t) ≡ version
written_version t =
    let n = bytes_of 4 (length (body_of t)) in
    ap version_at (record_is t) ∙ ap (λ (k : ℕ). get_or (n ++ body_of t) k 0) (sym (bytes_count 4 (length (body_of t)))) ∙ get_or-append_seam n version _ 0

-- "the trainer that wrote it" is accepted
pub written_loads : (t : Trainer) → accepted_of t ≡ true → TrainerFits t → is_ok (load_of (record_of t)) ≡ true
written_loads t a f = ap is_ok (load_back t a f)

-- ---- bytes are accepted exactly when they are the record, in a version that is known, of an accepted trainer that this version can carry
pub record RecordOf (v : ℕ) (bytes : List ℕ) (t : Trainer) : Type 0 where
  pub accepted : accepted_of t ≡ true
  pub typed : TrainerFits t
  pub known : known_of v ≡ true
  pub carries : Carried (layout_of v) t
  pub written : record_in (layout_of v) v t ≡ bytes

pub accepts_records : (bytes : List ℕ) {t : Trainer} → load_of bytes ≡ Ok t → RecordOf (version_at bytes) bytes t
accepts_records bytes h =
    record {
      accepted = load_accepted bytes h;
      typed = load_typed bytes h;
      known = (again bytes h).known;
      carries = load_carried bytes h;
      written = (again bytes h).again;
    }

pub records_accepted : (v : ℕ) (bytes : List ℕ) (t : Trainer) → RecordOf v bytes t → load_of bytes ≡ Ok t
records_accepted v bytes t r =
    ap load_of (sym r.written)
    ∙ loading.load_carried v r.known t (whole_typed t r.accepted r.typed) r.accepted r.carries

-- no two accepted trainers have one record
pub record_once : (t u : Trainer) → accepted_of t ≡ true → TrainerFits t → accepted_of u ≡ true → TrainerFits u → record_of t ≡ record_of u → t ≡ u
record_once t u a f b g e = cc (load_back t a f, ap load_of e, load_back u b g)
