-- The rules hold of every record that is written of an accepted trainer, in every known version that carries it. Assumes nothing.
use mathlib.Core.Path.{◌≡◌, refl, sym, ◌∙◌}
use mathlib.Core.Bool.{Bool, true, false, ◌&&◌}
use mathlib.Core.List.{List, [], ◌∷◌}
use mathlib.Core.Logic.{⊎_elim}
use Prim.Native.Nat.{ℕ, ◌<◌, ◌≤◌}
use native.Mathlib.Omega.{arith}
use borrow.Author.Tests.{ne_eqb, leb-true}
use lib.Dec.{eqb, leb}
use Rattle.std.specs.Prelude.{Ok}
use Rattle.refusal.specs.declared.Refusal.TheVariants.{BadField, BadLength, UnknownVersion}
use Rattle.refusal.specs.Guards.{check, checked}
use Rattle.rule_tree.specs.Grown.{grown_of}
use Rattle.rule_tree.proofs.Owners.{below_or_not}
use Rattle.rule_tree.proofs.Plain.{and_r}
use Rattle.trainer.specs.declared.Trainer.{Trainer}
use Rattle.trainer.specs.Settings.{settings_hold}
use Rattle.trainer.specs.State.{box_holds, phase_holds, accepted_of}
use Rattle.record.specs.Layout.{layout_of, known_of}
use Rattle.record.specs.Write.{version, record_in, record_of}
use Rattle.record.specs.Read.{read_of}
use Rattle.record.specs.Calls.{length_holds, version_holds, load_of}
use Rattle.record.specs.Accepted.{accepted_bytes}
use Rattle.wire.proofs.Bytes.{never}
use Rattle.record.proofs.RoundTrip.{TrainerFits, Carried, carried_whole}
use Rattle.record.proofs.Loading.{accepted_ends, load_carried}
use Rattle.record.proofs.NumbersAgain.{Bytes}
use Rattle.record.proofs.AcceptedBytes.{load_exactly}
use Rattle.record.proofs.RecordBytes.{record_bytes_lem}

-- ---- what load takes is accepted
pub taken_accepted : (bytes : List ℕ) (t : Trainer) → Bytes bytes → load_of bytes ≡ Ok t → accepted_bytes bytes ≡ true
taken_accepted bytes t all e = go (length_holds bytes) (version_holds bytes) (accepted_bytes bytes) (sym (load_exactly bytes all) ∙ e)
  where
    go : (a b c : Bool) → checked (check a BadLength ∷ check b UnknownVersion ∷ check c BadField ∷ []) (Ok (read_of bytes)) ≡ Ok t → c ≡ true
    go true true true z = refl
    go true true false z = absurd (cc)
    go true false c z = absurd (cc)
    go false b c z = absurd (cc)

-- "phase is 1..=7"
pub phase_few : (t : Trainer) → accepted_of t ≡ true → t.phase < 8
unfolding accepted_of phase_holds
phase_few t h =
    ⊎_elim (λ (l : t.phase < 8). l)
    (λ (l : 8 ≤ t.phase).
    let no : (k : ℕ) → k < 8 → eqb t.phase k ≡ false = (λ k b. ne_eqb t.phase k (λ z. absurd (let w : t.phase ≡ k = z in omega arith))) in
    absurd (never
    (rw (no 1 (omega arith), no 2 (omega arith), no 3 (omega arith), no 4 (omega arith), no 5 (omega arith), no 6 (omega arith), no 7 (omega arith)) at
    (and_r (box_holds t) (phase_holds t) (and_r (grown_of t.tree) (box_holds t && phase_holds t) (and_r (settings_hold t.settings) (grown_of t.tree && (box_holds t && phase_holds t)) h))))))
    (below_or_not t.phase 8)

-- ---- so that the rules hold of it
pub carried_accepted : (v : ℕ) → known_of v ≡ true → (t : Trainer) → TrainerFits t → accepted_of t ≡ true → Carried (layout_of v) t
    → accepted_bytes (record_in (layout_of v) v t) ≡ true
carried_accepted v k t f a can =
    let few = leb-true v _ (and_r (leb 1 v) _ k) in
    taken_accepted (record_in (layout_of v) v t) t
    (record_bytes_lem (layout_of v) v t (omega arith) (let p = phase_few t a in omega arith)) (load_carried v k t f a can)

pub saved_accepted : (t : Trainer) → TrainerFits t → accepted_of t ≡ true → accepted_bytes (record_of t) ≡ true
saved_accepted t f a =
    carried_accepted version refl t f a
    (carried_whole (layout_of version) t refl refl (accepted_ends t f a))
