-- A host that starts, answers and asks by records sees what a program sees that keeps the trainer as a value. Assumes nothing.
use mathlib.Core.Path.{◌≡◌, refl, sym, ap, subst, ◌∙◌}
use mathlib.Core.Bool.{Bool, true, false, cond}
use mathlib.Core.List.{List, [], ◌∷◌}
use Prim.Native.Nat.{ℕ}
use lib.Dec.{leb}
use lib.Ieee.{binary64, of_bits}
use lib.Ieee.Bits.{of_bits-fits}
use lib.ListN.{length, take, drop}
use lib.Seq.{take_at}
use Rattle.std.specs.Prelude.{Option, Result, Ok, Err, IfOk}
use Rattle.std.proofs.lemmas.Result.{IfOk-at_ok}
use Rattle.refusal.specs.declared.Refusal.{Refusal}
use Rattle.refusal.specs.declared.Refusal.TheVariants.{BadSettings, ShortBuffer}
use Rattle.refusal.specs.Guards.{and_then, lent_after}
use Rattle.trainer.specs.declared.settings.Settings.{Settings}
use Rattle.trainer.specs.declared.Trainer.{Trainer}
use Rattle.trainer.specs.Settings.{settings_hold}
use Rattle.trainer.specs.State.{accepted_of}
use Rattle.trainer.specs.Calls.{started, start_of, question_of, answer_counts_of, answer_score_of}
use Rattle.trainer.proofs.Accepting.{Held, start_held, counts_held, score_held}
use Rattle.record.specs.Layout.{layout_of}
use Rattle.record.specs.Write.{version, record_of}
use Rattle.record.specs.Calls.{save_of, buffer_after, load_of}
use Rattle.record.proofs.RoundTrip.{TrainerFits}
use Rattle.record.proofs.Loading.{load_saved, load_again}
use Rattle.host_trainer.specs.Records.{settings_whole, settings_in, settings_of, start_in, counts_in, counts_answered, score_answered, written_of, record_after}
use Rattle.host_trainer.specs.Questions.{question_in, question_after, asked_in_of, asked_after}
use Rattle.host_trainer.specs.Runs.{Answer, counts, score, Call, Seen, refusal_in, host_answer, held_after, host_next, host_sees, host_run, value_answer, fitting, kept_after, value_call, value_next, value_sees, value_run}
use Rattle.record.proofs.NumbersAgain.{Bytes}
use Rattle.record.proofs.BytesFit.{settings_fits, loaded_fits}
use Rattle.record.proofs.StepsFit.{started_fits, counted_fits, scored_fits}

-- ---- what was written is the record, and it loads as the trainer after the call
pub save_sized : (t : Trainer) (out : List ℕ) → accepted_of t ≡ true
    → save_of t out ≡ cond (leb (length (record_of t)) (length out)) (Ok (length (record_of t))) (Err ShortBuffer)
unfolding save_of
save_sized t out a = rw a

-- the bytes of a record, at the front of a buffer, load as its trainer
front_loads : (t : Trainer) (out : List ℕ) → TrainerFits t → accepted_of t ≡ true
    → load_of (take (length (record_of t)) (buffer_after t out (Ok (length (record_of t))))) ≡ Ok t
unfolding buffer_after
front_loads t out f a =
    ap load_of (take_at (record_of t) (drop (length (record_of t)) out) (length (record_of t)) refl) ∙ load_saved t f a

-- ---- one answer
-- the bytes are the record of the trainer
pub record Holds (held : List ℕ) (t : Trainer) : Type 0 where
  pub loads : load_of held ≡ Ok t
  pub fits : TrainerFits t

-- what a host holds and what a program keeps after a save of u, where the host held t
module _ (held : List ℕ) (t u : Trainer) (out : List ℕ) (h : Holds held t) (f : TrainerFits u) (a : accepted_of u ≡ true) where
  abbrev After : Result ℕ Refusal → Bool → Type 0
  After s b =
      (refusal_in s ≡ refusal_in (cond b (Ok u) (Err ShortBuffer)))
      × Holds (held_after held s (buffer_after u out s)) (kept_after t (cond b (Ok u) (Err ShortBuffer)))

  after_by : (b : Bool) → After (cond b (Ok (length (record_of u))) (Err ShortBuffer)) b
  after_by true = (refl, record { loads = front_loads u out f a; fits = f })
  after_by false = (refl, h)

  after_save : After (save_of u out) (leb (length (record_of u)) (length out))
  after_save =
      subst (λ (s : Result ℕ Refusal). After s (leb (length (record_of u)) (length out))) (sym (save_sized u out a))
      (after_by (leb (length (record_of u)) (length out)))

-- what a host and a program have after one answer
record Next (held : List ℕ) (t : Trainer) (a : Result Trainer Refusal) (out : List ℕ) : Type 0 where
  refused : refusal_in (written_of a out) ≡ refusal_in (and_then a (fitting out))
  holds : Holds (held_after held (written_of a out) (record_after a out)) (kept_after t (and_then a (fitting out)))

next : (held : List ℕ) (t : Trainer) (a : Result Trainer Refusal) (out : List ℕ) → Holds held t
    → ((u : Trainer) → a ≡ Ok u → TrainerFits u × (accepted_of u ≡ true)) → Next held t a out
unfolding written_of record_after
next held t (Ok u) out h f =
    let p = after_save held t u out h (f u refl).0 (f u refl).1 in record { refused = p.0; holds = p.1 }
next held t (Err r) out h f = record { refused = refl; holds = h }

answer_same : (held : List ℕ) (t : Trainer) (x : Answer) → load_of held ≡ Ok t → host_answer held x ≡ value_answer t x
unfolding host_answer value_answer counts_answered score_answered
answer_same held t (counts xs) e = ap (λ (a : Result Trainer Refusal). and_then a (λ u. answer_counts_of u (counts_in xs))) e
answer_same held t (score bits) e = ap (λ (a : Result Trainer Refusal). and_then a (λ u. answer_score_of u (of_bits binary64 bits))) e

module _ (t : Trainer) (a : accepted_of t ≡ true) (f : TrainerFits t) where
  still : Held t
  still = record { accepted = a; whole = f.tree.full }

  answer_good : (x : Answer) (u : Trainer) → value_answer t x ≡ Ok u → TrainerFits u × (accepted_of u ≡ true)
  unfolding value_answer
  answer_good (counts xs) u e =
      let ok = (IfOk-at_ok Held e (counts_held t (counts_in xs) still)).accepted in
      (counted_fits t (counts_in xs) u f e ok, ok)
  answer_good (score bits) u e =
      let ok = (IfOk-at_ok Held e (score_held t (of_bits binary64 bits) still)).accepted in
      (scored_fits t (of_bits binary64 bits) u f (of_bits-fits binary64 bits) a e ok, ok)

-- ---- the question
-- a host asks a record what a program asks the trainer
pub question_same : (held : List ℕ) (t : Trainer) (out : List ℕ) → load_of held ≡ Ok t
    → (asked_in_of held out ≡ question_in t out) × (asked_after held out ≡ question_after t out)
question_same held t out e = (
  ap (λ (a : Result Trainer Refusal). and_then a (λ u. question_in u out)) e,
  ap (λ (a : Result Trainer Refusal). lent_after a out (λ u. question_after u out)) e,
)

-- ---- a list of answers
seen_same : (a b : Seen) → a.refused ≡ b.refused → a.asked ≡ b.asked → a.bytes ≡ b.bytes → a ≡ b
seen_same a b p q r j = record { refused = p j; asked = q j; bytes = r j }

module _ (held : List ℕ) (t : Trainer) (h : Holds held t) (c : Call) where
  call_next : Next held t (value_answer t c.answer) c.out
  call_next =
      next held t (value_answer t c.answer) c.out h (answer_good t (load_again held t h.loads).accepted h.fits c.answer)

  same : host_answer held c.answer ≡ value_answer t c.answer
  same = answer_same held t c.answer h.loads

  pub call_holds : Holds (host_next held c) (value_next t c)
  call_holds =
      subst (λ (a : Result Trainer Refusal). Holds (held_after held (written_of a c.out) (record_after a c.out)) (value_next t c)) (sym same)
      call_next.holds

  pub call_seen : host_sees held c ≡ value_sees t c
  call_seen =
      let q = question_same (host_next held c) (value_next t c) c.asks call_holds.loads in
      seen_same (host_sees held c) (value_sees t c)
      (ap (λ (a : Result Trainer Refusal). refusal_in (written_of a c.out)) same ∙ call_next.refused) q.0 q.1

pub run_same : (held : List ℕ) (t : Trainer) (cs : List Call) → Holds held t → host_run held cs ≡ value_run t cs
unfolding host_run value_run
run_same held t [] h = refl
run_same held t (c ∷ cs) h =
    ap (λ (z : Seen). z ∷ host_run (host_next held c) cs) (call_seen held t h c)
    ∙ ap (λ (zs : List Seen). value_sees t c ∷ zs) (run_same (host_next held c) (value_next t c) cs (call_holds held t h c))

-- so from every record that loads: bytes below 256 are all that is asked of it
pub record_same : (held : List ℕ) (t : Trainer) (cs : List Call) → Bytes held → load_of held ≡ Ok t → host_run held cs ≡ value_run t cs
record_same held t cs bytes e = run_same held t cs (record { loads = e; fits = loaded_fits held t bytes e })

-- ---- a start
module _ (settings out : List ℕ) (n : ℕ) (bytes : Bytes settings) (e : written_of (start_in settings) out ≡ Ok n) where
  abbrev s : Settings
  s = settings_in settings

  start_facts : (settings_hold s ≡ true) × (start_in settings ≡ Ok (started s)) × (save_of (started s) out ≡ Ok n)
  unfolding start_in settings_of start_of written_of
  start_facts = go (settings_whole settings) e
    where
      by : (b : Bool) → settings_hold s ≡ b → and_then (cond b (Ok (started s)) (Err BadSettings)) (λ t. save_of t out) ≡ Ok n
          → (settings_hold s ≡ true) × (cond b (Ok (started s)) (Err BadSettings) ≡ Ok (started s)) × (save_of (started s) out ≡ Ok n)
      by true p q = (p, refl, q)
      by false p q = absurd (cc)

      go : (w : Bool) → and_then (and_then (cond w (Ok s) (Err BadSettings)) start_of) (λ t. save_of t out) ≡ Ok n
          → (settings_hold s ≡ true) × (and_then (cond w (Ok s) (Err BadSettings)) start_of ≡ Ok (started s)) × (save_of (started s) out ≡ Ok n)
      go true q = by (settings_hold s) refl q
      go false q = absurd (cc)

  accepted : accepted_of (started s) ≡ true
  accepted = (start_held s start_facts.0).accepted

  fits : TrainerFits (started s)
  fits = started_fits s (settings_fits (layout_of version) settings 0 bytes) accepted

  sized : length (record_of (started s)) ≡ n
  sized = go (leb (length (record_of (started s))) (length out)) (sym (save_sized (started s) out accepted) ∙ start_facts.2)
    where
      go : (b : Bool) → cond b (Ok (length (record_of (started s)))) (Err ShortBuffer) ≡ Ok n → length (record_of (started s)) ≡ n
      go true q = cc
      go false q = absurd (cc)

  pub start_holds_lem : Holds (take n (record_after (start_in settings) out)) (started s)
  unfolding record_after
  start_holds_lem =
      record {
        loads =
            ap (λ (a : Result Trainer Refusal). load_of (take n (record_after a out))) start_facts.1
            ∙ ap (λ (r : Result ℕ Refusal). load_of (take n (buffer_after (started s) out r))) start_facts.2
            ∙ ap (λ (k : ℕ). load_of (take k (buffer_after (started s) out (Ok k)))) (sym sized)
            ∙ front_loads (started s) out fits accepted;
        fits = fits;
      }

  start_taken : start_of s ≡ Ok (started s)
  unfolding start_of
  start_taken = rw start_facts.0

  -- a host that started from bytes and a program that started from the same settings see the same question first, and the same of every list of answers
  pub host_same : (asks : List ℕ) (cs : List Call)
      → let held = take n (record_after (start_in settings) out) in
      (start_of s ≡ Ok (started s))
      × ((asked_in_of held asks ≡ question_in (started s) asks) × (asked_after held asks ≡ question_after (started s) asks))
      × (host_run held cs ≡ value_run (started s) cs)
  host_same asks cs =
      let held = take n (record_after (start_in settings) out) in
      let h = start_holds_lem in
      (start_taken, question_same held (started s) asks h.loads, run_same held (started s) cs h)
