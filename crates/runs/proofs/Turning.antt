-- The words of one call and those after it, and the ways through the functions that make one. Assumes nothing.
use mathlib.Core.Path.{◌≡◌, refl, sym, ap, ◌∙◌}
use mathlib.Core.Bool.{Bool, true, false, cond}
use mathlib.Core.List.{List, [], ◌∷◌, ◌++◌}
use Prim.Native.Nat.{ℕ, ◌≤◌}
use native.Mathlib.Omega.{arith}
use borrow.Author.Tests.{leb-true}
use lib.Dec.{leb}
use lib.ListN.{length, take, replicate}
use lib.Seq.{length-take-le}
use Rattle.std.specs.Prelude.{Option, Result, Ok, Err}
use Rattle.std.specs.Result.{result_unwrap_or, result_err}
use Rattle.refusal.specs.declared.Refusal.{Refusal}
use Rattle.refusal.specs.declared.Refusal.TheVariants.{NotGrown, ShortBuffer}
use Rattle.remy.specs.declared.point.Point.{Point}
use Rattle.rule_tree.specs.declared.Lookup.{Lookup}
use Rattle.rule_tree.specs.Calls.{opened_of}
use Rattle.rule_tree.proofs.Looking.{opened_found}
use Rattle.trainer.specs.declared.Trainer.{Trainer}
use Rattle.trainer.specs.declared.Question.{Question}
use Rattle.trainer.specs.State.{accepted_of}
use Rattle.trainer.specs.Calls.{question_of}
use Rattle.record.specs.Write.{record_of}
use Rattle.record.specs.Calls.{save_of, buffer_after, load_of}
use Rattle.sender.specs.declared.Event.{Event}
use Rattle.sender.specs.declared.Event.TheVariants as event
use Rattle.sender.specs.declared.Sender.{Sender}
use Rattle.sender.specs.SenderCall.{on}
use Rattle.promise.specs.PlainTrainer as plain
use Rattle.promise.specs.Demand3.{after_call, reloaded, step_of}
use Rattle.promise.specs.SenderRuns.{sender_step}
use Rattle.runs.specs.declared.call.Call.{Call}
use Rattle.runs.specs.declared.call.Call.TheVariants.{React, Look}
use Rattle.runs.specs.declared.State.{State}
use Rattle.runs.specs.declared.words.Writer.{Writer}
use Rattle.runs.specs.Script.{Item, train, ack, send, tick, lookup}
use Rattle.runs.specs.Ran.{number_or_0, question_words, looked_words, end_words, ran_from}
use Rattle.runs.specs.Writing.{Appends}
use Rattle.runs.specs.Turn.{meant, turn_of, Leaves, Trains, Moves}
use Rattle.runs.proofs.Putting.{join, as_words}

-- one call, then the others
pub ran_more : (t : Trainer) (s : Sender) (i : Item) (is : List Item)
    → ran_from t s (i ∷ is) ≡ (turn_of t s i).words ++ ran_from (turn_of t s i).trainer (turn_of t s i).sender is
unfolding ran_from turn_of
ran_more t s (train c) is = refl
ran_more t s (ack sent received draw) is = refl
ran_more t s (send at) is = refl
ran_more t s tick is = refl
ran_more t s (lookup p) is = refl

-- ---- calls to the trainer
-- what a call leaves: after a refusal the trainer that it got, with the refusal's number
after_is : (t : Trainer) (r : Result Trainer Refusal) (bytes : List ℕ)
    → after_call t r (length bytes) bytes
    ≡ record { trainer = result_unwrap_or r t; refused = number_or_0 (result_err r); size = length bytes; saved = bytes }
unfolding after_call
after_is t (Ok u) bytes = refl
after_is t (Err r) bytes = refl

-- the number and the size, the bytes, and the question of the trainer that is left
pub reported : (t : Trainer) (r : Result Trainer Refusal) (bytes : List ℕ) {n : ℕ} {e : Option Refusal} {x : Trainer} {q : Result Question Refusal}
    {w one two v : Writer} → e ≡ result_err r → n ≡ number_or_0 e → x ≡ result_unwrap_or r t → q ≡ question_of x
    → Appends w (n ∷ (length bytes ∷ [])) one → Appends one bytes two → Appends two (question_words q) v
    → Trains w (after_call t r (length bytes) bytes) x v
reported t r bytes d e f g a b c =
    rw after_is
    (record {
      trainer = f;
      words =
          join (as_words a (ap (λ (k : ℕ). k ∷ (length bytes ∷ [])) (e ∙ ap number_or_0 d)))
          (join b (as_words c (ap question_words (g ∙ ap question_of f))));
    })

module _ (t : Trainer) (buf : List ℕ) (n : ℕ) {s : Result ℕ Refusal} (e : s ≡ save_of t buf) (f : s ≡ Ok n) where
  -- a save that is taken fits the buffer
  pub save_fits : n ≤ length buf
  unfolding save_of
  save_fits = accepts (accepted_of t) (leb (length (record_of t)) (length buf)) refl (sym f ∙ e)
    where
      accepts : (a b : Bool) → leb (length (record_of t)) (length buf) ≡ b
          → Ok n ≡ cond a (cond b (Ok (length (record_of t))) (Err ShortBuffer)) (Err NotGrown) → n ≤ length buf
      accepts true true g z =
          let l : n ≡ length (record_of t) = cc in let h = leb-true (length (record_of t)) (length buf) g in omega arith
      accepts true false g z = absurd (let y : ⊥ = cc in y)
      accepts false b g z = absurd (let y : ⊥ = cc in y)

  module _ (last : List ℕ) (same : length last ≡ length buf) where
    pub lent : n ≤ length last
    lent = let w = save_fits in omega arith

    pub lent_size : n ≡ length (take n last)
    lent_size = sym (length-take-le n last lent)

    -- the load of its bytes
    pub by_load : {a : Result Trainer Refusal} {u : Trainer} {w v : Writer} → last ≡ buffer_after t buf (save_of t buf) → a ≡ load_of (take n last)
        → Trains w (after_call t a (length (take n last)) (take n last)) u v → Trains w (step_of t (plain.reload buf)) u v
    unfolding step_of reloaded
    by_load g h l =
        let b : last ≡ buffer_after t buf (Ok n) = g ∙ ap (buffer_after t buf) (sym e ∙ f) in
        let c : length (take n last) ≡ n = sym lent_size in
        rw (← e, f) (rw (h, c, b) at l)

-- the record at the end
pub end_put : (t : Trainer) (n : ℕ) {s : Result ℕ Refusal} {last : List ℕ} {w v z : Writer} → s ≡ save_of t (replicate 16388 0) → s ≡ Ok n
    → last ≡ buffer_after t (replicate 16388 0) (save_of t (replicate 16388 0)) → Appends w (n ∷ []) v → Appends v (take n last) z
    → Appends w (end_words t (save_of t (replicate 16388 0))) z
unfolding end_words
end_put t n {last = last} e f g p b =
    let h : last ≡ buffer_after t (replicate 16388 0) (Ok n) = g ∙ ap (buffer_after t (replicate 16388 0)) (sym e ∙ f) in
    rw (← e, f) (rw h at (join p b))

-- ---- a call of each kind
pub reacts : (r : State) (x : Event) {c : Call} {s : Sender} {w v : Writer} → c ≡ React x → Moves w (sender_step r.sender (on r.trainer.tree x)) s v
    → Leaves w (turn_of r.trainer r.sender (meant c)) (record { trainer = r.trainer; sender = s }) v
unfolding turn_of on
reacts r (event.Ack x) e m = rw e (record { trainer = refl; sender = m.sender; words = m.words })
reacts r (event.Send at) e m = rw e (record { trainer = refl; sender = m.sender; words = m.words })
reacts r event.Tick e m = rw e (record { trainer = refl; sender = m.sender; words = m.words })

pub looks : (r : State) (p : Point) {c : Call} {l : Lookup} {w v : Writer} → c ≡ Look p → l ≡ opened_of r.trainer.tree p
    → Appends w (looked_words l.found) v → Leaves w (turn_of r.trainer r.sender (meant c)) r v
unfolding turn_of
looks r p e f a =
    rw e
    (record {
      trainer = refl;
      sender = refl;
      words = as_words a (ap looked_words (ap (λ (x : Lookup). x.found) f ∙ opened_found r.trainer.tree p));
    })
