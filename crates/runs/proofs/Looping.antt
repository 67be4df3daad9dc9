-- The loop over the calls of a script. Assumes nothing.
use mathlib.Core.Path.{◌≡◌, sym, ap, ◌∙◌}
use mathlib.Core.Bool.{false}
use mathlib.Core.List.{List, [], ◌∷◌, ◌++◌}
use mathlib.Core.Logic.{⊎_elim}
use Prim.Native.Nat.{ℕ, ◌-◌, ◌<◌, ◌≤◌, min}
use native.Mathlib.Omega.{arith}
use lib.ListN.{length, take, drop, replicate, length-drop, drop_of_length-le}
use lib.Seq.{take_all}
use Rattle.std.specs.Prelude.{Result, Ok}
use Rattle.std.proofs.lemmas.Bool.{cases_lt}
use Rattle.refusal.specs.declared.Refusal.{Refusal}
use Rattle.trainer.specs.declared.Trainer.{Trainer}
use Rattle.trainer.specs.declared.Question.{Question}
use Rattle.trainer.specs.Calls.{question_of}
use Rattle.record.specs.Calls.{save_of}
use Rattle.sender.specs.declared.Sender.{Sender}
use Rattle.runs.specs.declared.State.{State}
use Rattle.runs.specs.declared.words.Writer.{Writer}
use Rattle.runs.specs.Script.{Item, items_of, size_of, whole_of, calls_of}
use Rattle.runs.specs.SenderWords.{sender_words}
use Rattle.runs.specs.Ran.{question_words, end_words, ran_from, begun_of, ran_begun, ran_of}
use Rattle.runs.specs.Writing.{Appends}
use Rattle.runs.specs.Turn.{First, turn_of, Makes}
use Rattle.runs.proofs.Putting.{join, as_words}
use Rattle.runs.proofs.Reading.{stands_from, no_calls, next_call}
use Rattle.runs.proofs.Turning.{ran_more}

-- where the loop stands: n is enough for the words that are left, and once the words of their calls are put, all are
pub record Stood (n : ℕ) (u : Writer) (all : List ℕ) (r : State) (w : Writer) (ws : List ℕ) : Type 0 where
  pub enough : length ws ≤ n
  pub rest : {v : Writer} → Appends w (ran_from r.trainer r.sender (items_of n ws)) v → Appends u all v

-- ---- the first call's place
lent_from : (script : List ℕ) (p : ℕ) → take (length script - p) (drop p script) ≡ drop p script
lent_from script p = take_all (length script - p) (drop p script) (rw length-drop (omega arith))

past_start : (script : List ℕ) → drop (min (length script) 46) script ≡ drop 46 script
past_start script = ⊎_elim inside past (cases_lt 46 (length script))
  where
    inside : 46 < length script → drop (min (length script) 46) script ≡ drop 46 script
    inside h = ap (λ (k : ℕ). drop k script) (let e : min (length script) 46 ≡ 46 = omega arith in e)

    past : length script ≤ 46 → drop (min (length script) 46) script ≡ drop 46 script
    past h = drop_of_length-le script {i = min (length script) 46} (omega arith) ∙ sym (drop_of_length-le script h)

pub stood_first : (script : List ℕ) (r : State) (w : Writer) {p : ℕ} → p ≡ min (length script) 46
    → Stood (length script) w (ran_from r.trainer r.sender (calls_of script)) r w (take (length script - p) (drop p script))
stood_first script r w {p} e =
    let f : take (length script - p) (drop p script) ≡ drop 46 script = lent_from script p ∙ ap (λ (k : ℕ). drop k script) e ∙ past_start script in
    rw f (record { enough = rw length-drop (omega arith); rest = λ a. a })

module _ {n : ℕ} {u w : Writer} {all ws : List ℕ} {r : State} (s : Stood n u all r w ws) where
  -- a call more
  module _ {i : Item} {rest : List ℕ} (f : First ws i rest) where
    pub fewer : length rest < length ws
    fewer = let a = stands_from ws f.whole in omega (arith, ap length f.after, length-drop (size_of ws) ws, a.some, a.within)

    pub stood_next : {q : State} {v : Writer} → Makes r i w q v → Stood n u all q v rest
    stood_next {q} {v} m =
        let t = turn_of r.trainer r.sender i in
        let is' = items_of n rest in
        let listed : items_of n ws ≡ i ∷ is' =
        next_call n ws s.enough (stands_from ws f.whole) ∙ (λ j. sym f.item j ∷ items_of n (sym f.after j)) in
        record {
          enough = let l = fewer in let k = s.enough in omega arith;
          rest = λ {v = z} a.
              s.rest (as_words (join m.words a)
              (ap (λ (x : Trainer). t.words ++ ran_from x q.sender is') m.trainer
              ∙ ap (λ (x : Sender). t.words ++ ran_from t.trainer x is') m.sender
              ∙ sym (ran_more r.trainer r.sender i is')
              ∙ ap (ran_from r.trainer r.sender) (sym listed)));
        }

  -- no call more
  finished : whole_of ws ≡ false → end_words r.trainer (save_of r.trainer (replicate 16388 0)) ++ sender_words r.sender ≡ ran_from r.trainer r.sender (items_of n ws)
  unfolding ran_from
  finished h = ap (ran_from r.trainer r.sender) (sym (no_calls n ws h))

  pub stood_last : whole_of ws ≡ false → {x v : Writer} → Appends w (end_words r.trainer (save_of r.trainer (replicate 16388 0))) x
      → Appends x (sender_words r.sender) v → Appends u all v
  stood_last h a b = s.rest (as_words (join a b) (finished h))

-- ---- all that follows a start
pub started : (script : List ℕ) (r : State) {q : Result Question Refusal} {w one two v : Writer} → Ok r ≡ begun_of script → q ≡ question_of r.trainer
    → Appends w (0 ∷ []) one → Appends one (question_words q) two → Appends two (ran_from r.trainer r.sender (calls_of script)) v
    → Appends w (ran_of script) v
unfolding ran_begun
started script r e f a b c = rw (← e) (join a (join (as_words b (ap question_words f)) c))
