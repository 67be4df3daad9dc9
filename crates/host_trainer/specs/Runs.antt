-- What a host that keeps a record sees of a list of answers, and what a program that keeps the trainer itself sees.
use Rattle.std.specs.Prelude.{List, [], ◌∷◌, ℕ, length, take, leb, Option, Some, None, Result, Ok, Err}
use Rattle.std.specs.Float.{binary64}
use Rattle.std.specs.Float.Ieee.{of_bits}
use Rattle.refusal.specs.declared.Refusal.{Refusal}
use Rattle.refusal.specs.declared.Refusal.TheVariants.{ShortBuffer}
use Rattle.refusal.specs.Guards.{check, checked, and_then}
use Rattle.trainer.specs.declared.Trainer.{Trainer}
use Rattle.trainer.specs.Calls.{answer_counts_of, answer_score_of}
use Rattle.record.specs.Write.{record_of}
use Rattle.host_trainer.specs.Records.{counts_in, counts_answered, score_answered, written_of, record_after}
use Rattle.host_trainer.specs.Questions.{question_in, question_after, asked_in_of, asked_after}

-- counts in bytes, or a score by its bits
pub data Answer : Type 0 where
  counts : List ℕ → Answer
  score : ℕ → Answer

-- an answer, the buffer lent for the record, and the one lent for the question after it
pub record Call : Type 0 where
  pub answer : Answer
  pub out : List ℕ
  pub asks : List ℕ

-- the refusal if there is one, what the question answers, and its buffer
pub record Seen : Type 0 where
  pub refused : Option Refusal
  pub asked : Result ℕ Refusal
  pub bytes : List ℕ

abbrev pub refusal_in : {A : Type 0} → Result A Refusal → Option Refusal
refusal_in (Ok x) = None
refusal_in (Err r) = Some r

-- ---- a host keeps the bytes that a call wrote, and after a refusal those that it held
unfoldable pub host_answer : List ℕ → Answer → Result Trainer Refusal
host_answer held (counts xs) = counts_answered held xs
host_answer held (score bits) = score_answered held bits

abbrev pub held_after : List ℕ → Result ℕ Refusal → List ℕ → List ℕ
held_after held (Ok n) out = take n out
held_after held (Err r) out = held

abbrev pub host_saved : List ℕ → Call → Result ℕ Refusal
host_saved held c = written_of (host_answer held c.answer) c.out

abbrev pub host_next : List ℕ → Call → List ℕ
host_next held c = held_after held (host_saved held c) (record_after (host_answer held c.answer) c.out)

abbrev pub host_sees : List ℕ → Call → Seen
host_sees held c =
    record {
      refused = refusal_in (host_saved held c);
      asked = asked_in_of (host_next held c) c.asks;
      bytes = asked_after (host_next held c) c.asks;
    }

unfoldable pub host_run : List ℕ → List Call → List Seen
unfolding host_answer
host_run held [] = []
host_run held (c ∷ cs) = host_sees held c ∷ host_run (host_next held c) cs

-- ---- a program keeps the trainer that a call returned, and after a refusal the one that it had; 9 is due where the record doesn't fit
unfoldable pub value_answer : Trainer → Answer → Result Trainer Refusal
value_answer t (counts xs) = answer_counts_of t (counts_in xs)
value_answer t (score bits) = answer_score_of t (of_bits binary64 bits)

abbrev pub fitting : List ℕ → Trainer → Result Trainer Refusal
fitting out t = checked (check (leb (length (record_of t)) (length out)) ShortBuffer ∷ []) (Ok t)

abbrev pub value_call : Trainer → Call → Result Trainer Refusal
value_call t c = and_then (value_answer t c.answer) (fitting c.out)

abbrev pub kept_after : Trainer → Result Trainer Refusal → Trainer
kept_after t (Ok u) = u
kept_after t (Err r) = t

abbrev pub value_next : Trainer → Call → Trainer
value_next t c = kept_after t (value_call t c)

abbrev pub value_sees : Trainer → Call → Seen
value_sees t c =
    record {
      refused = refusal_in (value_call t c);
      asked = question_in (value_next t c) c.asks;
      bytes = question_after (value_next t c) c.asks;
    }

unfoldable pub value_run : Trainer → List Call → List Seen
unfolding value_answer
value_run t [] = []
value_run t (c ∷ cs) = value_sees t c ∷ value_run (value_next t c) cs
