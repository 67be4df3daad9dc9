-- The scores of a group, answered one by one: what the small state stands for after each, and where they are refused. Assumes nothing.
use mathlib.Core.Path.{◌≡◌, refl, sym, ap, ◌∙◌}
use mathlib.Core.Bool.{true, false}
use mathlib.Core.List.{List}
use Prim.Native.Nat.{ℕ, zero, suc, ◌+◌, ◌-◌, ◌*◌, ◌<◌, ◌≤◌}
use native.Mathlib.Nat.{add-suc}
use native.Mathlib.Numerals.{add-one}
use native.Mathlib.Omega.{arith}
use lib.ListN.{take, drop}
use lib.Seq.{take-take}
use lib.Ieee.{binary64, of_bits}
use Rattle.std.specs.Prelude.{Result, Ok, Err, IfOk}
use Rattle.std.proofs.lemmas.Result.{IfOk-at_ok}
use Rattle.refusal.specs.declared.Refusal.{Refusal}
use Rattle.refusal.specs.declared.Refusal.TheVariants.{NotAsked}
use Rattle.refusal.specs.Guards.{and_then}
use Rattle.trainer.specs.declared.Trainer.{Trainer}
use Rattle.trainer.specs.Calls.{wants_score, answer_score_of, score_step}
use Rattle.trainer.proofs.Steps.{score_unwanted, score_taken}
use Rattle.trainer.proofs.Accepting.{Held, score_held}
use Rattle.wire.specs.Bytes.{value_from}
use Rattle.wire.specs.Fields.{float_at}
use Rattle.host_answers.specs.Answers.{scores_on}
use Rattle.host_answers.specs.Parts.{Ready}

pub held_from : (t : Trainer) → Ready t → Held t
held_from t r = record { accepted = r.accepted; whole = r.whole }

then_held : (a : Result Trainer Refusal) (f : Trainer → Result Trainer Refusal) → IfOk a Held → ((u : Trainer) → Held u → IfOk (f u) Held) → IfOk (and_then a f) Held
then_held (Ok u) f h g = g u h
then_held (Err r) f h g = tt

-- the score out of its 8 bytes
pub score_read : (scores : List ℕ) (at : ℕ) → float_at (take 8 (drop at scores)) 0 ≡ float_at scores at
score_read scores at = ap (λ (l : List ℕ). of_bits binary64 (value_from 0 l)) (take-take 8 8 (drop at scores) (omega arith))

module _ (t : Trainer) (scores : List ℕ) where
  abbrev next : ℕ → Trainer → Result Trainer Refusal
  next i u = answer_score_of u (float_at scores (8 * i))

  pub scores_none : scores_on t scores 0 ≡ Ok t
  unfolding scores_on
  scores_none = refl

  pub scores_more : (i : ℕ) → scores_on t scores (i + 1) ≡ and_then (scores_on t scores i) (next i)
  unfolding scores_on
  scores_more i = rw (add-one i)

  pub scores_held : Held t → (n : ℕ) → IfOk (scores_on t scores n) Held
  unfolding scores_on
  scores_held h zero = h
  scores_held h (suc n) =
      then_held (scores_on t scores n) (next n) (scores_held h n) (λ u hu. score_held u (float_at scores (8 * n)) hu)

  -- after a refusal none is answered
  stays : (r : Refusal) (i d : ℕ) → scores_on t scores i ≡ Err r → scores_on t scores (i + d) ≡ Err r
  unfolding scores_on
  stays r i zero e = ap (scores_on t scores) (let z : i + 0 ≡ i = omega arith in z) ∙ e
  stays r i (suc d) e =
      ap (scores_on t scores) (add-suc i d) ∙ ap (λ (a : Result Trainer Refusal). and_then a (next (i + d))) (stays r i d e)

  pub scores_stay : (i n : ℕ) (r : Refusal) → scores_on t scores i ≡ Err r → i ≤ n → Err r ≡ scores_on t scores n
  scores_stay i n r e l = sym (stays r i (n - i) e) ∙ ap (scores_on t scores) (let q : i + (n - i) ≡ n = omega arith in q)

  module _ (h : Held t) (i : ℕ) (v : Trainer) (e : scores_on t scores i ≡ Ok v) where
    pub now_held : Held v
    now_held = IfOk-at_ok Held e (scores_held h i)

    turned : scores_on t scores (i + 1) ≡ answer_score_of v (float_at scores (8 * i))
    turned = scores_more i ∙ ap (λ (a : Result Trainer Refusal). and_then a (next i)) e

    -- a trainer that asks for no score refuses it
    pub refused_from : (n : ℕ) → wants_score v.phase ≡ false → i < n → Err NotAsked ≡ scores_on t scores n
    refused_from n w l =
        scores_stay (i + 1) n NotAsked (turned ∙ sym (score_unwanted v now_held.accepted (float_at scores (8 * i)) w)) (omega arith)

    pub taken_from : wants_score v.phase ≡ true → scores_on t scores (i + 1) ≡ Ok (score_step v (float_at scores (8 * i)))
    taken_from w = turned ∙ sym (score_taken v now_held.accepted (float_at scores (8 * i)) w)
