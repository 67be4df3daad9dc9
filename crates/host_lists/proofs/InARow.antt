-- What is asked for in a row, whatever the scores: of an accepted trainer each score is taken, and the question after it is for the next action. Assumes nothing.
use mathlib.Core.Path.{◌≡◌, refl, ap, ◌∙◌}
use mathlib.Core.Bool.{Bool, true, false}
use mathlib.Core.List.{List, [], ◌∷◌}
use Prim.Native.Nat.{ℕ, suc, ◌+◌, ◌<◌}
use native.Mathlib.Omega.{arith}
use borrow.Author.Tests.{eq-eqb, ne_eqb, eqb-true, eqb-false}
use lib.Dec.{eqb}
use lib.ListN.{length, drop, get_or, length-drop}
use lib.Seq.{get_or-drop}
use lib.Ieee.{Float}
use Rattle.remy.specs.declared.action.Action.{Action}
use Rattle.trainer.specs.declared.Trainer.{Trainer}
use Rattle.std.specs.Prelude.{Result, Ok}
use Rattle.refusal.specs.declared.Refusal.{Refusal}
use Rattle.refusal.specs.Guards.{and_then}
use Rattle.trainer.specs.declared.Question.TheVariants as question
use Rattle.trainer.specs.Candidates.{candidates_of, no_candidate}
use Rattle.trainer.specs.State.{leaf_action, accepted_of}
use Rattle.trainer.specs.Calls.{progress_of, asked_of, question_of, answer_score_of}
use Rattle.host_lists.specs.Lists.{asked_in_a_row}
use Rattle.host_lists.specs.Runs.{scores_of}
use Rattle.host_lists.proofs.Rows.{asked_four, asked_five, asked_none}
use Rattle.host_lists.proofs.ScoreSteps.{Steps, four_steps, five_steps}

-- ---- in which phases something is asked for in a row
by_phase : (t : Trainer) {R : Type 0} → 0 < length (asked_in_a_row t) → (t.phase ≡ 4 → R) → ((t.phase ≡ 4 → ⊥) → t.phase ≡ 5 → R) → R
by_phase t {R} l f g = go (eqb t.phase 4) (eqb t.phase 5) refl refl
  where
    go : (a b : Bool) → eqb t.phase 4 ≡ a → eqb t.phase 5 ≡ b → R
    go true b p q = f (eqb-true t.phase 4 p)
    go false true p q = g (eqb-false t.phase 4 p) (eqb-true t.phase 5 q)
    go false false p q =
        absurd (let e = ap length (asked_none t (eqb-false t.phase 4 p) (eqb-false t.phase 5 q)) in omega arith)

steps : (t : Trainer) (x : Float) → accepted_of t ≡ true → 1 < length (asked_in_a_row t) → Steps t (answer_score_of t x)
steps t x h l = by_phase t (omega arith) (λ p. four_steps t x h p l) (λ n p. five_steps t x h n p l)

-- ---- the question is for the first of the row
abbrev Asks : Trainer → Trainer → ℕ → Type 0
Asks t u i = question_of u ≡ Ok (question.Score t.leaf (get_or (asked_in_a_row t) i no_candidate) (progress_of t))

asks_four : (t : Trainer) → accepted_of t ≡ true → t.phase ≡ 4 → Asks t t 0
unfolding question_of asked_of
asks_four t h p = rw (h, eq-eqb t.phase 4 p, asked_four t p)

asks_five : (t : Trainer) → accepted_of t ≡ true → (t.phase ≡ 4 → ⊥) → t.phase ≡ 5 → Asks t t 0
unfolding question_of asked_of
asks_five t h n p =
    let e : get_or (drop t.k (candidates_of t.settings (leaf_action t))) 0 no_candidate ≡ get_or (candidates_of t.settings (leaf_action t)) t.k no_candidate =
    get_or-drop t.k (candidates_of t.settings (leaf_action t)) 0 no_candidate
    ∙ ap (λ (i : ℕ). get_or (candidates_of t.settings (leaf_action t)) i no_candidate) (let z : t.k + 0 ≡ t.k = omega arith in z) in
    rw (h, ne_eqb t.phase 4 n, eq-eqb t.phase 5 p, asked_five t n p, e)

-- ---- the row
-- the trainer after some scores, of which none was refused, asks for action i of the row
pub record Row (t : Trainer) (a : Result Trainer Refusal) (i : ℕ) : Type 0 where
  pub after : Trainer
  pub is : a ≡ Ok after
  pub asks : Asks t after i

-- after any scores, fewer than are asked for in a row, none was refused and the question is for the next action of the row
pub in_a_row : (xs : List Float) (t : Trainer) → accepted_of t ≡ true → length xs < length (asked_in_a_row t) → Row t (scores_of t xs) (length xs)
unfolding scores_of
in_a_row [] t h l = record { after = t; is = refl; asks = by_phase t l (λ p. asks_four t h p) (λ n p. asks_five t h n p) }
in_a_row (x ∷ xs) t h l =
    let s = steps t x h (omega arith) in
    let u = s.after in
    let n = s.next in
    let short : length xs < length (asked_in_a_row u) = (let e = ap length n.row ∙ length-drop 1 (asked_in_a_row t) in omega arith) in
    let r = in_a_row xs u n.accepted short in
    let at : get_or (asked_in_a_row u) (length xs) no_candidate ≡ get_or (asked_in_a_row t) (suc (length xs)) no_candidate =
    ap (λ (ys : List Action). get_or ys (length xs) no_candidate) n.row ∙ get_or-drop 1 (asked_in_a_row t) (length xs) no_candidate
    ∙ ap (λ (i : ℕ). get_or (asked_in_a_row t) i no_candidate) (let z : 1 + length xs ≡ suc (length xs) = omega arith in z) in
    record {
      after = r.after;
      is = ap (λ (a : Result Trainer Refusal). and_then a (λ v. scores_of v xs)) s.is ∙ r.is;
      asks = r.asks ∙ (λ j. Ok (question.Score (n.leaf j) (at j) (n.progress j)));
    }
