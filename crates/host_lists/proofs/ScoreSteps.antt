-- A score within a row: it is taken, and the trainer after it asks for the rest of the row. Assumes nothing.
use mathlib.Core.Path.{◌≡◌, refl, sym, ap, subst, ◌∙◌}
use mathlib.Core.Bool.{Bool, true, false, ◌||◌, cond}
use Prim.Native.Nat.{ℕ, ◌+◌, ◌<◌}
use native.Mathlib.Omega.{arith}
use borrow.Author.Tests.{eq-eqb, ne_eqb, lt-ltb}
use lib.Dec.{eqb}
use lib.ListN.{length, drop, length-drop}
use lib.Seq.{drop-drop}
use lib.Ieee.{Float, le, lt}
use Rattle.remy.specs.Cube as cube
use Rattle.trainer.specs.declared.Trainer.{Trainer}
use Rattle.std.specs.Prelude.{Result, Ok}
use Rattle.refusal.specs.declared.Refusal.{Refusal}
use Rattle.trainer.specs.Candidates.{candidates_of}
use Rattle.trainer.specs.State.{none, kept_in, leaf_action, leaf_holds, try_holds_of, untried, accepted_of}
use Rattle.trainer.specs.Phases.{try_from, keeps, tried, phase5}
use Rattle.trainer.specs.Calls.{progress_of, score_step, answer_score_of}
use Rattle.trainer.proofs.Holds.{and_left}
use Rattle.trainer.proofs.CandidateLaws.{candidates_few}
use Rattle.trainer.proofs.AcceptedFacts.{asking_tunes, asking_leaf, trying_tunes, trying_leaf, try_holds, k_listed, kept_holds_lem}
use Rattle.trainer.proofs.Accepting.{nothing_kept, kept_new, kept_still}
use Rattle.host_lists.specs.Lists.{asked_in_a_row}
use Rattle.host_lists.proofs.Rows.{asked_four, asked_five}
use Rattle.host_lists.proofs.NextCandidate.{next, next_accepted, next_row}

-- a trainer that asks for the rest of the row
pub record Next (t u : Trainer) : Type 0 where
  pub accepted : accepted_of u ≡ true
  pub row : asked_in_a_row u ≡ drop 1 (asked_in_a_row t)
  pub leaf : u.leaf ≡ t.leaf
  pub progress : progress_of u ≡ progress_of t

-- the answer is such a trainer
pub record Steps (t : Trainer) (a : Result Trainer Refusal) : Type 0 where
  pub after : Trainer
  pub is : a ≡ Ok after
  pub next : Next t after

-- ---- phase 4: the leaf's own score, then the first candidate
four_is : (t : Trainer) (x : Float) → accepted_of t ≡ true → t.phase ≡ 4 → (length (candidates_of t.settings (leaf_action t)) ≡ 0 → ⊥)
    → answer_score_of t x ≡ Ok (next t x 0 none cube.zero)
unfolding answer_score_of score_step try_from
four_is t x h e n = rw (h, eq-eqb t.phase 4 e, ne_eqb (length (candidates_of t.settings (leaf_action t))) 0 n)

module _ (t : Trainer) (x : Float) (h : accepted_of t ≡ true) (p : t.phase ≡ 4) (l : 1 < length (asked_in_a_row t)) where
  four_some : 0 < length (candidates_of t.settings (leaf_action t))
  four_some = let e = ap length (asked_four t p) in omega arith

  pub four_steps : Steps t (answer_score_of t x)
  four_steps =
      let b = asking_leaf t h p in
      record {
        after = next t x 0 none cube.zero;
        is = four_is t x h p (λ z. absurd (let m = four_some in omega arith));
        next =
            record {
              accepted = next_accepted t x 0 none cube.zero h (asking_tunes t h p) (and_left (leaf_holds t) (untried t) b) four_some (nothing_kept x);
              row = next_row t x 0 none cube.zero ∙ ap (drop 1) (sym (asked_four t p));
              leaf = refl;
              progress = refl;
            };
      }

-- ---- phase 5: the score of candidate k, then candidate k + 1
five_is : (t : Trainer) (x : Float) → accepted_of t ≡ true → (t.phase ≡ 4 → ⊥) → t.phase ≡ 5 → answer_score_of t x ≡ Ok (phase5 t x)
unfolding answer_score_of score_step
five_is t x h n e = rw (h, ne_eqb t.phase 4 n, eq-eqb t.phase 5 e)

tried_is : (t : Trainer) (kept : ℕ) (score : Float) → t.k + 1 < length (candidates_of t.settings (leaf_action t))
    → next t t.best (t.k + 1) kept score ≡ tried t kept score
unfolding tried
tried_is t kept score l = rw (lt-ltb (t.k + 1) (length (candidates_of t.settings (leaf_action t))) l)

module _ (t : Trainer) (x : Float) (h : accepted_of t ≡ true) (n : t.phase ≡ 4 → ⊥) (p : t.phase ≡ 5) (l : 1 < length (asked_in_a_row t)) where
  listed : t.k < length (candidates_of t.settings (leaf_action t))
  listed = k_listed t (try_holds t h p)

  five_more : t.k + 1 < length (candidates_of t.settings (leaf_action t))
  five_more =
      let e = ap length (asked_five t n p) ∙ length-drop t.k (candidates_of t.settings (leaf_action t)) in
      omega (arith, listed)

  tried_next : (kept : ℕ) (score : Float) → kept_in t.best (t.k + 1) kept score ≡ true → Next t (tried t kept score)
  tried_next kept score q =
      subst (Next t) (tried_is t kept score five_more)
      (record {
        accepted = next_accepted t t.best (t.k + 1) kept score h (trying_tunes t h p)
            (and_left (leaf_holds t) (try_holds_of t) (trying_leaf t h p)) five_more q;
        row = next_row t t.best (t.k + 1) kept score ∙ sym (drop-drop 1 t.k (candidates_of t.settings (leaf_action t)))
            ∙ ap (drop 1) (sym (asked_five t n p));
        leaf = refl;
        progress = refl;
      })

  phase5_next : Next t (phase5 t x)
  unfolding phase5
  phase5_next = go (keeps t x) refl
    where
      go : (b : Bool) → keeps t x ≡ b → Next t (cond b (tried t t.k x) (tried t t.kept t.kept_score))
      go true e =
          tried_next t.k x
          (kept_new t.best t.k x (omega (arith, listed, candidates_few t.settings (leaf_action t)))
          (and_left (lt t.best x) (eqb t.kept none || le t.kept_score x) e))
      go false e =
          tried_next t.kept t.kept_score
          (kept_still t.best t.k t.kept t.kept_score (kept_holds_lem t (try_holds t h p)))

  pub five_steps : Steps t (answer_score_of t x)
  five_steps = record { after = phase5 t x; is = five_is t x h n p; next = phase5_next }
