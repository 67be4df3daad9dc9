-- One law for each way through a step on the small state. Assumes nothing.
use mathlib.Core.Path.{◌≡◌, refl, sym, ap, subst, ◌∙◌}
use mathlib.Core.Bool.{Bool, true, false, cond}
use mathlib.Core.Logic.{inl, inr}
use Prim.Native.Nat.{ℕ, ◌+◌, ◌<◌, ◌≤◌}
use native.Mathlib.Omega.{arith}
use borrow.Author.Tests.{eq-eqb, ne_eqb, lt-ltb, le-ltb}
use lib.Dec.{eqb, ltb}
use lib.ListN.{length, get_or}
use lib.Ieee.{Float}
use Rattle.remy.specs.declared.action.Action.{Action}
use Rattle.remy.specs.Action.{valid_of}
use Rattle.trainer.specs.declared.settings.Settings.{Settings}
use Rattle.trainer.specs.Candidates.{candidates_of, no_candidate}
use Rattle.std.specs.Prelude.{Some, None}
use Rattle.trainer.specs.State.{none, kept_of}
use Rattle.trainer.proofs.Steps.{kept_none, kept_number}
use Rattle.trainer.specs.Fields.{keeps_in}
use Rattle.trainer.proofs.CandidateLaws.{candidate_valid, candidates_few}
use Rattle.host_answers.specs.declared.inner.steps.Tuned.{Tuned}
use Rattle.host_answers.specs.Parts.{begin_of, next_of, finished_of, last_of, tried_of, noted_of, step_of, Tuning, Among, Counted}

module _ (s : Settings) (u : Tuned) where
  pub k_few : Tuning s u → u.k < 4096
  k_few h = omega (arith, h.k, h.count, candidates_few s u.action)

  pub k_among : Tuning s u → Among u u.k
  k_among h k e = let n = kept_number u.k k e in subst (λ (j : ℕ). j < u.count) (sym n.1) h.k

  module _ (kept : ℕ) where
    pub kept_listed : {k : ℕ} → Tuning s u → Among u kept → kept_of kept ≡ Some k → k < length (candidates_of s u.action)
    kept_listed {k} h m e = subst (λ (n : ℕ). k < n) h.count (m k e)

    pub kept_valid : {k : ℕ} {c : Action} → Tuning s u → Among u kept → kept_of kept ≡ Some k → c ≡ get_or (candidates_of s u.action) k no_candidate → valid_of c ≡ true
    kept_valid {k} h m e ec = ap valid_of ec ∙ candidate_valid s u.action k no_candidate h.settings (kept_listed h m e)

    module _ (score : Float) where
      pub last_none : kept_of kept ≡ None → finished_of u kept score ≡ last_of s u kept score
      unfolding last_of
      last_none e = rw (eq-eqb kept none (kept_none kept e))

      pub last_kept : {k : ℕ} {c : Action} → kept_of kept ≡ Some k → c ≡ get_or (candidates_of s u.action) k no_candidate
          → begin_of s c score ≡ last_of s u kept score
      unfolding last_of
      last_kept {k} {c} e ec =
          let n = kept_number kept k e in
          rw (ne_eqb kept none n.0) (ap (λ (x : Action). begin_of s x score) (ec ∙ ap (λ (j : ℕ). get_or (candidates_of s u.action) j no_candidate) n.1))

module _ (s : Settings) (u : Tuned) (kept : ℕ) (score : Float) where
  pub tried_more : u.k + 1 < u.count → next_of u (u.k + 1) kept score ≡ tried_of s u kept score
  unfolding tried_of
  tried_more l = rw (lt-ltb (u.k + 1) u.count l)

  pub tried_last : {r : Tuned} → u.count ≤ u.k + 1 → r ≡ last_of s u kept score → r ≡ tried_of s u kept score
  unfolding tried_of
  tried_last l q = rw (le-ltb (u.k + 1) u.count l) q

module _ (s : Settings) (u : Tuned) (x : Float) where
  pub step_kept : {r : Tuned} → keeps_in u.best u.kept u.score x ≡ true → r ≡ tried_of s u u.k x → r ≡ step_of s u x
  unfolding step_of
  step_kept h q = rw h q

  pub step_passed : {r : Tuned} → keeps_in u.best u.kept u.score x ≡ false → r ≡ tried_of s u u.kept u.score → r ≡ step_of s u x
  unfolding step_of
  step_passed h q = rw h q

  pub noted_among : {n : ℕ × Float} → Tuning s u → Among u u.kept → n ≡ noted_of u x → Among u n.0
  unfolding noted_of
  noted_among {n} h m e = subst (λ (p : ℕ × Float). Among u p.0) (sym e) (go (keeps_in u.best u.kept u.score x))
    where
      go : (b : Bool) → Among u (cond {A = ℕ × Float} b (u.k, x) (u.kept, u.score)).0
      go true = k_among s u h
      go false = m

  noted_step : tried_of s u (noted_of u x).0 (noted_of u x).1 ≡ step_of s u x
  unfolding noted_of step_of
  noted_step = go (keeps_in u.best u.kept u.score x)
    where
      go : (b : Bool) → tried_of s u (cond {A = ℕ × Float} b (u.k, x) (u.kept, u.score)).0 (cond {A = ℕ × Float} b (u.k, x) (u.kept, u.score)).1
          ≡ cond b (tried_of s u u.k x) (tried_of s u u.kept u.score)
      go true = refl
      go false = refl

  pub step_noted : {n : ℕ × Float} {r : Tuned} → n ≡ noted_of u x → r ≡ tried_of s u n.0 n.1 → r ≡ step_of s u x
  step_noted e q = q ∙ ap (λ (p : ℕ × Float). tried_of s u p.0 p.1) e ∙ noted_step

-- ---- the count stays that of the action, or is 0
module _ (s : Settings) (u : Tuned) where
  last_counted : (kept : ℕ) (score : Float) → Counted s (last_of s u kept score)
  unfolding last_of
  last_counted kept score = go (eqb kept none)
    where
      go : (b : Bool) → Counted s (cond b (finished_of u kept score) (begin_of s (get_or (candidates_of s u.action) kept no_candidate) score))
      go true = inl refl
      go false = inr refl

  tried_counted : (kept : ℕ) (score : Float) → Counted s u → Counted s (tried_of s u kept score)
  unfolding tried_of
  tried_counted kept score h = go (ltb (u.k + 1) u.count)
    where
      go : (b : Bool) → Counted s (cond b (next_of u (u.k + 1) kept score) (last_of s u kept score))
      go true = h
      go false = last_counted kept score

  pub step_counted : (x : Float) → Counted s u → Counted s (step_of s u x)
  unfolding step_of
  step_counted x h = go (keeps_in u.best u.kept u.score x)
    where
      go : (b : Bool) → Counted s (cond b (tried_of s u u.k x) (tried_of s u u.kept u.score))
      go true = tried_counted u.k x h
      go false = tried_counted u.kept u.score h
