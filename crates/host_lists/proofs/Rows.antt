-- The rows that the code writes: an action's candidates from the sums that the axes hold, and what a trainer asks for. Assumes nothing.
use mathlib.Core.Path.{◌≡◌, sym, ap, subst, ◌∙◌}
use mathlib.Core.Bool.{true}
use mathlib.Core.List.{List, [], ◌∷◌}
use Prim.Native.Nat.{ℕ, ◌*◌, ◌≤◌}
use native.Mathlib.Omega.{arith}
use borrow.Author.Tests.{eq-eqb, ne_eqb}
use lib.ListN.{length, drop}
use lib.IntN.{ℤ}
use lib.Ieee.{Float}
use Rattle.std.specs.Prelude.{Some, None, Option, Result, Ok}
use Rattle.refusal.specs.declared.Refusal.{Refusal}
use Rattle.remy.specs.declared.action.Action.{Action}
use Rattle.trainer.specs.declared.settings.Settings.{Settings}
use Rattle.trainer.specs.declared.Trainer.{Trainer}
use Rattle.trainer.specs.Candidates.{candidates_of}
use Rattle.trainer.specs.Axes.{multiplier_sums, increment_sums, delay_sums}
use Rattle.trainer.specs.State.{leaf_action, accepted_of}
use Rattle.trainer.specs.declared.phase.Phase.{Phase}
use Rattle.trainer.specs.declared.phase.Phase.TheVariants.{Own, Try}
use Rattle.trainer.specs.Phase.{phase_of}
use Rattle.trainer.proofs.PhaseLaws.{other_phase, no_phase}
use Rattle.trainer.proofs.Product.{candidates_are}
use Rattle.trainer.proofs.CandidateLaws.{multipliers_few, increments_few, delays_few}
use Rattle.trainer.proofs.AcceptedFacts.{k_listed, try_holds}
use Rattle.host_lists.specs.Lists.{asked_in_a_row}
use Rattle.host_lists.specs.Parts.{product_of, Few, own_part, row_of}
use Rattle.host_lists.proofs.Listing.{Wrote, wrote_as, list_empty}
use Rattle.host_lists.proofs.Products.{all_count}

-- ---- what the three axes hold
module _ (s : Settings) (a : Action) {ms ds : List Float} {is : List ℤ}
    (em : ms ≡ multiplier_sums s a) (ei : is ≡ increment_sums s a) (ed : ds ≡ delay_sums s a) where
  held : product_of ms is ds ≡ candidates_of s a
  held = rw (em, ei, ed) (sym (candidates_are s a))

  pub row_held : (own : Option Action) (from : ℕ) (out : List ℕ) {r : Result ℕ Refusal} {l : List ℕ}
      → Wrote (row_of own from (product_of ms is ds)) out r l → Wrote (row_of own from (candidates_of s a)) out r l
  row_held own from out p = wrote_as out (ap (row_of own from) held) p

  pub from_held : (from : ℕ) → from ≤ length (candidates_of s a) → from ≤ length ms * (length is * length ds)
  from_held from h = subst (λ (n : ℕ). from ≤ n) (ap length (sym held) ∙ all_count ms is ds) h

  pub few_held : Few ms is ds
  few_held =
      record {
        multipliers = rw em (multipliers_few s a);
        increments = rw ei (increments_few s a);
        delays = rw ed (delays_few s a);
      }

-- ---- what a trainer asks for in a row
pub try_from_lem : (t : Trainer) → accepted_of t ≡ true → t.phase ≡ 5 → t.k ≤ length (candidates_of t.settings (leaf_action t))
try_from_lem t h e = let l = k_listed t (try_holds t h e) in omega arith

module _ (t : Trainer) where
  pub asked_four : t.phase ≡ 4 → asked_in_a_row t ≡ leaf_action t ∷ candidates_of t.settings (leaf_action t)
  unfolding asked_in_a_row
  asked_four e = rw (eq-eqb t.phase 4 e)

  pub asked_five : (t.phase ≡ 4 → ⊥) → t.phase ≡ 5 → asked_in_a_row t ≡ drop t.k (candidates_of t.settings (leaf_action t))
  unfolding asked_in_a_row
  asked_five n e = rw (ne_eqb t.phase 4 n, eq-eqb t.phase 5 e)

  pub asked_none : (t.phase ≡ 4 → ⊥) → (t.phase ≡ 5 → ⊥) → asked_in_a_row t ≡ []
  unfolding asked_in_a_row
  asked_none n m = rw (ne_eqb t.phase 4 n, ne_eqb t.phase 5 m)

  -- as the code writes them
  module _ (out : List ℕ) {r : Result ℕ Refusal} {l : List ℕ} where
    pub row_ask : t.phase ≡ 4 → Wrote (row_of (Some (leaf_action t)) 0 (candidates_of t.settings (leaf_action t))) out r l → Wrote (asked_in_a_row t) out r l
    unfolding own_part
    row_ask e p = wrote_as out (sym (asked_four e)) p

    pub row_try : (t.phase ≡ 4 → ⊥) → t.phase ≡ 5 → Wrote (row_of None t.k (candidates_of t.settings (leaf_action t))) out r l → Wrote (asked_in_a_row t) out r l
    unfolding own_part
    row_try n e p = wrote_as out (sym (asked_five n e)) p

  pub row_none : (out : List ℕ) → (t.phase ≡ 4 → ⊥) → (t.phase ≡ 5 → ⊥) → Wrote (asked_in_a_row t) out (Ok 0) out
  row_none out n m = wrote_as out (sym (asked_none n m)) (list_empty out)

-- by the phase that the number names
pub not_four : (t : Trainer) → t.phase ≡ 5 → t.phase ≡ 4 → ⊥
not_four t e f = absurd (omega arith)

pub row_else : (t : Trainer) (out : List ℕ) (p : Phase) → phase_of t.phase ≡ Some p → (p ≡ Own → ⊥) → (p ≡ Try → ⊥) → Wrote (asked_in_a_row t) out (Ok 0) out
row_else t out p e a b = row_none t out (other_phase t.phase p Own e a) (other_phase t.phase p Try e b)

pub row_nowhere : (t : Trainer) (out : List ℕ) → phase_of t.phase ≡ None → Wrote (asked_in_a_row t) out (Ok 0) out
row_nowhere t out e = row_none t out (λ z. no_phase t.phase e Own z) (λ z. no_phase t.phase e Try z)
