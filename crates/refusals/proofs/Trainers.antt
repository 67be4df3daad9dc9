-- Each call on a trainer is refused by the first check that fails, and then leaves the caller's trainer; else it gives what 01 says. Assumes nothing.
use mathlib.Core.Path.{◌≡◌, refl, sym, ap, ◌∙◌}
use mathlib.Core.Bool.{Bool, true, false, not, ◌&&◌, ◌||◌, cond}
use mathlib.Core.List.{List}
use Prim.Native.Nat.{ℕ}
use borrow.Author.Tests.{ltb-true, ltb-false, le-leb, lt-leb}
use lib.Dec.{eqb, ltb, leb}
use lib.Ieee.{Float}
use Rattle.std.specs.Prelude.{None, Result}
use Rattle.refusal.specs.declared.Refusal.{Refusal}
use Rattle.refusal.specs.declared.Refusal.TheVariants.{FullTree}
use Rattle.refusal.specs.Numbers.{number_of}
use Rattle.refusal.specs.Guards.{first_refused, pass}
use Rattle.remy.specs.declared.action.Action.{Action}
use Rattle.rule_tree.specs.Counts.{counts_hold, used_in}
use Rattle.trainer.specs.declared.settings.Settings.{Settings}
use Rattle.trainer.specs.declared.Trainer.{Trainer}
use Rattle.trainer.specs.Candidates.{pick_of, candidate_order, candidate_of}
use Rattle.trainer.specs.State.{accepted_of}
use Rattle.trainer.specs.Phases.{phase1, phase2}
use Rattle.trainer.specs.Calls.{start_order, question_order, score_order, start_of, asked_of, question_of, wants_counts, counts_step_of, answer_counts_of, answer_score_of}
use Rattle.trainer.specs.Change.{change_order, change_of}
use Rattle.refusals.specs.Told.{result_told}
use Rattle.refusals.specs.Order.{left_after, splits_on, answer_counts_order}
use Rattle.refusals.specs.Gives.{question_gives, candidate_gives}
use Rattle.refusals.proofs.Ways.{next, result_number, result_gives, left_keeps}

pub start_number : (s : Settings) → (result_told (start_of s)).number ≡ first_refused (start_order s)
unfolding start_of
start_number s = result_number (start_order s) _

pub question_number : (t : Trainer) → (result_told (question_of t)).number ≡ first_refused (question_order t)
unfolding question_of
question_number t = result_number (question_order t) _

pub question_gives_lem : (t : Trainer) → (result_told (question_of t)).gives ≡ cond (pass (question_order t)) (question_gives t) None
unfolding question_of asked_of
question_gives_lem t = result_gives (question_order t) _

pub candidate_number : (s : Settings) (a : Action) (k : ℕ) → (result_told (candidate_of s a k)).number ≡ first_refused (candidate_order s a)
unfolding candidate_of
candidate_number s a k = result_number (candidate_order s a) _

pub candidate_gives_lem : (s : Settings) (a : Action) (k : ℕ)
    → (result_told (candidate_of s a k)).gives ≡ cond (pass (candidate_order s a)) (candidate_gives s a k) None
unfolding candidate_of pick_of
candidate_gives_lem s a k = result_gives (candidate_order s a) _

pub answer_score_number : (t : Trainer) (x : Float) → (result_told (answer_score_of t x)).number ≡ first_refused (score_order t)
unfolding answer_score_of
answer_score_number t x = result_number (score_order t) _

-- 02, wish 10: "After 10, bad settings come first; then 27"
pub change_number : (t : Trainer) (s : Settings) → (result_told (change_of t s)).number ≡ first_refused (change_order t s)
unfolding change_of
change_number t s = result_number (change_order t s) _

-- ---- 20
abbrev answers : Result Trainer Refusal → ℕ
answers r = (result_told r).number

-- the two tests of a number against a bound are each other's contrary
room_is : (b n : ℕ) → ltb n b ≡ not (leb b n)
room_is b n = go (ltb n b) refl
  where
    go : (z : Bool) → ltb n b ≡ z → z ≡ not (leb b n)
    go true e = ap not (sym (lt-leb b n (ltb-true n b e)))
    go false e = ap not (sym (le-leb b n (ltb-false n b e)))

-- 20, or a step that is taken
abbrev full : Bool → ℕ
full b = cond b 0 (number_of FullTree)

phase1_number : (t : Trainer) (xs : List ℕ) → answers (phase1 t xs) ≡ full (not (leb 64 t.tree.splits))
unfolding phase1 result_told
phase1_number t xs = next answers (ltb t.tree.splits 64) refl refl ∙ ap full (room_is 64 t.tree.splits)

phase2_number : (t : Trainer) (xs : List ℕ) → answers (phase2 t xs) ≡ full (not (leb (used_in xs) 1 && leb 64 t.tree.splits))
unfolding phase2 result_told
phase2_number t xs =
    next answers (ltb 1 (used_in xs)) refl (next answers (ltb t.tree.splits 64) refl refl)
    ∙ ap (λ (z : Bool). cond z 0 (full (ltb t.tree.splits 64))) (room_is (used_in xs) 1)
    ∙ ap (λ (z : Bool). cond (not (leb (used_in xs) 1)) 0 (full z)) (room_is 64 t.tree.splits)
    ∙ go (leb (used_in xs) 1) (leb 64 t.tree.splits)
  where
    go : (x y : Bool) → cond (not x) 0 (full (not y)) ≡ full (not (x && y))
    go true y = refl
    go false y = refl

step_number : (t : Trainer) (xs : List ℕ) → answers (counts_step_of t xs) ≡ full (not (splits_on t xs && leb 64 t.tree.splits))
unfolding counts_step_of result_told
step_number t xs =
    next answers (eqb t.phase 1) (phase1_number t xs) (next answers (eqb t.phase 2) (phase2_number t xs) (next answers (eqb t.phase 3) refl refl))
    ∙ go (eqb t.phase 1) (eqb t.phase 2) (eqb t.phase 3) (leb (used_in xs) 1) (leb 64 t.tree.splits)
  where
    go : (one two three few all : Bool)
        → cond one (full (not all)) (cond two (full (not (few && all))) (cond three 0 0)) ≡ full (not ((one || (two && few)) && all))
    go true two three few all = refl
    go false true three few all = refl
    go false false true few all = refl
    go false false false few all = refl

pub answer_counts_number : (t : Trainer) (xs : List ℕ) → (result_told (answer_counts_of t xs)).number ≡ first_refused (answer_counts_order t xs)
unfolding answer_counts_of result_told first_refused
answer_counts_number t xs =
    next answers (accepted_of t)
    (next answers (wants_counts t.phase) (next answers (counts_hold t.tree xs) (step_number t xs) refl) refl) refl

-- ---- what a refused call leaves
pub answer_counts_keeps : (t : Trainer) (xs : List ℕ) → ((result_told (answer_counts_of t xs)).number ≡ 0 → ⊥) → left_after t (answer_counts_of t xs) ≡ t
answer_counts_keeps t xs = left_keeps t (answer_counts_of t xs)

pub answer_score_keeps : (t : Trainer) (x : Float) → ((result_told (answer_score_of t x)).number ≡ 0 → ⊥) → left_after t (answer_score_of t x) ≡ t
answer_score_keeps t x = left_keeps t (answer_score_of t x)

pub change_keeps : (t : Trainer) (s : Settings) → ((result_told (change_of t s)).number ≡ 0 → ⊥) → left_after t (change_of t s) ≡ t
change_keeps t s = left_keeps t (change_of t s)
