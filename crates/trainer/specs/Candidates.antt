-- 01, "Candidates are possible_improvements": the list, and the call that gives one of it.
use Rattle.std.specs.Prelude.{Bool, ◌&&◌, cond, List, [], ◌∷◌, ◌++◌, map, ℕ, length, get_or, ltb, ℤ, pos, neg_ℤ, ◌+ℤ◌, Float, Some, None, Result, Ok}
use Rattle.std.specs.Int.Signed.{le_z}
use Rattle.std.specs.Float.{nan, binary64}
use Rattle.std.specs.Float.Ieee.{add, neg, le}
use Rattle.refusal.specs.declared.Refusal.{Refusal}
use Rattle.refusal.specs.declared.Refusal.TheVariants.{BadSettings, NotAdmitted}
use Rattle.refusal.specs.Guards.{Check, check, checked}
use Rattle.remy.specs.declared.action.Action.{Action}
use Rattle.remy.specs.Action.{action_of, valid_of}
use Rattle.trainer.specs.declared.settings.Settings.{Settings}
use Rattle.trainer.specs.declared.candidates.Candidate.{Candidate}
use Rattle.trainer.specs.Settings.{multiplier_axis, increment_axis, delay_axis, settings_hold}

unfoldable pub flat_map : {A B : Type 0} → (A → List B) → List A → List B
flat_map f [] = []
flat_map f (x ∷ xs) = f x ++ flat_map f xs

unfoldable pub filter : {A : Type 0} → (A → Bool) → List A → List A
filter keep [] = []
filter keep (x ∷ xs) = cond (keep x) (x ∷ filter keep xs) (filter keep xs)

-- "each axis gives v, -v in turn"
abbrev pub changes : {A : Type 0} → (A → A) → List A → List A
changes {A} minus xs = flat_map (λ (v : A). v ∷ minus v ∷ []) xs

abbrev pub float_changes : List Float → List Float
float_changes xs = changes neg xs

abbrev pub whole_changes : List ℤ → List ℤ
whole_changes xs = changes neg_ℤ xs

-- an action changed on each axis
abbrev pub changed : Action → Float → ℤ → Float → Action
changed a m i d =
    action_of (add binary64 a.window_multiplier m) (a.window_increment +ℤ i) (add binary64 a.intersend_delay.0 d)

-- "multiplier outermost, then increment, then delay"
abbrev pub all_changes : Settings → Action → List Action
all_changes s a =
    flat_map (λ (m : Float). flat_map (λ (i : ℤ). map (λ (d : Float). changed a m i d) (float_changes (delay_axis 8 s)))
    (whole_changes (increment_axis 8 s))) (float_changes (multiplier_axis 8 s))

-- on each axis within min..max, both ends included
unfoldable pub inside_of : Settings → Action → Bool
inside_of s a =
    (le s.min_action.window_multiplier a.window_multiplier && le a.window_multiplier s.max_action.window_multiplier)
    && ((le_z s.min_action.window_increment a.window_increment && le_z a.window_increment s.max_action.window_increment)
    && (le s.min_action.intersend_delay.0 a.intersend_delay.0 && le a.intersend_delay.0 s.max_action.intersend_delay.0))

-- "sums outside min..max dropped"
unfoldable pub candidates_of : Settings → Action → List Action
unfolding flat_map filter inside_of
candidates_of s a = filter (inside_of s) (all_changes s a)

-- what reading past the end of the list gives
abbrev pub no_candidate : Action
no_candidate = action_of nan (pos 0) nan

-- "gives the list's length with candidate k, or with none where k is past the end"
unfoldable pub pick_of : List Action → ℕ → Candidate
pick_of xs k = record { length = length xs; action = cond (ltb k (length xs)) (Some (get_or xs k no_candidate)) None }

-- "2, 1 in the candidate call"
abbrev pub candidate_order : Settings → Action → List Check
candidate_order s a = check (settings_hold s) BadSettings ∷ check (valid_of a) NotAdmitted ∷ []

unfoldable pub candidate_of : Settings → Action → ℕ → Result Candidate Refusal
unfolding pick_of
candidate_of s a k = checked (candidate_order s a) (Ok (pick_of (candidates_of s a) k))
