-- Document 01's plain trainer: its state, one step for each phase, and its record.
use Rattle.std.specs.Prelude.{Bool, true, false, not, ◌&&◌, cond, List, [], ◌∷◌, ◌++◌, ℕ, ◌+◌, length, get_or, eqb, ltb, leb, pos, Float, Option, Some, None}
use Rattle.std.specs.Float.{binary64}
use Rattle.std.specs.Float.Ieee.{div, eq, lt, le, of_int}
use Rattle.remy.specs.declared.action.Action.{Action}
use Rattle.remy.specs.Cube as cube
use Rattle.trainer.specs.declared.settings.Settings.{Settings}
use Rattle.promise.specs.PlainCandidates.{improvements, no_candidate}
use Rattle.promise.specs.PlainTree.{Tree, root_leaf, rule_at, split, set_action, mark, clear_marks, leaves, unmarked_leaves, most_used, used, sum, counts_taken}
use Rattle.promise.specs.PlainSettings.{settings_taken}
use Rattle.promise.specs.PlainRecord.{joined, byte, u16, u32, bits8, settings_part, ends_part, tree_part}

-- "the kept candidate with its score, or none": its number, then the score
abbrev pub Kept : Type 0
Kept = Option (ℕ × Float)

-- "phase; in phases 4 and 5 the leaf; in phase 5 also best, candidate k, and the kept candidate with its score, or none"
pub data Phase : Type 0 where
  phase1 phase2 phase3 : Phase
  phase4 : ℕ → Phase
  phase5 : ℕ → Float → ℕ → Kept → Phase
  phase6 phase7 : Phase

-- "State: settings, tree, stage, round, phase"
pub record State : Type 0 where
  pub settings : Settings
  pub tree : Tree
  pub stage : ℕ
  pub round : ℕ
  pub phase : Phase

abbrev pub at : Settings → Tree → ℕ → ℕ → Phase → State
at s t i round phase = record { settings = s; tree = t; stage = i; round = round; phase = phase }

-- "Begin stage i, round 0: above rule_splits phase 6; .. else phase 1", for an i above 0
unfoldable pub begin_later_stage : Settings → Tree → ℕ → State
begin_later_stage s t i = cond (ltb s.rule_splits i) (at s t i 0 phase6) (at s t i 0 phase1)

-- "Begin round: phase 3 if round < rounds, else begin stage i+1"
unfoldable pub begin_round : Settings → Tree → ℕ → ℕ → State
unfolding begin_later_stage
begin_round s t i round = cond (ltb round s.optimization_rounds_per_split) (at s t i round phase3) (begin_later_stage s t (i + 1))

-- "Start: default leaf, then begin stage 0", which no rule_splits is below: "i = 0 begin round"; the leaf has the upper ends of the settings
abbrev pub start : Settings → State
start s = begin_round s (root_leaf s.ends s.default_action) 0 0

-- what a call answers: a refusal's number or 0, and the bytes that it saved
pub record Outcome : Type 0 where
  pub state : State
  pub refused : ℕ
  pub saved : List ℕ

abbrev pub refuse : ℕ → State → Outcome
refuse n st = record { state = st; refused = n; saved = [] }

abbrev pub become : State → Outcome
become st = record { state = st; refused = 0; saved = [] }

-- "split the most used", or 20: "a 65th split"
unfoldable pub split_chosen : State → Option ℕ → (Tree → State) → Outcome
split_chosen st None then = refuse 20 st
split_chosen st (Some i) then = cond (ltb (length st.tree.splits) 64) (become (then (split st.tree i))) (refuse 20 st)

abbrev pub split_most_used : State → List ℕ → (Tree → State) → Outcome
split_most_used st counts then = split_chosen st (most_used counts (leaves st.tree)) then

-- "1, counts: split the most used; if drill is on and at most one entry is above 0, phase 2, else begin round"
abbrev pub answer1 : State → List ℕ → Outcome
answer1 st counts =
    split_most_used st counts
    (λ t. cond (st.settings.drill_down && leb (used counts) 1) (at st.settings t st.stage st.round phase2)
    (begin_round st.settings t st.stage st.round))

-- "2, counts: more than one above 0, begin round; else split the most used, stay"
abbrev pub answer2 : State → List ℕ → Outcome
answer2 st counts =
    cond (ltb 1 (used counts)) (become (begin_round st.settings st.tree st.stage st.round))
    (split_most_used st counts (λ t. at st.settings t st.stage st.round phase2))

-- "clear marks, round+1, begin round"
abbrev pub next_round : State → State
next_round st = begin_round st.settings (clear_marks st.tree) st.stage (st.round + 1)

-- "3, counts: most used unmarked leaf. None, or its count is 0 and the total isn't: clear marks, round+1, begin round. Else phase 4"
unfoldable pub answer3 : State → List ℕ → Option ℕ → State
answer3 st counts None = next_round st
answer3 st counts (Some i) =
    cond (eqb (get_or counts i 0) 0 && not (eqb (sum counts) 0)) (next_round st)
    (at st.settings st.tree st.stage st.round (phase4 i))

-- "mark, phase 3"
abbrev pub mark_and_go_on : State → Tree → ℕ → State
mark_and_go_on st t i = at st.settings (mark t i) st.stage st.round phase3

abbrev pub candidates : State → Tree → ℕ → List Action
candidates st t i = improvements st.settings (rule_at t i).action

-- "Phase 5 from k = 0; no candidates: mark, phase 3"
unfoldable pub try_all : State → Tree → ℕ → Float → State
try_all st t i best =
    cond (eqb (length (candidates st t i)) 0) (mark_and_go_on st t i)
    (at st.settings t st.stage st.round (phase5 i best 0 None))

-- "kept if above best and no lower than the one kept"
unfoldable pub keep : Float → ℕ → Float → Kept → Kept
keep best k x None = cond (lt best x) (Some (k, x)) None
keep best k x (Some (j, y)) = cond (lt best x && le y x) (Some (k, x)) (Some (j, y))

-- "After the last: one kept becomes the action, its score best, new candidates from 0 (none: mark, phase 3); none kept: mark, phase 3"
unfoldable pub after_last : State → ℕ → Kept → State
unfolding try_all
after_last st i None = mark_and_go_on st st.tree i
after_last st i (Some (j, y)) = try_all st (set_action st.tree i (get_or (candidates st st.tree i) j no_candidate)) i y

-- "5, score of candidate k"
unfoldable pub answer5 : State → ℕ → Float → ℕ → Kept → State
unfolding after_last
answer5 st i best k kept =
    cond (ltb (k + 1) (length (candidates st st.tree i)))
    (at st.settings st.tree st.stage st.round (phase5 i best (k + 1) kept)) (after_last st i kept)

-- an answer with counts: 21, 4, 20
unfoldable pub counted : State → List ℕ → Phase → Outcome
unfolding answer3 split_chosen
counted st counts phase1 = cond (counts_taken st.tree counts) (answer1 st counts) (refuse 4 st)
counted st counts phase2 = cond (counts_taken st.tree counts) (answer2 st counts) (refuse 4 st)
counted st counts phase3 =
    cond (counts_taken st.tree counts) (become (answer3 st counts (most_used counts (unmarked_leaves st.tree)))) (refuse 4 st)
counted st counts (phase4 i) = refuse 21 st
counted st counts (phase5 i best k kept) = refuse 21 st
counted st counts phase6 =
    cond (counts_taken st.tree counts) (become (at st.settings st.tree st.stage st.round phase7)) (refuse 4 st)
counted st counts phase7 = refuse 21 st

-- an answer with a score: 21
unfoldable pub scored : State → Float → Phase → Outcome
unfolding try_all answer5 keep
scored st x phase1 = refuse 21 st
scored st x phase2 = refuse 21 st
scored st x phase3 = refuse 21 st
scored st x (phase4 i) = become (try_all st st.tree i x)
scored st x (phase5 i best k kept) = become (answer5 st i best k (keep best k x kept))
scored st x phase6 = refuse 21 st
scored st x phase7 = refuse 21 st

-- ---- 02, wish 10: new settings in a running training
-- "if an upper end differs"
abbrev pub same_ends_of : Settings → Settings → Bool
same_ends_of s u =
    eq (cube.ack s.ends) (cube.ack u.ends)
    && (eq (cube.send s.ends) (cube.send u.ends) && eq (cube.ratio s.ends) (cube.ratio u.ends))

-- "if the phase is 6 or 7, or if in phases 3 to 5 the round isn't below the new rounds"
unfoldable pub goes_on_of : State → Settings → Phase → Bool
goes_on_of st s phase1 = true
goes_on_of st s phase2 = true
goes_on_of st s phase3 = ltb st.round s.optimization_rounds_per_split
goes_on_of st s (phase4 i) = ltb st.round s.optimization_rounds_per_split
goes_on_of st s (phase5 i best k kept) = ltb st.round s.optimization_rounds_per_split
goes_on_of st s phase6 = false
goes_on_of st s phase7 = false

-- "27 is given if an upper end differs, if the stage is above the new rule_splits, ..."
unfoldable pub taken : State → Settings → Bool
unfolding goes_on_of
taken st s = same_ends_of st.settings s && (leb st.stage s.rule_splits && goes_on_of st s st.phase)

-- "In phases 4 and 5 it drops the candidates and returns to phase 4 for the same leaf; other phases stay"
unfoldable pub phase_after : Phase → Phase
phase_after phase1 = phase1
phase_after phase2 = phase2
phase_after phase3 = phase3
phase_after (phase4 i) = phase4 i
phase_after (phase5 i best k kept) = phase4 i
phase_after phase6 = phase6
phase_after phase7 = phase7

-- "takes new settings with the same upper ends and keeps tree, stage and round"; "bad settings come first; then 27"
unfoldable pub changed : State → Settings → Outcome
unfolding taken phase_after
changed st s =
    cond (settings_taken s)
    (cond (taken st s) (become (at s st.tree st.stage st.round (phase_after st.phase))) (refuse 27 st)) (refuse 2 st)

-- ---- the record, "its state written as above"
unfoldable pub kept_number : Kept → ℕ
kept_number None = 65535
kept_number (Some (j, y)) = j

unfoldable pub kept_score_of : Kept → Float
kept_score_of None = cube.zero
kept_score_of (Some (j, y)) = y

-- "phase byte; u32 stage, round; u16 leaf; best 8; u16 k; u16 kept (65535 none); kept's score 8"
abbrev pub state_bytes : State → ℕ → ℕ → Float → ℕ → Kept → List ℕ
state_bytes st phase i best k kept =
    joined
    (byte phase ∷ u32 st.stage ∷ u32 st.round ∷ u16 i ∷ bits8 best ∷ u16 k ∷ u16 (kept_number kept) ∷ bits8 (kept_score_of kept) ∷ [])

-- "Fields a phase doesn't use are 0, kept 65535"
unfoldable pub phase_bytes : State → Phase → List ℕ
unfolding kept_number kept_score_of
phase_bytes st phase1 = state_bytes st 1 0 cube.zero 0 None
phase_bytes st phase2 = state_bytes st 2 0 cube.zero 0 None
phase_bytes st phase3 = state_bytes st 3 0 cube.zero 0 None
phase_bytes st (phase4 i) = state_bytes st 4 i cube.zero 0 None
phase_bytes st (phase5 i best k kept) = state_bytes st 5 i best k kept
phase_bytes st phase6 = state_bytes st 6 0 cube.zero 0 None
phase_bytes st phase7 = state_bytes st 7 0 cube.zero 0 None

-- the version byte, 3, and what follows it
abbrev pub body : State → List ℕ
body st = joined (byte 3 ∷ settings_part st.settings ∷ ends_part st.settings ∷ tree_part st.tree ∷ phase_bytes st st.phase ∷ [])

-- "u32 length of all that follows"
abbrev pub record_bytes : State → List ℕ
record_bytes st = u32 (length (body st)) ++ body st

-- ---- calls
pub data Call : Type 0 where
  counts : List ℕ → Call
  score : Float → Call
  reload : List ℕ → Call
  change : Settings → Call

-- "A reload leaves it too; its record is its state written as above, and 9 is due where the buffer is shorter than that"
unfoldable pub step : State → Call → Outcome
unfolding counted scored changed
step st (counts xs) = counted st xs st.phase
step st (score x) = scored st x st.phase
step st (reload buffer) =
    cond (leb (length (record_bytes st)) (length buffer)) (record { state = st; refused = 0; saved = record_bytes st }) (refuse 9 st)
step st (change s) = changed st s

-- ---- the question: "the phase's kind, with leaf and action in 4 and 5, and progress stage / (rule_splits + 1) in floats"
pub data Asked : Type 0 where
  wants_counts : Float → Asked
  wants_score : ℕ → Action → Float → Asked
  finished : Float → Asked

abbrev pub progress : State → Float
progress st = div binary64 (of_int binary64 (pos st.stage)) (of_int binary64 (pos (st.settings.rule_splits + 1)))

unfoldable pub ask : State → Phase → Asked
ask st phase1 = wants_counts (progress st)
ask st phase2 = wants_counts (progress st)
ask st phase3 = wants_counts (progress st)
ask st (phase4 i) = wants_score i (rule_at st.tree i).action (progress st)
ask st (phase5 i best k kept) = wants_score i (get_or (candidates st st.tree i) k no_candidate) (progress st)
ask st phase6 = wants_counts (progress st)
ask st phase7 = finished (progress st)

abbrev pub question : State → Asked
question st = ask st st.phase
