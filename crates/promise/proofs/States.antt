-- The trainer that a state of the plain trainer stands for, and which states are valid. Assumes nothing.
use mathlib.Core.Path.{◌≡◌}
use mathlib.Core.Bool.{true, false}
use mathlib.Core.List.{[]}
use Prim.Native.Nat.{ℕ, ◌+◌, ◌<◌, ◌≤◌}
use lib.ListN.{length}
use lib.Ieee.{Float, lt}
use Rattle.std.specs.Prelude.{Some, None, Result}
use Rattle.refusal.specs.declared.Refusal.{Refusal}
use Rattle.rule_tree.specs.declared.RuleTree.{RuleTree}
use Rattle.trainer.specs.declared.settings.Settings.{Settings}
use Rattle.trainer.specs.declared.Trainer.{Trainer}
use Rattle.trainer.specs.Settings.{settings_hold}
use Rattle.trainer.specs.State.{stand, at_leaf_of, trying}
use Rattle.promise.specs.PlainCandidates.{improvements}
use Rattle.promise.specs.PlainTree.{Tree, is_leaf_of, rule_at}
use Rattle.promise.specs.PlainTrainer.{State, Phase, Kept, phase1, phase2, phase3, phase4, phase5, phase6, phase7, Outcome, kept_number, kept_score_of}
use Rattle.promise.specs.Demand3.{Step, after_call}
use Rattle.promise.proofs.Embed.{embed_tree, ValidTree}

abbrev pub embed_in : Settings → RuleTree → ℕ → ℕ → Phase → Trainer
embed_in s t i r phase1 = stand s t 1 i r
embed_in s t i r phase2 = stand s t 2 i r
embed_in s t i r phase3 = stand s t 3 i r
embed_in s t i r (phase4 leaf) = at_leaf_of s t i r leaf
embed_in s t i r (phase5 leaf best k kept) = trying s t i r leaf best k (kept_number kept) (kept_score_of kept)
embed_in s t i r phase6 = stand s t 6 i r
embed_in s t i r phase7 = stand s t 7 i r

abbrev pub embed : State → Trainer
embed st = embed_in st.settings (embed_tree st.tree) st.stage st.round st.phase

-- the trainer x stands for the state st
abbrev pub Embeds : Trainer → State → Type 0
Embeds x st = x ≡ embed st

-- what a call that saves nothing does to the trainer that a state stands for, and what it does where the plain trainer's call does o
abbrev pub answer_step : State → Result Trainer Refusal → Step
answer_step st r = after_call (embed st) r 0 []

abbrev pub plain_step : Outcome → Step
plain_step o = record { trainer = embed o.state; refused = o.refused; size = length o.saved; saved = o.saved }

-- ---- 01, "Accepted"
-- "stage 1..=rule_splits, round 0 in phases 1, 2"
pub record Splitting (s : Settings) (i r : ℕ) : Type 0 where
  pub later : 1 ≤ i
  pub stage : i ≤ s.rule_splits
  pub round : r ≡ 0

-- "stage <= rule_splits, round < rounds in 3 to 5"
pub record Tuning (s : Settings) (i r : ℕ) : Type 0 where
  pub stage : i ≤ s.rule_splits
  pub round : r < s.optimization_rounds_per_split

-- "stage rule_splits+1, round 0 in 6, 7"
pub record Ending (s : Settings) (i r : ℕ) : Type 0 where
  pub stage : i ≡ s.rule_splits + 1
  pub round : r ≡ 0

-- "in 4, 5 an unmarked leaf"
pub record AtLeaf (t : Tree) (i : ℕ) : Type 0 where
  pub leaf : is_leaf_of t i ≡ true
  pub unmarked : (rule_at t i).marked ≡ false

-- "kept below k with score above best"
abbrev pub KeptHolds : Float → ℕ → Kept → Type 0
KeptHolds best k None = 0 ≤ k
KeptHolds best k (Some (j, y)) = (j < k) × (lt best y ≡ true)

-- "in 5 k below the list's length"
pub record Trying (s : Settings) (t : Tree) (leaf : ℕ) (best : Float) (k : ℕ) (kept : Kept) : Type 0 where
  pub below : k < length (improvements s (rule_at t leaf).action)
  pub held : KeptHolds best k kept

abbrev pub ValidPhase : Settings → Tree → ℕ → ℕ → Phase → Type 0
ValidPhase s t i r phase1 = Splitting s i r
ValidPhase s t i r phase2 = Splitting s i r
ValidPhase s t i r phase3 = Tuning s i r
ValidPhase s t i r (phase4 leaf) = Tuning s i r × AtLeaf t leaf
ValidPhase s t i r (phase5 leaf best k kept) = Tuning s i r × (AtLeaf t leaf × Trying s t leaf best k kept)
ValidPhase s t i r phase6 = Ending s i r
ValidPhase s t i r phase7 = Ending s i r

pub record ValidState (st : State) : Type 0 where
  pub settings : settings_hold st.settings ≡ true
  pub tree : ValidTree st.tree
  pub box : st.tree.ends ≡ st.settings.ends
  pub phase : ValidPhase st.settings st.tree st.stage st.round st.phase
