-- 01, "Refused for the input, refused for the state": what it is to refuse by a list of checks, and the checks of those calls whose definition is no such list.
use Rattle.std.specs.Prelude.{◌≡◌, Bool, true, false, not, ◌&&◌, ◌||◌, List, [], ◌∷◌, ℕ, length, eqb, leb, Float, Option, None, Some, Result, Ok, Err}
use Rattle.std.specs.Option.{is_some}
use Rattle.refusal.specs.declared.Refusal.{Refusal}
use Rattle.refusal.specs.declared.Refusal.TheVariants.{BadCounts, BadSettings, FullTree, NoDraw, NoLeaf, NoRule, NotAdmitted, NotAsked, NotGrown}
use Rattle.refusal.specs.Guards.{Check, check, checked, first_refused}
use Rattle.quantities.specs.Time.{moment, read_moment, admitted}
use Rattle.remy.specs.declared.action.Action.{Action}
use Rattle.remy.specs.declared.point.Point.{Point}
use Rattle.remy.specs.Action.{valid_of}
use Rattle.remy.specs.Cube.{root_of, contains_of}
use Rattle.rule_tree.specs.declared.Node.{Node}
use Rattle.rule_tree.specs.declared.RuleTree.{RuleTree}
use Rattle.rule_tree.specs.Nodes.{node_count, most_splits}
use Rattle.rule_tree.specs.Grown.{grown_of}
use Rattle.rule_tree.specs.Counts.{counts_hold, used_in}
use Rattle.rule_tree.specs.Calls.{leaf_in}
use Rattle.rule_tree_view.specs.View.{parents_in, lent_tree}
use Rattle.trainer.specs.declared.Trainer.{Trainer}
use Rattle.trainer.specs.State.{accepted_of}
use Rattle.trainer.specs.Calls.{wants_counts}
use Rattle.sender.specs.declared.RepeatMode.{RepeatMode}
use Rattle.sender.specs.declared.RepeatMode.TheVariants.{Off, Always, Between}
use Rattle.sender.specs.declared.Sender.{Sender}
use Rattle.sender.specs.Memory.{remembered, point_of}
use Rattle.sender.specs.Sender.{mode_holds}
use Rattle.refusals.specs.Told.{result_told}

-- what the caller of a call that hands a value back then has: that value, or where the call is refused its own still
unfoldable pub left_after : {A : Type 0} → A → Result A Refusal → A
left_after came (Ok x) = x
left_after came (Err r) = came

-- r is refused by the first check that fails, and then leaves what the caller had as it came; where none fails it hands back the value after
pub record Guarded {A : Type 0} (ts : List Check) (after : A) (r : Result A Refusal) : Type 0 where
  pub first : (result_told r).number ≡ first_refused ts
  pub answers : r ≡ checked ts (Ok after)
  pub keeps : (came : A) → ((result_told r).number ≡ 0 → ⊥) → left_after came r ≡ came

-- ---- the view
-- "node slice, not grown from the root leaf by splits"
abbrev pub view_order : List Node → Point → ℕ → Action → List Check
view_order nodes ends leaf a =
    check (eqb (length nodes) (node_count (parents_in nodes))) NotGrown ∷ check (grown_of (lent_tree nodes ends)) NotGrown
    ∷ check (leaf_in (lent_tree nodes ends) leaf) NoLeaf ∷ check (valid_of a) NotAdmitted ∷ []

-- ---- the trainer: "21, 4, 20"
-- the counts make a trainer split: in phase 1, and in phase 2 with at most one count above 0
abbrev pub splits_on : Trainer → List ℕ → Bool
splits_on t xs = eqb t.phase 1 || (eqb t.phase 2 && leb (used_in xs) 1)

abbrev pub answer_counts_order : Trainer → List ℕ → List Check
answer_counts_order t xs =
    check (accepted_of t) NotGrown ∷ check (wants_counts t.phase) NotAsked ∷ check (counts_hold t.tree xs) BadCounts
    ∷ check (not (splits_on t xs && leb most_splits t.tree.splits)) FullTree ∷ []

-- ---- moments and the sender: "1, 22, 5"
abbrev pub admit_order : Float → List Check
admit_order x = check (admitted x) NotAdmitted ∷ []

abbrev pub made_order : RepeatMode → List Check
made_order mode = check (mode_holds mode) BadSettings ∷ []

-- "5 a due draw absent or outside lo..=hi (one not due is ignored; off and always n, none is due)"
unfoldable pub draw_holds : RepeatMode → Option ℕ → Bool
draw_holds Off draw = true
draw_holds (Always n) draw = true
draw_holds (Between lo hi) None = false
draw_holds (Between lo hi) (Some n) = leb lo n && leb n hi

-- the point that an ack makes
abbrev pub ack_point : Sender → Float → Float → Point
ack_point s sent received = point_of (remembered s (moment (read_moment sent)) (moment (read_moment received)))

-- "With a repeat pending its action is used, no lookup"
abbrev pub ack_order : RuleTree → Sender → Float → Float → Option ℕ → List Check
ack_order t s sent received draw =
    check (grown_of t) NotGrown ∷ check (admitted sent && admitted received) NotAdmitted
    ∷ check (is_some s.next_change || contains_of (root_of t.ends) (ack_point s sent received)) NoRule
    ∷ check (is_some s.next_change || draw_holds s.repeat_actions draw) NoDraw ∷ []

abbrev pub send_order : Float → List Check
send_order at = check (admitted at) NotAdmitted ∷ []

abbrev pub wake_order : Float → List Check
wake_order now = check (admitted now) NotAdmitted ∷ []
