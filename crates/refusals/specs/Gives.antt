-- 01: what each call whose answer is an enum gives where it is taken.
use Rattle.std.specs.Prelude.{Bool, false, not, cond, List, ℕ, length, get_or, eqb, ltb, Float, Option, None, Some}
use Rattle.quantities.specs.declared.Time.{Time}
use Rattle.quantities.specs.declared.TimeSpan.{TimeSpan}
use Rattle.quantities.specs.Time.{moment, read_moment, moved, later_of}
use Rattle.remy.specs.declared.action.Action.{Action}
use Rattle.remy.specs.declared.point.Point.{Point}
use Rattle.remy.specs.declared.cube.Cube.{Cube}
use Rattle.remy.specs.Action.{window_of, rule_of}
use Rattle.remy.specs.Cube.{root_of, contains_of}
use Rattle.rule_tree.specs.declared.Node.{Node}
use Rattle.rule_tree.specs.declared.RuleTree.{RuleTree}
use Rattle.rule_tree.specs.declared.AugmentedRuleTree.{AugmentedRuleTree}
use Rattle.rule_tree.specs.Lists.{count_below}
use Rattle.rule_tree.specs.Nodes.{node_at_of, is_leaf_of, action_in, slots}
use Rattle.rule_tree.specs.Cubes.{cube_of}
use Rattle.rule_tree.specs.Walk.{leaf_of}
use Rattle.rule_tree.specs.Counts.{used_in, most_used}
use Rattle.rule_tree.specs.Equal.{trees_equal}
use Rattle.rule_tree_view.specs.View.{lent_tree}
use Rattle.trainer.specs.declared.settings.Settings.{Settings}
use Rattle.trainer.specs.declared.candidates.Candidate.{Candidate}
use Rattle.trainer.specs.declared.Trainer.{Trainer}
use Rattle.trainer.specs.declared.Question.{Question}
use Rattle.trainer.specs.declared.Question.TheVariants as question
use Rattle.trainer.specs.Candidates.{candidates_of, no_candidate}
use Rattle.trainer.specs.State.{leaf_action}
use Rattle.trainer.specs.Calls.{progress_of}
use Rattle.record.specs.Write.{record_of}
use Rattle.panel_lines.specs.Panel.{text_of}
use Rattle.sender.specs.declared.Repeat.{Repeat}
use Rattle.sender.specs.declared.RepeatMode.{RepeatMode}
use Rattle.sender.specs.declared.Sender.{Sender}
use Rattle.sender.specs.Acks.{window_in, window_now}
use Rattle.sender.specs.Sender.{fresh_sender, ack_of, left_by}
use Rattle.sender_face.specs.declared.Answer.{Answer}
use Rattle.refusals.specs.Order.{ack_point}

-- ---- the tree
abbrev pub domain_gives : RuleTree → ℕ → Option Cube
domain_gives t i = Some (cube_of t i)

-- a value of the point's leaf, or none outside the root box
abbrev pub at_leaf_of : {A : Type 0} → RuleTree → Point → (ℕ → A) → Option A
at_leaf_of t p f = cond (contains_of (root_of t.ends) p) (Some (f (leaf_of t p))) None

abbrev pub lookup_gives : RuleTree → Point → Option Action
lookup_gives t p = at_leaf_of t p (λ i. action_in (node_at_of t.nodes i))

-- "lookup through the tree with one leaf's action replaced"
abbrev pub replaced_gives : AugmentedRuleTree → Point → Option Action
replaced_gives a p = at_leaf_of a.tree p (λ i. cond (eqb i a.leaf) a.action (action_in (node_at_of a.tree.nodes i)))

abbrev pub view_gives : List Node → Point → ℕ → Action → Point → Option Action
view_gives nodes ends leaf a p = replaced_gives (record { tree = lent_tree nodes ends; leaf = leaf; action = a }) p

-- "a tally that adds one to the reached leaf's entry"
abbrev pub tally_gives : RuleTree → Point → Option ℕ
tally_gives t p = at_leaf_of t p (λ i. i)

abbrev pub parents_gives : RuleTree → Option ℕ
parents_gives t = Some (count_below slots (λ i. not (is_leaf_of t.nodes i)))

abbrev pub used_gives : List ℕ → Option ℕ
used_gives xs = Some (used_in xs)

-- "The answer is the node", "or none if all are marked"
abbrev pub most_used_gives : Bool → RuleTree → List ℕ → Option ℕ
most_used_gives unmarked t xs = most_used t.nodes xs unmarked (length xs)

abbrev pub equal_gives : RuleTree → RuleTree → Option Bool
equal_gives a b = Some (trees_equal a b)

-- ---- the trainer
-- "the phase's kind, with leaf and action in 4 and 5, and progress"
abbrev pub question_gives : Trainer → Option Question
question_gives t =
    Some
    (cond (eqb t.phase 4) (question.Score t.leaf (leaf_action t) (progress_of t))
    (cond (eqb t.phase 5) (question.Score t.leaf (get_or (candidates_of t.settings (leaf_action t)) t.k no_candidate) (progress_of t))
    (cond (eqb t.phase 7) (question.Done (progress_of t)) (question.Counts (progress_of t)))))

-- "the list's length with candidate k, or with none where k is past the end"
abbrev pub candidate_gives : Settings → Action → ℕ → Option Candidate
candidate_gives s a k =
    let xs = candidates_of s a in
    Some (record { length = length xs; action = cond (ltb k (length xs)) (Some (get_or xs k no_candidate)) None })

-- ---- the record and the panel: the size
abbrev pub save_gives : Trainer → Option ℕ
save_gives t = Some (length (record_of t))

abbrev pub panel_gives : List ℕ → Option ℕ
panel_gives input = Some (length (text_of input))

-- ---- moments and the sender
abbrev pub admit_gives : Float → Option Time
admit_gives x = Some (moment (read_moment x))

abbrev pub made_gives : RepeatMode → Option Sender
made_gives mode = Some (fresh_sender mode)

-- "With a repeat pending its action is used, no lookup"
unfoldable pub action_used : Option Repeat → Action → Action
action_used None found = found
action_used (Some r) found = r.action

abbrev pub ack_action : RuleTree → Sender → Float → Float → Action
ack_action t s sent received = action_used s.next_change (action_in (node_at_of t.nodes (leaf_of t (ack_point s sent received))))

-- 02, 6: whether that action clips the window that the sender held
abbrev pub ack_clips : RuleTree → Sender → Float → Float → Bool
ack_clips t s sent received = (rule_of (ack_action t s sent received) s.window).clipped

abbrev pub handed : ℕ → Bool → Answer
handed window clipped = record { window = window; clipped = clipped }

-- "The answer is 0 while a send stands, else the window": of the sender that is left
abbrev pub ack_gives : RuleTree → Sender → Float → Float → Option ℕ → Option Answer
ack_gives t s sent received draw = Some (handed (window_now (left_by s (ack_of t s sent received draw))) (ack_clips t s sent received))

-- the same window, from the action that the ack uses
abbrev pub ack_window : RuleTree → Sender → Float → Float → Option Answer
ack_window t s sent received =
    Some (handed (window_in s.last_send (window_of (ack_action t s sent received) s.window)) (ack_clips t s sent received))

-- "so 0 after a send", which clips nothing
abbrev pub send_gives : Option Answer
send_gives = Some (handed 0 false)

-- "Next wake: the greater of now and send + wait, or none"
unfoldable pub wake_after : Option Time → TimeSpan → Time → Option Time
wake_after None wait now = None
wake_after (Some sent) wait now = Some (later_of now (moved sent wait))

abbrev pub wake_gives : Sender → Float → Option Time
wake_gives s now = wake_after s.last_send s.intersend_delay (moment (read_moment now))
