-- Demand 3: what is compared and claimed over every list of calls.
use Rattle.std.specs.Prelude.{◌≡◌, true, false, ◌&&◌, ◌≢◌, List, [], ◌∷◌, ◌++◌, map, ℕ, length, take, T, Float, Option, Some, None, Result, Ok, Err}
use Rattle.refusal.specs.declared.Refusal.{Refusal}
use Rattle.refusal.specs.Numbers.{number_of}
use Rattle.quantities.specs.Time.{moment}
use Rattle.remy.specs.declared.point.Point.{Point}
use Rattle.remy.specs.Cube.{root_of, contains_of}
use Rattle.rule_tree.specs.declared.RuleTree.{RuleTree}
use Rattle.rule_tree.specs.Nodes.{node_at_of, action_in}
use Rattle.rule_tree.specs.Cubes.{cube_of}
use Rattle.rule_tree.specs.Calls.{leaf_in, lookup_of}
use Rattle.trainer.specs.declared.settings.Settings.{Settings}
use Rattle.trainer.specs.declared.Trainer.{Trainer}
use Rattle.trainer.specs.declared.Question.{Question}
use Rattle.trainer.specs.declared.Question.TheVariants as question
use Rattle.trainer.specs.Calls.{started, start_of, question_of, answer_counts_of, answer_score_of}
use Rattle.trainer.specs.Change.{change_of}
use Rattle.record.specs.Write.{record_of}
use Rattle.record.specs.Calls.{save_of, buffer_after, load_of}
use Rattle.sender.specs.declared.Sender.{Sender}
use Rattle.sender.specs.SenderCall.{SenderCall, ack, send, tick, over}
use Rattle.promise.specs.PlainTree.{Tree, is_leaf_of, rule_at}
use Rattle.promise.specs.PlainTrainer as plain
use Rattle.promise.specs.PlainSender.{PlainSender, cube_in, pending_now, window_held, state_of, admitted, read_as, ack_point}
use Rattle.promise.specs.SenderRuns.{event, SenderStep, sender_step, sender_events, sender_end, plain_start, plain_sender_events, plain_sender_end, AckDoes}

-- ---- the trainer's calls, as their contracts have them
pub record Step : Type 0 where
  pub trainer : Trainer
  pub refused : ℕ
  pub size : ℕ
  pub saved : List ℕ

-- "Each call gets the trainer that the last one returned, or after a refusal the one that call got"
unfoldable pub after_call : Trainer → Result Trainer Refusal → ℕ → List ℕ → Step
after_call t (Ok u) n bytes = record { trainer = u; refused = 0; size = n; saved = bytes }
after_call t (Err r) n bytes = record { trainer = t; refused = number_of r; size = n; saved = bytes }

-- "A reload is a save into a lent buffer, then a load of exactly the bytes written"; "with a short buffer it is refused with 9 and the trainer stays"
unfoldable pub reloaded : Trainer → List ℕ → Result ℕ Refusal → Step
unfolding after_call
reloaded t buffer (Ok n) =
    let bytes = take n (buffer_after t buffer (Ok n)) in
    after_call t (load_of bytes) n bytes
reloaded t buffer (Err r) = after_call t (Err r) 0 []

unfoldable pub step_of : Trainer → plain.Call → Step
unfolding reloaded after_call
step_of t (plain.counts xs) = after_call t (answer_counts_of t xs) 0 []
step_of t (plain.score x) = after_call t (answer_score_of t x) 0 []
step_of t (plain.reload buffer) = reloaded t buffer (save_of t buffer)
step_of t (plain.change s) = after_call t (change_of t s) 0 []

-- what is compared of a call: its refusal's number or 0, the size and the bytes of what it saved, and the question after it
pub record Event : Type 0 where
  pub refused : ℕ
  pub size : ℕ
  pub saved : List ℕ
  pub asks : Result Question Refusal

unfoldable pub events_of : Trainer → List plain.Call → List Event
unfolding step_of
events_of t [] = []
events_of t (c ∷ cs) =
    let o = step_of t c in
    record { refused = o.refused; size = o.size; saved = o.saved; asks = question_of o.trainer } ∷ events_of o.trainer cs

unfoldable pub end_of : Trainer → List plain.Call → Trainer
unfolding step_of
end_of t [] = t
end_of t (c ∷ cs) = end_of (step_of t c).trainer cs

-- ---- the plain trainer's
unfoldable pub shown_as : plain.Asked → Question
shown_as (plain.wants_counts x) = question.Counts x
shown_as (plain.wants_score i a x) = question.Score i a x
shown_as (plain.finished x) = question.Done x

unfoldable pub plain_events : plain.State → List plain.Call → List Event
unfolding shown_as
plain_events st [] = []
plain_events st (c ∷ cs) =
    let o = plain.step st c in
    record { refused = o.refused; size = length o.saved; saved = o.saved; asks = Ok (shown_as (plain.question o.state)) }
    ∷ plain_events o.state cs

unfoldable pub plain_end_of : plain.State → List plain.Call → plain.State
plain_end_of st [] = st
plain_end_of st (c ∷ cs) = plain_end_of (plain.step st c).state cs

-- ---- the trees on the way, "the trainer's before the first call and after each": tree k is the one after k calls, the last for any later k
abbrev pub tree_after : Settings → List plain.Call → ℕ → RuleTree
tree_after s cs k = (end_of (started s) (take k cs)).tree

abbrev pub plain_tree_after : Settings → List plain.Call → ℕ → Tree
plain_tree_after s cs k = (plain_end_of (plain.start s) (take k cs)).tree

-- p lies in leaf i and in no other, and finds its action
pub record InLeaf (t : RuleTree) (p : Point) (i : ℕ) : Type 0 where
  pub leaf : leaf_in t i ≡ true
  pub inside : contains_of (cube_of t i) p ≡ true
  pub only : (j : ℕ) → leaf_in t j ≡ true → contains_of (cube_of t j) p ≡ true → j ≡ i
  pub found : lookup_of t p ≡ Ok (Some (action_in (node_at_of t.nodes i)))

-- p lies in no leaf, and finds none
pub record InNoLeaf (t : RuleTree) (p : Point) : Type 0 where
  pub none : (j : ℕ) → leaf_in t j ≡ true → contains_of (cube_of t j) p ≡ false
  pub nothing : lookup_of t p ≡ Ok None

-- "every point of the root box lies in exactly one leaf, whose action lookup gives, and any other point in none";
-- "The root box is node 0's cube"
pub record Parted (t : RuleTree) (p : Point) : Type 0 where
  pub inside : contains_of (cube_of t 0) p ≡ true → (i : ℕ) × InLeaf t p i
  pub outside : contains_of (cube_of t 0) p ≡ false → InNoLeaf t p

-- the trainer's tree and the plain trainer's: the same root box, and the same leaves with the same cubes and actions
pub record SameTree (t : RuleTree) (u : Tree) : Type 0 where
  pub box : cube_of t 0 ≡ root_of u.ends
  pub leaf : (i : ℕ) → leaf_in t i ≡ is_leaf_of u i
  pub cube : (i : ℕ) → is_leaf_of u i ≡ true → cube_of t i ≡ cube_in u i
  pub action : (i : ℕ) → is_leaf_of u i ≡ true → action_in (node_at_of t.nodes i) ≡ (rule_at u i).action

-- ---- a sender's calls: "Each ack is over any one of those trees", which it names by its place on the way
abbrev pub calls_over : {T : Type 0} → (ℕ → T) → List (SenderCall ℕ) → List (SenderCall T)
calls_over trees ws = map (over trees) ws

-- the plain sender after the calls ws, and what one more call does then
abbrev pub sender_before : (ℕ → Tree) → Sender → List (SenderCall ℕ) → PlainSender
sender_before trees start ws = plain_sender_end (plain_start start) (calls_over trees ws)

abbrev pub one_more_of : (ℕ → RuleTree) → Sender → List (SenderCall ℕ) → SenderCall ℕ → SenderStep
one_more_of trees start ws w = sender_step (sender_end start (calls_over trees ws)) (over trees w)

-- what is claimed of one more call, s being the plain sender before it and o what it does
-- an ack over the tree t: 1 exactly where a moment is not admitted
pub record AckHolds (s : PlainSender) (t : Tree) (sent received : Float) (draw : Option ℕ) (o : SenderStep) : Type 0 where
  pub unread :
      (o.event.refused ≡ 1 → admitted sent && admitted received ≡ false)
      × (admitted sent && admitted received ≡ false → o.event.refused ≡ 1)
  pub does : admitted sent && admitted received ≡ true → AckDoes s t (ack_point s (read_as sent) (read_as received)) draw o

-- a send: 1 exactly where its moment is not admitted; else it stands, and the window is 0
pub record SendHolds (at : Float) (o : SenderStep) : Type 0 where
  pub unread : (o.event.refused ≡ 1 → admitted at ≡ false) × (admitted at ≡ false → o.event.refused ≡ 1)
  pub does : admitted at ≡ true → (o.event ≡ event 0 0 false) × (o.sender.last_send ≡ Some (moment (read_as at)))

-- a tick: no send stands, and the window is handed back
pub record TickHolds (s : PlainSender) (o : SenderStep) : Type 0 where
  pub answer : o.event ≡ event 0 (window_held s) false
  pub standing : o.sender.last_send ≡ None

-- a send, a tick or a refused ack
abbrev pub Passing : SenderCall ℕ → SenderStep → Type 0
Passing (ack k sent received draw) o = o.event.refused ≢ 0
Passing (send at) o = T true
Passing tick o = T true

-- "change neither a later ack's point nor the pending repeat": the plain senders before and after
pub record Unmoved (s u : PlainSender) : Type 0 where
  pub point : (sent received : Float) → ack_point u sent received ≡ ack_point s sent received
  pub pending : pending_now u ≡ pending_now s

-- ---- the claim
pub record Demand3 (s : Settings) (cs : List plain.Call) : Type 0 where
  pub starts : start_of s ≡ Ok (started s)
  pub asks : question_of (started s) ≡ Ok (shown_as (plain.question (plain.start s)))
  pub events : events_of (started s) cs ≡ plain_events (plain.start s) cs
  pub final : record_of (end_of (started s) cs) ≡ plain.record_bytes (plain_end_of (plain.start s) cs)
  pub trees : (k : ℕ) (p : Point) → Parted (tree_after s cs k) p
  pub same : (k : ℕ) → SameTree (tree_after s cs k) (plain_tree_after s cs k)
  pub senders :
      (start : Sender) (ws : List (SenderCall ℕ))
      → sender_events start (calls_over (tree_after s cs) ws) ≡ plain_sender_events (plain_start start) (calls_over (plain_tree_after s cs) ws)
  pub left :
      (start : Sender) (ws : List (SenderCall ℕ))
      → sender_end start (calls_over (tree_after s cs) ws) ≡ state_of (sender_before (plain_tree_after s cs) start ws)
  pub acks :
      (start : Sender) (ws : List (SenderCall ℕ)) (k : ℕ) (sent received : Float) (draw : Option ℕ)
      → AckHolds (sender_before (plain_tree_after s cs) start ws) (plain_tree_after s cs k) sent received draw
      (one_more_of (tree_after s cs) start ws (ack k sent received draw))
  pub unmoved :
      (start : Sender) (ws : List (SenderCall ℕ)) (w : SenderCall ℕ) → Passing w (one_more_of (tree_after s cs) start ws w)
      → Unmoved (sender_before (plain_tree_after s cs) start ws) (sender_before (plain_tree_after s cs) start (ws ++ (w ∷ [])))
  pub sends :
      (start : Sender) (ws : List (SenderCall ℕ)) (at : Float) → SendHolds at (one_more_of (tree_after s cs) start ws (send at))
  pub ticks :
      (start : Sender) (ws : List (SenderCall ℕ))
      → TickHolds (sender_before (plain_tree_after s cs) start ws) (one_more_of (tree_after s cs) start ws tick)
