-- An ack is refused by the first check that fails, and then leaves the sender; else it gives the window of the sender that it leaves, and its
-- action's flag. Assumes nothing.
use mathlib.Core.Path.{◌≡◌, refl, ap, ◌∙◌}
use mathlib.Core.Bool.{Bool, true, false, ◌&&◌, ◌||◌, cond}
use Prim.Native.Nat.{ℕ}
use lib.Ieee.{Float}
use Rattle.std.specs.Prelude.{Option, None, Some, Result, Ok, Err}
use Rattle.std.specs.Option.{is_some}
use Rattle.refusal.specs.declared.Refusal.{Refusal}
use Rattle.refusal.specs.declared.Refusal.TheVariants.{NoDraw, NoRule, NotAdmitted, NotGrown}
use Rattle.refusal.specs.Guards.{checked, first_refused, pass}
use Rattle.quantities.specs.Time.{moment, read_moment, admitted, admit_of}
use Rattle.remy.specs.declared.action.Action.{Action}
use Rattle.remy.specs.Cube.{root_of, contains_of}
use Rattle.rule_tree.specs.declared.RuleTree.{RuleTree}
use Rattle.rule_tree.specs.Nodes.{node_at_of, action_in}
use Rattle.rule_tree.specs.Grown.{grown_of}
use Rattle.rule_tree.specs.Walk.{leaf_of}
use Rattle.rule_tree.specs.Calls.{found_in}
use Rattle.sender.specs.declared.Repeat.{Repeat}
use Rattle.sender.specs.declared.RepeatMode.{RepeatMode}
use Rattle.sender.specs.declared.RepeatMode.TheVariants.{Off, Always, Between}
use Rattle.sender.specs.declared.Sender.{Sender}
use Rattle.sender.specs.declared.Held.{Held}
use Rattle.sender.specs.Memory.{remembered, point_of}
use Rattle.sender.specs.Acks.{window_now, repeat, drawn, repeat_next, settled, ack_drawn, ack_with, ack_pending, ack_admitted}
use Rattle.sender.specs.Sender.{ack_of, left_by}
use Rattle.sender_face.specs.declared.Answer.{Answer}
use Rattle.sender_face.specs.Face.{answer_of, window_from}
use Rattle.refusals.specs.Told.{Told, result_told, reply_told, told_by}
use Rattle.refusals.specs.Order.{draw_holds, ack_order}
use Rattle.refusals.specs.Gives.{ack_gives, action_used, ack_clips, handed, ack_window}
use Rattle.refusals.proofs.Ways.{tells, passing, chained}
use Rattle.refusals.proofs.Senders.{left_keeps_lem, face_told, face_keeps}

-- what a draw that holds leaves pending, and what an ack does
drawn_next : RepeatMode → Option ℕ → Action → Option Repeat
drawn_next Off draw a = None
drawn_next (Always n) draw a = Some (repeat n a)
drawn_next (Between lo hi) None a = None
drawn_next (Between lo hi) (Some n) a = Some (repeat n a)

pending_next : Option Repeat → RepeatMode → Option ℕ → Action → Option Repeat
pending_next (Some r) mode draw a = repeat_next r
pending_next None mode draw a = drawn_next mode draw a

-- ---- an ack by its checks: 10, 1, 22, 5
drawn_is : (mode : RepeatMode) (draw : Option ℕ) (a : Action) → drawn mode draw a ≡ cond (draw_holds mode draw) (Ok (drawn_next mode draw a)) (Err NoDraw)
unfolding drawn draw_holds drawn_next
drawn_is Off draw a = refl
drawn_is (Always n) draw a = refl
drawn_is (Between lo hi) None a = refl
drawn_is (Between lo hi) (Some n) a = refl

module _ (t : RuleTree) (m : Sender) (draw : Option ℕ) where
  abbrev found : Action
  found = action_in (node_at_of t.nodes (leaf_of t (point_of m)))

  abbrev settled_by : Option Repeat → Held
  settled_by p = settled m (action_used p found) (pending_next p m.repeat_actions draw found)

  found_is : (b : Bool) → ack_with m (cond b (Some found) None) draw
      ≡ cond b (cond (draw_holds m.repeat_actions draw) (Ok (settled_by None)) (Err NoDraw)) (Err NoRule)
  unfolding ack_with ack_drawn action_used pending_next
  found_is true =
      ap (ack_drawn m found) (drawn_is m.repeat_actions draw found)
      ∙ chained (λ (next : Option Repeat). Ok (settled m found next)) (drawn_next m.repeat_actions draw found) NoDraw (draw_holds m.repeat_actions draw)
  found_is false = refl

  pending_is : (p : Option Repeat) → ack_pending t m p draw
      ≡ cond (is_some p || contains_of (root_of t.ends) (point_of m)) (cond (is_some p || draw_holds m.repeat_actions draw) (Ok (settled_by p)) (Err NoDraw))
      (Err NoRule)
  unfolding ack_pending found_in action_used pending_next
  pending_is (Some r) = refl
  pending_is None = found_is (contains_of (root_of t.ends) (point_of m))

module _ (t : RuleTree) (s : Sender) (sent received : Float) (draw : Option ℕ) where
  abbrev m : Sender
  m = remembered s (moment (read_moment sent)) (moment (read_moment received))

  -- what a taken ack leaves
  abbrev taken : Held
  taken = settled_by t m draw s.next_change

  admitted_is : (a b : Bool) → ack_admitted t s (cond a (Ok (moment (read_moment sent))) (Err NotAdmitted)) (cond b (Ok (moment (read_moment received))) (Err NotAdmitted)) draw
      ≡ cond (a && b) (ack_pending t m s.next_change draw) (Err NotAdmitted)
  unfolding ack_admitted
  admitted_is true true = refl
  admitted_is true false = refl
  admitted_is false b = refl

  ack_is : ack_of t s sent received draw ≡ checked (ack_order t s sent received draw) (Ok taken)
  unfolding ack_of admit_of
  ack_is =
      ap (λ (r : Result Held Refusal). cond (grown_of t) r (Err NotGrown))
      (admitted_is (admitted sent) (admitted received)
      ∙ ap (λ (r : Result Held Refusal). cond (admitted sent && admitted received) r (Err NotAdmitted)) (pending_is t m draw s.next_change))

  -- ---- what it tells
  told : reply_told (ack_of t s sent received draw) ≡ told_by (ack_order t s sent received draw) (Some (answer_of taken))
  unfolding reply_told
  told = ap reply_told ack_is ∙ tells reply_told (Ok taken) (ack_order t s sent received draw) (λ r. refl) (λ h. refl)

  pub ack_number : (reply_told (ack_of t s sent received draw)).number ≡ first_refused (ack_order t s sent received draw)
  ack_number = ap (λ (r : Told Answer). r.number) told

  pub ack_window_lem : (reply_told (ack_of t s sent received draw)).gives ≡ cond (pass (ack_order t s sent received draw)) (ack_window t s sent received) None
  ack_window_lem = ap (λ (r : Told Answer). r.gives) told

  -- the window of the sender that is left
  abbrev Shows : Result Held Refusal → Bool → Type 0
  Shows r b = (reply_told r).gives ≡ cond b (Some (handed (window_now (left_by s r)) (ack_clips t s sent received))) None

  shown : Shows (checked (ack_order t s sent received draw) (Ok taken)) (pass (ack_order t s sent received draw))
  unfolding reply_told left_by
  shown = passing Shows (Ok taken) (λ r. refl) refl (ack_order t s sent received draw)

  pub ack_gives_lem : (reply_told (ack_of t s sent received draw)).gives ≡ cond (pass (ack_order t s sent received draw)) (ack_gives t s sent received draw) None
  ack_gives_lem = rw ack_is shown

  pub ack_keeps : ((reply_told (ack_of t s sent received draw)).number ≡ 0 → ⊥) → left_by s (ack_of t s sent received draw) ≡ s
  ack_keeps = left_keeps_lem s (ack_of t s sent received draw)

  -- ---- the caller's sender
  pub face_ack_number : (result_told (window_from (ack_of t s sent received draw))).number ≡ first_refused (ack_order t s sent received draw)
  face_ack_number = ap (λ (r : Told Answer). r.number) (face_told (ack_of t s sent received draw)) ∙ ack_number

  pub face_ack_gives : (result_told (window_from (ack_of t s sent received draw))).gives
      ≡ cond (pass (ack_order t s sent received draw)) (ack_gives t s sent received draw) None
  face_ack_gives = ap (λ (r : Told Answer). r.gives) (face_told (ack_of t s sent received draw)) ∙ ack_gives_lem

  pub face_ack_keeps : ((result_told (window_from (ack_of t s sent received draw))).number ≡ 0 → ⊥) → left_by s (ack_of t s sent received draw) ≡ s
  face_ack_keeps = face_keeps s (ack_of t s sent received draw)
