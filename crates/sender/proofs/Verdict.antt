-- When an ack at admitted moments is refused with 22, when with 5, and what a taken one does: each just then. Assumes nothing.
use mathlib.Core.Path.{◌≡◌, refl, sym, ap, ◌∙◌, subst, subst⁻¹}
use mathlib.Core.Bool.{Bool, true, false, cond, ◌&&◌}
use Prim.Native.Nat.{ℕ}
use lib.Dec.{leb}
use lib.Ieee.{Float}
use Rattle.std.specs.Prelude.{Option, Some, None, Result, Ok, Err}
use Rattle.refusal.specs.declared.Refusal.{Refusal}
use Rattle.refusal.specs.declared.Refusal.TheVariants.{NoDraw, NoRule}
use Rattle.quantities.specs.declared.Time.{Time}
use Rattle.quantities.specs.Time.{admit_of}
use Rattle.remy.specs.declared.action.Action.{Action}
use Rattle.remy.specs.Action.{window_of, rule_of}
use Rattle.remy.specs.Cube.{root_of, contains_of}
use Rattle.rule_tree.specs.declared.RuleTree.{RuleTree}
use Rattle.rule_tree.specs.Nodes.{node_at_of, action_in}
use Rattle.rule_tree.specs.Grown.{grown_of}
use Rattle.rule_tree.specs.Walk.{leaf_of}
use Rattle.rule_tree.specs.Calls.{found_in}
use Rattle.sender.specs.declared.Repeat.{Repeat}
use Rattle.sender.specs.declared.RepeatMode.{RepeatMode}
use Rattle.sender.specs.declared.RepeatMode.TheVariants.{Off, Always, Between}
use Rattle.sender.specs.declared.Sender.{Sender}
use Rattle.sender.specs.declared.Held.{Held}
use Rattle.sender.specs.Memory.{remembered, point_of}
use Rattle.sender.specs.Acks.{window_in, repeat, drawn, repeat_next, settled, ack_drawn, ack_with, ack_pending, ack_at, ack_admitted, ack_in}
use Rattle.sender.specs.Sender.{ack_of}

-- the point that is looked up lies in the root box
abbrev pub in_root : RuleTree → Sender → Time → Time → Bool
in_root t s from at = contains_of (root_of t.ends) (point_of (remembered s from at))

-- the action of the leaf that the point reaches
abbrev pub leaf_action : RuleTree → Sender → Time → Time → Action
leaf_action t s from at = action_in (node_at_of t.nodes (leaf_of t (point_of (remembered s from at))))

-- nothing is pending, and the point is outside the root box
pub record Outside (t : RuleTree) (s : Sender) (from at : Time) : Type 0 where
  pub idle : s.next_change ≡ None
  pub out : in_root t s from at ≡ false

-- nothing is pending, the point is inside, and the draw fails
pub record Undrawn (t : RuleTree) (s : Sender) (from at : Time) (draw : Option ℕ) : Type 0 where
  pub idle : s.next_change ≡ None
  pub inside : in_root t s from at ≡ true
  pub missing : drawn s.repeat_actions draw (leaf_action t s from at) ≡ Err NoDraw

-- the action that a taken ack goes by, the pending repeat's or the leaf's, and what is pending next
pub data By (t : RuleTree) (s : Sender) (from at : Time) (draw : Option ℕ) : Action → Option Repeat → Type 0 where
  repeated : {r : Repeat} → s.next_change ≡ Some r → By t s from at draw r.action (repeat_next r)
  found : {next : Option Repeat} → s.next_change ≡ None → in_root t s from at ≡ true
      → drawn s.repeat_actions draw (leaf_action t s from at) ≡ Ok next → By t s from at draw (leaf_action t s from at) next

-- what a taken ack by the action a leaves
pub record Paced (s : Sender) (a : Action) (h : Held) : Type 0 where
  pub window : h.sender.window ≡ window_of a s.window
  pub wait : h.sender.intersend_delay ≡ a.intersend_delay
  pub shown : h.window ≡ window_in s.last_send (window_of a s.window)
  pub clipped : h.clipped ≡ (rule_of a s.window).clipped

-- a draw is refused with 5 alone
draw_refused : (mode : RepeatMode) (draw : Option ℕ) (a : Action) {r : Refusal} → drawn mode draw a ≡ Err r → r ≡ NoDraw
unfolding drawn
draw_refused Off draw a e = cc
draw_refused (Always n) draw a e = cc
draw_refused (Between lo hi) None a e = cc
draw_refused (Between lo hi) (Some n) a {r} e = go (leb lo n && leb n hi) e
  where
    go : (b : Bool) → ◌≡◌ {A = Result (Option Repeat) Refusal} (cond b (Ok (Some (repeat n a))) (Err NoDraw)) (Err r) → r ≡ NoDraw
    go true e = cc
    go false e = cc

-- ---- each case leads to its answer
module _ (t : RuleTree) (s : Sender) (from at : Time) (draw : Option ℕ) where
  abbrev m : Sender
  m = remembered s from at

  -- an ack with nothing pending, by where the point lies
  at_idle : s.next_change ≡ None → ack_at t s from at draw ≡ ack_with m (found_in t (point_of m)) draw
  unfolding ack_pending
  at_idle e = ap (λ (p : Option Repeat). ack_pending t m p draw) e

  at_out : s.next_change ≡ None → in_root t s from at ≡ false → ack_at t s from at draw ≡ Err NoRule
  unfolding ack_with found_in
  at_out e o = at_idle e ∙ ap (λ (x : Bool). ack_with m (cond x (Some (leaf_action t s from at)) None) draw) o

  at_inside : s.next_change ≡ None → in_root t s from at ≡ true
      → ack_at t s from at draw ≡ ack_drawn m (leaf_action t s from at) (drawn s.repeat_actions draw (leaf_action t s from at))
  unfolding ack_with found_in
  at_inside e i = at_idle e ∙ ap (λ (x : Bool). ack_with m (cond x (Some (leaf_action t s from at)) None) draw) i

  at_undrawn : Undrawn t s from at draw → ack_at t s from at draw ≡ Err NoDraw
  unfolding ack_drawn
  at_undrawn u = at_inside u.idle u.inside ∙ ap (ack_drawn m (leaf_action t s from at)) u.missing

  at_by : {a : Action} {next : Option Repeat} → By t s from at draw a next → ack_at t s from at draw ≡ Ok (settled m a next)
  unfolding ack_pending ack_drawn
  at_by (repeated e) = ap (λ (p : Option Repeat). ack_pending t m p draw) e
  at_by (found e i n) = at_inside e i ∙ ap (ack_drawn m (leaf_action t s from at)) n

  paced_so : (a : Action) (next : Option Repeat) → Paced s a (settled m a next)
  paced_so a next = record { window = refl; wait = refl; shown = refl; clipped = refl }

  -- ---- one of the three is the case
  data Answer : Result Held Refusal → Type 0 where
    outside : Outside t s from at → Answer (Err NoRule)
    undrawn : Undrawn t s from at draw → Answer (Err NoDraw)
    taken : {a : Action} {next : Option Repeat} → By t s from at draw a next → Answer (Ok (settled m a next))

  answer : Answer (ack_at t s from at draw)
  answer = pend s.next_change refl
    where
      by : {a : Action} {next : Option Repeat} → By t s from at draw a next → Answer (ack_at t s from at draw)
      by b = subst⁻¹ Answer (at_by b) (taken b)

      draws : (d : Result (Option Repeat) Refusal) → s.next_change ≡ None → in_root t s from at ≡ true
          → drawn s.repeat_actions draw (leaf_action t s from at) ≡ d → Answer (ack_at t s from at draw)
      draws (Ok next) e i n = by (found e i n)
      draws (Err r) e i n =
          let u : Undrawn t s from at draw = record { idle = e; inside = i; missing = n ∙ ap Err (draw_refused s.repeat_actions draw (leaf_action t s from at) n) } in
          subst⁻¹ Answer (at_undrawn u) (undrawn u)

      lies : (x : Bool) → s.next_change ≡ None → in_root t s from at ≡ x → Answer (ack_at t s from at draw)
      lies false e o = subst⁻¹ Answer (at_out e o) (outside (record { idle = e; out = o }))
      lies true e i = draws (drawn s.repeat_actions draw (leaf_action t s from at)) e i refl

      pend : (p : Option Repeat) → s.next_change ≡ p → Answer (ack_at t s from at draw)
      pend None e = lies (in_root t s from at) e refl
      pend (Some r) e = by (repeated e)

  only_22 : {r : Result Held Refusal} → Answer r → r ≡ Err NoRule → Outside t s from at
  only_22 (outside o) e = o
  only_22 (undrawn u) e = cc
  only_22 (taken b) e = cc

  only_5 : {r : Result Held Refusal} → Answer r → r ≡ Err NoDraw → Undrawn t s from at draw
  only_5 (outside o) e = cc
  only_5 (undrawn u) e = u
  only_5 (taken b) e = cc

  only_taken : {r : Result Held Refusal} (h : Held) → Answer r → r ≡ Ok h → (a : Action) × (next : Option Repeat) × By t s from at draw a next × Paced s a h
  only_taken h (outside o) e = cc
  only_taken h (undrawn u) e = cc
  only_taken h (taken {a} {next} b) e = (a, next, b, subst (λ (z : Held). Paced s a z) (cc) (paced_so a next))

-- ---- the laws, over the answer to an ack at admitted moments
module _ (t : RuleTree) (s : Sender) (sent received : Float) (draw : Option ℕ) (from at : Time) (f : admit_of sent ≡ Ok from)
    (g : admit_of received ≡ Ok at)
  where
    is : ack_in t s sent received draw ≡ ack_at t s from at draw
    unfolding ack_admitted
    is = rw (f, g)

    -- 22 just where nothing is pending and the point is outside the root box
    pub refused_22 : Outside t s from at → ack_in t s sent received draw ≡ Err NoRule
    refused_22 o = is ∙ at_out t s from at draw o.idle o.out

    pub refused_22_only : ack_in t s sent received draw ≡ Err NoRule → Outside t s from at
    refused_22_only e = only_22 t s from at draw (answer t s from at draw) (sym is ∙ e)

    -- 5 just where nothing is pending, the point is inside, and the draw fails
    pub refused_5 : Undrawn t s from at draw → ack_in t s sent received draw ≡ Err NoDraw
    refused_5 u = is ∙ at_undrawn t s from at draw u

    pub refused_5_only : ack_in t s sent received draw ≡ Err NoDraw → Undrawn t s from at draw
    refused_5_only e = only_5 t s from at draw (answer t s from at draw) (sym is ∙ e)

    -- else it is taken, and sets the window and the wait by the pending action or by the leaf's
    pub taken_by : {a : Action} {next : Option Repeat} → By t s from at draw a next → (h : Held) × (ack_in t s sent received draw ≡ Ok h) × Paced s a h
    taken_by {a} {next} b =
        (settled (remembered s from at) a next, is ∙ at_by t s from at draw b, paced_so t s from at draw a next)

    pub taken_only : (h : Held) → ack_in t s sent received draw ≡ Ok h → (a : Action) × (next : Option Repeat) × By t s from at draw a next × Paced s a h
    taken_only h e = only_taken t s from at draw h (answer t s from at draw) (sym is ∙ e)

-- over a grown tree this is what the call answers
pub grown_ack : (t : RuleTree) (s : Sender) (sent received : Float) (draw : Option ℕ) → grown_of t ≡ true
    → ack_of t s sent received draw ≡ ack_in t s sent received draw
unfolding ack_of
grown_ack t s sent received draw e = rw e
