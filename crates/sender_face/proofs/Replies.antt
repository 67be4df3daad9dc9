-- What a taken ack leaves as it was: `last_send` and `repeat_actions`. Assumes nothing.
use mathlib.Core.Path.{◌≡◌, refl, sym, subst}
use mathlib.Core.Bool.{Bool, true, false, cond}
use Prim.Native.Nat.{ℕ}
use lib.Ieee.{Float}
use Rattle.std.specs.Prelude.{Option, Some, None, Result, Ok, Err}
use Rattle.refusal.specs.declared.Refusal.{Refusal}
use Rattle.refusal.specs.declared.Refusal.TheVariants.{NotGrown}
use Rattle.quantities.specs.declared.Time.{Time}
use Rattle.quantities.specs.Time.{admit_of}
use Rattle.remy.specs.declared.action.Action.{Action}
use Rattle.rule_tree.specs.declared.RuleTree.{RuleTree}
use Rattle.rule_tree.specs.Calls.{found_in}
use Rattle.rule_tree.specs.Grown.{grown_of}
use Rattle.sender.specs.Memory.{remembered, point_of}
use Rattle.sender.specs.Acks.{drawn, ack_drawn, ack_with, ack_pending, ack_admitted, ack_in}
use Rattle.sender.specs.Sender.{ack_of}
use Rattle.sender.specs.declared.Repeat.{Repeat}
use Rattle.sender.specs.declared.Sender.{Sender}
use Rattle.sender.specs.declared.Held.{Held}

-- s with the fields that an ack writes, as n has them
abbrev pub with_ack : Sender → Sender → Sender
with_ack s n = record n { repeat_actions = s.repeat_actions; last_send = s.last_send }

abbrev AckKeeps : Sender → Result Held Refusal → Type 0
AckKeeps s (Ok d) = with_ack s d.sender ≡ d.sender
AckKeeps s (Err r) = Unit {0}

module _ (s : Sender) where
  drawn_keeps : (from at : Time) (a : Action) (n : Result (Option Repeat) Refusal) → AckKeeps s (ack_drawn (remembered s from at) a n)
  unfolding ack_drawn
  drawn_keeps from at a (Ok next) = refl
  drawn_keeps from at a (Err r) = tt

  found_keeps : (from at : Time) (found : Option Action) (draw : Option ℕ) → AckKeeps s (ack_with (remembered s from at) found draw)
  unfolding ack_with
  found_keeps from at (Some a) draw = drawn_keeps from at a (drawn s.repeat_actions draw a)
  found_keeps from at None draw = tt

  pending_keeps : (t : RuleTree) (from at : Time) (p : Option Repeat) (draw : Option ℕ) → AckKeeps s (ack_pending t (remembered s from at) p draw)
  unfolding ack_pending
  pending_keeps t from at (Some r) draw = refl
  pending_keeps t from at None draw = found_keeps from at (found_in t (point_of (remembered s from at))) draw

  admitted_keeps : (t : RuleTree) (x y : Result Time Refusal) (draw : Option ℕ) → AckKeeps s (ack_admitted t s x y draw)
  unfolding ack_admitted
  admitted_keeps t (Ok from) (Ok at) draw = pending_keeps t from at s.next_change draw
  admitted_keeps t (Ok from) (Err r) draw = tt
  admitted_keeps t (Err r) y draw = tt

  tested : (r : Result Held Refusal) → AckKeeps s r → (grown : Bool) → AckKeeps s (cond grown r (Err NotGrown))
  tested r k true = k
  tested r k false = tt

  ack_keeps : (t : RuleTree) (sent received : Float) (draw : Option ℕ) → AckKeeps s (ack_of t s sent received draw)
  unfolding ack_of
  ack_keeps t sent received draw = tested (ack_in t s sent received draw) (admitted_keeps t (admit_of sent) (admit_of received) draw) (grown_of t)

  pub ack_left : (t : RuleTree) (sent received : Float) (draw : Option ℕ) (d : Held) → Ok d ≡ ack_of t s sent received draw → with_ack s d.sender ≡ d.sender
  ack_left t sent received draw d e = subst (AckKeeps s) (sym e) (ack_keeps t sent received draw)
