-- What the tests of bits and floats say of a value that fits its type: a plain node holds the action (+0, 0, +0), and ends that hold
-- make a box. Assumes nothing.
use mathlib.Core.Path.{◌≡◌, sym, ap, ◌∙◌}
use mathlib.Core.Bool.{true, false, not, ◌&&◌}
use borrow.Author.Tests.{eqb-true, not-true}
use lib.Dec.{T, eqb}
use lib.IntN.{ℤ, pos}
use lib.Ieee.{Float, fin, binary64, fits, to_bits, of_bits}
use mir.Syntax.{w32}
use mir.Val.{SFits, of_z, to_z}
use mir.ValLaws.{to_z-of_z}
use Rattle.floats.proofs.Bits.{bits_back}
use Rattle.remy.specs.declared.action.Action.{Action}
use Rattle.remy.specs.declared.point.Point.{Point}
use Rattle.remy.specs.Action.{action_of}
use Rattle.remy.specs.Cube.{ack, send, ratio, ends_admitted, point_equal, root_of, Whole}
use Rattle.remy.proofs.Ends.{whole_admitted, same_ends}
use Rattle.rule_tree.specs.declared.Node.{Node}
use Rattle.rule_tree.specs.Nodes.{no_action, action_in}
use Rattle.rule_tree.specs.Grown.{plain_of, ends_hold}
pub use Rattle.rule_tree.proofs.Lists.{and_left as and_l, and_right as and_r}

-- an action's numbers fit their types, as those of every value that a program holds
pub record ActionFits (a : Action) : Type 0 where
  pub multiplier : T (fits binary64 a.window_multiplier)
  pub increment : SFits w32 a.window_increment
  pub delay : T (fits binary64 a.intersend_delay.0)

pub record PointFits (p : Point) : Type 0 where
  pub acks : T (fits binary64 (ack p))
  pub sends : T (fits binary64 (send p))
  pub ratios : T (fits binary64 (ratio p))

-- ---- plain
zero_bits : (x : Float) → T (fits binary64 x) → to_bits binary64 x ≡ 0 → x ≡ fin false 0 (pos 0)
unfolding of_bits
zero_bits x h e = sym (bits_back x h) ∙ ap (of_bits binary64) e

zero_int : (z : ℤ) → SFits w32 z → of_z w32 z ≡ 0 → z ≡ pos 0
zero_int z h e = sym (to_z-of_z w32 z h) ∙ ap (to_z w32) e

module _ (x : Node) (h : plain_of x ≡ true) where
  plain_tail : eqb (of_z w32 x.window_increment) 0
      && (eqb (to_bits binary64 x.intersend_delay.0) 0 && not x.optimized) ≡ true
  unfolding plain_of
  plain_tail = and_r (eqb (to_bits binary64 x.window_multiplier) 0) _ h

  plain_head : eqb (to_bits binary64 x.window_multiplier) 0 ≡ true
  unfolding plain_of
  plain_head = and_l (eqb (to_bits binary64 x.window_multiplier) 0) _ h

  plain_end : eqb (to_bits binary64 x.intersend_delay.0) 0 && not x.optimized ≡ true
  plain_end = and_r (eqb (of_z w32 x.window_increment) 0) _ plain_tail

  pub plain_unmarked : x.optimized ≡ false
  plain_unmarked = not-true x.optimized (and_r (eqb (to_bits binary64 x.intersend_delay.0) 0) _ plain_end)

  pub plain_action : ActionFits (action_in x) → action_in x ≡ no_action
  plain_action f =
      let m = zero_bits x.window_multiplier f.multiplier (eqb-true _ _ plain_head) in
      let i = zero_int x.window_increment f.increment
      (eqb-true _ _ (and_l (eqb (of_z w32 x.window_increment) 0) _ plain_tail)) in
      let d = zero_bits x.intersend_delay.0 f.delay
      (eqb-true _ _ (and_l (eqb (to_bits binary64 x.intersend_delay.0) 0) _ plain_end)) in
      rebuilt (action_in x) _ _ _ m i d
    where
      rebuilt : (a : Action) (m : Float) (i : ℤ) (d : Float) → a.window_multiplier ≡ m → a.window_increment ≡ i
          → a.intersend_delay.0 ≡ d → a ≡ action_of m i d
      rebuilt a m i d p q r = λ j. action_of (p j) (q j) (r j)

-- ---- ends: the laws of trees are over all from 1 to 1,000,000
pub ends_admitted_lem : (e : Point) → ends_hold e ≡ true → ends_admitted e ≡ true
unfolding ends_hold
ends_admitted_lem e h = h

pub ends_whole : (e : Point) → PointFits e → ends_hold e ≡ true → Whole (root_of e)
ends_whole e f h = whole_admitted e f.acks f.sends f.ratios (ends_admitted_lem e h)

-- ends that equal such ones are the same
pub ends_same : (e u : Point) → PointFits e → PointFits u → point_equal e u ≡ true → ends_hold u ≡ true → e ≡ u
ends_same e u f g p h =
    same_ends e u (f.acks, (f.sends, f.ratios)) (g.acks, (g.sends, g.ratios)) p (ends_admitted_lem u h)
