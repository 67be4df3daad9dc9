-- The event of an ack is the ack: it is tested for 10 once. Assumes nothing.
use mathlib.Core.Path.{◌≡◌, refl}
use mathlib.Core.Bool.{Bool, true, false, cond}
use Prim.Native.Nat.{ℕ}
use lib.Ieee.{Float}
use Rattle.std.specs.Prelude.{Option, Err}
use Rattle.refusal.specs.declared.Refusal.TheVariants.{NotGrown}
use Rattle.rule_tree.specs.declared.RuleTree.{RuleTree}
use Rattle.rule_tree.specs.Grown.{grown_of}
use Rattle.sender.specs.declared.Event.TheVariants.{Ack}
use Rattle.sender.specs.declared.Sender.{Sender}
use Rattle.sender.specs.Acks.{ack_in}
use Rattle.sender.specs.SenderCall.{on}
use Rattle.sender.specs.Sender.{ack_of, replied_to, event_of}

pub ack_event : (t : RuleTree) (s : Sender) (sent received : Float) (draw : Option ℕ)
    → event_of t s (Ack (record { sent = sent; received = received; draw = draw })) ≡ ack_of t s sent received draw
unfolding event_of replied_to on ack_of
ack_event t s sent received draw = go (grown_of t)
  where
    go : (b : Bool) → cond b (cond b (ack_in t s sent received draw) (Err NotGrown)) (Err NotGrown) ≡ cond b (ack_in t s sent received draw) (Err NotGrown)
    go true = refl
    go false = refl
