-- A call on a sender: an ack over a tree, or over what stands for one, a send or a tick.
use Rattle.std.specs.Prelude.{ℕ, Float, Option}
use Rattle.sender.specs.declared.Event.{Event}
use Rattle.sender.specs.declared.Event.TheVariants.{Ack, Send, Tick}

pub data SenderCall (T : Type 0) : Type 0 where
  ack : T → Float → Float → Option ℕ → SenderCall T
  send : Float → SenderCall T
  tick : SenderCall T

-- the same call, over the tree that t stands for
unfoldable pub over : {T U : Type 0} → (T → U) → SenderCall T → SenderCall U
over tree (ack t sent received draw) = ack (tree t) sent received draw
over tree (send at) = send at
over tree tick = tick

-- an event as a call, over a tree
unfoldable pub on : {T : Type 0} → T → Event → SenderCall T
on t (Ack x) = ack t x.sent x.received x.draw
on t (Send at) = send at
on t Tick = tick
