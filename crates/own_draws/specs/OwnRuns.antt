-- 02, wish 7: "The sender with drawn numbers equals the sender that is handed the same ones", over lists of calls.
use Rattle.std.specs.Prelude.{List, [], ◌∷◌, Float, Result, Ok}
use Rattle.refusal.specs.declared.Refusal.{Refusal}
use Rattle.rule_tree.specs.declared.RuleTree.{RuleTree}
use Rattle.sender.specs.declared.Sender.{Sender}
use Rattle.sender.specs.declared.Held.{Held}
use Rattle.sender.specs.SenderCall.{SenderCall}
use Rattle.sender.specs.SenderCall as call
use Rattle.sender.specs.Sender.{send_of, tick_of, replied_to, left_by}
use Rattle.xoshiro.specs.declared.State.{State}
use Rattle.own_draws.specs.declared.Drawing.{Drawing}
use Rattle.own_draws.specs.OwnDraws.{drawing, draw_for, steps_at, own_ack_of}

-- an ack over a tree with a draw of the box's own, a send or a tick
pub data OwnCall : Type 0 where
  ack : RuleTree → Float → Float → OwnCall
  send : Float → OwnCall
  tick : OwnCall

-- a call's reply, and the generator after it
unfoldable pub own_reply_to : Sender → State → OwnCall → Drawing
unfolding own_ack_of
own_reply_to s g (ack t sent received) = own_ack_of t s g sent received
own_reply_to s g (send at) = drawing (send_of s at) g
own_reply_to s g tick = drawing (Ok (tick_of s)) g

-- what a list of calls is answered, each call getting what the last one left
unfoldable pub own_replies : Sender → State → List OwnCall → List (Result Held Refusal)
unfolding own_reply_to left_by
own_replies s g [] = []
own_replies s g (c ∷ cs) = (own_reply_to s g c).reply ∷ own_replies (left_by s (own_reply_to s g c).reply) (own_reply_to s g c).generator cs

-- the sender and the generator at the end
unfoldable pub own_end : Sender → State → List OwnCall → Sender
unfolding own_reply_to left_by
own_end s g [] = s
own_end s g (c ∷ cs) = own_end (left_by s (own_reply_to s g c).reply) (own_reply_to s g c).generator cs

unfoldable pub generator_end : Sender → State → List OwnCall → State
unfolding own_reply_to left_by
generator_end s g [] = g
generator_end s g (c ∷ cs) = generator_end (left_by s (own_reply_to s g c).reply) (own_reply_to s g c).generator cs

-- the call that is handed the generator's draw
unfoldable pub handing : Sender → State → OwnCall → SenderCall RuleTree
handing s g (ack t sent received) = call.ack t sent received (draw_for s g)
handing s g (send at) = call.send at
handing s g tick = call.tick

-- the generator after a call of the sender that is handed its draw: it steps at an ack that is taken and has a draw due
unfoldable pub steps_to : Sender → State → OwnCall → Result Held Refusal → State
steps_to s g (ack t sent received) r = steps_at s r g
steps_to s g (send at) r = g
steps_to s g tick r = g

-- "handed the same ones": the calls of the sender that is handed its draws
unfoldable pub handed_calls : Sender → State → List OwnCall → List (SenderCall RuleTree)
unfolding handing steps_to replied_to left_by
handed_calls s g [] = []
handed_calls s g (c ∷ cs) =
    handing s g c
    ∷ handed_calls (left_by s (replied_to s (handing s g c))) (steps_to s g c (replied_to s (handing s g c))) cs

-- what that sender answers, and that sender at the end
unfoldable pub replies : Sender → List (SenderCall RuleTree) → List (Result Held Refusal)
unfolding replied_to left_by
replies s [] = []
replies s (c ∷ cs) = replied_to s c ∷ replies (left_by s (replied_to s c)) cs

unfoldable pub end_of : Sender → List (SenderCall RuleTree) → Sender
unfolding replied_to left_by
end_of s [] = s
end_of s (c ∷ cs) = end_of (left_by s (replied_to s c)) cs
