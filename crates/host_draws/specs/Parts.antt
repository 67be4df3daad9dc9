-- What the private functions of the code are held to: an event whose ack draws from a generator that is not four zeros.
use Rattle.std.specs.Prelude.{Ok}
use Rattle.rule_tree.specs.declared.RuleTree.{RuleTree}
use Rattle.sender.specs.declared.Event.{Event}
use Rattle.sender.specs.declared.Event.TheVariants.{Ack, Send, Tick}
use Rattle.sender.specs.declared.Sender.{Sender}
use Rattle.sender.specs.Sender.{send_of, tick_of}
use Rattle.xoshiro.specs.declared.State.{State}
use Rattle.own_draws.specs.declared.Drawing.{Drawing}
use Rattle.own_draws.specs.OwnDraws.{drawing, drawn_ack}

unfoldable pub drawn_event : RuleTree → Sender → State → Event → Drawing
drawn_event t s g (Ack x) = drawn_ack t s g x.sent x.received
drawn_event t s g (Send at) = drawing (send_of s at) g
drawn_event t s g Tick = drawing (Ok (tick_of s)) g
