-- A trace whose acks stay on the chart has no line that refuses an ack: the lines are those of reactions in which none is refused. Assumes nothing.
use mathlib.Core.List.{List, [], ◌∷◌}
use Rattle.remy.specs.declared.point.Point.{Point}
use Rattle.sender.specs.declared.Event.{Event}
use Rattle.sender.specs.declared.Event.TheVariants.{Ack, Send, Tick}
use Rattle.sender.specs.declared.RepeatMode.TheVariants.{Off}
use Rattle.sender.specs.SenderCall.{on}
use Rattle.sender.specs.Sender.{fresh_sender}
use Rattle.promise.specs.PlainTree.{Tree}
use Rattle.promise.specs.SenderRuns.{plain_start, plain_sender_events}
use Rattle.chart_laws.specs.Chart.{ack_times, OnChart, AcksOver, NoAckRefused}
use Rattle.chart_laws.proofs.Calls.{ValidWith, plain_stays}
use Rattle.trace_laws.specs.PlainTrace.{calls_on}

acks_on : (P : Tree → Type 0) (u : Tree) → P u → (es : List Event) → AcksOver P (calls_on u es)
unfolding on
acks_on P u p [] = tt
acks_on P u p (Ack x ∷ es) = (p, acks_on P u p es)
acks_on P u p (Send at ∷ es) = acks_on P u p es
acks_on P u p (Tick ∷ es) = acks_on P u p es

pub trace_stays : (ends : Point) (u : Tree) → ValidWith ends u → (es : List Event) → OnChart ends (ack_times (calls_on u es))
    → NoAckRefused (calls_on u es) (plain_sender_events (plain_start (fresh_sender Off)) (calls_on u es))
trace_stays ends u v es h = plain_stays ends (calls_on u es) (acks_on (ValidWith ends) u v es) h
