-- Every list of calls on a sender answers what the plain sender answers, and leaves the sender that the plain one stands for.
-- Assumes nothing.
use mathlib.Core.Path.{◌≡◌, refl, ap, subst, ◌∙◌}
use mathlib.Core.List.{List, [], ◌∷◌, map}
use Rattle.sender.specs.declared.Sender.{Sender}
use Rattle.sender.specs.SenderCall.{SenderCall, ack, send, tick, over}
use Rattle.promise.specs.PlainTree.{Tree}
use Rattle.promise.specs.PlainSender.{PlainSender, state_of, react}
use Rattle.rule_tree.specs.declared.RuleTree.{RuleTree}
use Rattle.promise.specs.SenderRuns.{SenderEvent, event, SenderStep, taken, sender_step, sender_events, sender_end, plain_start, plain_sender_events, plain_sender_end}
use Rattle.promise.proofs.Embed.{embed_tree, ValidTree}
use Rattle.promise.proofs.SenderRender.{start_renders}
use Rattle.promise.proofs.SenderSteps.{plain_step, ack_step, send_step, tick_step}

-- the calls over the trees that plain trees stand for
abbrev pub embed_calls : List (SenderCall Tree) → List (SenderCall RuleTree)
embed_calls cs = map (over embed_tree) cs

-- each ack is over a tree that has P
abbrev pub AckOver : (Tree → Type 0) → SenderCall Tree → Type 0
AckOver P (ack t sent received draw) = P t
AckOver P (send at) = Unit {0}
AckOver P tick = Unit {0}

abbrev pub Over : (Tree → Type 0) → List (SenderCall Tree) → Type 0
Over P [] = Unit {0}
Over P (c ∷ cs) = AckOver P c × Over P cs

ack_over : (P Q : Tree → Type 0) → ((t : Tree) → P t → Q t) → (c : SenderCall Tree) → AckOver P c → AckOver Q c
ack_over P Q f (ack t sent received draw) h = f t h
ack_over P Q f (send at) h = tt
ack_over P Q f tick h = tt

pub over_all : (P Q : Tree → Type 0) → ((t : Tree) → P t → Q t) → (cs : List (SenderCall Tree)) → Over P cs → Over Q cs
over_all P Q f [] h = tt
over_all P Q f (c ∷ cs) h = (ack_over P Q f c h.0, over_all P Q f cs h.1)

-- ---- one call
pub call_step : (s : PlainSender) (c : SenderCall Tree) → AckOver ValidTree c → sender_step (state_of s) (over embed_tree c) ≡ plain_step (react s c)
unfolding sender_step over react
call_step s (ack t sent received draw) v = ack_step t v s sent received draw
call_step s (send at) v = send_step s at
call_step s tick v = ap taken (tick_step s)

-- ---- every list
pub events_from_lem : (cs : List (SenderCall Tree)) → Over ValidTree cs → (s : PlainSender) → sender_events (state_of s) (embed_calls cs) ≡ plain_sender_events s cs
unfolding sender_events plain_sender_events
events_from_lem [] v s = refl
events_from_lem (c ∷ cs) v s =
    ap (λ (o : SenderStep). o.event ∷ sender_events o.sender (embed_calls cs)) (call_step s c v.0)
    ∙ ap (λ (es : List SenderEvent). event (react s c).refused (react s c).window (react s c).clipped ∷ es) (events_from_lem cs v.1 (react s c).sender)

pub end_from : (cs : List (SenderCall Tree)) → Over ValidTree cs → (s : PlainSender) → sender_end (state_of s) (embed_calls cs) ≡ state_of (plain_sender_end s cs)
unfolding sender_end plain_sender_end
end_from [] v s = refl
end_from (c ∷ cs) v s =
    ap (λ (o : SenderStep). sender_end o.sender (embed_calls cs)) (call_step s c v.0) ∙ end_from cs v.1 (react s c).sender

-- from any sender, "whose whole state is then the start"
pub sender_agrees :
    (s : Sender) (cs : List (SenderCall Tree)) → Over ValidTree cs
    → (sender_events s (embed_calls cs) ≡ plain_sender_events (plain_start s) cs) × (sender_end s (embed_calls cs) ≡ state_of (plain_sender_end (plain_start s) cs))
sender_agrees s cs v =
    subst (λ (x : Sender). (sender_events x (embed_calls cs) ≡ plain_sender_events (plain_start s) cs) × (sender_end x (embed_calls cs) ≡ state_of (plain_sender_end (plain_start s) cs)))
    (start_renders s) (events_from_lem cs v (plain_start s), end_from cs v (plain_start s))

-- and one more call then
pub next_step :
    (s : Sender) (cs : List (SenderCall Tree)) → Over ValidTree cs → (c : SenderCall Tree) → AckOver ValidTree c
    → sender_step (sender_end s (embed_calls cs)) (over embed_tree c) ≡ plain_step (react (plain_sender_end (plain_start s) cs) c)
next_step s cs v c w =
    ap (λ (x : Sender). sender_step x (over embed_tree c)) (sender_agrees s cs v).1 ∙ call_step (plain_sender_end (plain_start s) cs) c w
