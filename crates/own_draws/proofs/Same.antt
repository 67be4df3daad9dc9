-- Over every list of acks, sends and ticks the sender with own draws is the sender that is handed the same ones. Assumes nothing.
use mathlib.Core.Path.{◌≡◌, refl, ap, ◌∙◌}
use mathlib.Core.Bool.{Bool, true, false}
use mathlib.Core.List.{List, [], ◌∷◌}
use lib.Ieee.{Float}
use Rattle.std.specs.Prelude.{Result, Ok, Err}
use Rattle.refusal.specs.declared.Refusal.{Refusal}
use Rattle.rule_tree.specs.declared.RuleTree.{RuleTree}
use Rattle.rule_tree.specs.Grown.{grown_of}
use Rattle.sender.specs.declared.Sender.{Sender}
use Rattle.sender.specs.declared.Held.{Held}
use Rattle.sender.specs.Sender.{ack_of, replied_to, left_by}
use Rattle.xoshiro.specs.declared.State.{State}
use Rattle.xoshiro.specs.Xoshiro.{zeros_of, next_of}
use Rattle.xoshiro.proofs.Zeros.{never_zeros}
use Rattle.own_draws.specs.declared.Drawing.{Drawing}
use Rattle.own_draws.specs.OwnDraws.{drawing, drawn_ack, generator_after, due_of, own_ack_of}
use Rattle.own_draws.specs.OwnRuns.{OwnCall, ack, send, tick, own_reply_to, own_replies, own_end, generator_end, handing, steps_to, handed_calls, replies, end_of}

-- a tree that is not grown refuses both alike, and the generator stays
own_ack : (t : RuleTree) (s : Sender) (g : State) (sent received : Float) → zeros_of g ≡ false
    → own_ack_of t s g sent received ≡ drawn_ack t s g sent received
unfolding own_ack_of ack_of generator_after
own_ack t s g sent received e = go (grown_of t) refl
  where
    go : (b : Bool) → grown_of t ≡ b → own_ack_of t s g sent received ≡ drawn_ack t s g sent received
    go true f = rw (f, e)
    go false f = rw f

-- one call
pub same_call : (s : Sender) (g : State) (c : OwnCall) → zeros_of g ≡ false
    → own_reply_to s g c ≡ drawing (replied_to s (handing s g c)) (steps_to s g c (replied_to s (handing s g c)))
unfolding own_reply_to replied_to handing steps_to
same_call s g (ack t sent received) e = own_ack t s g sent received e
same_call s g (send at) e = refl
same_call s g tick e = refl

-- the generator is never four zeros
pub after_zeros : (due : Bool) (r : Result Held Refusal) (g : State) → zeros_of g ≡ false → zeros_of (generator_after due r g (next_of g)) ≡ false
unfolding generator_after
after_zeros true (Ok h) g e = never_zeros g e
after_zeros false (Ok h) g e = e
after_zeros due (Err k) g e = e

pub steps_zeros : (s : Sender) (g : State) (c : OwnCall) (r : Result Held Refusal) → zeros_of g ≡ false → zeros_of (steps_to s g c r) ≡ false
unfolding steps_to
steps_zeros s g (ack t sent received) r e = after_zeros (due_of s) r g e
steps_zeros s g (send at) r e = e
steps_zeros s g tick r e = e

-- what is answered, refused calls included
pub same_replies : (s : Sender) (g : State) (cs : List OwnCall) → zeros_of g ≡ false → own_replies s g cs ≡ replies s (handed_calls s g cs)
unfolding own_replies replies handed_calls
same_replies s g [] e = refl
same_replies s g (c ∷ cs) e =
    let r = replied_to s (handing s g c) in
    let h = steps_to s g c r in
    ap (λ (d : Drawing). d.reply ∷ own_replies (left_by s d.reply) d.generator cs) (same_call s g c e)
    ∙ ap (λ (rs : List (Result Held Refusal)). r ∷ rs) (same_replies (left_by s r) h cs (steps_zeros s g c r e))

-- the sender that is left
pub same_end : (s : Sender) (g : State) (cs : List OwnCall) → zeros_of g ≡ false → own_end s g cs ≡ end_of s (handed_calls s g cs)
unfolding own_end end_of handed_calls
same_end s g [] e = refl
same_end s g (c ∷ cs) e =
    let r = replied_to s (handing s g c) in
    let h = steps_to s g c r in
    ap (λ (d : Drawing). own_end (left_by s d.reply) d.generator cs) (same_call s g c e)
    ∙ same_end (left_by s r) h cs (steps_zeros s g c r e)

-- the generator that is left is not refused by the next call
pub end_zeros : (s : Sender) (g : State) (cs : List OwnCall) → zeros_of g ≡ false → zeros_of (generator_end s g cs) ≡ false
unfolding generator_end
end_zeros s g [] e = e
end_zeros s g (c ∷ cs) e =
    let r = replied_to s (handing s g c) in
    let h = steps_to s g c r in
    ap (λ (d : Drawing). zeros_of (generator_end (left_by s d.reply) d.generator cs)) (same_call s g c e)
    ∙ end_zeros (left_by s r) h cs (steps_zeros s g c r e)
