-- Each call on a sender is the plain sender's, whatever sender it holds, for acks over valid trees. Assumes nothing.
use mathlib.Core.Path.{◌≡◌, refl, sym, ap, ◌∙◌}
use mathlib.Core.Bool.{Bool, true, false, not, ◌&&◌, cond}
use mathlib.Core.Logic.{◌≢◌}
use Prim.Native.Nat.{ℕ}
use lib.Dec.{leb}
use lib.Ieee.{Float}
use Rattle.std.specs.Prelude.{Option, Some, None, Ok, Err}
use Rattle.refusal.specs.declared.Refusal.TheVariants.{NotAdmitted, NoDraw}
use Rattle.refusal.specs.Numbers.{number_of}
use Rattle.refusal.proofs.Guards.{either}
use Rattle.quantities.specs.Time.{moment, admit_of}
use Rattle.remy.specs.declared.action.Action.{Action}
use Rattle.remy.specs.declared.point.Point.{Point}
use Rattle.rule_tree.specs.Calls.{found_in}
use Rattle.sender.specs.declared.Repeat.{Repeat}
use Rattle.sender.specs.declared.RepeatMode.{RepeatMode}
use Rattle.sender.specs.declared.RepeatMode.TheVariants.{Off, Always, Between}
use Rattle.sender.specs.declared.Sender.{Sender}
use Rattle.sender.specs.declared.Held.{Held}
use Rattle.sender.specs.Acks.{window_now, paced, settled, repeat_next, drawn, ack_drawn, ack_with, ack_pending, ack_admitted}
use Rattle.sender.specs.Sender.{ack_of, send_admitted, send_of, tick_of}
use Rattle.sender.specs.SenderCall.{SenderCall, ack, send, tick}
use Rattle.sender.proofs.Verdict.{grown_ack}
use Rattle.promise.specs.PlainTree.{Tree, rule_at}
use Rattle.promise.specs.PlainSender.{TakenAck, PlainSender, repeat, pending_next, pending_now, window_held, state_of, leaf_at, clips, Reaction, refuse, answered_with, answered, admitted, read_as, take, draw_fails, draw_leaves, draw_for, look_up, ack_point, serve, stand_with, react}
use Rattle.promise.specs.SenderRuns.{event, SenderStep, taken, after_reply}
use Rattle.promise.proofs.Embed.{embed_tree, ValidTree}
use Rattle.promise.proofs.TreeGrown.{grown_embeds}
use Rattle.promise.proofs.SenderRender.{known, with_ack, shown_same, repeat_same, point_renders, ack_renders}
use Rattle.promise.proofs.Clipped.{clips_rule}
use Rattle.promise.proofs.SenderLeaf.{looked_at, found_embeds}

-- what a sender's call does where the plain sender reacts so: the sender that the plain one stands for, and what is compared
abbrev pub held_of : Reaction → Held
held_of o = record { sender = state_of o.sender; window = o.window; clipped = o.clipped }

abbrev pub plain_step : Reaction → SenderStep
plain_step o = record { sender = state_of o.sender; event = event o.refused o.window o.clipped }

-- a reaction that answers, of the sender that stands for it
abbrev held_with : Bool → Sender → Held
held_with c s = record { sender = s; window = window_now s; clipped = c }

pub answered_held : (c : Bool) (s : PlainSender) → held_with c (state_of s) ≡ held_of (answered_with c s)
answered_held c s = ap (λ (w : ℕ). record { sender = state_of s; window = w; clipped = c }) (sym (shown_same s.standing (window_held s)))

-- ---- an ack at moments that were read
module _ (s : PlainSender) (sent received : Float) where
  abbrev ack_by : Action → Option Repeat → TakenAck
  ack_by a next = record { sent = sent; received = received; action = a; next = next }

  take_step : (a : Action) (next : Option Repeat) → taken (settled (known s sent received) a (pending_next (pending_now s) (ack_by a next))) ≡ plain_step (take s sent received a next)
  take_step a next =
      let c = clips a (window_held s) in
      ap (λ (b : Bool). taken (held_with b (paced (known s sent received) a (pending_next (pending_now s) (ack_by a next))))) (sym (clips_rule a (window_held s)))
      ∙ ap (λ (m : Sender). taken (held_with c m)) (sym (ack_renders s sent received a next)) ∙ ap taken (answered_held c (with_ack s (ack_by a next)))

  -- with nothing pending, a draw's repeat is what comes next
  idle_step : pending_now s ≡ None → (a : Action) (next : Option Repeat) → taken (settled (known s sent received) a next) ≡ plain_step (take s sent received a next)
  unfolding pending_next
  idle_step e a next =
      ap (λ (p : Option Repeat). taken (settled (known s sent received) a (pending_next p (ack_by a next)))) (sym e) ∙ take_step a next

  repeat_step : (r : Repeat) → pending_now s ≡ Some r → taken (settled (known s sent received) r.action (repeat_next r)) ≡ plain_step (take s sent received r.action None)
  repeat_step r e =
      ap (λ (p : Option Repeat). taken (settled (known s sent received) r.action p))
      (sym (ap (λ (p : Option Repeat). pending_next p (ack_by r.action None)) e ∙ repeat_same r (ack_by r.action None)))
      ∙ take_step r.action None

  drawn-step :
      pending_now s ≡ None → (a : Action) (m : RepeatMode) (draw : Option ℕ)
      → after_reply (state_of s) (ack_drawn (known s sent received) a (drawn m draw a)) ≡ plain_step (draw_for s sent received a m draw)
  unfolding after_reply number_of ack_drawn drawn draw_fails draw_leaves
  drawn-step e a Off draw = idle_step e a None
  drawn-step e a (Always n) draw = idle_step e a (Some (repeat n a))
  drawn-step e a (Between lo hi) None = refl
  drawn-step e a (Between lo hi) (Some n) = go (leb lo n && leb n hi)
    where
      go :
          (b : Bool)
          → after_reply (state_of s) (ack_drawn (known s sent received) a (cond b (Ok (Some (repeat n a))) (Err NoDraw)))
          ≡ plain_step (cond (not b) (refuse 5 s) (take s sent received a (Some (repeat n a))))
      go true = idle_step e a (Some (repeat n a))
      go false = refl

  looked-step :
      pending_now s ≡ None → (t : Tree) (c : Option ℕ) (draw : Option ℕ)
      → after_reply (state_of s) (ack_with (known s sent received) (looked_at t c) draw) ≡ plain_step (look_up s t c sent received draw)
  unfolding after_reply number_of ack_with look_up
  looked-step e t None draw = refl
  looked-step e t (Some i) draw = drawn-step e (rule_at t i).action s.start.repeat_actions draw

  module _ (t : Tree) (v : ValidTree t) (draw : Option ℕ) where
    serve_step :
        (p : Option Repeat) → pending_now s ≡ p
        → after_reply (state_of s) (ack_pending (embed_tree t) (known s sent received) p draw) ≡ plain_step (serve s t p sent received draw)
    unfolding after_reply ack_pending serve
    serve_step (Some r) e = repeat_step r e
    serve_step None e =
        ap (λ (q : Point). after_reply (state_of s) (ack_with (known s sent received) (found_in (embed_tree t) q) draw)) (sym (point_renders s sent received))
        ∙ ap (λ (x : Option Action). after_reply (state_of s) (ack_with (known s sent received) x draw)) (found_embeds t v (ack_point s sent received))
        ∙ looked-step e t (leaf_at t (ack_point s sent received)) draw

-- ---- the calls
pub ack_step :
    (t : Tree) → ValidTree t → (s : PlainSender) (sent received : Float) (draw : Option ℕ)
    → after_reply (state_of s) (ack_of (embed_tree t) (state_of s) sent received draw) ≡ plain_step (react s (ack t sent received draw))
unfolding react admit_of ack_admitted after_reply number_of
ack_step t v s sent received draw =
    ap (after_reply (state_of s)) (grown_ack (embed_tree t) (state_of s) sent received draw (grown_embeds t v)) ∙ go (admitted sent) (admitted received)
  where
    go :
        (a b : Bool)
        → after_reply (state_of s)
        (ack_admitted (embed_tree t) (state_of s) (cond a (Ok (moment (read_as sent))) (Err NotAdmitted)) (cond b (Ok (moment (read_as received))) (Err NotAdmitted)) draw)
        ≡ plain_step (cond (a && b) (serve s t (pending_now s) (read_as sent) (read_as received) draw) (refuse 1 s))
    go true true = serve_step s (read_as sent) (read_as received) t v draw (pending_now s) refl
    go true false = refl
    go false b = refl

pub send_step : (s : PlainSender) (at : Float) → after_reply (state_of s) (send_of (state_of s) at) ≡ plain_step (react s (send at))
unfolding react admit_of send_admitted after_reply number_of
send_step s at = go (admitted at)
  where
    after : PlainSender
    after = stand_with s (Some (moment (read_as at)))

    go : (b : Bool) → after_reply (state_of s) (send_admitted (state_of s) (cond b (Ok (moment (read_as at))) (Err NotAdmitted))) ≡ plain_step (cond b (answered after) (refuse 1 s))
    go true = ap taken (answered_held false after)
    go false = refl

pub tick_step : (s : PlainSender) → tick_of (state_of s) ≡ held_of (react s tick)
unfolding react
tick_step s = answered_held false (stand_with s None)

-- ---- a refusal leaves the plain sender as it was, and hands back its number only
abbrev Stays : PlainSender → Reaction → Type 0
Stays s o = o.refused ≢ 0 → o ≡ refuse o.refused s

stays_answered : (s : PlainSender) (c : Bool) (u : PlainSender) → Stays s (answered_with c u)
stays_answered s c u n = absurd (n refl)

stays_drawn : (s : PlainSender) (sent received : Float) (a : Action) (m : RepeatMode) (draw : Option ℕ) → Stays s (draw_for s sent received a m draw)
stays_drawn s sent received a m draw = either (Stays s) (draw_fails m draw) (λ n. refl) (stays_answered s _ _)

stays_looked : (s : PlainSender) (t : Tree) (c : Option ℕ) (sent received : Float) (draw : Option ℕ) → Stays s (look_up s t c sent received draw)
unfolding look_up
stays_looked s t None sent received draw = λ n. refl
stays_looked s t (Some i) sent received draw = stays_drawn s sent received (rule_at t i).action s.start.repeat_actions draw

stays_served : (s : PlainSender) (t : Tree) (p : Option Repeat) (sent received : Float) (draw : Option ℕ) → Stays s (serve s t p sent received draw)
unfolding serve
stays_served s t (Some r) sent received draw = stays_answered s _ _
stays_served s t None sent received draw = stays_looked s t (leaf_at t (ack_point s sent received)) sent received draw

pub refused_stays : (s : PlainSender) (c : SenderCall Tree) → (react s c).refused ≢ 0 → react s c ≡ refuse (react s c).refused s
unfolding react
refused_stays s (ack t sent received draw) =
    either (Stays s) (admitted sent && admitted received) (stays_served s t (pending_now s) (read_as sent) (read_as received) draw) (λ n. refl)
refused_stays s (send at) = either (Stays s) (admitted at) (stays_answered s _ _) (λ n. refl)
refused_stays s tick = stays_answered s false (stand_with s None)
