-- Every event's line is the plain sender's, and so are all of them. Assumes nothing.
use mathlib.Core.Path.{◌≡◌, refl, sym, ap, subst, ◌∙◌}
use mathlib.Core.List.{List, [], ◌∷◌, ◌++◌}
use Prim.Native.Nat.{ℕ}
use native.Mathlib.Omega.{arith}
use borrow.Author.Tests.{ne_eqb}
use Rattle.std.specs.Prelude.{Result, Ok, Err}
use Rattle.refusal.specs.declared.Refusal.{Refusal}
use Rattle.refusal.specs.Numbers.{number_of}
use Rattle.sender.specs.declared.Event.{Event}
use Rattle.sender.specs.declared.Event.TheVariants.{Ack, Send, Tick}
use Rattle.sender.specs.declared.RepeatMode.TheVariants.{Off}
use Rattle.sender.specs.declared.Sender.{Sender}
use Rattle.sender.specs.declared.Held.{Held}
use Rattle.sender.specs.SenderCall.{tick, on}
use Rattle.sender.specs.Sender.{fresh_sender, replied_to, left_by}
use Rattle.sender.proofs.AckNumbers.{above_0}
use Rattle.promise.specs.PlainTree.{Tree}
use Rattle.promise.specs.PlainSender.{PlainSender, state_of, react}
use Rattle.promise.specs.SenderRuns.{event, SenderStep, taken, after_reply, plain_start, plain_sender_events}
use Rattle.promise.proofs.Embed.{embed_tree, ValidTree}
use Rattle.promise.proofs.SenderRender.{start_renders}
use Rattle.promise.proofs.SenderSteps.{held_of, plain_step, ack_step, send_step, tick_step}
use Rattle.trace_lines.specs.Trace.{line_of, lines_from}
use Rattle.trace_lines.proofs.Showing.{lines_none, lines_more}
use Rattle.trace_laws.specs.PlainTrace.{plain_line, lines_of, calls_on, plain_lines}

-- ---- a reply: its line, and the sender that it leaves
module _ (s : Sender) where
  reply_line : (r : Result Held Refusal) → line_of r ≡ plain_line (after_reply s r).event
  unfolding line_of after_reply plain_line
  reply_line (Ok h) = refl
  reply_line (Err r) =
      let a = above_0 r in
      let e = ne_eqb (number_of r) 0 (λ z. absurd (omega (arith, z))) in
      rw e

  reply_left : (r : Result Held Refusal) → left_by s r ≡ (after_reply s r).sender
  unfolding left_by after_reply
  reply_left (Ok h) = refl
  reply_left (Err r) = refl

-- ---- an event over a valid tree
tick_taken : (s : PlainSender) → taken (held_of (react s tick)) ≡ plain_step (react s tick)
unfolding react
tick_taken s = refl

module _ (u : Tree) (v : ValidTree u) where
  event_step : (s : PlainSender) (e : Event) → after_reply (state_of s) (replied_to (state_of s) (on (embed_tree u) e)) ≡ plain_step (react s (on u e))
  unfolding after_reply replied_to on
  event_step s (Ack x) = ack_step u v s x.sent x.received x.draw
  event_step s (Send at) = send_step s at
  event_step s Tick = ap taken (tick_step s) ∙ tick_taken s

  plain_more : (s : PlainSender) (e : Event) (es : List Event)
      → lines_of (plain_sender_events s (calls_on u (e ∷ es)))
      ≡ plain_line (event (react s (on u e)).refused (react s (on u e)).window (react s (on u e)).clipped) ++ lines_of (plain_sender_events (react s (on u e)).sender (calls_on u es))
  unfolding lines_of plain_sender_events
  plain_more s e es = refl

  plain_none : (s : PlainSender) → lines_of (plain_sender_events s []) ≡ []
  unfolding lines_of plain_sender_events
  plain_none s = refl

  lines_from_lem : (es : List Event) (s : PlainSender) → lines_from (embed_tree u) (state_of s) es ≡ lines_of (plain_sender_events s (calls_on u es))
  lines_from_lem [] s = lines_none (embed_tree u) (state_of s) ∙ sym (plain_none s)
  lines_from_lem (e ∷ es) s =
      let o = react s (on u e) in
      let r = replied_to (state_of s) (on (embed_tree u) e) in
      lines_more (embed_tree u) (state_of s) e es
      ∙ ap (λ (l : List ℕ). l ++ lines_from (embed_tree u) (left_by (state_of s) r) es) (reply_line (state_of s) r)
      ∙ ap (λ (w : Sender). plain_line (after_reply (state_of s) r).event ++ lines_from (embed_tree u) w es) (reply_left (state_of s) r)
      ∙ ap (λ (p : SenderStep). plain_line p.event ++ lines_from (embed_tree u) p.sender es) (event_step s e)
      ∙ ap (λ (l : List ℕ). plain_line (event o.refused o.window o.clipped) ++ l) (lines_from_lem es o.sender)
      ∙ sym (plain_more s e es)

  -- on a fresh sender
  pub lines_plain : (es : List Event) → lines_from (embed_tree u) (fresh_sender Off) es ≡ plain_lines u es
  lines_plain es =
      subst (λ (x : Sender). lines_from (embed_tree u) x es ≡ plain_lines u es) (start_renders (fresh_sender Off)) (lines_from_lem es (plain_start (fresh_sender Off)))
