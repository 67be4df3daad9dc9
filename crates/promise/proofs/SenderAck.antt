-- One call on the plain sender: when an ack over a valid tree is refused with 1, 22 or 5, and which action sets window and wait otherwise;
-- what a send and a tick do.
-- Assumes nothing.
use mathlib.Core.Path.{◌≡◌, refl, sym, ap, subst, subst⁻¹, ◌∙◌}
use mathlib.Core.Bool.{Bool, true, false, ◌&&◌}
use mathlib.Core.Logic.{⊎_elim, ◌⊎◌, ◌≢◌}
use Prim.Native.Nat.{ℕ}
use native.Mathlib.Omega.{arith}
use lib.Ieee.{Float}
use Rattle.std.specs.Prelude.{Option, Some, None}
use Rattle.std.proofs.lemmas.Bool.{false_from_ne_true, cond_both}
use Rattle.refusal.proofs.Guards.{either}
use Rattle.quantities.specs.Time.{moment}
use Rattle.remy.specs.declared.action.Action.{Action}
use Rattle.remy.specs.declared.point.Point.{Point}
use Rattle.remy.specs.Cube.{root_of, contains_of}
use Rattle.rule_tree.specs.Walk.{leaf_of}
use Rattle.sender.specs.declared.Repeat.{Repeat}
use Rattle.sender.specs.declared.RepeatMode.{RepeatMode}
use Rattle.sender.specs.SenderCall.{SenderCall, ack, send, tick}
use Rattle.promise.specs.PlainTree.{Tree, rule_at}
use Rattle.promise.specs.PlainSender.{TakenAck, PlainSender, pending_now, shown, leaf_at, Reaction, refuse, answered, admitted, read_as, take, draw_fails, draw_leaves, draw_for, look_up, ack_point, serve, stand_with, react}
use Rattle.promise.specs.SenderRuns.{SetBy, Outside, Undrawn, AckDoes}
use Rattle.promise.specs.Demand3.{AckHolds, SendHolds, TickHolds, Unmoved}
use Rattle.promise.proofs.Embed.{embed_tree, ValidTree}
use Rattle.promise.proofs.SenderRender.{window_more, wait_more}
use Rattle.promise.proofs.SenderLeaf.{leaf_inside, leaf_outside, reached}
use Rattle.promise.proofs.SenderSteps.{plain_step, refused_stays}

abbrev in_box : Tree → Point → Bool
in_box t p = contains_of (root_of t.ends) p

-- ---- a draw
record Drew (s : PlainSender) (sent received : Float) (a : Action) (o : Reaction) : Type 0 where
  next : Option Repeat
  is : o ≡ take s sent received a next

module _ (s : PlainSender) (sent received : Float) (a : Action) (m : RepeatMode) (draw : Option ℕ) where
  draw_fails_lem : draw_fails m draw ≡ true → draw_for s sent received a m draw ≡ refuse 5 s
  draw_fails_lem e = rw e

  draw_serves : draw_fails m draw ≡ false → Drew s sent received a (draw_for s sent received a m draw)
  draw_serves e = record { next = draw_leaves m draw a; is = rw e }

-- a taken ack's action sets window and wait
set_by : (s : PlainSender) (sent received : Float) (a : Action) (next : Option Repeat) → SetBy s a (plain_step (take s sent received a next))
set_by s sent received a next =
    let x : TakenAck = record { sent = sent; received = received; action = a; next = next } in
    let w = window_more s.start.window s.history x in
    record {
      taken = refl;
      window = w;
      wait = wait_more s.start.intersend_delay s.history x;
      answer = ap (shown s.standing) w;
      clipped = refl;
    }

-- ---- the four ways of an ack at moments that were read
module _ (s : PlainSender) (t : Tree) (v : ValidTree t) (sent received : Float) (draw : Option ℕ) where
  abbrev point : Point
  point = ack_point s sent received

  abbrev mode : RepeatMode
  mode = s.start.repeat_actions

  abbrev served : Reaction
  served = serve s t (pending_now s) sent received draw

  repeat_way : (r : Repeat) → pending_now s ≡ Some r → served ≡ take s sent received r.action None
  unfolding serve
  repeat_way r e = ap (λ (p : Option Repeat). serve s t p sent received draw) e

  idle_way : (c : Option ℕ) → pending_now s ≡ None → leaf_at t point ≡ c → served ≡ look_up s t c sent received draw
  unfolding serve
  idle_way c e l = ap (λ (p : Option Repeat). serve s t p sent received draw) e ∙ ap (λ (c : Option ℕ). look_up s t c sent received draw) l

  outside_way : pending_now s ≡ None → in_box t point ≡ false → served ≡ refuse 22 s
  unfolding look_up
  outside_way e b = idle_way None e (leaf_outside t v point b)

  looked_way : pending_now s ≡ None → in_box t point ≡ true → served ≡ draw_for s sent received (rule_at t (leaf_of (embed_tree t) point)).action mode draw
  unfolding look_up
  looked_way e b = idle_way (Some (leaf_of (embed_tree t) point)) e (leaf_inside t v point b)

  missing_way : pending_now s ≡ None → in_box t point ≡ true → draw_fails mode draw ≡ true → served ≡ refuse 5 s
  missing_way e b d = looked_way e b ∙ draw_fails_lem s sent received _ mode draw d

  taken-way :
      pending_now s ≡ None → in_box t point ≡ true → draw_fails mode draw ≡ false → Drew s sent received (rule_at t (leaf_of (embed_tree t) point)).action served
  taken-way e b d =
      let w = draw_serves s sent received (rule_at t (leaf_of (embed_tree t) point)).action mode draw d in
      record { next = w.next; is = looked_way e b ∙ w.is }

  -- which ways refuse, and with what
  refusal : (n : ℕ) → served.refused ≡ n → n ≢ 0 → ((n ≡ 22) × Outside s t point) ⊎ ((n ≡ 5) × Undrawn s t point draw)
  refusal n r z = go (pending_now s) refl (in_box t point) refl (draw_fails mode draw) refl
    where
      Answer : Type 0
      Answer = ((n ≡ 22) × Outside s t point) ⊎ ((n ≡ 5) × Undrawn s t point draw)

      count : (o : Reaction) → served ≡ o → n ≡ o.refused
      count o e = sym r ∙ ap (λ (x : Reaction). x.refused) e

      go : (p : Option Repeat) → pending_now s ≡ p → (b : Bool) → in_box t point ≡ b → (d : Bool) → draw_fails mode draw ≡ d → Answer
      go (Some r) e b f d g = absurd (z (count _ (repeat_way r e)))
      go None e false f d g = ◌⊎◌.inl (count _ (outside_way e f), (e, f))
      go None e true f true g = ◌⊎◌.inr (count _ (missing_way e f g), (e, (f, g)))
      go None e true f false g = absurd (z (count _ (taken-way e f g).is))

  serve_does : AckDoes s t point draw (plain_step served)
  serve_does =
      record {
        refused_22 = (
          λ r. ⊎_elim (λ w. w.1) (λ w. absurd (omega (arith, w.0))) (refusal 22 r (λ z. omega (arith, z))),
          λ w. ap (λ (o : Reaction). o.refused) (outside_way w.0 w.1),
        );
        refused_5 = (
          λ r. ⊎_elim (λ w. absurd (omega (arith, w.0))) (λ w. w.1) (refusal 5 r (λ z. omega (arith, z))),
          λ w. ap (λ (o : Reaction). o.refused) (missing_way w.0 w.1.0 w.1.1),
        );
        repeated = λ r e. subst⁻¹ (λ (o : Reaction). SetBy s r.action (plain_step o)) (repeat_way r e) (set_by s sent received r.action None);
        looked =
            λ e b d.
            let i = leaf_of (embed_tree t) point in
            let w = taken-way e b d in
            (i, (reached t v point b, subst⁻¹ (λ (o : Reaction). SetBy s (rule_at t i).action (plain_step o)) w.is (set_by s sent received (rule_at t i).action w.next)));
      }

-- ---- the calls
module _ (s : PlainSender) (t : Tree) (sent received : Float) (draw : Option ℕ) where
  read_way : admitted sent && admitted received ≡ true → serve s t (pending_now s) (read_as sent) (read_as received) draw ≡ react s (ack t sent received draw)
  unfolding react
  read_way e = rw e

  unread_way : admitted sent && admitted received ≡ false → react s (ack t sent received draw) ≡ refuse 1 s
  unfolding react
  unread_way e = rw e

  module _ (v : ValidTree t) where
    ack_does : admitted sent && admitted received ≡ true → AckDoes s t (ack_point s (read_as sent) (read_as received)) draw (plain_step (react s (ack t sent received draw)))
    ack_does e =
        subst (λ (o : Reaction). AckDoes s t (ack_point s (read_as sent) (read_as received)) draw (plain_step o)) (read_way e)
        (serve_does s t v (read_as sent) (read_as received) draw)

    -- 1 exactly where a moment is not admitted
    unread_only : (react s (ack t sent received draw)).refused ≡ 1 → admitted sent && admitted received ≡ false
    unread_only r =
        false_from_ne_true (admitted sent && admitted received)
        (λ e. ⊎_elim (λ w. absurd (omega (arith, w.0))) (λ w. absurd (omega (arith, w.0)))
        (refusal s t v (read_as sent) (read_as received) draw 1 (ap (λ (o : Reaction). o.refused) (read_way e) ∙ r) (λ z. omega (arith, z))))

    pub plain_ack : AckHolds s t sent received draw (plain_step (react s (ack t sent received draw)))
    plain_ack = record { unread = (unread_only, λ e. ap (λ (o : Reaction). o.refused) (unread_way e)); does = ack_does }

-- ---- a send and a tick
pub plain_send : (s : PlainSender) (at : Float) → SendHolds at (plain_step (react s (send at)))
unfolding react shown
plain_send s at =
    cond_both (admitted at) (answered (stand_with s (Some (moment (read_as at))))) (refuse 1 s) (λ (o : Reaction). SendHolds at (plain_step o))
    (λ e. record { unread = (λ r. absurd (omega (arith, r)), λ u. cc (e, u)); does = λ u. (refl, refl) })
    (λ e. record { unread = (λ r. e, λ u. refl); does = λ u. cc (u, e) })

pub plain_tick : (s : PlainSender) → TickHolds s (plain_step (react s tick))
unfolding react shown
plain_tick s = record { answer = refl; standing = refl }

-- ---- what leaves the point of a later ack and the pending repeat
same_past : (s u : PlainSender) → u.start ≡ s.start → u.history ≡ s.history → Unmoved s u
same_past s u e h = record { point = λ sent received. rw (e, h); pending = rw (e, h) }

pub refused_unmoved : (s : PlainSender) (c : SenderCall Tree) → (react s c).refused ≢ 0 → Unmoved s (react s c).sender
refused_unmoved s c n = subst⁻¹ (λ (o : Reaction). Unmoved s o.sender) (refused_stays s c n) (same_past s s refl refl)

pub send_unmoved : (s : PlainSender) (at : Float) → Unmoved s (react s (send at)).sender
unfolding react
send_unmoved s at =
    either (λ (o : Reaction). Unmoved s o.sender) (admitted at) (same_past s (stand_with s (Some (moment (read_as at)))) refl refl) (same_past s s refl refl)

pub tick_unmoved : (s : PlainSender) → Unmoved s (react s tick).sender
unfolding react
tick_unmoved s = same_past s (stand_with s None) refl refl
