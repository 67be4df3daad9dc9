-- As demand 3's lists have it: no ack of a list that stays on the chart is refused, by the public calls and by the plain sender, over all upper ends.
-- Assumes nothing.
use mathlib.Core.Path.{◌≡◌, refl, sym, ap, subst}
use mathlib.Core.Bool.{true}
use mathlib.Core.List.{List, [], ◌∷◌, map}
use lib.Dec.{T}
use lib.Ieee.{binary64, div, le, lt}
use lib.Ieee.Fits.{and_l}
use Rattle.std.specs.Prelude.{Result, Ok}
use Rattle.std.proofs.lemmas.Bool.{false≢true}
use Rattle.refusal.specs.declared.Refusal.{Refusal}
use Rattle.floats.proofs.Order.{lt→¬le, le_self, lt_nn_r, lt_le_trans}
use Rattle.floats.proofs.Zero.{0f}
use Rattle.remy.specs.declared.point.Point.{Point}
use Rattle.remy.specs.Cube.{ratio, point_equal}
use Rattle.rule_tree.specs.declared.RuleTree.{RuleTree}
use Rattle.sender.specs.declared.RepeatMode.TheVariants.{Off}
use Rattle.sender.specs.declared.Sender.{Sender}
use Rattle.sender.specs.declared.Held.{Held}
use Rattle.sender.specs.Sender.{fresh_sender, ack_of, send_of, tick_of}
use Rattle.sender.specs.SenderCall.{SenderCall, ack, send, tick, over}
use Rattle.promise.specs.PlainTree.{Tree}
use Rattle.promise.specs.SenderRuns.{SenderEvent, SenderStep, taken, after_reply, sender_step, sender_events, plain_start, plain_sender_events}
use Rattle.promise.proofs.Embed.{embed_tree, ValidTree}
use Rattle.promise.proofs.TreeGrown.{grown_embeds}
use Rattle.promise.proofs.SenderRun.{Over, embed_calls, sender_agrees}
use Rattle.chart_laws.specs.Chart.{Times, ack_times, round_trip, all_above, ratios_after, ratios_hold, OnChart, AcksOver, GrownWith, AcksTaken, NoAckRefused}
use Rattle.chart_laws.proofs.Quotient.{1f, quotient_one}
use Rattle.chart_laws.proofs.Taking.{acks_taken}

-- ---- the public calls
step_taken : (s : Sender) (r : Result Held Refusal) (h : Held) → r ≡ Ok h → after_reply s r ≡ taken h
unfolding after_reply
step_taken s r h e = ap (after_reply s) e

none_from : (cs : List (SenderCall RuleTree)) (s : Sender) → AcksTaken s cs → NoAckRefused cs (sender_events s cs)
unfolding sender_events sender_step
none_from [] s a = tt
none_from (ack t sent received draw ∷ cs) s a =
    let e = step_taken s (ack_of t s sent received draw) a.0 a.1 in
    subst (λ (o : SenderStep). NoAckRefused (ack t sent received draw ∷ cs) (o.event ∷ sender_events o.sender cs)) (sym e)
    (λ z. refl, none_from cs a.0.sender a.2)
none_from (send at ∷ cs) s a = (λ z. absurd (false≢true z), none_from cs (after_reply s (send_of s at)).sender a)
none_from (tick ∷ cs) s a = (λ z. absurd (false≢true z), none_from cs (tick_of s).sender a)

pub public_stays : (ends : Point) (cs : List (SenderCall RuleTree)) → AcksOver (GrownWith ends) cs → OnChart ends (ack_times cs)
    → NoAckRefused cs (sender_events (fresh_sender Off) cs)
public_stays ends cs g h = none_from cs (fresh_sender Off) (acks_taken ends cs g h)

-- ---- the same calls over the trees that others stand for
module _ {A B : Type 0} (tree : A → B) where
  pub times_over : (cs : List (SenderCall A)) → ack_times (map (over tree) cs) ≡ ack_times cs
  unfolding over
  times_over [] = refl
  times_over (ack t sent received draw ∷ cs) = ap (λ (ts : List Times). record { sent = sent; received = received } ∷ ts) (times_over cs)
  times_over (send at ∷ cs) = times_over cs
  times_over (tick ∷ cs) = times_over cs

  pub none_over : (cs : List (SenderCall A)) (es : List SenderEvent) → NoAckRefused (map (over tree) cs) es → NoAckRefused cs es
  unfolding over
  none_over [] [] h = h
  none_over [] (e ∷ es) h = h
  none_over (c ∷ cs) [] h = h
  none_over (ack t sent received draw ∷ cs) (e ∷ es) h = (h.0, none_over cs es h.1)
  none_over (send at ∷ cs) (e ∷ es) h = (h.0, none_over cs es h.1)
  none_over (tick ∷ cs) (e ∷ es) h = (h.0, none_over cs es h.1)

  pub acks_over : (P : A → Type 0) (Q : B → Type 0) → ((t : A) → P t → Q (tree t)) → (cs : List (SenderCall A)) → AcksOver P cs
      → AcksOver Q (map (over tree) cs)
  unfolding over
  acks_over P Q f [] h = tt
  acks_over P Q f (ack t sent received draw ∷ cs) h = (f t h.0, acks_over P Q f cs h.1)
  acks_over P Q f (send at ∷ cs) h = acks_over P Q f cs h
  acks_over P Q f (tick ∷ cs) h = acks_over P Q f cs h

-- ---- the plain sender, over any valid plain trees with these ends
pub record ValidWith (ends : Point) (t : Tree) : Type 0 where
  pub valid : ValidTree t
  pub same : point_equal ends t.ends ≡ true

all_valid : (ends : Point) (cs : List (SenderCall Tree)) → AcksOver (ValidWith ends) cs → Over ValidTree cs
all_valid ends [] v = tt
all_valid ends (ack t sent received draw ∷ cs) v = (v.0.valid, all_valid ends cs v.1)
all_valid ends (send at ∷ cs) v = (tt, all_valid ends cs v)
all_valid ends (tick ∷ cs) v = (tt, all_valid ends cs v)

embed_grown : (ends : Point) (t : Tree) → ValidWith ends t → GrownWith ends (embed_tree t)
embed_grown ends t v = record { grown = grown_embeds t v.valid; same = v.same }

pub plain_stays : (ends : Point) (cs : List (SenderCall Tree)) → AcksOver (ValidWith ends) cs → OnChart ends (ack_times cs)
    → NoAckRefused cs (plain_sender_events (plain_start (fresh_sender Off)) cs)
plain_stays ends cs v h =
    none_over embed_tree cs (plain_sender_events (plain_start (fresh_sender Off)) cs)
    (subst (NoAckRefused (embed_calls cs)) (sender_agrees (fresh_sender Off) cs (all_valid ends cs v)).0
    (public_stays ends (embed_calls cs) (acks_over embed_tree (ValidWith ends) (GrownWith ends) (embed_grown ends) cs v)
    (subst (OnChart ends) (sym (times_over embed_tree cs)) h)))

-- ---- a first ack's ratio is 1: an upper end of exactly 1 admits no ack
pub end_of_one : (ends : Point) (x : Times) (xs : List Times) → T (le (ratio ends) 1f) → OnChart ends (x ∷ xs) → ⊥
unfolding all_above ratios_hold
end_of_one ends x xs h c =
    let r = round_trip x in
    let q = div binary64 r r in
    let p = and_l (lt 0f r) (all_above (map round_trip xs)) c.trips in
    let l = and_l (lt q (ratio ends)) (ratios_after (ratio ends) r (map round_trip xs)) c.ratios in
    lt→¬le q 1f (lt_le_trans q (ratio ends) 1f l h) (quotient_one r r (ratio ends) p (le_self r (lt_nn_r 0f r p)) l)
