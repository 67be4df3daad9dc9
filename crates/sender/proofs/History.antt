-- What a later ack depends on: an ack's point is made from the start, the taken acks before it and the ack itself; sends, ticks and
-- refused acks change neither a later ack's point nor the pending repeat. Assumes nothing.
use mathlib.Core.Path.{◌≡◌, refl, ap, subst}
use mathlib.Core.Bool.{Bool, true, false, cond}
use mathlib.Core.List.{List, [], ◌∷◌}
use Prim.Native.Nat.{ℕ}
use lib.Ieee.{Float}
use Rattle.std.specs.Prelude.{Option, Some, None, Result, Ok, Err}
use Rattle.std.specs.Result.{result_err}
use Rattle.refusal.specs.declared.Refusal.{Refusal}
use Rattle.refusal.specs.declared.Refusal.TheVariants.{NoRule, NotGrown}
use Rattle.quantities.specs.declared.Time.{Time}
use Rattle.quantities.specs.declared.TimeSpan.{TimeSpan}
use Rattle.quantities.specs.Time.{between, admit_of}
use Rattle.remy.specs.declared.action.Action.{Action}
use Rattle.remy.specs.declared.point.Point.{Point}
use Rattle.remy.specs.Cube as cube
use Rattle.rule_tree.specs.declared.RuleTree.{RuleTree}
use Rattle.rule_tree.specs.Grown.{grown_of}
use Rattle.rule_tree.specs.Calls.{found_in}
use Rattle.sender.specs.declared.Rtt.{Rtt}
use Rattle.sender.specs.declared.Repeat.{Repeat}
use Rattle.sender.specs.declared.RepeatMode.{RepeatMode}
use Rattle.sender.specs.declared.Sender.{Sender}
use Rattle.sender.specs.declared.Held.{Held}
use Rattle.sender.specs.Memory.{average_next, rtt_next, value_of, ratio_now, remembered, point_of}
use Rattle.sender.specs.Acks.{drawn, repeat_next, paced, settled, ack_drawn, ack_with, ack_pending, ack_admitted, ack_in}
use Rattle.sender.specs.SenderCall.{SenderCall, ack, send, tick}
use Rattle.sender.specs.Sender.{ack_of, with_send, send_admitted, tick_of, replied_to, left_by}

-- what a sender remembers of its acks, with what is pending
pub record Past : Type 0 where
  pub last_ack_lem : Option Time
  pub last_ack_send_lem : Option Time
  pub ack_ewma_lem : Option TimeSpan
  pub send_ewma_lem : Option TimeSpan
  pub rtt : Option Rtt
  pub next_change_lem : Option Repeat

abbrev pub past_of : Sender → Past
past_of s =
    record {
      last_ack_lem = s.last_ack;
      last_ack_send_lem = s.last_ack_send;
      ack_ewma_lem = s.ack_ewma;
      send_ewma_lem = s.send_ewma;
      rtt = s.rtt;
      next_change_lem = s.next_change;
    }

-- ---- the point and the pending repeat are made of the past alone
abbrev pub point_from : Past → Time → Time → Point
point_from p sent received =
    cube.point_of (value_of (average_next p.ack_ewma_lem p.last_ack_lem received)) (value_of (average_next p.send_ewma_lem p.last_ack_send_lem sent))
    (ratio_now (Some (rtt_next p.rtt (between received sent))))

pub point_of_past : (s : Sender) (sent received : Time) → point_of (remembered s sent received) ≡ point_from (past_of s) sent received
point_of_past s sent received = refl

pub pending_of_past : (s : Sender) → s.next_change ≡ (past_of s).next_change_lem
pending_of_past s = refl

-- ---- a send and a tick keep it
pub send_keeps : (s : Sender) (at : Time) → past_of (with_send s at) ≡ past_of s
send_keeps s at = refl

pub tick_keeps : (s : Sender) → past_of (tick_of s).sender ≡ past_of s
tick_keeps s = refl

-- ---- lists of calls
unfoldable pub after : Sender → SenderCall RuleTree → Sender
unfolding left_by replied_to
after s c = left_by s (replied_to s c)

unfoldable pub run : Sender → List (SenderCall RuleTree) → Sender
unfolding after
run s [] = s
run s (c ∷ cs) = run (after s c) cs

-- the call alone where it is taken
unfoldable pub if_taken : Result Held Refusal → SenderCall RuleTree → List (SenderCall RuleTree) → List (SenderCall RuleTree)
if_taken (Ok h) c cs = c ∷ cs
if_taken (Err r) c cs = cs

-- the acks among the calls that are taken where they stand
unfoldable pub taken_acks : Sender → List (SenderCall RuleTree) → List (SenderCall RuleTree)
unfolding after if_taken
taken_acks s [] = []
taken_acks s (ack t sent received draw ∷ cs) =
    if_taken (ack_of t s sent received draw) (ack t sent received draw) (taken_acks (after s (ack t sent received draw)) cs)
taken_acks s (send at ∷ cs) = taken_acks (after s (send at)) cs
taken_acks s (tick ∷ cs) = taken_acks (after s tick) cs

-- ---- two senders that may differ in window, wait and standing send
pub record Same (s u : Sender) : Type 0 where
  pub past : past_of s ≡ past_of u
  pub mode : s.repeat_actions ≡ u.repeat_actions

send_same : (s u : Sender) (at : Float) → Same s u → Same (after s (send at)) u
unfolding after left_by send_admitted
send_same s u at e = go (admit_of at)
  where
    go : (x : Result Time Refusal) → Same (left_by s (send_admitted s x)) u
    go (Ok t) = record { past = e.past; mode = e.mode }
    go (Err r) = e

tick_same : (s u : Sender) → Same s u → Same (tick_of s).sender u
tick_same s u e = record { past = e.past; mode = e.mode }

-- with another repeat pending
abbrev pending : Option Repeat → Past → Past
pending next p = record p { next_change_lem = next }

-- with one ack more
abbrev grows : Time → Time → Past → Past
grows sent received p =
    record p {
      last_ack_lem = Some received;
      last_ack_send_lem = Some sent;
      ack_ewma_lem = average_next p.ack_ewma_lem p.last_ack_lem received;
      send_ewma_lem = average_next p.send_ewma_lem p.last_ack_send_lem sent;
      rtt = Some (rtt_next p.rtt (between received sent));
    }

abbrev looked_at : Past → Point
looked_at p = cube.point_of (value_of p.ack_ewma_lem) (value_of p.send_ewma_lem) (ratio_now p.rtt)

paced_same : {m n : Sender} (a : Action) (next : Option Repeat) → Same m n → Same (paced m a next) (paced n a next)
paced_same a next e = record { past = ap (pending next) e.past; mode = e.mode }

remembered_same : {s u : Sender} (sent received : Time) → Same s u → Same (remembered s sent received) (remembered u sent received)
remembered_same sent received e = record { past = ap (grows sent received) e.past; mode = e.mode }

-- two answers that are both taken, or refused for the same, and that leave such senders
pub record Alike (s u : Sender) (r q : Result Held Refusal) : Type 0 where
  pub leaves : Same (left_by s r) (left_by u q)
  pub refusal : result_err r ≡ result_err q

-- an ack's refusal, and the past and the mode after it, are made of the past and the mode before it
module _ {s u : Sender} (e : Same s u) (t : RuleTree) (draw : Option ℕ) where
  refused_alike : (r : Refusal) → Alike s u (Err r) (Err r)
  unfolding left_by
  refused_alike r = record { leaves = e; refusal = refl }

  settled_alike : {m n : Sender} (a : Action) (next : Option Repeat) → Same m n → Alike s u (Ok (settled m a next)) (Ok (settled n a next))
  unfolding left_by
  settled_alike a next mn = record { leaves = paced_same a next mn; refusal = refl }

  drawn_alike : {m n : Sender} → Same m n → (a : Action) (d : Result (Option Repeat) Refusal) → Alike s u (ack_drawn m a d) (ack_drawn n a d)
  unfolding ack_drawn
  drawn_alike mn a (Ok next) = settled_alike a next mn
  drawn_alike mn a (Err r) = refused_alike r

  with_alike : {m n : Sender} → Same m n → (found : Option Action) → Alike s u (ack_with m found draw) (ack_with n found draw)
  unfolding ack_with
  with_alike {m} {n} mn (Some a) =
      subst (λ (mode : RepeatMode). Alike s u (ack_drawn m a (drawn m.repeat_actions draw a)) (ack_drawn n a (drawn mode draw a)))
      mn.mode (drawn_alike mn a (drawn m.repeat_actions draw a))
  with_alike mn None = refused_alike NoRule

  pending_alike : {m n : Sender} → Same m n → (p : Option Repeat) → Alike s u (ack_pending t m p draw) (ack_pending t n p draw)
  unfolding ack_pending
  pending_alike mn (Some r) = settled_alike r.action (repeat_next r) mn
  pending_alike {m} {n} mn None =
      subst (λ (p : Point). Alike s u (ack_with m (found_in t (point_of m)) draw) (ack_with n (found_in t p) draw))
      (ap looked_at mn.past) (with_alike mn (found_in t (point_of m)))

  admitted_alike : (x y : Result Time Refusal) → Alike s u (ack_admitted t s x y draw) (ack_admitted t u x y draw)
  unfolding ack_admitted
  admitted_alike (Ok x) (Ok y) =
      subst
      (λ (p : Option Repeat). Alike s u (ack_pending t (remembered s x y) s.next_change draw) (ack_pending t (remembered u x y) p draw))
      (ap (λ (p : Past). p.next_change_lem) e.past) (pending_alike (remembered_same x y e) s.next_change)
  admitted_alike (Ok x) (Err r) = refused_alike r
  admitted_alike (Err r) y = refused_alike r

  pub ack_alike : (sent received : Float) → Alike s u (ack_of t s sent received draw) (ack_of t u sent received draw)
  unfolding ack_of
  ack_alike sent received = go (grown_of t)
    where
      go : (b : Bool) → Alike s u (cond b (ack_in t s sent received draw) (Err NotGrown)) (cond b (ack_in t u sent received draw) (Err NotGrown))
      go true = admitted_alike (admit_of sent) (admit_of received)
      go false = refused_alike NotGrown

-- the taken acks alone leave the same past
ack_run : (s u : Sender) (c : SenderCall RuleTree) (cs : List (SenderCall RuleTree)) → ((x y : Sender) → Same x y → Same (run x cs) (run y (taken_acks x cs))) → Same s u
    → (r : Result Held Refusal) → Same (left_by s r) (after u c) → Same (run (left_by s r) cs) (run u (if_taken r c (taken_acks (left_by s r) cs)))
unfolding run if_taken
ack_run s u c cs rest e (Ok h) k = rest h.sender (after u c) k
ack_run s u c cs rest e (Err r) k = rest s u e

run_same : (s u : Sender) (cs : List (SenderCall RuleTree)) → Same s u → Same (run s cs) (run u (taken_acks s cs))
unfolding run taken_acks
run_same s u [] e = e
run_same s u (ack t sent received draw ∷ cs) e =
    ack_run s u (ack t sent received draw) cs (λ x y k. run_same x y cs k) e (ack_of t s sent received draw)
    (ack_alike e t draw sent received).leaves
run_same s u (send at ∷ cs) e = run_same (after s (send at)) u cs (send_same s u at e)
run_same s u (tick ∷ cs) e = run_same (after s tick) u cs (tick_same s u e)

pub history : (s : Sender) (cs : List (SenderCall RuleTree)) → past_of (run s cs) ≡ past_of (run s (taken_acks s cs))
history s cs = (run_same s s cs (record { past = refl; mode = refl })).past

pub point_history : (s : Sender) (cs : List (SenderCall RuleTree)) (sent received : Time)
    → point_of (remembered (run s cs) sent received) ≡ point_of (remembered (run s (taken_acks s cs)) sent received)
point_history s cs sent received = ap (λ (p : Past). point_from p sent received) (history s cs)

pub pending_history : (s : Sender) (cs : List (SenderCall RuleTree)) → (run s cs).next_change ≡ (run s (taken_acks s cs)).next_change
pending_history s cs = ap (λ (p : Past). p.next_change_lem) (history s cs)

-- and a later ack is refused for the same, or taken as well
pub number_history : (s : Sender) (cs : List (SenderCall RuleTree)) (t : RuleTree) (sent received : Float) (draw : Option ℕ)
    → result_err (ack_of t (run s cs) sent received draw) ≡ result_err (ack_of t (run s (taken_acks s cs)) sent received draw)
number_history s cs t sent received draw = (ack_alike (run_same s s cs (record { past = refl; mode = refl })) t draw sent received).refusal
