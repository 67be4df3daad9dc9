-- What is true of every burst: all is taken where nothing stops it, two lists in a row, none, a refused one, and the places from the stop on.
-- Assumes nothing.
use mathlib.Core.Path.{◌≡◌, refl, sym, ap, ◌∙◌, subst}
use mathlib.Core.Bool.{true}
use mathlib.Core.List.{List, [], ◌∷◌, ◌++◌}
use Prim.Native.Nat.{ℕ, suc}
use lib.Dec.{leb-zero}
use lib.ListN.{length, drop}
use lib.Seq.{drop_at}
use Rattle.std.specs.Prelude.{Option, Some, None, Result, Ok, Err}
use Rattle.refusal.specs.declared.Refusal.{Refusal}
use Rattle.refusal.specs.Guards.{first_refused}
use Rattle.refusal.proofs.Guards.{in_each, numbered_by}
use Rattle.rule_tree.specs.declared.RuleTree.{RuleTree}
use Rattle.rule_tree.specs.Grown.{grown_of}
use Rattle.sender.specs.declared.Ack.{Ack}
use Rattle.sender.specs.declared.Held.{Held}
use Rattle.sender.specs.declared.Ran.{Ran}
use Rattle.sender.specs.declared.Sender.{Sender}
use Rattle.sender.specs.Sender.{ack_of}
use Rattle.sender.specs.Burst.{Course, ahead, burst_number, burst_of, burst_order, course_of, ends_with, flag_of, flags_after, followed, followed_by, ran_by, room_for, windows_after}
pub use Rattle.sender.proofs.AckNumbers.{stopped_for}
use Rattle.sender.proofs.Bursts as first
use Rattle.sender.proofs.Bursts.{ahead_ahead}

module _ (t : RuleTree) where
  -- ---- an ack ahead of the others: what is true of both ways is true of its course
  by_first : (P : Course → Type 0) (s : Sender) (x : Ack) (xs : List Ack)
      → ((h : Held) → P (ahead (h.window ∷ []) (flag_of h.clipped ∷ []) (course_of t h.sender xs)))
      → ((r : Refusal) → P (ends_with s (Some r))) → P (course_of t s (x ∷ xs))
  by_first P s x xs taken refused = go (ack_of t s x.sent x.received x.draw) refl
    where
      go : (r : Result Held Refusal) → ack_of t s x.sent x.received x.draw ≡ r → P (course_of t s (x ∷ xs))
      go (Ok h) e = subst P (sym (first.first_taken t s x xs refl e)) (taken h)
      go (Err r) e = subst P (sym (first.first_refused t s x xs refl e)) (refused r)

  -- a flag for each window
  pub as_many : (s : Sender) (xs : List Ack) → length (course_of t s xs).flags ≡ length (course_of t s xs).windows
  unfolding course_of
  as_many s [] = refl
  as_many s (x ∷ xs) =
      by_first (λ (c : Course). length c.flags ≡ length c.windows) s x xs (λ h. ap suc (as_many h.sender xs)) (λ r. refl)

  -- nothing stopped it: all are taken
  pub taken_all : (s : Sender) (xs : List Ack) → (course_of t s xs).stopped ≡ None → length (course_of t s xs).windows ≡ length xs
  unfolding course_of
  taken_all s [] = λ e. refl
  taken_all s (x ∷ xs) =
      by_first (λ (c : Course). c.stopped ≡ None → length c.windows ≡ suc (length xs)) s x xs (λ h e. ap suc (taken_all h.sender xs e)) (λ r e. cc)

  -- ---- two lists, one behind the other
  ahead_followed : (ws fs : List ℕ) (c d : Course) → followed (ahead ws fs c) d ≡ ahead ws fs (followed c d)
  unfolding followed
  ahead_followed ws fs c d = go c.stopped
    where
      go : (r : Option Refusal) → followed_by r (ahead ws fs c) d ≡ ahead ws fs (followed_by r c d)
      go None = sym (ahead_ahead ws c.windows fs c.flags d)
      go (Some r) = refl

  pub burst_append : (s : Sender) (xs ys : List Ack)
      → course_of t s (xs ++ ys) ≡ followed (course_of t s xs) (course_of t (course_of t s xs).sender ys)
  unfolding course_of followed
  burst_append s [] ys = refl
  burst_append s (x ∷ xs) ys = go (ack_of t s x.sent x.received x.draw) refl (λ u. burst_append u xs ys)
    where
      go : (r : Result Held Refusal) → ack_of t s x.sent x.received x.draw ≡ r
          → ((u : Sender) → course_of t u (xs ++ ys) ≡ followed (course_of t u xs) (course_of t (course_of t u xs).sender ys))
          → course_of t s (x ∷ (xs ++ ys)) ≡ followed (course_of t s (x ∷ xs)) (course_of t (course_of t s (x ∷ xs)).sender ys)
      go (Ok h) e ih =
          let w = h.window ∷ [] in
          let f = flag_of h.clipped ∷ [] in
          first.first_taken t s x (xs ++ ys) refl e ∙ ap (ahead w f) (ih h.sender)
          ∙ sym (ahead_followed w f (course_of t h.sender xs) (course_of t (course_of t h.sender xs).sender ys))
          ∙ ap (λ (c : Course). followed c (course_of t c.sender ys)) (sym (first.first_taken t s x xs refl e))
      go (Err r) e ih =
          first.first_refused t s x (xs ++ ys) refl e ∙ ap (λ (c : Course). followed c (course_of t c.sender ys)) (sym (first.first_refused t s x xs refl e))

-- ---- "0 acks": none taken, nothing stopped it, and both lists as they came
module _ (t : RuleTree) (s : Sender) (w f : List ℕ) (g : grown_of t ≡ true) where
  none_done : burst_of t s [] w f ≡ Ok (record { sender = s; taken = 0; stopped = None })
  unfolding burst_of room_for course_of
  none_done = rw (g, leb-zero (length w), leb-zero (length f))

  pub none_taken : (burst_of t s [] w f ≡ Ok (record { sender = s; taken = 0; stopped = None }))
      × (windows_after t s [] w (burst_of t s [] w f) ≡ w) × (flags_after t s [] f (burst_of t s [] w f) ≡ f)
  unfolding windows_after flags_after course_of
  none_taken = (none_done, ap (windows_after t s [] w) none_done, ap (flags_after t s [] f) none_done)

-- ---- the call
module _ (t : RuleTree) (s : Sender) (acks : List Ack) (w f : List ℕ) where
  -- 10, then 9
  pub burst_order_lem : burst_number (burst_of t s acks w f) ≡ first_refused (burst_order t acks w f)
  unfolding burst_of burst_number
  burst_order_lem = numbered_by (Ok (ran_by (course_of t s acks))) burst_number (λ r. refl) refl (burst_order t acks w f)

  pub refused_kept : {r : Refusal} → burst_of t s acks w f ≡ Err r
      → (windows_after t s acks w (burst_of t s acks w f) ≡ w) × (flags_after t s acks f (burst_of t s acks w f) ≡ f)
  unfolding windows_after flags_after
  refused_kept e = (ap (windows_after t s acks w) e, ap (flags_after t s acks f) e)

  -- what was done is the course of its acks
  pub done_so : {r : Ran} → burst_of t s acks w f ≡ Ok r → ran_by (course_of t s acks) ≡ r
  unfolding burst_of
  done_so {r} =
      let c = ran_by (course_of t s acks) in
      in_each (Ok c) (λ (x : Result Ran Refusal). x ≡ Ok r → c ≡ r) (λ k e. cc) (λ e. cc) (burst_order t acks w f)

  -- every place from `taken` on is as it was
  pub from_the_stop : {r : Ran} → burst_of t s acks w f ≡ Ok r
      → (drop r.taken (windows_after t s acks w (Ok r)) ≡ drop r.taken w) × (drop r.taken (flags_after t s acks f (Ok r)) ≡ drop r.taken f)
  unfolding windows_after flags_after
  from_the_stop {r} e =
      let c = course_of t s acks in
      let n : length c.windows ≡ r.taken = ap (λ (x : Ran). x.taken) (done_so e) in (
        drop_at c.windows (drop r.taken w) r.taken n,
        drop_at c.flags (drop r.taken f) r.taken (as_many t s acks ∙ n),
      )
