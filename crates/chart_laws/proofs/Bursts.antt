-- A burst that stays on the chart is taken whole, over all upper ends. Assumes nothing.
use mathlib.Core.Path.{◌≡◌, refl, sym, ap, subst, ◌∙◌}
use mathlib.Core.List.{List, [], ◌∷◌}
use lib.ListN.{length}
use Rattle.std.specs.Prelude.{None}
use Rattle.remy.specs.declared.point.Point.{Point}
use Rattle.rule_tree.specs.declared.RuleTree.{RuleTree}
use Rattle.sender.specs.declared.Ack.{Ack}
use Rattle.sender.specs.declared.RepeatMode.TheVariants.{Off}
use Rattle.sender.specs.declared.Sender.{Sender}
use Rattle.sender.specs.Sender.{fresh_sender}
use Rattle.sender.specs.Burst.{Course, course_of}
use Rattle.sender.proofs.Bursts.{first_taken}
use Rattle.sender.proofs.BurstLaws.{taken_all}
use Rattle.chart_laws.specs.Chart.{Times, ack_times, OnChart, AcksOver, GrownWith, AcksTaken, burst_times, burst_calls}
use Rattle.chart_laws.proofs.Taking.{acks_taken}

module _ (t : RuleTree) where
  times_of : (xs : List Ack) → ack_times (burst_calls t xs) ≡ burst_times xs
  times_of [] = refl
  times_of (x ∷ xs) = ap (λ (ts : List Times). record { sent = x.sent; received = x.received } ∷ ts) (times_of xs)

  all_over : (P : RuleTree → Type 0) → P t → (xs : List Ack) → AcksOver P (burst_calls t xs)
  all_over P p [] = tt
  all_over P p (x ∷ xs) = (p, all_over P p xs)

  not_stopped : (s : Sender) (xs : List Ack) → AcksTaken s (burst_calls t xs) → (course_of t s xs).stopped ≡ None
  unfolding course_of
  not_stopped s [] a = refl
  not_stopped s (x ∷ xs) a = ap (λ (c : Course). c.stopped) (first_taken t s x xs refl a.1) ∙ not_stopped a.0.sender xs a.2

  -- nothing stops it, and it has a window for each ack
  pub burst_stays : (ends : Point) → GrownWith ends t → (xs : List Ack) → OnChart ends (burst_times xs)
      → ((course_of t (fresh_sender Off) xs).stopped ≡ None) × (length (course_of t (fresh_sender Off) xs).windows ≡ length xs)
  burst_stays ends g xs h =
      let a = acks_taken ends (burst_calls t xs) (all_over (GrownWith ends) g xs) (subst (OnChart ends) (sym (times_of xs)) h) in
      let z = not_stopped (fresh_sender Off) xs a in
      (z, taken_all t (fresh_sender Off) xs z)
