-- What a burst over bytes leaves: the gathered acks are the list's, and the taken windows, the flags and the sender are written. Assumes nothing.
use mathlib.Core.Path.{◌≡◌, refl, sym, ap, ◌∙◌}
use mathlib.Core.List.{List, [], ◌∷◌, ◌++◌}
use Prim.Native.Nat.{ℕ, suc, ◌+◌, ◌*◌, ◌/◌, ◌≤◌}
use native.Mathlib.Omega.{arith}
use lib.ListN.{length, take, drop}
use lib.Seq.{sets, take_at}
use Rattle.std.specs.Prelude.{Result, Ok, Err}
use Rattle.refusal.specs.declared.Refusal.{Refusal}
use Rattle.rule_tree.specs.declared.RuleTree.{RuleTree}
use Rattle.rule_tree.proofs.Lists.{length_tabulate}
use Rattle.record.proofs.CallWays.{stored}
use Rattle.sender.specs.declared.Ack.{Ack}
use Rattle.sender.specs.declared.Ran.{Ran}
use Rattle.sender.specs.declared.Held.{Held}
use Rattle.sender.specs.declared.Sender.{Sender}
use Rattle.sender.specs.Sender.{ack_of}
use Rattle.sender.specs.Burst.{Course, course_of, ran_by}
use Rattle.sender.proofs.Bursts.{first_taken, first_refused}
use Rattle.sender.proofs.BurstLaws.{as_many}
use Rattle.host_sender.specs.Layout.{sender_bytes, sender_at}
use Rattle.host_sender.proofs.EventWays.{written_all}
use Rattle.host_sender.specs.Events.{ack_at}
use Rattle.host_burst.specs.Bursts.{stop_number, acks_of, windows_bytes}
use Rattle.host_burst.specs.Parts.{Fit, Given}

-- no more windows than acks
taken_few : (t : RuleTree) (s : Sender) (xs : List Ack) → length (course_of t s xs).windows ≤ length xs
unfolding course_of
taken_few t s [] = omega arith
taken_few t s (x ∷ xs) = go (ack_of t s x.sent x.received x.draw) refl (λ u. taken_few t u xs)
  where
    go : (r : Result Held Refusal) → ack_of t s x.sent x.received x.draw ≡ r → ((u : Sender) → length (course_of t u xs).windows ≤ length xs)
        → length (course_of t s (x ∷ xs)).windows ≤ suc (length xs)
    go (Ok h) e ih =
        omega (arith, ap (λ (c : Course). length c.windows) (first_taken t s x xs refl e), ih h.sender)
    go (Err k) e ih = omega (arith, ap (λ (c : Course). length c.windows) (first_refused t s x xs refl e))

pub acks_count : (list : List ℕ) {acks : List Ack} → acks ≡ acks_of list → length acks ≡ length list / 21
acks_count list e = ap length e ∙ length_tabulate (length list / 21) (λ i. ack_at list (21 * i))

module _ (t : RuleTree) (bytes list out marks : List ℕ) (fit : Fit (length bytes) (length list) (length out) (length marks)) {v : RuleTree} (same : v ≡ t)
    {acks : List Ack} (gathered : acks ≡ acks_of list) {s : Sender} (es : s ≡ sender_at bytes) {ran : Ran} (er : ran ≡ ran_by (course_of v s acks))
  where
    abbrev course : Course
    course = course_of t (sender_at bytes) (acks_of list)

    course_is : course_of v s acks ≡ course
    course_is = λ j. course_of (same j) (es j) (gathered j)

    ran_is : ran ≡ ran_by course
    ran_is = er ∙ ap ran_by course_is

    counted : length course.windows ≡ ran.taken
    counted = sym (ap (λ (x : Ran). x.taken) ran_is)

    pub few : ran.taken ≤ length list / 21
    few = omega (arith, counted, taken_few t (sender_at bytes) (acks_of list), length_tabulate (length list / 21) (λ i. ack_at list (21 * i)))

    flags_written : {f : List ℕ} → f ≡ (course_of v s acks).flags ++ drop ran.taken marks → f ≡ sets marks 0 course.flags
    flags_written e =
        let n : length course.flags ≡ ran.taken = as_many t (sender_at bytes) (acks_of list) ∙ counted in
        e ∙ ap (λ (c : Course). c.flags ++ drop ran.taken marks) course_is ∙ ap (λ (k : ℕ). course.flags ++ drop k marks) (sym n)
        ∙ sym (stored marks course.flags (omega (arith, few, fit.flags)) refl)

    windows_taken : (old : List ℕ) {ws : List ℕ} → ws ≡ (course_of v s acks).windows ++ drop ran.taken old → take ran.taken ws ≡ course.windows
    windows_taken old e =
        ap (take ran.taken) (e ∙ ap (λ (c : Course). c.windows ++ drop ran.taken old) course_is)
        ∙ take_at course.windows (drop ran.taken old) ran.taken counted

    pub given : (old : List ℕ) {ws z w f : List ℕ} {r : ℕ} → ws ≡ (course_of v s acks).windows ++ drop ran.taken old
        → f ≡ (course_of v s acks).flags ++ drop ran.taken marks → w ≡ sets out 0 (windows_bytes (take ran.taken ws))
        → z ≡ sets bytes 0 (sender_bytes ran.sender) → r ≡ stop_number ran.stopped * 4294967296 + ran.taken → Given t bytes list out marks r z w f
    given old ew ef eo ez ea =
        record {
          answer = ea ∙ ap (λ (x : Ran). stop_number x.stopped * 4294967296 + x.taken) ran_is;
          sender = written_all bytes fit.whole ran.sender ez ∙ ap (λ (x : Ran). sender_bytes x.sender) ran_is;
          windows = eo ∙ ap (λ (l : List ℕ). sets out 0 (windows_bytes l)) (windows_taken old ew);
          flags = flags_written ef;
        }
