-- The ways through a trace over a tree that was tested. Assumes nothing.
use mathlib.Core.Path.{◌≡◌, refl, sym, ap, ◌∙◌}
use mathlib.Core.Bool.{Bool, true, false, ◌&&◌, cond}
use mathlib.Core.List.{List}
use Prim.Native.Nat.{ℕ, ◌-◌, ◌*◌, ◌<◌, ◌≤◌}
use native.Mathlib.Omega.{arith}
use borrow.Author.Tests.{le-leb, lt-leb, leb-true}
use lib.Dec.{eqb, leb}
use lib.ListN.{length, get_or, take, drop, length-drop}
use lib.Seq.{sets}
use Rattle.std.specs.Prelude.{Option, None, Some, Result, Ok, Err}
use Rattle.refusal.specs.declared.Refusal.{Refusal}
use Rattle.refusal.specs.declared.Refusal.TheVariants.{BadTrace, ShortBuffer}
use Rattle.rule_tree.specs.declared.RuleTree.{RuleTree}
use Rattle.rule_tree.proofs.Lists.{and_left, and_right}
use Rattle.wire.specs.Bytes.{number_at}
use Rattle.record.proofs.CallWays.{stored}
use Rattle.panel_lines.specs.Parts.{Wrote}
use Rattle.sender.specs.declared.RepeatMode.TheVariants.{Off}
use Rattle.sender.specs.Sender.{fresh_sender}
use Rattle.trace_lines.specs.Trace.{events_part, start_of, whole_in_of, events_in, events, trace_holds, lines_from, lines_over, room_for}
use Rattle.trace_lines.specs.Parts.{counted_of, Tracing, traced_of, traced_after}
use Rattle.trace_lines.proofs.Events.{lent, events_few}
use Rattle.trace_lines.proofs.Showing.{lines_few}

-- ---- what the tests tell
pub trace_as : (bytes : List ℕ) → trace_holds bytes ≡ start_of bytes && whole_in_of (events_part bytes)
unfolding trace_holds
trace_as bytes = refl

pub start_bounds : (bytes : List ℕ) → start_of bytes ≡ true → (5 ≤ length bytes) × (length bytes ≤ 32768)
unfolding start_of
start_bounds bytes h =
    let r = leb (length bytes) 32768 && (eqb (number_at bytes 0 4) (length bytes - 4) && eqb (get_or bytes 4 0) 1) in (
      leb-true 5 (length bytes) (and_left (leb 5 (length bytes)) r h),
      leb-true (length bytes) 32768 (and_left (leb (length bytes) 32768) (eqb (number_at bytes 0 4) (length bytes - 4) && eqb (get_or bytes 4 0) 1) (and_right (leb 5 (length bytes)) r h)),
    )

-- at most 16,381 events, so 180,191 bytes hold any lines
pub room_most : (bytes : List ℕ) → trace_holds bytes ≡ true → room_for bytes ≤ 180191
room_most bytes h =
    let q = sym (trace_as bytes) ∙ h in
    let b = start_bounds bytes (and_left (start_of bytes) (whole_in_of (events_part bytes)) q) in
    let e = events_few (length (events_part bytes)) (events_part bytes) (and_right (start_of bytes) (whole_in_of (events_part bytes)) q) in
    omega (arith, length-drop 5 bytes)

counted_some : (body : List ℕ) (n : ℕ) {r : Option ℕ} → r ≡ counted_of body → r ≡ Some n → (whole_in_of body ≡ true) × (n ≡ length (events_in body))
unfolding counted_of
counted_some body n e f = by (whole_in_of body) (sym e ∙ f)
  where
    by : (b : Bool) → ◌≡◌ {A = Option ℕ} (cond b (Some (length (events_in body))) None) (Some n) → (b ≡ true) × (n ≡ length (events_in body))
    by true e = (refl, cc)
    by false e = absurd (cc)

counted_none : (body : List ℕ) {r : Option ℕ} → r ≡ counted_of body → r ≡ None → whole_in_of body ≡ false
unfolding counted_of
counted_none body e f = by (whole_in_of body) (sym e ∙ f)
  where
    by : (b : Bool) → ◌≡◌ {A = Option ℕ} (cond b (Some (length (events_in body))) None) None → b ≡ false
    by true e = cc
    by false e = refl

-- ---- what is answered, and the buffer after
abbrev pub Traced : RuleTree → List ℕ → List ℕ → Result ℕ Refusal → List ℕ → Type 0
Traced t bytes out v r = (v ≡ traced_of t bytes out) × (r ≡ traced_after t bytes out (traced_of t bytes out))

traced_as : (t : RuleTree) (bytes out : List ℕ)
    → traced_of t bytes out
    ≡ cond (trace_holds bytes) (cond (leb (room_for bytes) (length out)) (Ok (length (lines_over t bytes))) (Err ShortBuffer)) (Err BadTrace)
unfolding traced_of trace_holds
traced_as t bytes out = refl

module _ (t : RuleTree) (bytes out : List ℕ) where
  bad : trace_holds bytes ≡ false → Traced t bytes out (Err BadTrace) out
  unfolding traced_after
  bad h = let e : traced_of t bytes out ≡ Err BadTrace = traced_as t bytes out ∙ rw h in (sym e, rw e)

  pub traced_start : start_of bytes ≡ false → Traced t bytes out (Err BadTrace) out
  traced_start h = bad (trace_as bytes ∙ rw h)

  module _ (h : start_of bytes ≡ true) {r : Option ℕ} (e : r ≡ counted_of (take (length bytes - 5) (drop 5 bytes))) where
    body_is : take (length bytes - 5) (drop 5 bytes) ≡ events_part bytes
    body_is = lent bytes 5 0

    body_few : length (take (length bytes - 5) (drop 5 bytes)) ≤ 32763
    body_few = let b = start_bounds bytes h in omega (arith, ap length body_is, length-drop 5 bytes)

    pub traced_broken : r ≡ None → Traced t bytes out (Err BadTrace) out
    traced_broken f =
        let w : whole_in_of (events_part bytes) ≡ false = counted_none (events_part bytes) (e ∙ ap counted_of body_is) f in
        bad (trace_as bytes ∙ rw (h, w))

    module _ (n : ℕ) (f : r ≡ Some n) where
      told : (whole_in_of (events_part bytes) ≡ true) × (n ≡ length (events bytes))
      told = counted_some (events_part bytes) n (e ∙ ap counted_of body_is) f

      holds : trace_holds bytes ≡ true
      holds = let w = told.0 in trace_as bytes ∙ rw (h, w)

      pub count_most : 11 * n ≤ 180191
      count_most = omega (arith, room_most bytes holds, told.1)

      pub tracing : 11 * n ≤ length out → Tracing (take (length bytes - 5) (drop 5 bytes)) n out
      tracing l =
          let c = counted_some (take (length bytes - 5) (drop 5 bytes)) n e f in
          record { whole = c.0; count = c.1; room = l; few = body_few }

      pub traced_short : length out < 11 * n → Traced t bytes out (Err ShortBuffer) out
      unfolding traced_after
      traced_short l =
          let q = lt-leb (room_for bytes) (length out) (omega (arith, told.1)) in
          let p : traced_of t bytes out ≡ Err ShortBuffer = traced_as t bytes out ∙ rw (holds, q) in
          (sym p, rw p)

      pub traced_taken : {m : List ℕ} {k : ℕ} → 11 * n ≤ length out
          → Wrote out 0 m k (lines_from t (fresh_sender Off) (events_in (take (length bytes - 5) (drop 5 bytes)))) → Traced t bytes out (Ok k) m
      unfolding traced_after
      traced_taken {m} {k} l w =
          let text : lines_from t (fresh_sender Off) (events_in (take (length bytes - 5) (drop 5 bytes))) ≡ lines_over t bytes =
          ap (λ (b : List ℕ). lines_from t (fresh_sender Off) (events_in b)) body_is in
          let few = lines_few t (fresh_sender Off) (events bytes) (omega arith) in
          let size : k ≡ length (lines_over t bytes) = omega (arith, w.place, ap length text) in
          let q = le-leb (room_for bytes) (length out) (omega (arith, told.1)) in
          let p : traced_of t bytes out ≡ Ok (length (lines_over t bytes)) = traced_as t bytes out ∙ rw (holds, q) in (
            ap Ok size ∙ sym p,
            rw p (stored out (lines_over t bytes) (omega (arith, told.1)) (w.stored ∙ ap (sets out 0) text)),
          )
