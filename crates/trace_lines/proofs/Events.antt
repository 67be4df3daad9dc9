-- The events of bytes one after the other: the size of one, and what is left after it. Assumes nothing.
use mathlib.Core.Path.{◌≡◌, refl, sym, ap, ◌∙◌}
use mathlib.Core.Bool.{Bool, true, false, false≢true, ◌&&◌, ◌||◌, cond}
use mathlib.Core.List.{List, [], ◌∷◌}
use Prim.Native.Nat.{ℕ, zero, suc, ◌+◌, ◌-◌, ◌*◌, ◌<◌, ◌≤◌}
use native.Mathlib.Omega.{arith}
use borrow.Author.Tests.{eq-eqb, ne_eqb, eqb-true, eqb-false, leb-true}
use lib.Dec.{eqb, leb}
use lib.ListN.{length, get_or, take, drop, length-drop}
use lib.Seq.{take_all, drop-drop}
use Rattle.std.specs.Prelude.{Option, None, Some}
use Rattle.rule_tree.proofs.Lists.{and_left, and_right}
use Rattle.trace_lines.specs.Trace.{kind_holds, size_of, head_holds, event_in, whole_events, events_from}
use Rattle.trace_lines.specs.Parts.{event_size}

some_length : (n : ℕ) → (n ≡ 0 → ⊥) → 0 < n
some_length zero h = absurd (h refl)
some_length (suc n) h = omega arith

-- ---- an event's size, by its kind
kind_size : (len kind : ℕ) → kind_holds len kind ≡ true → (1 ≤ len) × (len ≤ 17)
unfolding kind_holds
kind_size len kind h = by (eqb kind 1) (eqb kind 2) (eqb kind 3) (eqb len 17) (eqb len 9) (eqb len 1) refl refl refl h
  where
    by : (a b c x y z : Bool) → eqb len 17 ≡ x → eqb len 9 ≡ y → eqb len 1 ≡ z → (a && x) || ((b && y) || (c && z)) ≡ true → (1 ≤ len) × (len ≤ 17)
    by a b c true y z p q r h = let e = eqb-true len 17 p in (omega arith, omega arith)
    by a b c false true z p q r h = let e = eqb-true len 9 q in (omega arith, omega arith)
    by a b c false false true p q r h = let e = eqb-true len 1 r in (omega arith, omega arith)
    by true true true false false false p q r h = absurd (false≢true h)
    by true true false false false false p q r h = absurd (false≢true h)
    by true false true false false false p q r h = absurd (false≢true h)
    by true false false false false false p q r h = absurd (false≢true h)
    by false true true false false false p q r h = absurd (false≢true h)
    by false true false false false false p q r h = absurd (false≢true h)
    by false false true false false false p q r h = absurd (false≢true h)
    by false false false false false false p q r h = absurd (false≢true h)

module _ (bytes : List ℕ) where
  pub head_as : head_holds bytes ≡ kind_holds (get_or bytes 0 0) (get_or bytes 1 0) && leb (size_of bytes) (length bytes)
  unfolding head_holds kind_holds
  head_as = refl

  -- a whole event has 2 to 18 bytes, and they are there
  module _ (h : head_holds bytes ≡ true) where
    head_both : kind_holds (get_or bytes 0 0) (get_or bytes 1 0) && leb (size_of bytes) (length bytes) ≡ true
    head_both = sym head_as ∙ h

    pub size-bounds : (2 ≤ size_of bytes) × (size_of bytes ≤ 18)
    size-bounds =
        let k = kind_size (get_or bytes 0 0) (get_or bytes 1 0) (and_left (kind_holds (get_or bytes 0 0) (get_or bytes 1 0)) (leb (size_of bytes) (length bytes)) head_both) in
        (omega arith, omega arith)

    pub size_there : size_of bytes ≤ length bytes
    size_there = leb-true (size_of bytes) (length bytes) (and_right (kind_holds (get_or bytes 0 0) (get_or bytes 1 0)) (leb (size_of bytes) (length bytes)) head_both)

  -- the size that the code answers
  size_by : event_size bytes ≡ cond (head_holds bytes) (Some (size_of bytes)) None
  unfolding event_size
  size_by = refl

  pub size-none : event_size bytes ≡ None → head_holds bytes ≡ false
  size-none e = by (head_holds bytes) (sym size_by ∙ e)
    where
      by : (b : Bool) → ◌≡◌ {A = Option ℕ} (cond b (Some (size_of bytes)) None) None → b ≡ false
      by true e = cc
      by false e = refl

  pub size-some : (n : ℕ) → event_size bytes ≡ Some n → (head_holds bytes ≡ true) × (n ≡ size_of bytes)
  size-some n e = by (head_holds bytes) (sym size_by ∙ e)
    where
      by : (b : Bool) → ◌≡◌ {A = Option ℕ} (cond b (Some (size_of bytes)) None) (Some n) → (b ≡ true) × (n ≡ size_of bytes)
      by true e = (refl, cc)
      by false e = absurd (cc)

  -- ---- no bytes are no events
  module _ (e : length bytes ≡ 0) where
    pub whole_none : (n : ℕ) → whole_events n bytes ≡ true
    unfolding whole_events
    whole_none zero = eq-eqb (length bytes) 0 e
    whole_none (suc n) = rw (eq-eqb (length bytes) 0 e)

    pub events_none : (n : ℕ) → events_from n bytes ≡ []
    unfolding events_from
    events_none zero = refl
    events_none (suc n) = rw (eq-eqb (length bytes) 0 e)

  -- ---- some bytes are an event and those after it
  module _ (l : 0 < length bytes) where
    some : eqb (length bytes) 0 ≡ false
    some = ne_eqb (length bytes) 0 (λ e. absurd (omega (arith, e)))

    pub whole_some : (n : ℕ) → whole_events (suc n) bytes ≡ head_holds bytes && whole_events n (drop (size_of bytes) bytes)
    unfolding whole_events
    whole_some n = rw some

    pub events_some : (n : ℕ) → events_from (suc n) bytes ≡ event_in bytes ∷ events_from n (drop (size_of bytes) bytes)
    unfolding events_from
    events_some n = rw some

-- ---- whole events have two bytes each at least
pub events_few : (f : ℕ) (bytes : List ℕ) → whole_events f bytes ≡ true → 2 * length (events_from f bytes) ≤ length bytes
unfolding events_from
events_few zero bytes w = omega arith
events_few (suc f) bytes w = by (eqb (length bytes) 0) refl (events_few f (drop (size_of bytes) bytes))
  where
    rest : Bool
    rest = whole_events f (drop (size_of bytes) bytes)

    by : (b : Bool) → eqb (length bytes) 0 ≡ b → (rest ≡ true → 2 * length (events_from f (drop (size_of bytes) bytes)) ≤ length (drop (size_of bytes) bytes))
        → 2 * length (events_from (suc f) bytes) ≤ length bytes
    by true e more = omega (arith, ap length (events_none bytes (eqb-true (length bytes) 0 e) (suc f)))
    by false e more =
        let l : 0 < length bytes = some_length (length bytes) (eqb-false (length bytes) 0 e) in
        let q = sym (whole_some bytes l f) ∙ w in
        let h = and_left (head_holds bytes) rest q in
        let i = more (and_right (head_holds bytes) rest q) in
        omega (arith, ap length (events_some bytes l f), size-bounds bytes h, size_there bytes h, length-drop (size_of bytes) bytes)

-- ---- what is left of a body from place at on, after i events
module _ (body : List ℕ) (at i : ℕ) where
  abbrev pub left : List ℕ
  left = drop at body

  abbrev pub fuel : ℕ
  fuel = length body - i

  pub lent : take (length body - at) (drop at body) ≡ drop at body
  lent = take_all (length body - at) (drop at body) (omega (arith, length-drop at body))

  module _ (p : i ≤ at) (l : at < length body) where
    some_left : 0 < length left
    some_left = omega (arith, length-drop at body)

    fuel_suc : fuel ≡ suc (length body - (i + 1))
    fuel_suc = omega arith

    after : drop (size_of left) left ≡ drop (at + size_of left) body
    after = drop-drop (size_of left) at body

    pub whole_turn : whole_events fuel left ≡ head_holds left && whole_events (length body - (i + 1)) (drop (at + size_of left) body)
    whole_turn =
        ap (λ (k : ℕ). whole_events k left) fuel_suc ∙ whole_some left some_left (length body - (i + 1))
        ∙ ap (λ (r : List ℕ). head_holds left && whole_events (length body - (i + 1)) r) after

    pub events_turn : events_from fuel left ≡ event_in left ∷ events_from (length body - (i + 1)) (drop (at + size_of left) body)
    events_turn =
        ap (λ (k : ℕ). events_from k left) fuel_suc ∙ events_some left some_left (length body - (i + 1))
        ∙ ap (λ (r : List ℕ). event_in left ∷ events_from (length body - (i + 1)) r) after
