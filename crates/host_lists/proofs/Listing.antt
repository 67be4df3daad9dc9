-- Actions stored one after the other, 20 bytes each. Assumes nothing.
use mathlib.Core.Path.{◌≡◌, refl, sym, ap, subst, ◌∙◌}
use mathlib.Core.Bool.{Bool, true, false}
use mathlib.Core.List.{List, [], ◌∷◌, ◌++◌, append_assoc, append-nil}
use Prim.Native.Nat.{ℕ, ◌+◌, ◌*◌, ◌<◌, ◌≤◌}
use native.Mathlib.Numerals.{add-one}
use native.Mathlib.Omega.{arith}
use borrow.Author.Tests.{le-leb, lt-leb}
use lib.ListN.{length, take, drop, get_or, length-append}
use lib.Seq.{sets, take-suc, take_all, length-take-le}
use Rattle.remy.specs.declared.action.Action.{Action}
use Rattle.trainer.specs.Candidates.{no_candidate}
use Rattle.std.specs.Prelude.{Some, None, Option, Result, Ok, Err}
use Rattle.refusal.specs.declared.Refusal.{Refusal}
use Rattle.refusal.specs.declared.Refusal.TheVariants.{ShortBuffer}
use Rattle.wire.specs.Fields.{action_bytes}
use Rattle.wire.proofs.Stores.{wrote}
use Rattle.record.proofs.Writing.{action_count}
use Rattle.record.proofs.CallWays.{stored}
use Rattle.host_lists.specs.Lists.{list_bytes, list_fits, list_after}
use Rattle.host_lists.specs.Parts.{own_part}

-- ---- the bytes of a list
list_append : (xs ys : List Action) → list_bytes (xs ++ ys) ≡ list_bytes xs ++ list_bytes ys
unfolding list_bytes
list_append [] ys = refl
list_append (x ∷ xs) ys =
    ap (λ (r : List ℕ). action_bytes x ++ r) (list_append xs ys) ∙ sym (append_assoc (action_bytes x) (list_bytes xs) (list_bytes ys))

pub list_count : (xs : List Action) → length (list_bytes xs) ≡ 20 * length xs
unfolding list_bytes
list_count [] = refl
list_count (x ∷ xs) =
    let h = list_count xs in
    let e = action_count x in
    length-append (action_bytes x) (list_bytes xs) ∙ omega arith

list_one : (x : Action) → list_bytes (x ∷ []) ≡ action_bytes x
unfolding list_bytes
list_one x = append-nil (action_bytes x)

-- ---- the loop that stores them: none, one more, all
pub list_none : (l : List ℕ) (at : ℕ) (xs : List Action) → l ≡ sets l at (list_bytes (take 0 xs))
unfolding list_bytes
list_none l at xs = refl

pub list_turn : (l : List ℕ) (at : ℕ) (xs : List Action) (j : ℕ) (a : Action) {l1 l2 : List ℕ} → j < length xs → a ≡ get_or xs j no_candidate
    → l1 ≡ sets l at (list_bytes (take j xs)) → l2 ≡ sets l1 (at + 20 * j) (action_bytes a) → l2 ≡ sets l at (list_bytes (take (j + 1) xs))
list_turn l at xs j a {l1} h e p q =
    let x = get_or xs j no_candidate in
    wrote l l1 at (20 * j) (list_bytes (take j xs)) (action_bytes x) (q ∙ ap (λ (b : Action). sets l1 (at + 20 * j) (action_bytes b)) e) p
    (list_count (take j xs) ∙ ap (λ (n : ℕ). 20 * n) (length-take-le j xs (omega arith)))
    ∙ ap (sets l at) (sym (ap (λ (n : ℕ). list_bytes (take n xs)) (add-one j) ∙ ap list_bytes (take-suc xs j no_candidate h)
    ∙ list_append (take j xs) (x ∷ []) ∙ ap (λ (r : List ℕ). list_bytes (take j xs) ++ r) (list_one x)))

pub list_done : (l m : List ℕ) (at : ℕ) (xs : List Action) (j : ℕ) → length xs ≤ j → m ≡ sets l at (list_bytes (take j xs)) → m ≡ sets l at (list_bytes xs)
list_done l m at xs j h e = e ∙ ap (λ (ys : List Action). sets l at (list_bytes ys)) (take_all j xs h)

-- ---- the action itself, where it is asked for
pub own_few : (own : Option Action) → length (own_part own) ≤ 1
unfolding own_part
own_few (Some a) = omega arith
own_few None = omega arith

pub own_put : (l : List ℕ) (a : Action) {m : List ℕ} → m ≡ sets l 0 (action_bytes a) → m ≡ sets l 0 (list_bytes (own_part (Some a)))
unfolding own_part
own_put l a p = p ∙ ap (sets l 0) (sym (list_one a))

pub own_none : (l : List ℕ) → l ≡ sets l 0 (list_bytes (own_part None))
unfolding own_part list_bytes
own_none l = refl

-- ---- what a call answers that writes a list, and the buffer after it
abbrev pub Wrote : List Action → List ℕ → Result ℕ Refusal → List ℕ → Type 0
Wrote xs out r l = (r ≡ list_fits xs out) × (l ≡ list_after xs out)

pub wrote_as : {xs ys : List Action} (out : List ℕ) {r : Result ℕ Refusal} {l : List ℕ} → xs ≡ ys → Wrote xs out r l → Wrote ys out r l
wrote_as out {r} {l} e p = subst (λ (zs : List Action). Wrote zs out r l) e p

-- two lists after each other
module _ (xs ys : List Action) (out : List ℕ) where
  both : 20 * length (xs ++ ys) ≡ 20 * length xs + 20 * length ys
  both = let e = length-append xs ys in omega arith

  pub list_fits_lem : (at n : ℕ) {l m : List ℕ} → at ≡ 20 * length xs → n ≡ length ys → at + 20 * n ≤ length out
      → l ≡ sets out 0 (list_bytes xs) → m ≡ sets l at (list_bytes ys) → Wrote (xs ++ ys) out (Ok (at + 20 * n)) m
  unfolding list_fits list_after
  list_fits_lem at n {l} {m} ea en h p q =
      let size : at + 20 * n ≡ 20 * length (xs ++ ys) = let e = both in omega arith in
      let f : 20 * length (xs ++ ys) ≤ length out = omega arith in
      let c = list_count (xs ++ ys) in
      let w : m ≡ sets out 0 (list_bytes xs ++ list_bytes ys) =
      wrote out l 0 at (list_bytes xs) (list_bytes ys) (q ∙ ap (λ (k : ℕ). sets l k (list_bytes ys)) (let z : at ≡ 0 + at = omega arith in z)) p (list_count xs ∙ sym ea) in
      rw (le-leb (20 * length (xs ++ ys)) (length out) f) (
        ap (λ (k : ℕ). Ok k) size,
        stored out (list_bytes (xs ++ ys)) (omega arith) (w ∙ ap (sets out 0) (sym (list_append xs ys))) ∙ ap (λ (k : ℕ). list_bytes (xs ++ ys) ++ drop k out) c,
      )

  pub list_short : (at n : ℕ) → at ≡ 20 * length xs → n ≡ length ys → length out < at + 20 * n → Wrote (xs ++ ys) out (Err ShortBuffer) out
  unfolding list_fits list_after
  list_short at n ea en h =
      let e = both in
      rw (lt-leb (20 * length (xs ++ ys)) (length out) (omega arith)) (refl, refl)

-- an empty list fits everywhere
pub list_empty : (out : List ℕ) → Wrote [] out (Ok 0) out
unfolding list_fits list_after list_bytes
list_empty out = rw (le-leb 0 (length out) (omega arith)) (refl, refl)
