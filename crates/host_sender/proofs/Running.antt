-- One event in its 22 bytes, and the turn of the loop over events. Assumes nothing.
use mathlib.Core.Path.{◌≡◌, refl, sym, ap, ◌∙◌}
use mathlib.Core.Bool.{Bool, cond}
use mathlib.Core.List.{List, [], ◌∷◌, ◌++◌}
use Prim.Native.Nat.{ℕ, zero, suc, ◌+◌, ◌*◌, ◌%◌, ◌<◌, ◌≤◌}
use native.Mathlib.Numerals.{add-one}
use native.Mathlib.Omega.{arith}
use lib.Dec.{eqb}
use lib.Ieee.{Float, binary64, of_bits}
use lib.ListN.{length, get_or, take, drop, set, length-append}
use lib.Seq.{sets, take-take, drop-drop, get_or-take, get_or-drop}
use Rattle.std.specs.Prelude.{Option, Some, None, Result, Ok, Err}
use Rattle.refusal.specs.declared.Refusal.{Refusal}
use Rattle.refusal.specs.Numbers.{number_of}
use Rattle.rule_tree.specs.declared.RuleTree.{RuleTree}
use Rattle.wire.specs.Bytes.{bytes_of, value_from, number_at, flag_byte}
use Rattle.wire.specs.Fields.{float_at}
use Rattle.wire.proofs.Bytes.{bytes_count}
use Rattle.wire.proofs.Stores.{wrote}
use Rattle.sender.specs.declared.Event.{Event}
use Rattle.sender.specs.declared.Event.TheVariants.{Ack, Send, Tick}
use Rattle.sender.specs.declared.Held.{Held}
use Rattle.sender.specs.declared.Sender.{Sender}
use Rattle.sender.specs.SenderCall.{on}
use Rattle.sender.specs.Sender.{replied_to, left_by}
use Rattle.host_sender.specs.Events.{event_at, event_on, sender_after, reply_bytes, replies_bytes}

-- ---- what is read of a part of a list, as of the list
part_taken : (k m n : ℕ) (l : List ℕ) → k + n ≤ m → take n (drop k (take m l)) ≡ take n (drop k l)
part_taken zero m n l h = take-take n m l (omega arith)
part_taken (suc k) zero n l h = absurd (omega arith)
part_taken (suc k) (suc m) n [] h = refl
part_taken (suc k) (suc m) n (x ∷ xs) h = part_taken k m n xs (omega arith)

part_number : (l : List ℕ) (at m k n : ℕ) → k + n ≤ m → number_at (take m (drop at l)) k n ≡ number_at l (at + k) n
part_number l at m k n h = ap (value_from 0) (part_taken k m n (drop at l) h ∙ ap (take n) (drop-drop k at l))

part-byte : (l : List ℕ) (at m k : ℕ) → k < m → get_or (take m (drop at l)) k 0 ≡ get_or l (at + k) 0
part-byte l at m k h = get_or-take m (drop at l) k 0 h ∙ get_or-drop at l k 0

-- an event from its fields
abbrev event_with : ℕ → Float → Float → ℕ → ℕ → Event
event_with code sent received flag n =
    cond (eqb code 0) (Ack (record { sent = sent; received = received; draw = cond (eqb flag 1) (Some n) None }))
    (cond (eqb code 1) (Send sent) Tick)

event_is_with : (l : List ℕ) (at : ℕ)
    → event_at l at ≡ event_with (get_or l at 0) (float_at l (at + 1)) (float_at l (at + 1 + 8)) (get_or l (at + 1 + 16) 0) (number_at l (at + 1 + 16 + 1) 4)
unfolding event_at
event_is_with l at = refl

pub event_part : (l : List ℕ) (at m : ℕ) → m ≡ 22 → event_at (take m (drop at l)) 0 ≡ event_at l at
event_part l at m e =
    let p = part-byte l at m 0 (omega arith) ∙ ap (λ (k : ℕ). get_or l k 0) (let z : at + 0 ≡ at = omega arith in z) in
    let a = ap (of_bits binary64) (part_number l at m 1 8 (omega arith)) in
    let b =
    ap (of_bits binary64) (part_number l at m 9 8 (omega arith) ∙ ap (λ (k : ℕ). number_at l k 8) (let z : at + 9 ≡ at + 1 + 8 = omega arith in z)) in
    let q = part-byte l at m 17 (omega arith) ∙ ap (λ (k : ℕ). get_or l k 0) (let z : at + 17 ≡ at + 1 + 16 = omega arith in z) in
    let d = part_number l at m 18 4 (omega arith) ∙ ap (λ (k : ℕ). number_at l k 4) (let z : at + 18 ≡ at + 1 + 16 + 1 = omega arith in z) in
    event_is_with (take m (drop at l)) 0 ∙ (λ j. event_with (p j) (a j) (b j) (q j) (d j)) ∙ sym (event_is_with l at)

-- ---- replies
pub reply_count : (r : Result Held Refusal) → length (reply_bytes r) ≡ 6
unfolding reply_bytes
reply_count (Ok h) = ap suc (length-append (bytes_of 4 h.window) (flag_byte h.clipped ∷ []) ∙ ap (λ (n : ℕ). n + 1) (bytes_count 4 h.window))
reply_count (Err r) = ap suc (length-append (bytes_of 4 0) (0 ∷ []) ∙ ap (λ (n : ℕ). n + 1) (bytes_count 4 0))

module _ (l : List ℕ) (at : ℕ) {r : Result Held Refusal} where
  pub taken_written : {h : Held} {window flag : ℕ} {o p : List ℕ} → r ≡ Ok h → flag ≡ flag_byte h.clipped
      → o ≡ sets (set l at 0) (at + 1) (bytes_of 4 window) → p ≡ set o (at + 5) flag → window ≡ h.window → p ≡ sets l at (reply_bytes r)
  unfolding reply_bytes
  taken_written {h} {window} {flag} {o} e g q w f =
      wrote l o at 5 (0 ∷ bytes_of 4 window) (flag ∷ []) w
      (wrote l (set l at 0) at 1 (0 ∷ []) (bytes_of 4 window) q refl refl) (ap suc (bytes_count 4 window))
      ∙ (λ j. sets l at (0 ∷ (bytes_of 4 (f j) ++ (g j ∷ [])))) ∙ ap (λ (z : Result Held Refusal). sets l at (reply_bytes z)) (sym e)

  pub refused_written : {k : Refusal} {n : ℕ} {m o : List ℕ} → r ≡ Err k → m ≡ sets l at (bytes_of 1 n) → o ≡ sets m (at + 1) (bytes_of 5 0) → n ≡ number_of k
      → o ≡ sets l at (reply_bytes r)
  unfolding reply_bytes bytes_of
  refused_written {k} {n} {m} e p q f =
      wrote l m at 1 (bytes_of 1 n) (bytes_of 5 0) q p refl
      ∙ ap (λ (i : ℕ). sets l at (i % 256 ∷ bytes_of 5 0)) f ∙ ap (λ (z : Result Held Refusal). sets l at (reply_bytes z)) (sym e)

-- ---- the loop
module _ (t : RuleTree) (s : Sender) (list : List ℕ) where
  pub none_yet : s ≡ sender_after t s list 0
  unfolding sender_after
  none_yet = refl

  pub none_put : (out : List ℕ) → out ≡ sets out 0 (replies_bytes t s list 0)
  unfolding replies_bytes
  none_put out = refl

  pub replies_count : (n : ℕ) → length (replies_bytes t s list n) ≡ 6 * n
  unfolding replies_bytes
  replies_count zero = refl
  replies_count (suc n) =
      let r = event_on t (sender_after t s list n) list (22 * n) in
      length-append (replies_bytes t s list n) (reply_bytes r) ∙ omega (arith, replies_count n, reply_count r)

  module _ (i m : ℕ) (e : m ≡ 22) {u : Sender} {x : Event} {r : Result Held Refusal} (p : u ≡ sender_after t s list i)
      (d : x ≡ event_at (take m (drop (22 * i) list)) 0) (q : r ≡ replied_to u (on t x))
    where
      event_is : r ≡ event_on t (sender_after t s list i) list (22 * i)
      event_is = q ∙ (λ j. replied_to (p j) (on t (d j))) ∙ ap (λ (z : Event). replied_to (sender_after t s list i) (on t z)) (event_part list (22 * i) m e)

      pub sender_turn : {v : Sender} → v ≡ left_by u r → v ≡ sender_after t s list (i + 1)
      unfolding sender_after
      sender_turn f = rw add-one (f ∙ (λ j. left_by (p j) (event_is j)))

      pub replies_turn : (out : List ℕ) {o w : List ℕ} → o ≡ sets out 0 (replies_bytes t s list i) → w ≡ sets o (6 * i) (reply_bytes r)
          → w ≡ sets out 0 (replies_bytes t s list (i + 1))
      unfolding replies_bytes
      replies_turn out {o} a b =
          rw add-one (wrote out o 0 (6 * i) (replies_bytes t s list i) (reply_bytes r)
          (b ∙ ap (λ (k : ℕ). sets o k (reply_bytes r)) (let z : 6 * i ≡ 0 + 6 * i = omega arith in z)) a (replies_count i)
          ∙ ap (λ (z : Result Held Refusal). sets out 0 (replies_bytes t s list i ++ reply_bytes z)) event_is)
