-- The ways through a step and a step back of a generator in bytes. Assumes nothing.
use mathlib.Core.Path.{◌≡◌, refl, sym, ap, ◌∙◌}
use mathlib.Core.Bool.{Bool, true, false, not, cond}
use mathlib.Core.List.{List, ◌++◌, append_assoc, append-nil}
use mathlib.Core.Logic.{◌⊎◌, inl, inr, ⊎_elim}
use Prim.Native.Nat.{ℕ, ◌≤◌}
use native.Mathlib.Omega.{arith}
use borrow.Author.Tests.{eq-eqb, eqb-true, le-leb}
use lib.Dec.{eqb}
use lib.ListN.{length, length-append, drop_of_length-le}
use lib.Seq.{sets}
use Rattle.std.specs.Prelude.{Result, Ok, Err}
use Rattle.refusal.specs.declared.Refusal.{Refusal}
use Rattle.refusal.specs.declared.Refusal.TheVariants.{BadLength, ZeroState}
use Rattle.refusal.specs.Guards.{checked}
use Rattle.record.proofs.CallWays.{stored}
use Rattle.wire.specs.Bytes.{bytes_of}
use Rattle.wire.proofs.Bytes.{bytes_count}
use Rattle.wire.proofs.Stores.{wrote}
use Rattle.xoshiro.specs.declared.State.{State}
use Rattle.xoshiro.specs.declared.Stepped.{Stepped}
use Rattle.xoshiro.specs.Xoshiro.{zeros_of, stepped_of, back_of}
use Rattle.host_draws.specs.Steps.{state_at, state_bytes, words_order, step_in, step_left, output_left, back_in, back_left}

-- ---- the four words
pub state_count : (s : State) → length (state_bytes s) ≡ 32
state_count s =
    let a = bytes_count 8 s.s0 in
    let b = bytes_count 8 s.s1 in
    let c = bytes_count 8 s.s2 in
    let d = bytes_count 8 s.s3 in
    simp length-append (omega arith)

-- the bytes are written anew
pub written_all : (l : List ℕ) (s : State) {r : List ℕ} → length l ≡ 32 → r ≡ sets l 0 (state_bytes s) → r ≡ state_bytes s
written_all l s e p =
    let c = state_count s in
    stored l (state_bytes s) (omega arith) p
    ∙ ap (λ (z : List ℕ). state_bytes s ++ z) (drop_of_length-le l {i = length (state_bytes s)} (omega arith))
    ∙ append-nil (state_bytes s)

module _ (l : List ℕ) (s : State) where
  abbrev w0 : List ℕ
  w0 = bytes_of 8 s.s0

  abbrev w1 : List ℕ
  w1 = bytes_of 8 s.s1

  abbrev w2 : List ℕ
  w2 = bytes_of 8 s.s2

  abbrev w3 : List ℕ
  w3 = bytes_of 8 s.s3

  pub words_put : {a b c d : List ℕ} → length l ≡ 32 → a ≡ sets l 0 w0 → b ≡ sets a 8 w1 → c ≡ sets b 16 w2 → d ≡ sets c 24 w3 → d ≡ state_bytes s
  words_put {a} {b} {c} e p q r t =
      let n0 = bytes_count 8 s.s0 in
      let n1 = bytes_count 8 s.s1 in
      let n2 = bytes_count 8 s.s2 in
      let two : b ≡ sets l 0 (w0 ++ w1) = wrote l a 0 8 w0 w1 q p n0 in
      let three : c ≡ sets l 0 ((w0 ++ w1) ++ w2) = wrote l b 0 16 (w0 ++ w1) w2 r two (length-append w0 w1 ∙ omega arith) in
      written_all l s e
      (wrote l c 0 24 ((w0 ++ w1) ++ w2) w3 t three (simp length-append (omega arith))
      ∙ ap (sets l 0) (append_assoc (w0 ++ w1) w2 w3 ∙ append_assoc w0 w1 (w2 ++ w3)))

-- ---- the state that the bytes are
module _ (generator : List ℕ) {a : Result State Refusal} (e : a ≡ checked (words_order generator) (Ok (state_at generator))) where
  pub state_held : {s : State} → a ≡ Ok s → (length generator ≡ 32) × (zeros_of (state_at generator) ≡ false) × (s ≡ state_at generator)
  state_held {s} z = go (eqb (length generator) 32) (zeros_of (state_at generator)) refl refl (sym e ∙ z)
    where
      go : (b c : Bool) → eqb (length generator) 32 ≡ b → zeros_of (state_at generator) ≡ c
          → cond b (cond (not c) (Ok (state_at generator)) (Err ZeroState)) (Err BadLength) ≡ Ok s
          → (length generator ≡ 32) × (zeros_of (state_at generator) ≡ false) × (s ≡ state_at generator)
      go true false p q r = (eqb-true (length generator) 32 p, q, cc)
      go true true p q r = absurd (cc)
      go false c p q r = absurd (cc)

  -- either the length is another, or the state is four zeros
  pub state_refused : {r : Refusal} → a ≡ Err r → ((eqb (length generator) 32 ≡ false) × (r ≡ BadLength))
      ⊎ ((eqb (length generator) 32 ≡ true) × (zeros_of (state_at generator) ≡ true) × (r ≡ ZeroState))
  state_refused {r} z = go (eqb (length generator) 32) (zeros_of (state_at generator)) refl refl (sym e ∙ z)
    where
      go : (b c : Bool) → eqb (length generator) 32 ≡ b → zeros_of (state_at generator) ≡ c
          → cond b (cond (not c) (Ok (state_at generator)) (Err ZeroState)) (Err BadLength) ≡ Err r
          → ((eqb (length generator) 32 ≡ false) × (r ≡ BadLength)) ⊎ ((eqb (length generator) 32 ≡ true) × (zeros_of (state_at generator) ≡ true) × (r ≡ ZeroState))
      go true false p q h = absurd (cc)
      go true true p q h = inr (p, q, cc)
      go false c p q h = inl (p, cc)

  -- ---- a step
  module _ (out : List ℕ) where
    pub step_refused : {r : Refusal} {x : Result ℕ Refusal} → a ≡ Err r → x ≡ Err r
        → (x ≡ step_in generator out) × ((generator ≡ step_left generator out) × (out ≡ output_left generator out))
    unfolding step_in step_left output_left
    step_refused z y =
        ⊎_elim (λ h. rw h.0 (y ∙ ap (λ (k : Refusal). Err k) h.1, (refl, refl))) (λ h. rw (h.0, h.1) (y ∙ ap (λ (k : Refusal). Err k) h.2, (refl, refl)))
        (state_refused z)

    module _ {s : State} (is : a ≡ Ok s) where
      pub step_taken : {n : Stepped} {g o : List ℕ} → 8 ≤ length out → n ≡ stepped_of s → g ≡ state_bytes n.state → o ≡ sets out 0 (bytes_of 8 n.output)
          → (Ok 8 ≡ step_in generator out) × ((g ≡ step_left generator out) × (o ≡ output_left generator out))
      unfolding step_in step_left output_left
      step_taken h k p q =
          let f = state_held is in
          let m : _ ≡ stepped_of (state_at generator) = k ∙ ap stepped_of f.2 in
          rw (eq-eqb (length generator) 32 f.0, f.1, le-leb 8 (length out) h) (
            refl,
            (p ∙ ap (λ (x : Stepped). state_bytes x.state) m, q ∙ ap (λ (x : Stepped). sets out 0 (bytes_of 8 x.output)) m),
          )

  -- ---- a step back
  pub back_refused : {r : Refusal} {x : Result ℕ Refusal} → a ≡ Err r → x ≡ Err r → (x ≡ back_in generator) × (generator ≡ back_left generator)
  unfolding back_in back_left
  back_refused z y =
      ⊎_elim (λ h. rw h.0 (y ∙ ap (λ (k : Refusal). Err k) h.1, refl)) (λ h. rw (h.0, h.1) (y ∙ ap (λ (k : Refusal). Err k) h.2, refl)) (state_refused z)

  pub back_taken : {s t : State} {g : List ℕ} → a ≡ Ok s → t ≡ back_of s → g ≡ state_bytes t → (Ok 32 ≡ back_in generator) × (g ≡ back_left generator)
  unfolding back_in back_left
  back_taken is k p =
      let f = state_held is in
      rw (eq-eqb (length generator) 32 f.0, f.1) (refl, p ∙ ap state_bytes (k ∙ ap back_of f.2))
