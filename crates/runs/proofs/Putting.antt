-- Words put one after the other: a run of stores, of which those past the end store nothing. Assumes nothing.
use mathlib.Core.Path.{◌≡◌, refl, sym, ap, subst, ◌∙◌}
use mathlib.Core.List.{List, [], ◌∷◌, ◌++◌, append_assoc, append-nil}
use mathlib.Core.Logic.{◌⊎◌, ⊎_elim}
use Prim.Native.Nat.{ℕ, suc, ◌+◌, ◌-◌, ◌<◌, ◌≤◌, min}
use native.Mathlib.Nat.{zero-add, add-zero, add-suc, suc-add}
use native.Mathlib.Omega.{arith}
use lib.ListN.{length, take, drop, set, length-set, length-append, length-take, length-drop, take-append-drop, drop_of_length-le}
use lib.Seq.{sets, length-sets, set_out, take-suc-set, drop-set-lt, drop-drop, take_all, take-append-le, take-append-add, take-length}
use Rattle.wire.proofs.Stores.{sets_append}
use Rattle.runs.specs.Compared.{laid}
use borrow.Rule.Slice.PartMut.{put_mid}
use Rattle.std.proofs.lemmas.Bool.{cases_lt}
use Rattle.runs.specs.declared.words.Writer.{Writer}
use Rattle.runs.specs.Writing.{put_words, place_after, Puts, Appends}

-- stores past the end store nothing
sets_past : (ws out : List ℕ) (at : ℕ) → length out ≤ at → sets out at ws ≡ out
sets_past [] out at h = refl
sets_past (x ∷ ws) out at h = rw (set_out out at x h) (sets_past ws out (suc at) (omega arith))

put_none : (out : List ℕ) (at : ℕ) → put_words out at [] ≡ out
put_none out at = rw (add-zero at, take-append-drop at out) (take-length out)

put_past : (ws out : List ℕ) (at : ℕ) → at ≤ length out → length out ≤ at → put_words out at ws ≡ sets out at ws
put_past ws out at l h =
    take-append-le (length out) (take at out) (ws ++ drop (at + length ws) out) (rw length-take (omega arith))
    ∙ ap (take (length out)) (take_all at out h)
    ∙ take-length out
    ∙ sym (sets_past ws out at h)

put_more : (x : ℕ) (ws out : List ℕ) (at : ℕ) → at < length out → put_words (set out at x) (suc at) ws ≡ sets (set out at x) (suc at) ws
    → put_words out at (x ∷ ws) ≡ sets out at (x ∷ ws)
put_more x ws out at h p =
    let e : at + length (x ∷ ws) ≡ suc at + length ws = add-suc at (length ws) ∙ sym (suc-add at (length ws)) in
    sym
    (sym p
    ∙ rw (length-set out at x, take-suc-set out at x h, drop-set-lt (suc at + length ws) out at x (omega arith), e)
    (ap (take (length out)) (append_assoc (take at out) (x ∷ []) (ws ++ drop (suc at + length ws) out))))

-- words put are words stored
put_sets : (ws out : List ℕ) (at : ℕ) → at ≤ length out → put_words out at ws ≡ sets out at ws
put_sets [] out at h = put_none out at
put_sets (x ∷ ws) out at h =
    ⊎_elim (λ l. put_more x ws out at l (put_sets ws (set out at x) (suc at) (rw length-set (omega arith))))
    (put_past (x ∷ ws) out at h) (cases_lt at (length out))

-- ---- the laws of Puts
module _ (out : List ℕ) (at : ℕ) where
  pub nothing : at ≤ length out → Puts out at [] at out
  nothing h = record { place = omega arith; laid = sym (put_none out at) }

  module _ {words : List ℕ} {next : ℕ} {after : List ℕ} (p : Puts out at words next after) where
    pub fits : next ≤ length out
    fits = let e = p.place in omega arith

  pub spelt : {a b : List ℕ} {next : ℕ} {after : List ℕ} → a ≡ b → Puts out at a next after → Puts out at b next after
  spelt {next} {after} e p = subst (λ (words : List ℕ). Puts out at words next after) e p

  -- as many of the words as there is room for, copied to the place
  pub copied : (words new : List ℕ) (n : ℕ) → at ≤ length out → n ≡ min (length words) (length out - at) → new ≡ take n words
      → Puts out at words (at + n) (put_mid at ((at + n) - at) out new)
  copied words new n h e f = record {
    place = omega arith;
    laid =
        ap (λ (k : ℕ). put_mid at k out new) (let z : (at + n) - at ≡ n = omega arith in z)
        ∙ ap (put_mid at n out) f
        ∙ ap (λ (r : List ℕ). take at out ++ (take n words ++ r)) (drop-drop n at out)
        ∙ ⊎_elim (λ (l : length out - at < length words). cut (omega arith)) (λ (l : length words ≤ length out - at). whole (omega arith))
        (cases_lt (length out - at) (length words));
  }
    where
      whole : n ≡ length words → take at out ++ (take n words ++ drop (at + n) out) ≡ put_words out at words
      whole z =
          ap (λ (r : List ℕ). take at out ++ (r ++ drop (at + n) out)) (take_all n words (omega arith))
          ∙ ap (λ (k : ℕ). take at out ++ (words ++ drop (at + k) out)) z
          ∙ sym (take_all (length out) (take at out ++ (words ++ drop (at + length words) out))
          (simp (length-append, length-take, length-drop) (omega arith)))

      cut : n ≡ length out - at → take at out ++ (take n words ++ drop (at + n) out) ≡ put_words out at words
      cut z =
          ap (λ (r : List ℕ). take at out ++ (take n words ++ r)) (drop_of_length-le out {i = at + n} (omega arith))
          ∙ ap (λ (r : List ℕ). take at out ++ r) (append-nil (take n words) ∙ sym (take-append-le n words (drop (at + length words) out) (omega arith)))
          ∙ sym (take-append-add (take at out) (words ++ drop (at + length words) out) n)
          ∙ ap (λ (k : ℕ). take k (take at out ++ (words ++ drop (at + length words) out))) (rw length-take (omega arith))

  -- one run of words after another
  pub then : {a b : List ℕ} {n m : ℕ} {mid after : List ℕ} → at ≤ length out → Puts out at a n mid → Puts mid n b m after
      → Puts out at (a ++ b) m after
  then {a} {b} {n} {m} {mid} {after} h p q = record { place = place; laid = laid }
    where
      stored : mid ≡ sets out at a
      stored = p.laid ∙ put_sets a out at h

      long : length mid ≡ length out
      long = ap length stored ∙ length-sets out at a

      joined : n ≤ length out
      joined = fits p

      place : m ≡ place_after out at (a ++ b)
      place = let e = p.place in let f = q.place in rw (length-append a b) (omega (arith, long))

      inside : at + length a ≤ length out → after ≡ sets mid (at + length a) b
      inside i = q.laid ∙ put_sets b mid n (omega (arith, long, joined)) ∙ ap (λ (k : ℕ). sets mid k b) (let e = p.place in omega arith)

      outside : length out < at + length a → after ≡ sets mid (at + length a) b
      outside i =
          q.laid ∙ put_sets b mid n (omega (arith, long, joined)) ∙ sets_past b mid n (let e = p.place in omega (arith, long))
          ∙ sym (sets_past b mid (at + length a) (omega (arith, long)))

      either : after ≡ sets mid (at + length a) b
      either = ⊎_elim outside inside (cases_lt (length out) (at + length a))

      laid : after ≡ put_words out at (a ++ b)
      laid = either ∙ ap (λ (l : List ℕ). sets l (at + length a) b) stored ∙ sets_append a out at b ∙ sym (put_sets (a ++ b) out at h)

-- ---- the laws of Appends
pub no_words : (w : Writer) → Appends w [] w
no_words w = record { same = refl; puts = nothing w.out.now w.at w.within }

module _ {u v : Writer} {a : List ℕ} (p : Appends u a v) where
  pub join : {w : Writer} {b : List ℕ} → Appends v b w → Appends u (a ++ b) w
  join q = record { same = q.same ∙ p.same; puts = then u.out.now u.at u.within p.puts q.puts }

  pub as_words : {b : List ℕ} → a ≡ b → Appends u b v
  as_words e = record { same = p.same; puts = spelt u.out.now u.at e p.puts }

-- ---- from the first place on
module _ (words out : List ℕ) where
  first : put_words out 0 words ≡ take (length out) (words ++ drop (length words) out)
  first = ap (λ (k : ℕ). take (length out) (words ++ drop k out)) (zero-add (length words))

  short : length words ≤ length out → put_words out 0 words ≡ laid words out
  short h =
      first
      ∙ take_all (length out) (words ++ drop (length words) out) (simp (length-append, length-drop) (omega arith))
      ∙ ap (λ (l : List ℕ). l ++ drop (length words) out) (sym (take_all (length out) words h))

  long : length out ≤ length words → put_words out 0 words ≡ laid words out
  long h =
      first
      ∙ take-append-le (length out) words (drop (length words) out) h
      ∙ sym (append-nil (take (length out) words))
      ∙ ap (λ (l : List ℕ). take (length out) words ++ l) (sym (drop_of_length-le out h))

  pub all_laid : {n : ℕ} {after : List ℕ} → Puts out 0 words n after → (n ≡ min (length words) (length out)) × (after ≡ laid words out)
  all_laid p =
      let e = p.place in
      (omega arith, p.laid ∙ ⊎_elim (λ h. short (let l : length words < length out = h in omega arith)) long (cases_lt (length words) (length out)))

-- by a writer that is new
pub all_put : (out : List ℕ) {a b : List ℕ} {w v : Writer} → w.out.now ≡ out → w.at ≡ 0 → a ≡ b → Appends w a v
    → (v.at ≡ min (length b) (length out)) × (v.out.now ≡ laid b out)
all_put out {b = b} e f g p = all_laid b out (rw (e, f, g) at p.puts)
