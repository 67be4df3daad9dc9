-- The ways through save and the body of a load, each by the tests that lead there. Assumes nothing.
use mathlib.Core.Path.{◌≡◌, sym, ap, ◌∙◌}
use mathlib.Core.Bool.{Bool, true, false, ◌&&◌, cond}
use mathlib.Core.List.{List, ◌++◌}
use Prim.Native.Nat.{ℕ, ◌+◌, ◌<◌, ◌≤◌}
use native.Mathlib.Omega.{arith}
use borrow.Author.Tests.{le-leb, lt-leb}
use lib.Dec.{leb}
use lib.ListN.{length, take, drop}
use lib.Seq.{sets, sets-eq, take_at}
use Rattle.std.specs.Prelude.{Ok, Err}
use Rattle.std.proofs.lemmas.Bool.{false_from_ne_true}
use Rattle.refusal.specs.declared.Refusal.TheVariants.{BadField, ShortBuffer}
use Rattle.rule_tree.specs.Nodes.{most_splits}
use Rattle.rule_tree.proofs.Links.{grown_splits}
use Rattle.trainer.specs.declared.Trainer.{Trainer}
use Rattle.trainer.specs.State.{accepted_of}
use Rattle.record.specs.declared.inner.layout.Layout.{Layout}
use Rattle.wire.specs.Bytes.{same_bytes}
use Rattle.record.specs.Layout.{layout_of, size_in}
use Rattle.record.specs.Write.{version, record_in, record_of}
use Rattle.record.specs.Read.{split_count, trainer_at, read_in, version_at, read_of}
use Rattle.record.specs.Calls.{save_of, buffer_after, length_holds, version_holds, again_of, body_holds, load_of}
use Rattle.record.specs.Parts.{body_taken}
use Rattle.record.proofs.Size.{record_size}
use Rattle.record.proofs.Loading.{accepted_grown}

-- ---- a run of stores from the first place on
pub stored : (l vs : List ℕ) {r : List ℕ} → length vs ≤ length l → r ≡ sets l 0 vs → r ≡ vs ++ drop (length vs) l
stored l vs h p =
    p ∙ sets-eq vs l 0 (omega arith) ∙ ap (λ (k : ℕ). vs ++ drop k l) (let e : 0 + length vs ≡ length vs = omega arith in e)

-- ---- save
module _ (t : Trainer) (buf : List ℕ) (a : accepted_of t ≡ true) (full : length t.tree.nodes ≡ 513) (lay : Layout) (el : lay ≡ layout_of version) (n : ℕ)
    (e : n ≡ size_in lay t.tree.splits) where
  size : length (record_of t) ≡ n
  size = record_size (layout_of version) version t (accepted_grown t a) full ∙ ap (λ (d : Layout). size_in d t.tree.splits) (sym el) ∙ sym e

  pub save_short : length buf < n → (Err ShortBuffer ≡ save_of t buf) × (buf ≡ buffer_after t buf (save_of t buf))
  unfolding save_of buffer_after
  save_short l =
      let q : leb (length (record_of t)) (length buf) ≡ false = lt-leb (length (record_of t)) (length buf) (omega (arith, size)) in
      (rw (a, q), rw (a, q))

  pub save_taken : {r : List ℕ} → n ≤ length buf → r ≡ sets buf 0 (record_in lay version t) → (Ok n ≡ save_of t buf) × (r ≡ buffer_after t buf (save_of t buf))
  unfolding save_of buffer_after
  save_taken l p =
      let q : leb (length (record_of t)) (length buf) ≡ true = le-leb (length (record_of t)) (length buf) (omega (arith, size)) in
      (rw (a, q, size), rw (a, q) (stored buf (record_of t) (omega (arith, size)) (p ∙ ap (λ (d : Layout). sets buf 0 (record_in d version t)) el)))

-- ---- load
pub load_body : (bytes : List ℕ) → length_holds bytes ≡ true → version_holds bytes ≡ true → body_taken bytes ≡ load_of bytes
unfolding load_of
load_body bytes h v = rw (h, v)

-- ---- the body
pub record_first : (l : List ℕ) (lay : Layout) (v : ℕ) (t : Trainer) (n : ℕ) {r : List ℕ} → length (record_in lay v t) ≡ n → n ≤ length l
    → r ≡ sets l 0 (record_in lay v t) → take n r ≡ record_in lay v t
record_first l lay v t n {r} e long p =
    ap (take n) (stored l (record_in lay v t) (omega arith) p) ∙ take_at (record_in lay v t) (drop (length (record_in lay v t)) l) n e

-- by the layout and the version that are read
module _ (bytes : List ℕ) (v : ℕ) (ev : v ≡ version_at bytes) (lay : Layout) (el : lay ≡ layout_of v) where
  lay_is : lay ≡ layout_of (version_at bytes)
  lay_is = el ∙ ap layout_of ev

  -- more splits than a tree has
  pub body_over : most_splits < split_count lay bytes → Err BadField ≡ body_taken bytes
  unfolding body_holds
  body_over l = ap (λ (b : Bool). cond b (Ok (read_of bytes)) (Err BadField)) (sym (ap (λ (b : Bool). b && same_bytes (again_of bytes) bytes) off))
    where
      off : accepted_of (read_of bytes) ≡ false
      off = false_from_ne_true _ (λ a.
          let f = grown_splits (read_of bytes).tree (accepted_grown (read_of bytes) a) in
          let q : split_count lay bytes ≡ (read_of bytes).tree.splits = ap (λ (d : Layout). split_count d bytes) lay_is in
          omega arith)

  -- the trainer that is read, accepted and written again or not
  pub body_is : (b : List ℕ) (l : Layout) (s : ℕ) → (b ≡ bytes) × (l ≡ lay) × (s ≡ split_count lay bytes) → (t : Trainer) → t ≡ trainer_at l b s
      → (a m : Bool) → accepted_of t ≡ a → same_bytes (record_in lay v t) bytes ≡ m → cond (a && m) (Ok t) (Err BadField) ≡ body_taken bytes
  unfolding body_holds
  body_is b l s f t et a m ea em =
      ap (λ (x : Bool). cond (x && m) (Ok t) (Err BadField)) (sym ea)
      ∙ ap (λ (x : Bool). cond (accepted_of t && x) (Ok t) (Err BadField)) (sym em)
      ∙ ap (λ (u : Trainer). cond (accepted_of u && same_bytes (record_in lay v u) bytes) (Ok u) (Err BadField)) is
      ∙ ap (λ (r : List ℕ). cond (accepted_of (read_of bytes) && same_bytes r bytes) (Ok (read_of bytes)) (Err BadField))
      (ap (λ (d : Layout). record_in d v (read_of bytes)) lay_is ∙ ap (λ (n : ℕ). record_in (layout_of (version_at bytes)) n (read_of bytes)) ev)
    where
      is : t ≡ read_of bytes
      is =
          et ∙ ap (λ (x : List ℕ). trainer_at l x s) f.0 ∙ ap (trainer_at l bytes) f.2
          ∙ ap (λ (d : Layout). trainer_at d bytes (split_count lay bytes)) f.1 ∙ ap (λ (d : Layout). read_in d bytes) lay_is
