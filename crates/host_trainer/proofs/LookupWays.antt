-- What points find stored one after the other, and that it is what a lookup of the tree gives. Assumes nothing.
use mathlib.Core.Path.{◌≡◌, refl, sym, ap, subst, ◌∙◌}
use mathlib.Core.Bool.{true}
use mathlib.Core.List.{List, [], ◌∷◌, ◌++◌}
use Prim.Native.Nat.{ℕ, zero, suc, ◌+◌, ◌*◌, ◌/◌, ◌%◌, ◌<◌, ◌≤◌}
use native.Mathlib.Nat.{suc-add, mul-suc, mul-zero, mul-le-mul, mul-le-mul_left}
use native.Mathlib.Numerals.{add-one}
use native.Mathlib.Omega.{arith}
use borrow.Author.Tests.{eq-eqb, ne_eqb, le-leb, lt-leb}
use lib.Ieee.{binary64, of_bits}
use lib.ListN.{length, set, take, drop, replicate, length-append, length-replicate}
use lib.Seq.{sets, take-nil, take-take, drop-drop}
use Rattle.std.specs.Prelude.{Option, Some, None, Result, Ok, Err}
use Rattle.refusal.specs.declared.Refusal.{Refusal}
use Rattle.refusal.specs.declared.Refusal.TheVariants.{BadLength, ShortBuffer}
use Rattle.refusal.specs.Guards.{pass}
use Rattle.remy.specs.declared.action.Action.{Action}
use Rattle.remy.specs.declared.point.Point.{Point}
use Rattle.remy.specs.Action.{valid_of}
use Rattle.remy.specs.Cube.{point_of}
use Rattle.rule_tree.specs.declared.RuleTree.{RuleTree}
use Rattle.rule_tree.specs.Grown.{grown_of}
use Rattle.rule_tree.specs.Change.{with_action}
use Rattle.rule_tree.specs.Calls.{leaf_in, found_in, lookup_of, replaced_of}
use Rattle.wire.specs.Bytes.{bytes_of, value_from, number_at}
use Rattle.wire.specs.Fields.{action_bytes, action_at, point_at}
use Rattle.wire.proofs.Stores.{wrote}
use Rattle.record.proofs.Writing.{action_count}
use Rattle.trainer.specs.declared.Trainer.{Trainer}
use Rattle.record.specs.Calls.{load_of}
use Rattle.host_trainer.specs.Lookups.{found_bytes, rows_bytes, rows_in, rows_after, replaced_look, replaced_in, replaced_in_after, lookups, lookups_after}
use Rattle.record.proofs.Loaded.{loaded_grown}

-- ---- a point of 24 bytes
drop-take : (k n : ℕ) (l : List ℕ) → drop k (take (k + n) l) ≡ take n (drop k l)
drop-take zero n l = ap (λ (m : ℕ). take m l) (let e : 0 + n ≡ n = omega arith in e)
drop-take (suc k) n [] = ap (drop (suc k)) (take-nil (suc k + n)) ∙ sym (take-nil n)
drop-take (suc k) n (x ∷ l) = ap (λ (m : ℕ). drop (suc k) (take m (x ∷ l))) (suc-add k n) ∙ drop-take k n l

-- the number at a place of a part of 24 bytes
part_number : (bytes : List ℕ) (at k n : ℕ) → k + n ≡ 24 → 8 ≤ n → number_at (take 24 (drop at bytes)) k 8 ≡ number_at bytes (at + k) 8
part_number bytes at k n e l =
    ap (value_from 0)
    (ap (λ (m : ℕ). take 8 (drop k (take m (drop at bytes)))) (sym e)
    ∙ ap (take 8) (drop-take k n (drop at bytes))
    ∙ take-take 8 n (drop k (drop at bytes)) l
    ∙ ap (take 8) (drop-drop k at bytes))

pub part_point : (bytes : List ℕ) (at : ℕ) → point_at (take 24 (drop at bytes)) 0 ≡ point_at bytes at
part_point bytes at =
    let a : number_at (take 24 (drop at bytes)) 0 8 ≡ number_at bytes at 8 = part_number bytes at 0 24 refl (omega arith) ∙ ap (λ (k : ℕ). number_at bytes k 8) (let e : at + 0 ≡ at = omega arith in e) in
    let b = part_number bytes at 8 16 refl (omega arith) in
    let d = part_number bytes at 16 8 refl (omega arith) in
    λ j. point_of (of_bits binary64 (a j)) (of_bits binary64 (b j)) (of_bits binary64 (d j))

-- ---- what a point finds
pub found_count : (x : Result (Option Action) Refusal) → length (found_bytes x) ≡ 21
unfolding found_bytes
found_count (Ok (Some a)) = ap suc (action_count a)
found_count (Ok None) = length-replicate {A = ℕ} 21 0
found_count (Err r) = length-replicate {A = ℕ} 21 0

pub found_put : (l : List ℕ) (at : ℕ) (a : Action) {l2 : List ℕ} → l2 ≡ sets (set l at 1) (at + 1) (action_bytes a) → l2 ≡ sets l at (found_bytes (Ok (Some a)))
unfolding found_bytes
found_put l at a p = wrote l (set l at 1) at 1 (1 ∷ []) (action_bytes a) p refl refl

zeros : replicate 21 0 ≡ bytes_of 21 0
unfolding bytes_of
zeros = refl

pub none_put : (l : List ℕ) (at : ℕ) {l2 : List ℕ} → l2 ≡ sets l at (bytes_of 21 0) → l2 ≡ sets l at (found_bytes (Ok None))
unfolding found_bytes
none_put l at p = p ∙ ap (sets l at) (sym zeros)

-- ---- the rows, one by one
pub room : (w i n : ℕ) → i < n → w * i + w ≤ w * n
room w i n h = let a : w * suc i ≤ w * n = mul-le-mul_left w (omega arith) in omega (arith, a, mul-suc w i)

pub small : (w n m : ℕ) → w ≤ 24 → 24 * n ≤ m → w * n ≤ m
small w n m a b = let c : w * n ≤ 24 * n = mul-le-mul a (omega arith) in omega (arith, c)

module _ (row : Point → List ℕ) (points : List ℕ) where
  rows_suc : (i : ℕ) → rows_bytes row points (suc i) ≡ rows_bytes row points i ++ row (point_at points (24 * i))
  unfolding rows_bytes
  rows_suc i = refl

  pub rows_empty : (w : ℕ) → length (rows_bytes row points 0) ≡ w * 0
  unfolding rows_bytes
  rows_empty w = sym (mul-zero w)

  pub rows_longer : (w i : ℕ) → length (row (point_at points (24 * i))) ≡ w → length (rows_bytes row points i) ≡ w * i → length (rows_bytes row points (i + 1)) ≡ w * (i + 1)
  rows_longer w i f h =
      ap (λ (k : ℕ). length (rows_bytes row points k)) (add-one i) ∙ ap length (rows_suc i)
      ∙ length-append (rows_bytes row points i) (row (point_at points (24 * i))) ∙ (let m = mul-suc w i in omega (arith, f, h, m)) ∙ ap (λ (k : ℕ). w * k) (sym (add-one i))

  pub rows_none : (l : List ℕ) → l ≡ sets l 0 (rows_bytes row points 0)
  unfolding rows_bytes
  rows_none l = refl

  pub read_point : {p : Point} (i m : ℕ) → m ≡ 24 → p ≡ point_at (take m (drop (24 * i) points)) 0 → p ≡ point_at points (24 * i)
  read_point i m em e = e ∙ ap (λ (k : ℕ). point_at (take k (drop (24 * i) points)) 0) em ∙ part_point points (24 * i)

  pub rows_turn : (w : ℕ) (l l1 : List ℕ) {l2 : List ℕ} (i : ℕ) {p : Point} → l1 ≡ sets l 0 (rows_bytes row points i) → length (rows_bytes row points i) ≡ w * i
      → p ≡ point_at points (24 * i) → l2 ≡ sets l1 (w * i) (row p) → l2 ≡ sets l 0 (rows_bytes row points (i + 1))
  rows_turn w l l1 i {p} e c ep q =
      wrote l l1 0 (w * i) (rows_bytes row points i) (row (point_at points (24 * i)))
      (q ∙ ap (λ (x : Point). sets l1 (w * i) (row x)) ep ∙ ap (λ (k : ℕ). sets l1 k (row (point_at points (24 * i)))) (let z : w * i ≡ 0 + w * i = omega arith in z))
      e c
      ∙ ap (sets l 0) (sym (ap (rows_bytes row points) (add-one i) ∙ rows_suc i))

-- ---- the rows of all points, by their tests
module _ (w : ℕ) (row : Point → List ℕ) (points out : List ℕ) where
  pub rows_cut : (length points % 24 ≡ 0 → ⊥) → (Err BadLength ≡ rows_in w points out) × (out ≡ rows_after w row points out)
  unfolding rows_in rows_after pass
  rows_cut n = let a = ne_eqb (length points % 24) 0 n in (rw a, rw a)

  module _ (s : ℕ) (size : s ≡ w) (whole : length points % 24 ≡ 0) where
    pub rows_short : length out < s * (length points / 24) → (Err ShortBuffer ≡ rows_in w points out) × (out ≡ rows_after w row points out)
    unfolding rows_in rows_after pass
    rows_short h =
        let a = eq-eqb (length points % 24) 0 whole in
        let b = lt-leb (w * (length points / 24)) (length out) (subst (λ (k : ℕ). length out < k * (length points / 24)) size h) in
        (rw (a, b), rw (a, b))

    pub rows_taken : {l : List ℕ} → s * (length points / 24) ≤ length out → l ≡ sets out 0 (rows_bytes row points (length points / 24))
        → (Ok (s * (length points / 24)) ≡ rows_in w points out) × (l ≡ rows_after w row points out)
    unfolding rows_in rows_after pass
    rows_taken h p =
        let a = eq-eqb (length points % 24) 0 whole in
        let b = le-leb (w * (length points / 24)) (length out) (subst (λ (k : ℕ). k * (length points / 24) ≤ length out) size h) in
        (rw (a, b) (ap (λ (k : ℕ). Ok (k * (length points / 24))) size), rw (a, b) p)

-- ---- what a lookup gives where its tests hold
-- two rows that are the same at each point
rows_same : (w : ℕ) (f g : Point → List ℕ) (points out : List ℕ) → ((p : Point) → f p ≡ g p) → rows_after w f points out ≡ rows_after w g points out
rows_same w f g points out h j = rows_after w (λ p. h p j) points out

look_is : (t : RuleTree) (p : Point) → grown_of t ≡ true → Ok (found_in t p) ≡ lookup_of t p
unfolding lookup_of
look_is t p g = rw g

pub looked : (t : RuleTree) (points out : List ℕ) → grown_of t ≡ true
    → rows_after 21 (λ p. found_bytes (Ok (found_in t p))) points out ≡ rows_after 21 (λ p. found_bytes (lookup_of t p)) points out
looked t points out g =
    rows_same 21 (λ p. found_bytes (Ok (found_in t p))) (λ p. found_bytes (lookup_of t p)) points out (λ p. ap found_bytes (look_is t p g))

replaced_is : (t : RuleTree) (leaf : ℕ) (action : List ℕ) (p : Point) → grown_of t ≡ true → leaf_in t leaf ≡ true → valid_of (action_at action 0) ≡ true
    → Ok (found_in (with_action t leaf (action_at action 0)) p) ≡ replaced_look t leaf action p
unfolding replaced_of
replaced_is t leaf action p g l v = rw (g, l, v)

pub replaced_found : (t : RuleTree) (leaf : ℕ) (action points out : List ℕ) → grown_of t ≡ true → leaf_in t leaf ≡ true → valid_of (action_at action 0) ≡ true
    → rows_after 21 (λ p. found_bytes (Ok (found_in (with_action t leaf (action_at action 0)) p))) points out
    ≡ rows_after 21 (λ p. found_bytes (replaced_look t leaf action p)) points out
replaced_found t leaf action points out g l v =
    rows_same 21 (λ p. found_bytes (Ok (found_in (with_action t leaf (action_at action 0)) p))) (λ p. found_bytes (replaced_look t leaf action p)) points out
    (λ p. ap found_bytes (replaced_is t leaf action p g l v))

pub replaced_taken : (t : RuleTree) (leaf : ℕ) (action points out : List ℕ) {other : Action} {u : RuleTree} {r : Result ℕ Refusal} {l : List ℕ}
    → grown_of t ≡ true → leaf_in t leaf ≡ true → length action ≡ 20 → other ≡ action_at action 0 → valid_of other ≡ true → u ≡ with_action t leaf other
    → (r ≡ rows_in 21 points out) × (l ≡ rows_after 21 (λ p. found_bytes (Ok (found_in u p))) points out)
    → (r ≡ replaced_in t leaf action points out) × (l ≡ replaced_in_after t leaf action points out)
unfolding replaced_in replaced_in_after pass
replaced_taken t leaf action points out {other} g h e eo v eu p =
    let w : valid_of (action_at action 0) ≡ true = ap valid_of (sym eo) ∙ v in
    let a = eq-eqb (length action) 20 e in
    let same = eu ∙ ap (with_action t leaf) eo in (
      rw (h, a, w) p.0,
      rw (h, a, w)
          (p.1 ∙ ap (λ (z : RuleTree). rows_after 21 (λ p. found_bytes (Ok (found_in z p))) points out) same
          ∙ replaced_found t leaf action points out g h w),
    )

-- ---- lookup over a record
pub lookup_taken : (held points out : List ℕ) {a : Result Trainer Refusal} {t : Trainer} {r : Result ℕ Refusal} {l : List ℕ} → a ≡ load_of held → a ≡ Ok t
    → (r ≡ rows_in 21 points out) × (l ≡ rows_after 21 (λ p. found_bytes (Ok (found_in t.tree p))) points out)
    → (r ≡ lookups held points out) × (l ≡ lookups_after held points out)
lookup_taken held points out {t = t} e z p =
    let q : load_of held ≡ Ok t = sym e ∙ z in
    rw q (p.0, p.1 ∙ looked t.tree points out (loaded_grown held t e z))
