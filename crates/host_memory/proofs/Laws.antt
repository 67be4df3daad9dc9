-- What a host reads back: the list in the buffer of `leaves_within` is the one that the call on a list leaves, and the last two bytes of a row of
-- `lookup_tested` are the number of cubes that the lookup tested. Assumes nothing.
use mathlib.Core.Path.{◌≡◌, refl, sym, ap, subst, ◌∙◌}
use mathlib.Core.Bool.{Bool, true, false, cond, ◌&&◌}
use mathlib.Core.List.{List, [], ◌∷◌, append-nil}
use mathlib.Core.Logic.{⊎_elim}
use Prim.Native.Nat.{ℕ, zero, suc, ◌+◌, ◌*◌, ◌/◌, ◌%◌, ◌<◌, ◌≤◌}
use native.Mathlib.Omega.{arith}
use borrow.Author.Tests.{leb-true}
use lib.Dec.{leb}
use lib.ListN.{length, get_or, set, length-set}
use lib.Seq.{sets, length-sets, drop_at, ext_get_or, get_or-set_same, get_or-set_other}
use Rattle.refusal.specs.Guards.{pass}
use Rattle.remy.specs.declared.point.Point.{Point}
use Rattle.rule_tree.specs.declared.RuleTree.{RuleTree}
use Rattle.rule_tree.specs.Nodes.{node_count}
use Rattle.rule_tree.specs.Grown.{grown_of}
use Rattle.rule_tree.specs.Calls.{opened_of}
use Rattle.rule_tree.proofs.Plain.{PointFits, and_l, and_r}
use Rattle.rule_tree.proofs.Lists.{get_d_tabulate}
use Rattle.rule_tree.proofs.Links.{grown_splits}
use Rattle.rule_tree.proofs.Owners.{same_or_not}
use Rattle.rule_tree_laws.proofs.Opened.{opened_few}
use Rattle.wire.specs.Bytes.{bytes_of, shorts_bytes, number_at}
use Rattle.wire.proofs.Bytes.{bytes_count, number_none, number_more, number_stands}
use Rattle.wire.proofs.Stores.{sets_append}
use Rattle.ranges.specs.declared.Ranges.{Ranges}
use Rattle.ranges.specs.Ranges.{ordered_of, passing, reached_leaf, leaves_within, ranges_order, list_after}
use Rattle.host_trainer.specs.Lookups.{found_bytes}
use Rattle.host_trainer.proofs.LookupWays.{found_count}
use Rattle.host_memory.specs.Within.{list_in, listed_after}
use Rattle.host_memory.specs.Tested.{row_of}
use Rattle.host_memory.proofs.Within.{places}

-- ---- a number in two bytes
short_at : (l : List ℕ) (at : ℕ) → at + 1 < length l → number_at l at 2 ≡ get_or l at 0 * 256 + get_or l (at + 1) 0
short_at l at h =
    let a : 0 * 256 + get_or l (at + 0) 0 ≡ number_at l at 1 = number_more l at 0 0 (omega arith) (number_none l at) in
    let b : number_at l at 1 * 256 + get_or l (at + 1) 0 ≡ number_at l at 2 = number_more l at 1 (number_at l at 1) h refl in
    let z : get_or l (at + 0) 0 ≡ get_or l at 0 = ap (λ (k : ℕ). get_or l k 0) (let e : at + 0 ≡ at = omega arith in e) in
    omega arith

list_at : (l : List ℕ) (j : ℕ) → j < length l / 2 → get_or (list_in l) j 0 ≡ get_or l (2 * j) 0 * 256 + get_or l (2 * j + 1) 0
list_at l j h = get_d_tabulate (length l / 2) j (λ i. number_at l (2 * i) 2) 0 h ∙ short_at l (2 * j) (omega arith)

module _ (l : List ℕ) (k x : ℕ) (few : x < 65536) (inside : k < length l / 2) where
  abbrev stored : List ℕ
  stored = set (set l (2 * k) (x / 256 % 256)) (suc (2 * k)) (x % 256)

  as_long : length stored ≡ length l
  as_long = length-set (set l (2 * k) (x / 256 % 256)) (suc (2 * k)) (x % 256) ∙ length-set l (2 * k) (x / 256 % 256)

  same_place : get_or (list_in stored) k 0 ≡ x
  same_place =
      let n = as_long in
      let m = length-set l (2 * k) (x / 256 % 256) in
      let a : get_or stored (2 * k) 0 ≡ x / 256 % 256 =
      get_or-set_other (set l (2 * k) (x / 256 % 256)) (suc (2 * k)) (2 * k) (x % 256) 0 (λ e. omega (arith, e))
      ∙ get_or-set_same l (2 * k) (x / 256 % 256) 0 (omega arith) in
      let b : get_or stored (2 * k + 1) 0 ≡ x % 256 =
      ap (λ (j : ℕ). get_or stored j 0) (let e : 2 * k + 1 ≡ suc (2 * k) = omega arith in e)
      ∙ get_or-set_same (set l (2 * k) (x / 256 % 256)) (suc (2 * k)) (x % 256) 0 (omega arith) in
      list_at stored k (omega arith) ∙ omega arith

  kept : (i : ℕ) → (i ≡ 2 * k → ⊥) → (i ≡ suc (2 * k) → ⊥) → get_or stored i 0 ≡ get_or l i 0
  kept i p q =
      get_or-set_other (set l (2 * k) (x / 256 % 256)) (suc (2 * k)) i (x % 256) 0 q ∙ get_or-set_other l (2 * k) i (x / 256 % 256) 0 p

  other_place : (j : ℕ) → j < length l / 2 → (j ≡ k → ⊥) → get_or (list_in stored) j 0 ≡ get_or (list_in l) j 0
  other_place j h d =
      let n = as_long in
      let a = kept (2 * j) (λ e. d (omega (arith, e))) (λ e. omega (arith, e)) in
      let b = kept (2 * j + 1) (λ e. omega (arith, e)) (λ e. d (omega (arith, e))) in
      list_at stored j (omega arith) ∙ (λ i. a i * 256 + b i) ∙ sym (list_at l j h)

  list_stored : list_in stored ≡ set (list_in l) k x
  list_stored =
      let n = as_long in
      let a = places stored in
      let b = places l in
      let c = length-set (list_in l) k x in
      ext_get_or 0 (list_in stored) (set (list_in l) k x) (omega arith)
      (λ j h.
      ⊎_elim
      (λ (e : j ≡ k). subst (λ (i : ℕ). get_or (list_in stored) i 0 ≡ get_or (set (list_in l) k x) i 0) (sym e)
      (same_place ∙ sym (get_or-set_same (list_in l) k x 0 (omega arith))))
      (λ (d : j ≡ k → ⊥). other_place j (omega arith) d ∙ sym (get_or-set_other (list_in l) k j x 0 d))
      (same_or_not j k))

  pub list_put : list_in (sets l (2 * k) (bytes_of 2 x)) ≡ set (list_in l) k x
  unfolding bytes_of
  list_put = list_stored

-- ---- numbers one after the other
list_sets : (ls l : List ℕ) (k : ℕ) → ((i : ℕ) → get_or ls i 0 < 65536) → k + length ls ≤ length l / 2
    → list_in (sets l (2 * k) (shorts_bytes ls)) ≡ sets (list_in l) k ls
unfolding shorts_bytes
list_sets [] l k few h = refl
list_sets (x ∷ ls) l k few h =
    let n = length-sets l (2 * k) (bytes_of 2 x) in
    ap list_in
    (sym (sets_append (bytes_of 2 x) l (2 * k) (shorts_bytes ls))
    ∙ ap (λ (j : ℕ). sets (sets l (2 * k) (bytes_of 2 x)) j (shorts_bytes ls))
    (let e = bytes_count 2 x in let z : 2 * k + length (bytes_of 2 x) ≡ 2 * suc k = omega arith in z))
    ∙ list_sets ls (sets l (2 * k) (bytes_of 2 x)) (suc k) (λ i. few (suc i)) (omega arith)
    ∙ ap (λ (m : List ℕ). sets m (suc k) ls) (list_put l k x (few 0) (omega arith))

-- ---- the leaves found are nodes
passing_below : (holds : ℕ → Bool) (n i k : ℕ) → get_or (passing holds i n) k 0 ≤ i + n
unfolding passing
passing_below holds zero i k = omega arith
passing_below holds (suc n) i k = go (holds i) (passing holds (suc i) n) (passing_below holds n (suc i)) k
  where
    go : (b : Bool) (rest : List ℕ) → ((j : ℕ) → get_or rest j 0 ≤ suc i + n) → (j : ℕ) → get_or (cond b (i ∷ rest) rest) j 0 ≤ i + suc n
    go true rest h zero = omega arith
    go true rest h (suc j) = omega (arith, h j)
    go false rest h j = omega (arith, h j)

leaves_few : (t : RuleTree) (r : Ranges) → grown_of t ≡ true → (i : ℕ) → get_or (leaves_within t r) i 0 < 65536
leaves_few t r g i =
    let b = passing_below (reached_leaf t r) (node_count t.splits) 0 i in
    let s = grown_splits t g in
    omega arith

-- ---- the call
by_tests : (p : Bool) (A B out : List ℕ) → (p ≡ true → list_in A ≡ B) → list_in (cond p A out) ≡ cond p B (list_in out)
by_tests true A B out h = h refl
by_tests false A B out h = refl

pub list_left : (t : RuleTree) (r : Ranges) (out : List ℕ) → list_in (listed_after t r out) ≡ list_after t r (list_in out)
unfolding listed_after list_after pass
list_left t r out =
    let room : Bool = leb (length (leaves_within t r)) (length (list_in out)) in
    by_tests (pass (ranges_order t r (list_in out)))
    (sets out 0 (shorts_bytes (leaves_within t r))) (sets (list_in out) 0 (leaves_within t r)) out
    (λ h.
    let g = and_l (grown_of t) (ordered_of r && (room && true)) h in
    let b = and_l room true (and_r (ordered_of r) (room && true) (and_r (grown_of t) (ordered_of r && (room && true)) h)) in
    let n = leb-true (length (leaves_within t r)) (length (list_in out)) b in
    let p = places out in
    list_sets (leaves_within t r) out 0 (leaves_few t r g) (omega arith))

-- ---- a row
pub tested_read : (t : RuleTree) → grown_of t ≡ true → length t.nodes ≡ 513 → PointFits t.ends → (p : Point)
    → number_at (row_of (opened_of t p)) 21 2 ≡ (opened_of t p).tested
tested_read t g n f p =
    let x = (opened_of t p).found in
    let k = (opened_of t p).tested in
    let few = opened_few t g n f p in
    number_stands (row_of (opened_of t p)) 21 2 k [] (omega arith) (drop_at (found_bytes x) (bytes_of 2 k) 21 (found_count x) ∙ sym (append-nil (bytes_of 2 k)))
