-- The walk of specs/Walk, a step at a time: the child that three comparisons name is the first that holds the point, and what a walk keeps on its way to a leaf.
-- Assumes nothing.
use mathlib.Core.Path.{◌≡◌, refl, sym, ap, subst, ◌∙◌}
use mathlib.Core.Bool.{Bool, true, false, ◌&&◌, cond}
use mathlib.Core.Logic.{◌⊎◌, inl, inr, ⊎_elim}
use mathlib.Core.List.{List}
use Prim.Native.Nat.{ℕ, zero, suc, ◌+◌, ◌*◌, ◌<◌, ◌≤◌}
use native.Mathlib.Nat.{eq-or-lt_of_le}
use native.Mathlib.Omega.{arith}
use lib.Dec.{eqb, leb, T}
use lib.Ieee.Bits.{is_true}
use lib.ListN.{get_or}
use borrow.Author.Tests.{eqb-true, leb-true, le-leb, eq-eqb, ne_eqb}
use Rattle.remy.specs.declared.point.Point.{Point}
use Rattle.remy.specs.declared.cube.Cube.{Cube}
use Rattle.remy.specs.declared.cube.Child.{Child}
use Rattle.remy.specs.Cube.{contains_of, child_cube, place_of_point, toward_of, Whole}
use Rattle.remy.proofs.Partition.{first_child_lem, place_below, place_holds, whole_child}
use Rattle.rule_tree.specs.declared.inner.walk.Reached.{Reached}
use Rattle.rule_tree.specs.Lists.{occurrences}
use Rattle.rule_tree.specs.Nodes.{node_count}
use Rattle.rule_tree.specs.Grown.{link_holds, links_hold, owners_of, all_ones, linked_of}
use Rattle.rule_tree.specs.Walk.{first_from, first_child, tested_more, descend, walk_of, Walkable}
use Rattle.rule_tree.proofs.Plain.{and_l, and_r}
use Rattle.rule_tree.proofs.Links.{Link, link_of_lem, link_more}
use Rattle.rule_tree.proofs.Lists.{all_below_at, all_below_all, get_d_tabulate}

-- ---- the first child
first_here : (left k : ℕ) (c : Cube) (p : Point) → contains_of (child_cube c k) p ≡ true → first_from (suc left) k c p ≡ k
unfolding first_from
first_here left k c p h = ap (λ (b : Bool). cond b k (first_from left (suc k) c p)) h

first_later : (left k : ℕ) (c : Cube) (p : Point) → contains_of (child_cube c k) p ≡ false
    → first_from (suc left) k c p ≡ first_from left (suc k) c p
unfolding first_from
first_later left k c p h = ap (λ (b : Bool). cond b k (first_from left (suc k) c p)) h

first_from_lem : (left k m : ℕ) (c : Cube) (p : Point) → k ≤ m → m < k + left
    → ((j : ℕ) → j < m → contains_of (child_cube c j) p ≡ false) → contains_of (child_cube c m) p ≡ true → first_from left k c p ≡ m
first_from_lem zero k m c p l h no_one y = absurd (omega arith)
first_from_lem (suc left) k m c p l h no_one y =
    ⊎_elim
    (λ (e : k ≡ m). first_here left k c p (subst (λ (x : ℕ). contains_of (child_cube c x) p ≡ true) (sym e) y) ∙ e)
    (λ (q : k < m). first_later left k c p (no_one k q) ∙ first_from_lem left (suc k) m c p (omega arith) (omega arith) no_one y)
    (eq-or-lt_of_le l)

-- the walk by three comparisons finds the child that a search in order finds
pub first_is_place : (c : Cube) → Whole c → (p : Point) → contains_of c p ≡ true → first_child c p ≡ place_of_point c p
first_is_place c w p h = first_from_lem 8 0 (place_of_point c p) c p (omega arith) (place_below c p) (first_child_lem c w p) (place_holds c w p h)

-- ---- links
pub links_parent : (cs : List ℕ) (s i : ℕ) → links_hold cs s ≡ true → i < 513 → (get_or cs i 0 ≡ 0 → ⊥) → Link s (get_or cs i 0) i
links_parent cs s i h l n = link_of_lem s (get_or cs i 0) i (all_below_at 513 i (λ j. link_holds s (get_or cs j 0) j) h l) n

-- all eight children are among the nodes
pub eight_inside : (s c i k : ℕ) → Link s c i → k < 8 → c + k < node_count s
eight_inside s c i k h l = let e = h.first in let b = h.inside in omega arith

-- ---- one step of the definition
tested_more_twice : (a b n : ℕ) (r : Reached) → n ≡ a + b → tested_more a (tested_more b r) ≡ tested_more n r
tested_more_twice a b n r e = ap (λ (m : ℕ). record { node = r.node; tested = m }) (omega arith)

descend_leaf : (d : ℕ) (cs : List ℕ) (i : ℕ) (c : Cube) (p : Point) → get_or cs i 0 ≡ 0 → descend d cs i c p ≡ record { node = i; tested = 0 }
unfolding descend
descend_leaf zero cs i c p h = refl
descend_leaf (suc d) cs i c p h = rw (eq-eqb (get_or cs i 0) 0 h)

descend_first : (d : ℕ) (cs : List ℕ) (i : ℕ) (c : Cube) (p : Point) → (get_or cs i 0 ≡ 0 → ⊥)
    → descend (suc d) cs i c p ≡ tested_more (suc (first_child c p)) (descend d cs (get_or cs i 0 + first_child c p) (child_cube c (first_child c p)) p)
unfolding descend
descend_first d cs i c p h = rw (ne_eqb (get_or cs i 0) 0 h)

descend_parent : (d : ℕ) (cs : List ℕ) (i : ℕ) (c : Cube) (p : Point) → (get_or cs i 0 ≡ 0 → ⊥) → Whole c → contains_of c p ≡ true
    → descend (suc d) cs i c p ≡ tested_more (suc (place_of_point c p)) (descend d cs (get_or cs i 0 + place_of_point c p) (child_cube c (place_of_point c p)) p)
descend_parent d cs i c p h w e =
    descend_first d cs i c p h
    ∙ ap (λ (k : ℕ). tested_more (suc k) (descend d cs (get_or cs i 0 + k) (child_cube c k) p)) (first_is_place c w p e)

-- ---- what holds on the way: node i, whose cube holds p, is on the walk from the root, and at most one cube for each node up to it was tested
pub record On (cs : List ℕ) (root : Cube) (p : Point) (cube : Cube) (i tested : ℕ) : Type 0 where
  pub fuel : ℕ
  pub enough : 513 ≤ fuel + i
  pub below : i < 513
  pub whole : Whole cube
  pub inside : contains_of cube p ≡ true
  pub few : tested ≤ 1 + i
  pub same : tested_more tested (descend fuel cs i cube p) ≡ walk_of cs root p

pub at_root : (cs : List ℕ) (root : Cube) (p : Point) → Whole root → contains_of root p ≡ true → On cs root p root 0 1
at_root cs root p w h = record {
  fuel = 513;
  enough = omega arith;
  below = omega arith;
  whole = w;
  inside = h;
  few = omega arith;
  same = refl;
}

module _ (cs : List ℕ) (root : Cube) (p : Point) (cube : Cube) (i tested : ℕ) (o : On cs root p cube i tested) where
  pub at_leaf : get_or cs i 0 ≡ 0 → ◌≡◌ {A = Reached} record { node = i; tested = tested } (walk_of cs root p)
  at_leaf h =
      ap (λ (n : ℕ). record { node = i; tested = n }) (omega arith)
      ∙ ap (tested_more tested) (sym (descend_leaf o.fuel cs i cube p h))
      ∙ o.same

  to_child : (s : ℕ) → s ≤ 64 → Link s (get_or cs i 0) i → (d : ℕ) → o.fuel ≡ suc d
      → On cs root p (child_cube cube (place_of_point cube p)) (get_or cs i 0 + place_of_point cube p) (tested + 1 + place_of_point cube p)
  to_child s l h d e =
      let c = get_or cs i 0 in
      let k = place_of_point cube p in
      let b : k < 8 = place_below cube p in
      let n : c ≡ 0 → ⊥ = λ z. absurd (let g = h.after in omega arith) in
      record {
        fuel = d;
        enough = let g = h.after in let f = o.enough in omega arith;
        below = let g = eight_inside s c i k h b in omega arith;
        whole = whole_child cube o.whole k;
        inside = place_holds cube o.whole p o.inside;
        few = let g = h.after in let f = o.few in omega arith;
        same =
            sym (tested_more_twice tested (suc k) (tested + 1 + k) (descend d cs (c + k) (child_cube cube k) p) (omega arith))
            ∙ ap (tested_more tested) (sym (descend_parent d cs i cube p n o.whole o.inside))
            ∙ subst (λ (f : ℕ). tested_more tested (descend f cs i cube p) ≡ walk_of cs root p) e o.same;
      }

  pub step : (s : ℕ) → s ≤ 64 → Link s (get_or cs i 0) i
      → On cs root p (child_cube cube (place_of_point cube p)) (get_or cs i 0 + place_of_point cube p) (tested + 1 + place_of_point cube p)
  step s l h = go o.fuel refl
    where
      go : (f : ℕ) → o.fuel ≡ f → On cs root p (child_cube cube (place_of_point cube p)) (get_or cs i 0 + place_of_point cube p) (tested + 1 + place_of_point cube p)
      go zero e = absurd (let a = o.enough in let b = o.below in omega arith)
      go (suc d) e = to_child s l h d e

-- one turn of the loop: node c + r.number is the next on the way, and it comes after i
pub record Turned (cs : List ℕ) (root : Cube) (p : Point) (i tested c : ℕ) (r : Child) : Type 0 where
  pub on : On cs root p r.cube (c + r.number) (tested + 1 + r.number)
  pub later : i < c

toward_child : (c : Cube) (p : Point) → toward_of c p ≡ record { number = place_of_point c p; cube = child_cube c (place_of_point c p) }
unfolding toward_of
toward_child c p = refl

pub turn : (cs : List ℕ) (root : Cube) (p : Point) (cube : Cube) (i tested c : ℕ) (r : Child)
    → Walkable cs root p → On cs root p cube i tested → c ≡ get_or cs i 0 → (c ≡ 0 → ⊥) → r ≡ toward_of cube p
    → Turned cs root p i tested c r
turn cs root p cube i tested c r v o e n t =
    let h : Link 64 (get_or cs i 0) i = links_parent cs 64 i (is_true (links_hold cs 64) v.links) o.below (λ z. n (e ∙ z)) in
    record {
      on = subst (λ (x : ℕ). On cs root p r.cube (x + r.number) (tested + 1 + r.number)) (sym e)
          (subst (λ (x : Child). On cs root p x.cube (get_or cs i 0 + x.number) (tested + 1 + x.number)) (sym (t ∙ toward_child cube p))
          (step cs root p cube i tested o 64 (omega arith) h));
      later = let g = h.after in omega arith;
    }

-- ---- down to the leaf: what holds of the root and goes from a parent on the way to its child toward p holds at the leaf
pub record Reaching (cs : List ℕ) (root : Cube) (p : Point) (P : Cube → ℕ → Type 0) : Type 0 where
  pub cube : Cube
  pub node : ℕ
  pub tested : ℕ
  pub on : On cs root p cube node tested
  pub leaf : get_or cs node 0 ≡ 0
  pub kept : P cube node

zero_or_not : (n : ℕ) → (n ≡ 0) ⊎ (n ≡ 0 → ⊥)
zero_or_not zero = inl refl
zero_or_not (suc n) = inr (λ e. absurd (omega arith))

module _
    (cs : List ℕ) (root : Cube) (p : Point) (s : ℕ) (few : s ≤ 64) (links : links_hold cs s ≡ true) (P : Cube → ℕ → Type 0)
    (more : (cube : Cube) (i : ℕ) → i < 513 → Link s (get_or cs i 0) i → Whole cube → contains_of cube p ≡ true → P cube i → P (child_cube cube (place_of_point cube p)) (get_or cs i 0 + place_of_point cube p))
  where
    descent_from : (n : ℕ) (cube : Cube) (i tested : ℕ) → 513 ≤ n + i → On cs root p cube i tested → P cube i → Reaching cs root p P
    descent_from zero cube i tested h o a = absurd (let b = o.below in omega arith)
    descent_from (suc n) cube i tested h o a =
        ⊎_elim
        (λ (e : get_or cs i 0 ≡ 0). record { cube = cube; node = i; tested = tested; on = o; leaf = e; kept = a })
        (λ (e : get_or cs i 0 ≡ 0 → ⊥).
        let q = links_parent cs s i links o.below e in
        descent_from n (child_cube cube (place_of_point cube p)) (get_or cs i 0 + place_of_point cube p) (tested + 1 + place_of_point cube p)
        (let g = q.after in omega arith)
        (step cs root p cube i tested o s few q)
        (more cube i o.below q o.whole o.inside a))
        (zero_or_not (get_or cs i 0))

    pub descent : Whole root → contains_of root p ≡ true → P root 0 → Reaching cs root p P
    descent w h a = descent_from 513 root 0 1 (omega arith) (at_root cs root p w h) a

-- the leaf that a walk reaches, among the nodes of s splits
pub record Leaf (cs : List ℕ) (s : ℕ) (r : Reached) : Type 0 where
  pub node : r.node < node_count s
  pub below : r.node < 513
  pub leaf : get_or cs r.node 0 ≡ 0
  pub few : r.tested ≤ 1 + r.node

pub walk_leaf : (cs : List ℕ) (root : Cube) (p : Point) (s : ℕ) → s ≤ 64 → links_hold cs s ≡ true → Whole root → contains_of root p ≡ true
    → Leaf cs s (walk_of cs root p)
walk_leaf cs root p s l h w i =
    let d = descent cs root p s l h (λ cube j. j < node_count s)
    (λ cube j b q v e a. eight_inside s (get_or cs j 0) j (place_of_point cube p) q (place_below cube p)) w i (omega arith) in
    subst (Leaf cs s) (at_leaf cs root p d.cube d.node d.tested d.on d.leaf)
    (record { node = d.kept; below = d.on.below; leaf = d.leaf; few = d.on.few })

-- ---- a list of links that was tested
module _ (cs : List ℕ) (s : ℕ) (h : linked_of cs s ≡ true) where
  linked_parts : (leb s 64 ≡ true) × (links_hold cs s && all_ones (owners_of cs) s ≡ true)
  unfolding linked_of
  linked_parts = (and_l (leb s 64) _ h, and_r (leb s 64) _ h)

  pub linked_few : s ≤ 64
  linked_few = leb-true s 64 linked_parts.0

  pub linked_links : links_hold cs s ≡ true
  linked_links = and_l (links_hold cs s) _ linked_parts.1

  -- one node has each split's eight nodes for children
  pub linked_owners : (k : ℕ) → k < s → occurrences (8 * k + 1) cs ≡ 1
  linked_owners k l =
      let f : s ≤ 64 = linked_few in
      let o = and_r (links_hold cs s) (all_ones (owners_of cs) s) linked_parts.1 in
      sym (get_d_tabulate 64 k (λ j. occurrences (8 * j + 1) cs) 0 (omega arith))
      ∙ eqb-true (get_or (owners_of cs) k 0) 1 (all_below_at s k (λ j. eqb (get_or (owners_of cs) j 0) 1) o l)

-- links that hold and owners that are one each make a list of links that the test takes
pub links_linked : (cs : List ℕ) (s : ℕ) → s ≤ 64 → ((i : ℕ) → i < 513 → link_holds s (get_or cs i 0) i ≡ true)
    → ((k : ℕ) → k < s → occurrences (8 * k + 1) cs ≡ 1) → linked_of cs s ≡ true
unfolding linked_of
links_linked cs s few links owners =
    let a : links_hold cs s ≡ true = all_below_all 513 (λ i. link_holds s (get_or cs i 0) i) links in
    let b : all_ones (owners_of cs) s ≡ true =
    all_below_all s (λ k. eqb (get_or (owners_of cs) k 0) 1)
    (λ k l. eq-eqb (get_or (owners_of cs) k 0) 1 (get_d_tabulate 64 k (λ j. occurrences (8 * j + 1) cs) 0 (omega arith) ∙ owners k l)) in
    rw (le-leb s 64 few, a, b)

-- links that hold for some number of splits hold for 64, as a walk asks
pub linked_walkable : (cs : List ℕ) (s : ℕ) → linked_of cs s ≡ true → T (links_hold cs 64)
linked_walkable cs s h =
    subst T
    (sym (all_below_all 513 (λ i. link_holds 64 (get_or cs i 0) i)
    (λ i l. link_more s 64 (get_or cs i 0) i (linked_few cs s h) (all_below_at 513 i (λ j. link_holds s (get_or cs j 0) j) (linked_links cs s h) l))))
    tt
