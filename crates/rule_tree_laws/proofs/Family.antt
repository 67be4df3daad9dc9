-- Parents and children in a list of links that was tested: every node but the root is a child of one parent, and its cube is that child of the parent's cube.
-- Assumes nothing.
use mathlib.Core.Path.{◌≡◌, refl, sym, ap, ◌∙◌}
use mathlib.Core.Bool.{true}
use mathlib.Core.Logic.{⊎_elim}
use mathlib.Core.List.{List}
use Prim.Native.Nat.{ℕ, ◌+◌, ◌-◌, ◌*◌, ◌/◌, ◌%◌, ◌<◌, ◌≤◌}
use native.Mathlib.Omega.{arith}
use lib.ListN.{get_or, length}
use Rattle.remy.specs.declared.cube.Cube.{Cube}
use Rattle.remy.specs.Cube.{child_cube}
use Rattle.rule_tree.specs.Nodes.{node_count}
use Rattle.rule_tree.specs.Grown.{linked_of}
use Rattle.rule_tree.specs.Cubes.{owner_below, split_nodes, Before, cube_at}
use Rattle.rule_tree.proofs.Lists.{get_d_tabulate}
use Rattle.rule_tree.proofs.Owners.{Once, once_of, owner_found, owner_is}
use Rattle.rule_tree.proofs.CubeSteps.{root_cube, child_step}
use Rattle.rule_tree.proofs.Links.{Link}
use Rattle.rule_tree.proofs.Walking.{links_parent, linked_few, linked_links, linked_owners}

-- ---- parents
first_of_split : (c k : ℕ) → c % 8 ≡ 1 → k < 8 → (c + k - 1) / 8 ≡ c / 8
first_of_split c k e l = omega arith

place_in_split : (c k : ℕ) → c % 8 ≡ 1 → k < 8 → (c + k - 1) % 8 ≡ k
place_in_split c k e l = omega arith

whole_first : (c : ℕ) → c % 8 ≡ 1 → 8 * (c / 8) + 1 ≡ c
whole_first c e = omega arith

split_place : (j : ℕ) → 0 < j → 8 * ((j - 1) / 8) + 1 + (j - 1) % 8 ≡ j
split_place j e = omega arith

split_below : (s j : ℕ) → j < node_count s → 0 < j → (j - 1) / 8 < s
split_below s j l e = omega arith

-- node j is child k of node i
pub record Child (cs : List ℕ) (i k j : ℕ) : Type 0 where
  pub parent : i < 513
  pub later : i < j
  pub link : get_or cs i 0 ≡ 0 → ⊥
  pub place : k < 8
  pub is : j ≡ get_or cs i 0 + k

pub record Born (cs : List ℕ) (j : ℕ) : Type 0 where
  pub mother : ℕ
  pub place : ℕ
  pub child : Child cs mother place j

module _ (cs : List ℕ) (s : ℕ) (h : linked_of cs s ≡ true) (n : length cs ≡ 513) where
  parent_of : (i : ℕ) → i < 513 → (get_or cs i 0 ≡ 0 → ⊥) → Link s (get_or cs i 0) i
  parent_of i l e = links_parent cs s i (linked_links cs s h) l e

  pub child_of : (i k : ℕ) → i < 513 → (get_or cs i 0 ≡ 0 → ⊥) → k < 8 → Child cs i k (get_or cs i 0 + k)
  child_of i k l e b = record { parent = l; later = (let g = (parent_of i l e).after in omega arith); link = e; place = b; is = refl }

  owner : (k : ℕ) → k < s → Once cs (8 * k + 1)
  owner k l = once_of (8 * k + 1) cs (linked_owners cs s h k l)

  split_owner : (k i : ℕ) → k < s → i < 513 → get_or cs i 0 ≡ 8 * k + 1 → get_or (split_nodes cs) k 0 ≡ i
  split_owner k i l b e =
      let few : s ≤ 64 = linked_few cs s h in
      let o = owner k l in
      get_d_tabulate 64 k (λ m. owner_below 513 cs (8 * m + 1)) 0 (omega arith)
      ∙ owner_is 513 cs (8 * k + 1) i b e (λ j m q. o.only j (omega arith) q ∙ sym (o.only i (omega arith) e))

  -- the node of a split comes before the nodes that the split added
  pub split_low : Before (split_nodes cs)
  split_low k l =
      let e : get_or (split_nodes cs) k 0 ≡ owner_below 513 cs (8 * k + 1) = get_d_tabulate 64 k (λ m. owner_below 513 cs (8 * m + 1)) 0 l in
      ⊎_elim (λ (z : owner_below 513 cs (8 * k + 1) ≡ 0). omega arith)
      (λ w. let q = parent_of (owner_below 513 cs (8 * k + 1)) w.0 (λ z. let y = w.1 in omega (arith, z)) in let y = w.1 in omega (arith, q.after))
      (owner_found 513 cs (8 * k + 1))

  -- the node that split_nodes holds for a child is its parent
  pub parent_is : (i k j : ℕ) → Child cs i k j → (get_or (split_nodes cs) ((j - 1) / 8) 0 ≡ i) × ((j - 1) % 8 ≡ k)
  parent_is i k j c =
      let q : Link s (get_or cs i 0) i = parent_of i c.parent c.link in
      let b : k < 8 = c.place in
      let e : j ≡ get_or cs i 0 + k = c.is in
      let m : (get_or cs i 0 + k - 1) / 8 ≡ get_or cs i 0 / 8 = first_of_split (get_or cs i 0) k q.first b in
      let f : 8 * (get_or cs i 0 / 8) + 1 ≡ get_or cs i 0 = whole_first (get_or cs i 0) q.first in
      let g = q.inside in (
        ap (λ (x : ℕ). get_or (split_nodes cs) ((x - 1) / 8) 0) e ∙ ap (λ (x : ℕ). get_or (split_nodes cs) x 0) m
            ∙ split_owner (get_or cs i 0 / 8) i (omega arith) c.parent (sym f),
        ap (λ (x : ℕ). (x - 1) % 8) e ∙ place_in_split (get_or cs i 0) k q.first b,
      )

  -- every node but the root is a child
  pub born : (j : ℕ) → j < node_count s → 0 < j → Born cs j
  born j l e =
      let d : 8 * ((j - 1) / 8) + 1 + (j - 1) % 8 ≡ j = split_place j e in
      let k : (j - 1) / 8 < s = split_below s j l e in
      let o = owner ((j - 1) / 8) k in
      let f : get_or cs o.at 0 ≡ 8 * ((j - 1) / 8) + 1 = o.is in
      let p : o.at < 513 = (let z = o.below in omega arith) in
      let x : get_or cs o.at 0 ≡ 0 → ⊥ = λ z. absurd (omega (arith, z)) in
      let g = (parent_of o.at p x).after in
      record {
        mother = o.at;
        place = (j - 1) % 8;
        child = record { parent = p; later = omega arith; link = x; place = omega arith; is = omega arith };
      }

-- ---- cubes
abbrev pub cube_in : List ℕ → Cube → ℕ → Cube
cube_in cs root i = cube_at i (split_nodes cs) root i

pub cube_root : (cs : List ℕ) (root : Cube) → cube_in cs root 0 ≡ root
cube_root cs root = root_cube 0 (split_nodes cs) root 0 refl

-- a child's cube is the child's part of its parent's cube
pub cube_child : (cs : List ℕ) (s : ℕ) → linked_of cs s ≡ true → length cs ≡ 513 → (root : Cube) (i k j : ℕ)
    → j < node_count s → Child cs i k j → cube_in cs root j ≡ child_cube (cube_in cs root i) k
cube_child cs s h n root i k j l c =
    let q = parent_is cs s h n i k j c in
    let few = linked_few cs s h in
    let f = c.later in
    child_step (split_nodes cs) root (split_low cs s h n) j (omega arith) (λ z. absurd (omega (arith, z)))
    ∙ ap (λ (x : ℕ). child_cube (cube_in cs root x) ((j - 1) % 8)) q.0
    ∙ ap (child_cube (cube_in cs root i)) q.1
