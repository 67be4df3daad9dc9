-- The leaf of a valid plain tree whose cube holds a point is the one that lookup reaches. Assumes nothing.
use mathlib.Core.Path.{◌≡◌, refl, sym, ap, subst, ◌∙◌}
use mathlib.Core.Bool.{Bool, true, false, not}
use mathlib.Core.Logic.{⊎_elim}
use mathlib.Core.List.{List, ◌∷◌}
use Prim.Native.Nat.{ℕ, zero, suc, ◌+◌, ◌-◌, ◌*◌, ◌/◌, ◌%◌, ◌<◌, ◌≤◌}
use native.Mathlib.Nat.{eq-or-lt_of_le}
use native.Mathlib.Omega.{arith}
use borrow.Author.Tests.{not-true}
use lib.ListN.{length, get_or}
use lib.Seq.{get_or-take}
use Rattle.std.specs.Prelude.{Option, Some, None}
use Rattle.std.specs.Option.{option_map}
use Rattle.std.proofs.lemmas.Bool.{cases_eq, cond_both, true_from_ne_false, false_from_ne_true}
use Rattle.remy.specs.declared.action.Action.{Action}
use Rattle.remy.specs.declared.point.Point.{Point}
use Rattle.remy.specs.declared.cube.Cube.{Cube}
use Rattle.remy.specs.Cube.{root_of, contains_of, child_cube}
use Rattle.rule_tree.specs.declared.Node.{Node}
use Rattle.rule_tree.specs.Nodes.{children_of, action_in}
use Rattle.rule_tree.specs.Cubes.{split_nodes, cube_at, cube_of}
use Rattle.rule_tree.specs.Walk.{leaf_of}
use Rattle.rule_tree.specs.Calls.{found_in}
use Rattle.rule_tree.proofs.CubeSteps.{root_cube, step_cube}
use Rattle.rule_tree_laws.proofs.Partition.{InOneLeaf, InNone, grown_one_leaf, grown_none}
use Rattle.promise.specs.PlainTree.{Tree, nodes, member, is_leaf_of, rule_at, from, those}
use Rattle.promise.specs.PlainSender.{cube_in, holding, leaf_at}
use Rattle.promise.specs.SenderRuns.{OneLeaf}
use Rattle.promise.proofs.Embed.{embed_tree, ValidTree, leaf_below, leaf_unsplit, leaf_from, embed_length}
use Rattle.promise.proofs.TreeGrown.{grown_embeds, splits_embed}
use Rattle.promise.proofs.TreeKeeps.{children_is, leaf_node_lem}

-- ---- cubes: two lists of n splits that agree give the same cubes
cubes_same :
    (n : ℕ) (ps qs : List ℕ) (root : Cube) → ((k : ℕ) → k < n → get_or ps k 0 ≡ get_or qs k 0) → ((k : ℕ) → k < n → get_or ps k 0 ≤ 8 * k)
    → (d i : ℕ) → i < 1 + 8 * n → cube_at d ps root i ≡ cube_at d qs root i
unfolding cube_at
cubes_same n ps qs root h low zero i l = refl
cubes_same n ps qs root h low (suc d) i l =
    ⊎_elim (λ (z : i ≡ 0). root_cube (suc d) ps root i z ∙ sym (root_cube (suc d) qs root i z))
    (λ (m : i ≡ 0 → ⊥).
    let k = (i - 1) / 8 in
    let b : k < n = split_made i m l in
    step_cube d ps root i m
    ∙ ap (λ (c : Cube). child_cube c ((i - 1) % 8)) (cubes_same n ps qs root h low d (get_or ps k 0) (omega (arith, low k b)))
    ∙ ap (λ (j : ℕ). child_cube (cube_at d qs root j) ((i - 1) % 8)) (h k b)
    ∙ sym (step_cube d qs root i m))
    (cases_eq i 0)
  where
    split_made : (i : ℕ) → (i ≡ 0 → ⊥) → i < 1 + 8 * n → (i - 1) / 8 < n
    split_made zero m l = absurd (m refl)
    split_made (suc i) m l = omega arith

-- ---- the first leaf whose cube holds p, among n nodes from a on
abbrev in_cube : Tree → Point → ℕ → Bool
in_cube t p i = contains_of (cube_in t i) p

abbrev Says : Tree → Point → ℕ → ℕ → Option ℕ → Type 0
Says t p a n None = (i : ℕ) → a ≤ i → i < a + n → is_leaf_of t i ≡ true → in_cube t p i ≡ false
Says t p a n (Some i) = (is_leaf_of t i ≡ true) × (in_cube t p i ≡ true)

module _ (t : Tree) (p : Point) where
  later : (a n : ℕ) (c : Option ℕ) → (is_leaf_of t a ≡ true → in_cube t p a ≡ false) → Says t p (suc a) n c → Says t p a (suc n) c
  later a n None e h =
      λ i b l k. ⊎_elim (λ (w : a ≡ i). subst (λ (j : ℕ). in_cube t p j ≡ false) w (e (subst (λ (j : ℕ). is_leaf_of t j ≡ true) (sym w) k)))
      (λ (w : a < i). h i (omega arith) (omega arith) k) (eq-or-lt_of_le b)
  later a n (Some i) e h = h

  says : (n a : ℕ) → Says t p a n (holding t p (those (is_leaf_of t) (from a n)))
  unfolding holding those from
  says zero a = λ i b l k. absurd (omega arith)
  says (suc n) a =
      let rest = those (is_leaf_of t) (from (suc a) n) in
      let h = says n (suc a) in
      cond_both (is_leaf_of t a) (a ∷ rest) rest (λ (is : List ℕ). Says t p a (suc n) (holding t p is))
      (λ k. cond_both (in_cube t p a) (Some a) (holding t p rest) (Says t p a (suc n)) (λ e. (k, e)) (λ e. later a n (holding t p rest) (λ y. e) h))
      (λ k. later a n (holding t p rest) (λ y. cc (y, k)) h)

  pub leaf_says : Says t p 0 (nodes t) (leaf_at t p)
  leaf_says = says (nodes t) 0

-- what lookup answers for a choice
abbrev pub looked_at : Tree → Option ℕ → Option Action
looked_at t c = option_map (λ (i : ℕ). (rule_at t i).action) c

module _ (t : Tree) (v : ValidTree t) where
  pub cube_embeds : (i : ℕ) → i < nodes t → cube_in t i ≡ cube_of (embed_tree t) i
  cube_embeds i l =
      let qs = split_nodes (children_of (embed_tree t).nodes) in
      cubes_same (length t.splits) t.splits qs (root_of t.ends)
      (λ k b. ap (λ (ps : List ℕ). get_or ps k 0) (sym (splits_embed t v)) ∙ get_or-take (length t.splits) qs k 0 b)
      v.grew i i l

  module _ (p : Point) where
    one_leaf : contains_of (root_of t.ends) p ≡ true → InOneLeaf (embed_tree t) p
    one_leaf e = grown_one_leaf (embed_tree t) (grown_embeds t v) (embed_length t) v.floats p e

    none : contains_of (root_of t.ends) p ≡ false → InNone (embed_tree t) p
    none e = grown_none (embed_tree t) (grown_embeds t v) (embed_length t) v.floats p e

    cube_holds : (i : ℕ) → i < nodes t → contains_of (cube_of (embed_tree t) i) p ≡ in_cube t p i
    cube_holds i l = ap (λ (c : Cube). contains_of c p) (sym (cube_embeds i l))

    -- the leaf that lookup reaches
    pub reached : contains_of (root_of t.ends) p ≡ true → OneLeaf t p (leaf_of (embed_tree t) p)
    reached e =
        let o = one_leaf e in
        let i = leaf_of (embed_tree t) p in
        let m : not (member i t.splits) ≡ true = sym (children_is t v i o.node) ∙ o.leaf in
        record {
          leaf = leaf_from t i o.node (not-true (member i t.splits) m);
          inside = sym (cube_holds i o.node) ∙ o.inside;
          only = λ j k f.
              let l : j < nodes t = leaf_below t j k in
              o.only j l (children_is t v j l ∙ ap not (leaf_unsplit t j k)) (cube_holds j l ∙ f);
        }

    -- "each point of the box": its leaf is found
    pub leaf_inside : contains_of (root_of t.ends) p ≡ true → leaf_at t p ≡ Some (leaf_of (embed_tree t) p)
    leaf_inside e = go (leaf_at t p) (leaf_says t p)
      where
        go : (c : Option ℕ) → Says t p 0 (nodes t) c → c ≡ Some (leaf_of (embed_tree t) p)
        go None h =
            let r = reached e in
            let i = leaf_of (embed_tree t) p in
            cc (r.inside, h i (omega arith) (omega (arith, leaf_below t i r.leaf)) r.leaf)
        go (Some j) h = ap (λ (i : ℕ). Some i) ((reached e).only j h.0 h.1)

    pub leaf_outside : contains_of (root_of t.ends) p ≡ false → leaf_at t p ≡ None
    leaf_outside e = go (leaf_at t p) (leaf_says t p)
      where
        go : (c : Option ℕ) → Says t p 0 (nodes t) c → c ≡ None
        go None h = refl
        go (Some j) h =
            let l = leaf_below t j h.0 in
            cc (h.1, sym (cube_holds j l) ∙ (none e).none j l)

    -- none exactly where the point is outside the root box
    pub none_outside : leaf_at t p ≡ None → contains_of (root_of t.ends) p ≡ false
    none_outside h = false_from_ne_true (contains_of (root_of t.ends) p) (λ e. cc (leaf_inside e, h))

    -- a leaf exactly where it is the one whose cube holds the point
    pub leaf_holds_lem : (i : ℕ) → leaf_at t p ≡ Some i → OneLeaf t p i
    leaf_holds_lem i h =
        let e = true_from_ne_false (contains_of (root_of t.ends) p) (λ o. cc (leaf_outside o, h)) in
        let z : leaf_of (embed_tree t) p ≡ i = cc (leaf_inside e, h) in
        subst (OneLeaf t p) z (reached e)

    -- lookup finds that leaf's action, or nothing
    pub found_embeds : found_in (embed_tree t) p ≡ looked_at t (leaf_at t p)
    found_embeds = go (contains_of (root_of t.ends) p) refl
      where
        go : (b : Bool) → contains_of (root_of t.ends) p ≡ b → found_in (embed_tree t) p ≡ looked_at t (leaf_at t p)
        go true e =
            (one_leaf e).found
            ∙ ap (λ (x : Node). Some (action_in x)) (leaf_node_lem t v (leaf_of (embed_tree t) p) (reached e).leaf)
            ∙ ap (looked_at t) (sym (leaf_inside e))
        go false e = (none e).nothing ∙ ap (looked_at t) (sym (leaf_outside e))
