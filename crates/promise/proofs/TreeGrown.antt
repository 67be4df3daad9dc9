-- A valid plain tree is a grown tree, and its splits can be read from it. Assumes nothing.
use mathlib.Core.Path.{◌≡◌, refl, sym, ap, subst, ◌∙◌}
use mathlib.Core.Bool.{Bool, true, false}
use mathlib.Core.Logic.{⊎_elim}
use mathlib.Core.List.{List, [], ◌∷◌}
use Prim.Native.Nat.{ℕ, zero, suc, ◌+◌, ◌*◌, ◌<◌}
use native.Mathlib.Nat.{eq-or-lt_of_le}
use native.Mathlib.Omega.{arith}
use borrow.Author.Tests.{eq-eqb, ne_eqb, ltb-true, ltb-false}
use lib.Dec.{ltb}
use lib.ListN.{length, get_or, take, length-map}
use lib.Seq.{ext_get_or, get_or-take, length-take-le}
use Rattle.remy.specs.Action.{valid_of}
use Rattle.rule_tree.specs.declared.Node.{Node}
use Rattle.rule_tree.specs.Lists.{occurrences}
use Rattle.rule_tree.specs.Nodes.{node_at_of, children_of, action_in}
use Rattle.rule_tree.specs.Grown.{link_holds, plain_of, slot_holds, grown_of}
use Rattle.rule_tree.specs.Cubes.{owner_below, split_nodes}
use Rattle.rule_tree.proofs.Lists.{length_tabulate, get_d_tabulate}
use Rattle.rule_tree.proofs.GrownTree.{Grown, child-at, facts_grown, link_none, link_from, slot_used, slot_unused}
use Rattle.rule_tree.proofs.Changing.{blank_plain, occurrences_none}
use Rattle.promise.specs.PlainTree.{Tree, nodes, member}
use Rattle.promise.proofs.Links.{link, link_owner, link_leaf, link_at}
use Rattle.promise.proofs.Embed.{node_of, embed_tree, ValidTree, parent_below, node_used, node_leaf, node_blank, embed_at, embed_length}

-- ---- a number that stands once in a list
occurs_once :
    (x : ℕ) (cs : List ℕ) (i : ℕ) → i < length cs → get_or cs i 0 ≡ x → ((j : ℕ) → j < length cs → get_or cs j 0 ≡ x → j ≡ i)
    → occurrences x cs ≡ 1
unfolding occurrences
occurs_once x [] i l e h = absurd (omega arith)
occurs_once x (c ∷ cs) zero l e h =
    let a = occurrences_none x cs (λ j b p. omega (arith, h (suc j) (omega arith) p)) in
    rw (eq-eqb c x e) (omega arith)
occurs_once x (c ∷ cs) (suc i) l e h =
    let a = occurs_once x cs i (omega arith) e (λ j b p. let z = h (suc j) (omega arith) p in omega arith) in
    rw (ne_eqb c x (λ p. omega (arith, h 0 (omega arith) p))) (omega arith)

owner_is :
    (n : ℕ) (cs : List ℕ) (f i : ℕ) → i < n → get_or cs i 0 ≡ f → ((j : ℕ) → j < n → get_or cs j 0 ≡ f → j ≡ i) → owner_below n cs f ≡ i
unfolding owner_below
owner_is zero cs f i l e h = absurd (omega arith)
owner_is (suc n) cs f i l e h =
    ⊎_elim (λ (p : i ≡ n). rw (eq-eqb (get_or cs n 0) f (subst (λ (m : ℕ). get_or cs m 0 ≡ f) p e)) (sym p))
    (λ (q : i < n). rw (ne_eqb (get_or cs n 0) f (λ z. omega (arith, h n (omega arith) z)))
    (owner_is n cs f i q e (λ j b p. h j (omega arith) p)))
    (eq-or-lt_of_le (omega arith))

module _ (t : Tree) (v : ValidTree t) where
  -- each node's first child
  child_is : (i : ℕ) → i < 513 → (node_at_of (embed_tree t).nodes i).children ≡ link 0 t.splits i
  child_is i l = ap (λ (x : Node). x.children) (embed_at t i l) ∙ go (member i t.splits) refl
    where
      go : (m : Bool) → member i t.splits ≡ m → (node_of t i).children ≡ link 0 t.splits i
      go true e = ap (λ (x : Node). x.children) (node_used t i (parent_below t i v e))
      go false e =
          leaf (ltb i (nodes t)) refl ∙ sym (link_leaf 0 t.splits i e)
        where
          leaf : (z : Bool) → ltb i (nodes t) ≡ z → (node_of t i).children ≡ 0
          leaf true p = ap (λ (x : Node). x.children) (node_leaf t i (ltb-true i (nodes t) p) e)
          leaf false p = ap (λ (x : Node). x.children) (node_blank t i (ltb-false i (nodes t) p))

  abbrev cs : List ℕ
  cs = children_of (embed_tree t).nodes

  cs_length : length cs ≡ 513
  cs_length = length-map (embed_tree t).nodes (λ (x : Node). x.children) ∙ embed_length t

  cs_at : (i : ℕ) → i < 513 → get_or cs i 0 ≡ link 0 t.splits i
  cs_at i l = child-at (embed_tree t).nodes i ∙ child_is i l

  split_below : (k : ℕ) → k < length t.splits → get_or t.splits k 0 < 513
  split_below k l = omega (arith, v.grew k l, v.few)

  split_owns : (k : ℕ) → k < length t.splits → get_or cs (get_or t.splits k 0) 0 ≡ 8 * k + 1
  split_owns k l = cs_at (get_or t.splits k 0) (split_below k l) ∙ link_at 0 t.splits k l (v.once k l) ∙ omega arith

  only_owner : (k : ℕ) → k < length t.splits → (j : ℕ) → j < 513 → get_or cs j 0 ≡ 8 * k + 1 → j ≡ get_or t.splits k 0
  only_owner k l j b e = go (member j t.splits) refl
    where
      go : (m : Bool) → member j t.splits ≡ m → j ≡ get_or t.splits k 0
      go true p =
          let o = link_owner 0 t.splits j p in
          let q : o.at ≡ k = omega (arith, o.gives, cs_at j b) in
          sym o.is ∙ ap (λ (m : ℕ). get_or t.splits m 0) q
      go false p = absurd (omega (arith, link_leaf 0 t.splits j p, cs_at j b))

  links_hold_lem : (i : ℕ) → i < 513 → link_holds (length t.splits) (link 0 t.splits i) i ≡ true
  links_hold_lem i l = go (member i t.splits) refl
    where
      go : (m : Bool) → member i t.splits ≡ m → link_holds (length t.splits) (link 0 t.splits i) i ≡ true
      go true e =
          let o = link_owner 0 t.splits i e in
          let c = link 0 t.splits i in
          let g = v.grew o.at o.below in
          link_from (length t.splits) c i
          (record { first = omega (arith, o.gives); later = omega (arith, o.gives, o.is); below = omega (arith, o.gives, o.below) })
      go false e = link_none (length t.splits) (link 0 t.splits i) i (link_leaf 0 t.splits i e)

  slots_hold : (i : ℕ) → i < 513 → slot_holds (node_of t i) (ltb i (nodes t)) ≡ true
  slots_hold i l = go (ltb i (nodes t)) refl
    where
      go : (z : Bool) → ltb i (nodes t) ≡ z → slot_holds (node_of t i) z ≡ true
      go true p =
          let b = ltb-true i (nodes t) p in
          slot_used (node_of t i) true refl ∙ ap (λ (x : Node). valid_of (action_in x)) (node_used t i b) ∙ v.actions i b
      go false p =
          slot_unused (node_of t i) false refl ∙ ap plain_of (node_blank t i (ltb-false i (nodes t) p)) ∙ blank_plain

  grown_facts : Grown (embed_tree t)
  grown_facts =
      record {
        few = v.few;
        links = λ i l. ap (λ (c : ℕ). link_holds (length t.splits) c i) (child_is i l) ∙ links_hold_lem i l;
        owners =
            λ k l. occurs_once (8 * k + 1) cs (get_or t.splits k 0) (omega (arith, split_below k l, cs_length)) (split_owns k l)
            (λ j b e. only_owner k l j (omega (arith, cs_length)) e);
        slots = λ i l. ap (λ (x : Node). slot_holds x (ltb i (nodes t))) (embed_at t i l) ∙ slots_hold i l;
        box = v.box;
      }

  pub grown_embeds : grown_of (embed_tree t) ≡ true
  grown_embeds = facts_grown (embed_tree t) grown_facts

  -- the nodes that were split, by the trainer's way of finding them
  pub splits_embed : take (length t.splits) (split_nodes (children_of (embed_tree t).nodes)) ≡ t.splits
  splits_embed =
      let n = length t.splits in
      let whole = length_tabulate 64 (λ k. owner_below 513 cs (8 * k + 1)) in
      let e : length (take n (split_nodes cs)) ≡ n = length-take-le n (split_nodes cs) (omega (arith, v.few)) in
      ext_get_or 0 (take n (split_nodes cs)) t.splits e
      (λ k b. let l : k < n = omega arith in
      get_or-take n (split_nodes cs) k 0 l
      ∙ get_d_tabulate 64 k (λ k. owner_below 513 cs (8 * k + 1)) 0 (omega (arith, v.few))
      ∙ owner_is 513 cs (8 * k + 1) (get_or t.splits k 0) (split_below k l) (split_owns k l) (only_owner k l))
