-- The plain trainer's most used leaf is the trainer's. Assumes nothing.
use mathlib.Core.Path.{◌≡◌, refl, sym, ap, subst, ◌∙◌}
use mathlib.Core.Bool.{Bool, true, false, not, ◌&&◌, cond, and-true}
use mathlib.Core.Logic.{⊎_elim}
use mathlib.Core.List.{List, [], ◌∷◌}
use Prim.Native.Nat.{ℕ, zero, suc, ◌+◌, ◌*◌, ◌<◌, ◌≤◌}
use native.Mathlib.Nat.{eq-or-lt_of_le}
use native.Mathlib.Omega.{arith}
use borrow.Author.Tests.{lt-ltb, ltb-true, ltb-false}
use lib.Dec.{eqb, ltb}
use lib.ListN.{length, get_or}
use Rattle.std.specs.Prelude.{Option, Some, None}
use Rattle.std.proofs.lemmas.Bool.{false_from_ne_true, cond_both}
use Rattle.rule_tree.specs.declared.Node.{Node}
use Rattle.rule_tree.specs.Nodes.{node_at_of}
use Rattle.rule_tree.specs.Counts.{eligible}
use Rattle.rule_tree.specs.Counts as layer
use Rattle.rule_tree.proofs.Counting.{most_used_leaf, most_used_only}
use Rattle.promise.specs.PlainTree.{Tree, nodes, member, is_leaf_of, rule_at, from, those, leaves, unmarked_leaves, or_later, most_used}
use Rattle.promise.proofs.Links.{link_owner}
use Rattle.promise.proofs.Embed.{embed_tree, ValidTree, leaf_from}
use Rattle.promise.proofs.TreeKeeps.{children_is, leaf_node_lem}

-- ---- lists of nodes
those_same : (f g : ℕ → Bool) (xs : List ℕ) → ((i : ℕ) → f i ≡ g i) → those f xs ≡ those g xs
unfolding those
those_same f g [] h = refl
those_same f g (x ∷ xs) h = rw (h x, those_same f g xs h)

those_those : (f g : ℕ → Bool) (xs : List ℕ) → those g (those f xs) ≡ those (λ i. f i && g i) xs
unfolding those
those_those f g [] = refl
those_those f g (x ∷ xs) = go (f x) (those_those f g xs)
  where
    go :
        (b : Bool) → those g (those f xs) ≡ those (λ i. f i && g i) xs
        → those g (cond b (x ∷ those f xs) (those f xs)) ≡ cond (b && g x) (x ∷ those (λ i. f i && g i) xs) (those (λ i. f i && g i) xs)
    go true h = rw h
    go false h = h

-- ---- "greatest count, ties to the highest node", among the kept of n nodes from a on
record Best (keep : ℕ → Bool) (counts : List ℕ) (a n b : ℕ) : Type 0 where
  pub above : a ≤ b
  pub below : b < a + n
  pub kept : keep b ≡ true
  pub greatest : (i : ℕ) → a ≤ i → i < a + n → keep i ≡ true → get_or counts i 0 ≤ get_or counts b 0
  pub highest : (i : ℕ) → a ≤ i → i < a + n → keep i ≡ true → get_or counts i 0 ≡ get_or counts b 0 → i ≤ b

abbrev Says : (ℕ → Bool) → List ℕ → ℕ → ℕ → Option ℕ → Type 0
Says keep counts a n None = (i : ℕ) → a ≤ i → i < a + n → keep i ≡ false
Says keep counts a n (Some b) = Best keep counts a n b

module _ (keep : ℕ → Bool) (counts : List ℕ) where
  skip : (a n : ℕ) (c : Option ℕ) → keep a ≡ false → Says keep counts (suc a) n c → Says keep counts a (suc n) c
  skip a n None e h =
      λ i p q. ⊎_elim (λ (w : a ≡ i). subst (λ (k : ℕ). keep k ≡ false) w e) (λ (w : a < i). h i (omega arith) (omega arith)) (eq-or-lt_of_le p)
  skip a n (Some b) e h =
      record {
        above = omega (arith, h.above);
        below = omega (arith, h.below);
        kept = h.kept;
        greatest =
            λ i p q k. ⊎_elim (λ (w : a ≡ i). cc (k, subst (λ (k : ℕ). keep k ≡ false) w e))
            (λ (w : a < i). h.greatest i (omega arith) (omega arith) k) (eq-or-lt_of_le p);
        highest =
            λ i p q k s. ⊎_elim (λ (w : a ≡ i). cc (k, subst (λ (k : ℕ). keep k ≡ false) w e))
            (λ (w : a < i). h.highest i (omega arith) (omega arith) k s) (eq-or-lt_of_le p);
      }

  -- a itself, with a count above those of all later nodes
  first : (a n : ℕ) → keep a ≡ true → ((i : ℕ) → suc a ≤ i → i < suc a + n → keep i ≡ true → get_or counts i 0 < get_or counts a 0) → Best keep counts a (suc n) a
  first a n e h =
      record {
        above = omega arith;
        below = omega arith;
        kept = e;
        greatest =
            λ i p q k. ⊎_elim (λ (w : a ≡ i). omega (arith, ap (λ (m : ℕ). get_or counts m 0) w)) (λ (w : a < i). omega (arith, h i (omega arith) (omega arith) k))
            (eq-or-lt_of_le p);
        highest =
            λ i p q k s. ⊎_elim (λ (w : a ≡ i). omega arith) (λ (w : a < i). absurd (omega (arith, h i (omega arith) (omega arith) k)))
            (eq-or-lt_of_le p);
      }

  -- a later node, with a count no lower than a's
  later : (a n b : ℕ) → get_or counts a 0 ≤ get_or counts b 0 → Best keep counts (suc a) n b → Best keep counts a (suc n) b
  later a n b g h =
      record {
        above = omega (arith, h.above);
        below = omega (arith, h.below);
        kept = h.kept;
        greatest =
            λ i p q k. ⊎_elim (λ (w : a ≡ i). omega (arith, ap (λ (m : ℕ). get_or counts m 0) w)) (λ (w : a < i). h.greatest i (omega arith) (omega arith) k)
            (eq-or-lt_of_le p);
        highest =
            λ i p q k s. ⊎_elim (λ (w : a ≡ i). omega (arith, h.above)) (λ (w : a < i). h.highest i (omega arith) (omega arith) k s) (eq-or-lt_of_le p);
      }

  more : (a n : ℕ) (c : Option ℕ) → keep a ≡ true → Says keep counts (suc a) n c → Says keep counts a (suc n) (or_later counts a c)
  unfolding or_later
  more a n None e h = first a n e (λ i p q k. cc (k, h i p q))
  more a n (Some b) e h =
      let x = get_or counts a 0 in
      let y = get_or counts b 0 in
      cond_both (ltb y x) (Some a) (Some b) (Says keep counts a (suc n)) (λ p. first a n e (λ i q r k. omega (arith, h.greatest i q r k, ltb-true y x p)))
      (λ p. later a n b (ltb-false y x p) h)

  says : (n a : ℕ) → Says keep counts a n (most_used counts (those keep (from a n)))
  unfolding most_used those from
  says zero a = λ i p q. absurd (omega arith)
  says (suc n) a =
      let rest = those keep (from (suc a) n) in
      cond_both (keep a) (a ∷ rest) rest (λ (xs : List ℕ). Says keep counts a (suc n) (most_used counts xs))
      (λ e. more a n (most_used counts rest) e (says n (suc a))) (λ e. skip a n (most_used counts rest) e (says n (suc a)))

-- ---- against the trainer's
abbrev asked : Tree → Bool → ℕ → Bool
asked t u i = is_leaf_of t i && not (u && (rule_at t i).marked)

eligible_at : (x : Node) (u : Bool) → eqb x.children 0 ≡ true → eligible x u ≡ not (u && x.optimized)
unfolding eligible
eligible_at x u e = rw e

eligible_not : (x : Node) (u : Bool) → eqb x.children 0 ≡ false → eligible x u ≡ false
unfolding eligible
eligible_not x u e = rw e

module _ (t : Tree) (v : ValidTree t) (u : Bool) where
  pub eligible_embeds : (i : ℕ) → i < nodes t → eligible (node_at_of (embed_tree t).nodes i) u ≡ asked t u i
  eligible_embeds i l = go (member i t.splits) refl
    where
      go : (m : Bool) → member i t.splits ≡ m → eligible (node_at_of (embed_tree t).nodes i) u ≡ (ltb i (nodes t) && not m) && not (u && (rule_at t i).marked)
      go true e =
          eligible_not (node_at_of (embed_tree t).nodes i) u (children_is t v i l ∙ ap not e)
          ∙ sym (ap (λ (b : Bool). (b && false) && not (u && (rule_at t i).marked)) (lt-ltb i (nodes t) l))
      go false e =
          eligible_at (node_at_of (embed_tree t).nodes i) u (children_is t v i l ∙ ap not e)
          ∙ ap (λ (x : Node). not (u && x.optimized)) (leaf_node_lem t v i (leaf_from t i l e))
          ∙ sym (ap (λ (b : Bool). (b && true) && not (u && (rule_at t i).marked)) (lt-ltb i (nodes t) l))

  chosen_is :
      (counts : List ℕ) (c : Option ℕ) → Says (asked t u) counts 0 (nodes t) c
      → layer.most_used (embed_tree t).nodes counts u (nodes t) ≡ c
  chosen_is counts (Some b) h =
      most_used_only (embed_tree t).nodes counts u (nodes t) b
      (let b<n : b < nodes t = omega (arith, h.below) in
      record {
        below = b<n;
        asked = eligible_embeds b b<n ∙ h.kept;
        greatest = λ i l a. h.greatest i (omega arith) (omega arith) (sym (eligible_embeds i l) ∙ a);
        highest = λ i l a s. h.highest i (omega arith) (omega arith) (sym (eligible_embeds i l) ∙ a) s;
      })
  chosen_is counts None h = go (layer.most_used (embed_tree t).nodes counts u (nodes t)) refl
    where
      go : (m : Option ℕ) → layer.most_used (embed_tree t).nodes counts u (nodes t) ≡ m → layer.most_used (embed_tree t).nodes counts u (nodes t) ≡ None
      go (Some b) e =
          let m = most_used_leaf (embed_tree t).nodes counts u (nodes t) b e in
          cc (sym (eligible_embeds b m.below) ∙ m.asked, h b (omega arith) (omega (arith, m.below)))
      go None e = e

module _ (t : Tree) (v : ValidTree t) (counts : List ℕ) (n : length counts ≡ nodes t) where
  pub most_used_embeds : layer.most_used (embed_tree t).nodes counts false (length counts) ≡ most_used counts (leaves t)
  most_used_embeds =
      ap (layer.most_used (embed_tree t).nodes counts false) n
      ∙ chosen_is t v false counts (most_used counts (those (asked t false) (from 0 (nodes t)))) (says (asked t false) counts (nodes t) 0)
      ∙ ap (most_used counts) (those_same (asked t false) (is_leaf_of t) (from 0 (nodes t)) (λ i. and-true (is_leaf_of t i)))

  pub most_used_unmarked_embeds : layer.most_used (embed_tree t).nodes counts true (length counts) ≡ most_used counts (unmarked_leaves t)
  most_used_unmarked_embeds =
      ap (layer.most_used (embed_tree t).nodes counts true) n
      ∙ chosen_is t v true counts (most_used counts (those (asked t true) (from 0 (nodes t)))) (says (asked t true) counts (nodes t) 0)
      ∙ ap (most_used counts) (sym (those_those (is_leaf_of t) (λ i. not (rule_at t i).marked) (from 0 (nodes t))))

last_leaf : (t : Tree) → ValidTree t → is_leaf_of t (8 * length t.splits) ≡ true
last_leaf t v =
    leaf_from t (8 * length t.splits) (omega arith)
    (false_from_ne_true (member (8 * length t.splits) t.splits)
    (λ e. let o = link_owner 0 t.splits (8 * length t.splits) e in omega (arith, o.is, o.below, v.grew o.at o.below)))

-- ---- what is chosen
module _ (t : Tree) (counts : List ℕ) where
  pub chosen_leaf_lem : (b : ℕ) → most_used counts (leaves t) ≡ Some b → is_leaf_of t b ≡ true
  chosen_leaf_lem b e = (subst (Says (is_leaf_of t) counts 0 (nodes t)) e (says (is_leaf_of t) counts (nodes t) 0)).kept

  pub chosen_unmarked : (b : ℕ) → most_used counts (unmarked_leaves t) ≡ Some b → is_leaf_of t b && not (rule_at t b).marked ≡ true
  chosen_unmarked b e =
      (subst (Says (λ i. is_leaf_of t i && not (rule_at t i).marked) counts 0 (nodes t))
      (ap (most_used counts) (sym (those_those (is_leaf_of t) (λ i. not (rule_at t i).marked) (from 0 (nodes t)))) ∙ e)
      (says (λ i. is_leaf_of t i && not (rule_at t i).marked) counts (nodes t) 0)
      ).kept

  -- the last node is a leaf
  pub chosen_some : ValidTree t → most_used counts (leaves t) ≡ None → ⊥
  chosen_some v e =
      cc (last_leaf t v, subst (Says (is_leaf_of t) counts 0 (nodes t)) e (says (is_leaf_of t) counts (nodes t) 0) (8 * length t.splits) (omega arith) (omega arith))
