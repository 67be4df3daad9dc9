-- How long a record is, in every layout: a grown tree of s splits has 1 + 7 s leaves, and its record in version 1 has 172 + 149 s bytes. Assumes nothing.
use mathlib.Core.Path.{◌≡◌, refl, sym, ap, ◌∙◌}
use mathlib.Core.Bool.{Bool, true, false, ◌||◌, cond}
use mathlib.Core.List.{List, [], ◌∷◌, ◌++◌, append_assoc}
use mathlib.Core.Logic.{⊎_elim}
use Prim.Native.Nat.{ℕ, zero, suc, ◌+◌, ◌*◌, ◌%◌, ◌<◌, ◌≤◌}
use native.Mathlib.Nat.{eq-or-lt_of_le}
use native.Mathlib.Omega.{arith}
use borrow.Author.Tests.{eq-eqb, ne_eqb}
use lib.Dec.{eqb}
use lib.ListN.{length, get_or, take, set, length-append, length-map}
use lib.Seq.{sets, take-suc, take_all, length-take-le}
use Rattle.rule_tree.specs.declared.Node.{Node}
use Rattle.rule_tree.specs.declared.RuleTree.{RuleTree}
use Rattle.rule_tree.specs.Lists.{count_below, occurrences}
use Rattle.rule_tree.specs.Nodes.{node_at_of, is_leaf_of, node_count, children_of}
use Rattle.rule_tree.specs.Grown.{grown_of}
use Rattle.rule_tree.specs.Cubes.{split_nodes, owner_below}
use Rattle.rule_tree.proofs.Lists.{length_tabulate}
use Rattle.rule_tree.proofs.LinkWays.{children_at}
use Rattle.rule_tree.proofs.Owners.{same_or_not}
use Rattle.rule_tree.proofs.Links as links
use Rattle.trainer.specs.declared.settings.Settings.{Settings}
use Rattle.trainer.specs.declared.Trainer.{Trainer}
use Rattle.record.specs.declared.inner.layout.Layout.{Layout}
use Rattle.wire.specs.Bytes.{bytes_of, shorts_bytes}
use Rattle.record.specs.Layout.{layout_of, carries, ends_size, nodes_in, size_in}
use Rattle.wire.specs.Fields.{point_bytes}
use Rattle.record.specs.Write.{settings_bytes, splits_bytes, end_bytes, node_bytes, payload_bytes, state_bytes, version, body_in, record_in, record_of}
use Rattle.record.specs.Parts.{node_fields}
use Rattle.wire.proofs.Bytes.{bytes_count, shorts_count}
use Rattle.wire.proofs.Stores.{wrote}
use Rattle.record.proofs.Layouts.{size_most, size_third}
use Rattle.record.proofs.Writing.{settings_count, state_count, point_count_lem}

-- ---- sums over the splits
abbrev sum_below : ℕ → (ℕ → ℕ) → ℕ
sum_below zero f = 0
sum_below (suc n) f = f n + sum_below n f

sum_add : (n : ℕ) (f g : ℕ → ℕ) → sum_below n (λ k. f k + g k) ≡ sum_below n f + sum_below n g
sum_add zero f g = refl
sum_add (suc n) f g = let h = sum_add n f g in omega arith

sum_none : (n : ℕ) (f : ℕ → ℕ) → ((k : ℕ) → k < n → f k ≡ 0) → sum_below n f ≡ 0
sum_none zero f h = refl
sum_none (suc n) f h = let a = h n (omega arith) in let b = sum_none n f (λ k l. h k (omega arith)) in omega arith

sum_ones : (n : ℕ) (f : ℕ → ℕ) → ((k : ℕ) → k < n → f k ≡ 1) → sum_below n f ≡ n
sum_ones zero f h = refl
sum_ones (suc n) f h = let a = h n (omega arith) in let b = sum_ones n f (λ k l. h k (omega arith)) in omega arith

-- which split's first node x is
abbrev hit : ℕ → ℕ → ℕ
hit x k = cond (eqb x (8 * k + 1)) 1 0

hit_not : (x k : ℕ) → (x ≡ 8 * k + 1 → ⊥) → hit x k ≡ 0
hit_not x k n = ap (λ (b : Bool). cond b 1 0) (ne_eqb x (8 * k + 1) n)

hit_one : (s x : ℕ) → x % 8 ≡ 1 → x < 1 + 8 * s → sum_below s (hit x) ≡ 1
hit_one zero x e l = absurd (omega arith)
hit_one (suc s) x e l =
    ⊎_elim
    (λ (p : x ≡ 8 * s + 1).
    let a : ◌≡◌ {A = ℕ} (hit x s) 1 = ap (λ (b : Bool). cond b 1 0) (eq-eqb x (8 * s + 1) p) in
    let b = sum_none s (hit x) (λ k m. hit_not x k (λ z. absurd (let w : x ≡ 8 * k + 1 = z in omega arith))) in
    omega arith)
    (λ (n : x ≡ 8 * s + 1 → ⊥).
    let a = hit_not x s n in
    let b = hit_one s x e (below s x e l n) in
    omega arith)
    (same_or_not x (8 * s + 1))
  where
    below : (s x : ℕ) → x % 8 ≡ 1 → x < 1 + 8 * suc s → (x ≡ 8 * s + 1 → ⊥) → x < 1 + 8 * s
    below s x e l n =
        ⊎_elim (λ (p : x ≡ 8 * s + 1). absurd (n p)) (λ (q : x < 8 * s + 1). omega arith)
        (eq-or-lt_of_le (let q : x ≤ 8 * s + 1 = omega arith in q))

-- how many nodes have children
abbrev parents : List ℕ → ℕ
parents [] = 0
parents (x ∷ xs) = cond (eqb x 0) 0 1 + parents xs

parents_append : (xs ys : List ℕ) → parents (xs ++ ys) ≡ parents xs + parents ys
parents_append [] ys = omega arith
parents_append (x ∷ xs) ys = let h = parents_append xs ys in omega arith

abbrev Good : ℕ → ℕ → Type 0
Good s x = (x ≡ 0 → ⊥) → (x % 8 ≡ 1) × (x < 1 + 8 * s)

hit_good : (s x : ℕ) → Good s x → sum_below s (hit x) ≡ cond (eqb x 0) 0 1
hit_good s x g =
    ⊎_elim
    (λ (p : x ≡ 0). sum_none s (hit x) (λ k m. hit_not x k (λ z. absurd (let w : x ≡ 8 * k + 1 = z in omega arith))) ∙ sym (ap (λ (b : Bool). cond b 0 1) (eq-eqb x 0 p)))
    (λ (n : x ≡ 0 → ⊥). hit_one s x (g n).0 (g n).1 ∙ sym (ap (λ (b : Bool). cond b 0 1) (ne_eqb x 0 n)))
    (same_or_not x 0)

-- counted by splits, and counted by nodes
parents_are : (s : ℕ) (xs : List ℕ) → ((i : ℕ) → i < length xs → Good s (get_or xs i 0)) → sum_below s (λ k. occurrences (8 * k + 1) xs) ≡ parents xs
unfolding occurrences
parents_are s [] g = sum_none s (λ k. 0) (λ k l. refl)
parents_are s (x ∷ xs) g =
    let a = sum_add s (hit x) (λ k. occurrences (8 * k + 1) xs) in
    let b = hit_good s x (g 0 (omega arith)) in
    let d = parents_are s xs (λ i l. g (suc i) (omega arith)) in
    a ∙ (omega arith)

-- ---- leaves
parent_or_leaf : (nodes : List Node) (i : ℕ) → cond (is_leaf_of nodes i) 1 0 + cond (eqb (get_or (children_of nodes) i 0) 0) 0 1 ≡ 1
parent_or_leaf nodes i =
    ap (λ (k : ℕ). cond (is_leaf_of nodes i) 1 0 + cond (eqb k 0) 0 1) (children_at nodes i) ∙ one (is_leaf_of nodes i)
  where
    one : (b : Bool) → cond b 1 0 + cond b 0 1 ≡ 1
    one true = refl
    one false = refl

count_both : (nodes : List Node) (n : ℕ) → n ≤ length nodes → count_below n (is_leaf_of nodes) + parents (take n (children_of nodes)) ≡ n
unfolding count_below
count_both nodes zero l = refl
count_both nodes (suc n) l =
    let cs = children_of nodes in
    let h = count_both nodes n (omega arith) in
    let m = length-map nodes (λ (x : Node). x.children) in
    let e = ap parents (take-suc cs n 0 (omega arith)) ∙ parents_append (take n cs) (get_or cs n 0 ∷ []) in
    let p = parent_or_leaf nodes n in
    omega arith

count_tail : (f : ℕ → Bool) (m n : ℕ) → m ≤ n → ((i : ℕ) → m ≤ i → i < n → f i ≡ true) → count_below n f + m ≡ count_below m f + n
unfolding count_below
count_tail f m zero l h = let e : m ≡ 0 = omega arith in rw e
count_tail f m (suc n) l h =
    ⊎_elim (λ (p : m ≡ suc n). rw p) (λ (q : m < suc n).
    let b : m ≤ n = omega arith in
    let e : ◌≡◌ {A = ℕ} (cond (f n) 1 0) 1 = ap (λ (t : Bool). cond t 1 0) (h n b (omega arith)) in
    let r = count_tail f m n b (λ i x y. h i x (omega arith)) in
    omega arith) (eq-or-lt_of_le l)

count_every : (f : ℕ → Bool) (n : ℕ) → ((i : ℕ) → f i ≡ true) → count_below n f ≡ n
unfolding count_below
count_every f zero h = refl
count_every f (suc n) h =
    let e : ◌≡◌ {A = ℕ} (cond (f n) 1 0) 1 = ap (λ (t : Bool). cond t 1 0) (h n) in
    let r = count_every f n h in
    omega arith

-- whether node i of a list is written
abbrev pub carried : Layout → List Node → ℕ → Bool
carried lay nodes i = carries lay (node_at_of nodes i).children

module _ (t : RuleTree) (g : grown_of t ≡ true) (full : length t.nodes ≡ 513) where
  pub few : t.splits ≤ 64
  few = links.grown_splits t g

  parents_count : parents (children_of t.nodes) ≡ t.splits
  parents_count =
      let m = length-map t.nodes (λ (x : Node). x.children) in
      sym (parents_are t.splits (children_of t.nodes) (λ i l n.
      let k = links.grown_link t g i (omega arith) n in (k.first, k.inside)))
      ∙ sum_ones t.splits (λ k. occurrences (8 * k + 1) (children_of t.nodes)) (links.grown_occurs t g)

  -- 1 + 7 s leaves among the 1 + 8 s nodes
  pub leaves_count : count_below (node_count t.splits) (is_leaf_of t.nodes) ≡ 1 + 7 * t.splits
  leaves_count =
      let s = few in
      let m = length-map t.nodes (λ (x : Node). x.children) in
      let a = count_both t.nodes 513 (omega arith) in
      let b = ap parents (take_all 513 (children_of t.nodes) (omega arith)) ∙ parents_count in
      let d = count_tail (is_leaf_of t.nodes) (node_count t.splits) 513 (omega arith)
      (λ i x y. eq-eqb _ 0 (links.grown_unused_leaf t g i x y)) in
      omega arith

  -- the nodes that a layout carries
  pub carried_count : (lay : Layout) → count_below (node_count t.splits) (carried lay t.nodes) ≡ nodes_in lay t.splits
  unfolding nodes_in
  carried_count lay = go lay.parents
    where
      go : (b : Bool) → count_below (node_count t.splits) (λ i. b || is_leaf_of t.nodes i) ≡ cond b (1 + 8 * t.splits) (1 + 7 * t.splits)
      go true = count_every (λ i. true) (node_count t.splits) (λ i. refl)
      go false = leaves_count

-- ---- the parts of a record
node_length : (b : Bool) (x : Node) → length (cond b (node_bytes x) []) ≡ 21 * cond b 1 0
node_length true x = simp (length-append, bytes_count)
node_length false x = refl

pub payload_count : (lay : Layout) (nodes : List Node) (n : ℕ) → length (payload_bytes lay nodes n) ≡ 21 * count_below n (carried lay nodes)
unfolding payload_bytes count_below
payload_count lay nodes zero = refl
payload_count lay nodes (suc n) =
    let h = payload_count lay nodes n in
    let e = node_length (carried lay nodes n) (node_at_of nodes n) in
    length-append (payload_bytes lay nodes n) (node_fields lay (node_at_of nodes n)) ∙ (omega arith)

pub ends_count : (lay : Layout) (s : Settings) → length (end_bytes lay s) ≡ ends_size lay
unfolding ends_size
ends_count lay s = go lay.ends
  where
    go : (b : Bool) → length (cond b (point_bytes s.ends) []) ≡ cond b 24 0
    go true = point_count_lem s.ends
    go false = refl

pub splits_count : (t : RuleTree) → t.splits ≤ 64 → length (splits_bytes t) ≡ 2 + 2 * t.splits
splits_count t l =
    let ps = split_nodes (children_of t.nodes) in
    let a = length_tabulate 64 (λ k. owner_below 513 (children_of t.nodes) (8 * k + 1)) in
    let b = shorts_count (take t.splits ps) in
    let d = length-take-le t.splits ps (omega arith) in
    length-append (bytes_of 2 t.splits) (shorts_bytes (take t.splits ps)) ∙ omega (arith, bytes_count 2 t.splits)

joined_count : (v : ℕ) (a b c d e : List ℕ)
    → length (v ∷ (a ++ (b ++ (c ++ (d ++ e))))) ≡ 1 + (length a + (length b + (length c + (length d + length e))))
joined_count v a b c d e = simp length-append (omega arith)

module _ (lay : Layout) (v : ℕ) (t : Trainer) (g : grown_of t.tree ≡ true) (full : length t.tree.nodes ≡ 513) where
  pub nodes_length : length (payload_bytes lay t.tree.nodes (node_count t.tree.splits)) ≡ 21 * nodes_in lay t.tree.splits
  nodes_length =
      payload_count lay t.tree.nodes (node_count t.tree.splits) ∙ ap (λ (k : ℕ). 21 * k) (carried_count t.tree g full lay)

  pub body_size : 4 + length (body_in lay v t) ≡ size_in lay t.tree.splits
  body_size =
      let a = settings_count t.settings in
      let b = ends_count lay t.settings in
      let d = splits_count t.tree (few t.tree g full) in
      let e = nodes_length in
      let f = state_count t in
      let j = joined_count v (settings_bytes t.settings) (end_bytes lay t.settings) (splits_bytes t.tree) (payload_bytes lay t.tree.nodes (node_count t.tree.splits)) (state_bytes t) in
      ap (λ (k : ℕ). 4 + k) j ∙ (omega arith)

  pub record_size : length (record_in lay v t) ≡ size_in lay t.tree.splits
  unfolding record_in
  record_size = length-append (bytes_of 4 (length (body_in lay v t))) (body_in lay v t) ∙ ap (λ (k : ℕ). k + length (body_in lay v t)) (bytes_count 4 (length (body_in lay v t))) ∙ body_size

  -- no record has more bytes than 11,076, whatever its layout
  pub record_small : length (record_in lay v t) ≤ 11076
  record_small = let e = record_size in let m = size_most lay t.tree.splits (few t.tree g full) in omega arith

module _ (t : Trainer) (g : grown_of t.tree ≡ true) (full : length t.tree.nodes ≡ 513) where
  -- a record of s splits has 196 + 170 s bytes
  pub record_count : length (record_of t) ≡ 196 + 170 * t.tree.splits
  record_count = record_size (layout_of version) version t g full ∙ size_third t.tree.splits

  pub record_fresh : t.tree.splits ≡ 0 → length (record_of t) ≡ 196
  record_fresh e = let h = record_count in omega arith

  pub record_most : t.tree.splits ≡ 64 → length (record_of t) ≡ 11076
  record_most e = let h = record_count in omega arith

-- ---- the record, part after part
wrote0 : (l m : List ℕ) (n : ℕ) (xs ys : List ℕ) {r : List ℕ} → r ≡ sets m n ys → m ≡ sets l 0 xs → length xs ≡ n → r ≡ sets l 0 (xs ++ ys)
wrote0 l m n xs ys q p e = wrote l m 0 n xs ys (q ∙ ap (λ (k : ℕ). sets m k ys) (let z : n ≡ 0 + n = omega arith in z)) p e

regroup : (b v s e p q r : List ℕ) → (((((b ++ v) ++ s) ++ e) ++ p) ++ q) ++ r ≡ b ++ (v ++ (s ++ (e ++ (p ++ (q ++ r)))))
regroup b v s e p q r = simp append_assoc

module _ (l : List ℕ) (lay : Layout) (v : ℕ) (t : Trainer) (g : grown_of t.tree ≡ true) (full : length t.tree.nodes ≡ 513) where
  pub record_written : (n after at : ℕ) {l1 l2 l3 l4 l5 l6 : List ℕ} → 4 + n ≡ size_in lay t.tree.splits → l1 ≡ sets l 0 (bytes_of 4 n)
      → l2 ≡ sets (set l1 4 v) 5 (settings_bytes t.settings) → l3 ≡ sets l2 118 (end_bytes lay t.settings) → after ≡ 118 + ends_size lay
      → l4 ≡ sets l3 after (splits_bytes t.tree)
      → l5 ≡ sets l4 (after + 2 + 2 * t.tree.splits) (payload_bytes lay t.tree.nodes (node_count t.tree.splits))
      → at ≡ after + 2 + 2 * t.tree.splits + length (payload_bytes lay t.tree.nodes (node_count t.tree.splits))
      → l6 ≡ sets l5 at (state_bytes t) → l6 ≡ sets l 0 (record_in lay v t)
  unfolding record_in
  record_written n after at {l1} {l2} {l3} {l4} {l5} {l6} en p q r ef s u ea w =
      let b = bytes_of 4 n in
      let o = v ∷ [] in
      let x = settings_bytes t.settings in
      let d = end_bytes lay t.settings in
      let y = splits_bytes t.tree in
      let z = payload_bytes lay t.tree.nodes (node_count t.tree.splits) in
      let cb = bytes_count 4 n in
      let cx = settings_count t.settings in
      let cd = ends_count lay t.settings in
      let cy = splits_count t.tree (few t.tree g full) in
      let e1 : length (b ++ o) ≡ 5 = length-append b o ∙ (omega arith) in
      let e2 : length ((b ++ o) ++ x) ≡ 118 = length-append (b ++ o) x ∙ (omega arith) in
      let e3 : length (((b ++ o) ++ x) ++ d) ≡ after = length-append ((b ++ o) ++ x) d ∙ (omega arith) in
      let e4 : length ((((b ++ o) ++ x) ++ d) ++ y) ≡ after + 2 + 2 * t.tree.splits = length-append (((b ++ o) ++ x) ++ d) y ∙ (omega arith) in
      let e5 : length (((((b ++ o) ++ x) ++ d) ++ y) ++ z) ≡ at = length-append ((((b ++ o) ++ x) ++ d) ++ y) z ∙ (omega arith) in
      let w1 = wrote0 l l1 4 b o {r = set l1 4 v} refl p cb in
      let w2 = wrote0 l (set l1 4 v) 5 (b ++ o) x q w1 e1 in
      let w3 = wrote0 l l2 118 ((b ++ o) ++ x) d r w2 e2 in
      let w4 = wrote0 l l3 after (((b ++ o) ++ x) ++ d) y s w3 e3 in
      let w5 = wrote0 l l4 (after + 2 + 2 * t.tree.splits) ((((b ++ o) ++ x) ++ d) ++ y) z u w4 e4 in
      let w6 = wrote0 l l5 at (((((b ++ o) ++ x) ++ d) ++ y) ++ z) (state_bytes t) w w5 e5 in
      let size = body_size lay v t g full in
      w6 ∙ ap (sets l 0) (regroup b o x d y z (state_bytes t)) ∙ ap (λ (k : ℕ). sets l 0 (bytes_of 4 k ++ body_in lay v t)) (omega arith)
