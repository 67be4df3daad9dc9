-- What the writers store, part by part, is the record's own parts; and how long those are. Assumes nothing.
use mathlib.Core.Path.{◌≡◌, refl, sym, ap, subst, ◌∙◌}
use mathlib.Core.Bool.{Bool, true, false, cond}
use mathlib.Core.List.{List, [], ◌∷◌, ◌++◌, append_assoc}
use mathlib.Core.Logic.{⊎_elim}
use Prim.Native.Nat.{ℕ, zero, suc, ◌+◌, ◌*◌, ◌<◌, ◌≤◌}
use native.Mathlib.Nat.{eq-or-lt_of_le}
use native.Mathlib.Numerals.{add-one}
use native.Mathlib.Omega.{arith}
use lib.Ieee.{binary64, to_bits}
use lib.ListN.{length, get_or, set, take, length-append}
use lib.Seq.{sets}
use Rattle.std.proofs.lemmas.List.{length-take, get_or-take, length-take-le}
use Rattle.remy.specs.declared.action.Action.{Action}
use Rattle.remy.specs.declared.point.Point.{Point}
use Rattle.rule_tree.specs.declared.Node.{Node}
use Rattle.rule_tree.specs.declared.RuleTree.{RuleTree}
use Rattle.rule_tree.specs.Nodes.{no_node, node_at_of, children_of, node_count, action_in}
use Rattle.rule_tree.specs.Cubes.{split_nodes}
use Rattle.trainer.specs.declared.settings.Settings.{Settings}
use Rattle.trainer.specs.declared.Trainer.{Trainer}
use Rattle.record.specs.declared.inner.layout.Layout.{Layout}
use Rattle.wire.specs.Bytes.{bytes_of, flag_byte, shorts_bytes}
use Rattle.record.specs.Layout.{carries, ends_size}
use Rattle.wire.specs.Fields.{action_bytes, point_bytes}
use Rattle.record.specs.Write.{settings_bytes, splits_bytes, node_bytes, payload_bytes, state_bytes}
use Rattle.record.specs.Parts.{number_fields, action_fields, place_fields, trial_fields, node_fields}
use Rattle.wire.proofs.Bytes.{bytes_count}
use Rattle.wire.proofs.Stores.{wrote}
use Rattle.wire.proofs.Fields.{four, five}

-- ---- three, four and five runs of stores, one after the other
-- ---- an action
pub action_count : (a : Action) → length (action_bytes a) ≡ 20
action_count a = simp (length-append, bytes_count)

-- ---- the settings
pub numbers_written : (l : List ℕ) (at : ℕ) (s : Settings) (b : ℕ) {l1 l2 l3 : List ℕ} → b ≡ flag_byte s.drill_down
    → l1 ≡ sets l at (bytes_of 4 s.rule_splits) → l2 ≡ sets l1 (at + 4) (bytes_of 4 s.optimization_rounds_per_split)
    → l3 ≡ sets l2 (at + 8) (bytes_of 4 s.action_change_multiplier) → set l3 (at + 12) b ≡ sets l at (number_fields s)
numbers_written l at s b {l1} {l2} {l3} e p q r =
    four l at (bytes_of 4 s.rule_splits) (bytes_of 4 s.optimization_rounds_per_split) (bytes_of 4 s.action_change_multiplier) 4 8 (b ∷ []) 12 {l4 = set l3 (at + 12) b} p q r refl
    (bytes_count 4 _) (simp (length-append, bytes_count)) (simp (length-append, bytes_count))
    ∙ rw e

pub actions_written : (l : List ℕ) (at : ℕ) (s : Settings) {l1 l2 l3 l4 l5 : List ℕ}
    → l1 ≡ sets l at (action_bytes s.min_action) → l2 ≡ sets l1 (at + 20) (action_bytes s.max_action)
    → l3 ≡ sets l2 (at + 40) (action_bytes s.initial_action_change) → l4 ≡ sets l3 (at + 60) (action_bytes s.max_action_change)
    → l5 ≡ sets l4 (at + 80) (action_bytes s.default_action) → l5 ≡ sets l at (action_fields s)
actions_written l at s p q r u v =
    five l at (action_bytes s.min_action) (action_bytes s.max_action) (action_bytes s.initial_action_change) 20 40
    (action_bytes s.max_action_change) 60 (action_bytes s.default_action) 80 p q r u v
    (simp (length-append, bytes_count)) (simp (length-append, bytes_count)) (simp (length-append, bytes_count)) (simp (length-append, bytes_count))

pub numbers_count : (s : Settings) → length (number_fields s) ≡ 13
numbers_count s = simp (length-append, bytes_count)

pub settings_parts : (s : Settings) → number_fields s ++ action_fields s ≡ settings_bytes s
settings_parts s = simp append_assoc

pub settings_written : (l : List ℕ) (at : ℕ) (s : Settings) {l1 l2 : List ℕ} → l1 ≡ sets l at (number_fields s) → l2 ≡ sets l1 (at + 13) (action_fields s)
    → l2 ≡ sets l at (settings_bytes s)
settings_written l at s {l1} p q = wrote l l1 at 13 (number_fields s) (action_fields s) q p (numbers_count s) ∙ ap (sets l at) (settings_parts s)

pub settings_count : (s : Settings) → length (settings_bytes s) ≡ 113
settings_count s = simp (length-append, bytes_count)

-- ---- the list of splits
pub splits_written : (l : List ℕ) (at : ℕ) (t : RuleTree) (ps : List ℕ) {l1 l2 : List ℕ} → ps ≡ split_nodes (children_of t.nodes)
    → l1 ≡ sets l at (bytes_of 2 t.splits) → l2 ≡ sets l1 (at + 2) (shorts_bytes (take t.splits ps)) → l2 ≡ sets l at (splits_bytes t)
splits_written l at t ps {l1} {l2} e p q =
    wrote l l1 at 2 (bytes_of 2 t.splits) (shorts_bytes (take t.splits ps)) q p (bytes_count 2 t.splits)
    ∙ ap (λ (r : List ℕ). sets l at (bytes_of 2 t.splits ++ shorts_bytes (take t.splits r))) e

-- ---- the ends
pub point_count_lem : (p : Point) → length (point_bytes p) ≡ 24
point_count_lem p = simp (length-append, bytes_count)

-- the bytes that are needed at a place for the ends
pub ends_room : (lay : Layout) → lay.ends ≡ true → ends_size lay ≡ 24
unfolding ends_size
ends_room lay e = ap (λ (b : Bool). cond b 24 0) e

-- ---- the nodes
pub node_count_lem : (lay : Layout) (x : Node) → carries lay x.children ≡ true → length (node_fields lay x) ≡ 21
node_count_lem lay x e = ap (λ (b : Bool). length (cond b (node_bytes x) [])) e ∙ simp (length-append, bytes_count)

pub node_written : (l : List ℕ) (at : ℕ) (lay : Layout) (x : Node) (b : ℕ) {a : Action} {l1 : List ℕ} → carries lay x.children ≡ true → b ≡ flag_byte x.optimized
    → a ≡ action_in x → l1 ≡ sets l at (action_bytes a) → (at + 21 ≡ at + length (node_fields lay x)) × (set l1 (at + 20) b ≡ sets l at (node_fields lay x))
node_written l at lay x b {a} {l1} e f d p = (
  ap (λ (n : ℕ). at + n) (sym (node_count_lem lay x e)),
  wrote l l1 at 20 (action_bytes (action_in x)) (b ∷ []) refl (p ∙ ap (λ (z : Action). sets l at (action_bytes z)) d) (action_count (action_in x))
      ∙ ap (λ (k : ℕ). sets l at (action_bytes (action_in x) ++ (k ∷ []))) f
      ∙ ap (λ (t : Bool). sets l at (cond t (node_bytes x) [])) (sym e),
)

pub node_skipped : (l : List ℕ) (at : ℕ) (lay : Layout) (x : Node) → carries lay x.children ≡ false
    → (at ≡ at + length (node_fields lay x)) × (l ≡ sets l at (node_fields lay x))
node_skipped l at lay x e = (
  (let z : at ≡ at + 0 = omega arith in z) ∙ ap (λ (b : Bool). at + length (cond b (node_bytes x) [])) (sym e),
  ap (λ (b : Bool). sets l at (cond b (node_bytes x) [])) (sym e),
)

pub payload_suc : (lay : Layout) (nodes : List Node) (i : ℕ) → payload_bytes lay nodes (suc i) ≡ payload_bytes lay nodes i ++ node_fields lay (node_at_of nodes i)
unfolding payload_bytes
payload_suc lay nodes i = refl

-- one of the first n
pub taken : {A : Type 0} (d : A) (xs : List A) (n i : ℕ) → i < length (take n xs) → (get_or (take n xs) i d ≡ get_or xs i d) × (i < n)
taken d xs n i l =
    let b : i < n = omega (arith, length-take n xs) in
    (get_or-take n xs i d b, b)

-- the nodes' part of the first n nodes alone
payload_front : (lay : Layout) (nodes : List Node) (n i : ℕ) → i ≤ n → payload_bytes lay (take n nodes) i ≡ payload_bytes lay nodes i
unfolding payload_bytes
payload_front lay nodes n zero l = refl
payload_front lay nodes n (suc i) l = λ z. payload_front lay nodes n i (omega arith) z ++ node_fields lay (get_or-take n nodes i no_node (omega arith) z)

payload_taken : (lay : Layout) (nodes : List Node) (n : ℕ) → n ≤ length nodes
    → payload_bytes lay (take n nodes) (length (take n nodes)) ≡ payload_bytes lay nodes n
payload_taken lay nodes n h = ap (payload_bytes lay (take n nodes)) (length-take-le n nodes h) ∙ payload_front lay nodes n n (omega arith)

-- the first n nodes' part, and one more node
pub payload_more : (lay : Layout) (nodes : List Node) (i : ℕ) → payload_bytes lay nodes (i + 1) ≡ payload_bytes lay nodes i ++ node_fields lay (node_at_of nodes i)
payload_more lay nodes i = ap (payload_bytes lay nodes) (add-one i) ∙ payload_suc lay nodes i

pub payload_grows : (lay : Layout) (nodes : List Node) (i n : ℕ) → i < n
    → length (payload_bytes lay nodes i) + length (node_fields lay (node_at_of nodes i)) ≤ length (payload_bytes lay nodes n)
payload_grows lay nodes i zero l = absurd (omega arith)
payload_grows lay nodes i (suc n) l =
    let more = ap length (payload_suc lay nodes n) ∙ length-append (payload_bytes lay nodes n) (node_fields lay (node_at_of nodes n)) in
    ⊎_elim (λ (p : i ≡ n). subst (λ (k : ℕ). length (payload_bytes lay nodes k) + length (node_fields lay (node_at_of nodes k)) ≤ length (payload_bytes lay nodes (suc n))) (sym p) (omega arith))
    (λ (q : i < n). let h = payload_grows lay nodes i n q in omega arith)
    (eq-or-lt_of_le (let q : i ≤ n = omega arith in q))

-- those that a tree uses
pub payload_used : (lay : Layout) (t : RuleTree) (s : ℕ) → s ≡ t.splits → node_count t.splits ≤ length t.nodes
    → payload_bytes lay (take (1 + 8 * s) t.nodes) (length (take (1 + 8 * s) t.nodes)) ≡ payload_bytes lay t.nodes (node_count t.splits)
payload_used lay t s e h =
    ap (λ (k : ℕ). payload_bytes lay (take (1 + 8 * k) t.nodes) (length (take (1 + 8 * k) t.nodes))) e ∙ payload_taken lay t.nodes (node_count t.splits) h

pub nodes_none : (l : List ℕ) (at : ℕ) (lay : Layout) (nodes : List Node) → (at ≡ at + length (payload_bytes lay nodes 0)) × (l ≡ sets l at (payload_bytes lay nodes 0))
unfolding payload_bytes
nodes_none l at lay nodes = (omega arith, refl)

pub nodes_turn : (l : List ℕ) (at : ℕ) (lay : Layout) (nodes : List Node) (i next : ℕ) {r : ℕ} {l1 l2 : List ℕ} → next ≡ at + length (payload_bytes lay nodes i)
    → l1 ≡ sets l at (payload_bytes lay nodes i) → r ≡ next + length (node_fields lay (node_at_of nodes i)) → l2 ≡ sets l1 next (node_fields lay (node_at_of nodes i))
    → (r ≡ at + length (payload_bytes lay nodes (i + 1))) × (l2 ≡ sets l at (payload_bytes lay nodes (i + 1)))
nodes_turn l at lay nodes i next {r} {l1} {l2} e p f q = (
  (let more = ap length (payload_more lay nodes i) ∙ length-append (payload_bytes lay nodes i) (node_fields lay (node_at_of nodes i)) in omega arith),
  wrote l l1 at (length (payload_bytes lay nodes i)) (payload_bytes lay nodes i) (node_fields lay (node_at_of nodes i))
      (q ∙ ap (λ (k : ℕ). sets l1 k (node_fields lay (node_at_of nodes i))) e) p refl
      ∙ ap (sets l at) (sym (payload_more lay nodes i)),
)

pub nodes_done : (l m : List ℕ) (at : ℕ) (lay : Layout) (nodes : List Node) (i n next : ℕ) → i ≤ n → n ≤ i → next ≡ at + length (payload_bytes lay nodes i)
    → m ≡ sets l at (payload_bytes lay nodes i) → (next ≡ at + length (payload_bytes lay nodes n)) × (m ≡ sets l at (payload_bytes lay nodes n))
nodes_done l m at lay nodes i n next a b e p =
    let q : i ≡ n = omega arith in
    (e ∙ ap (λ (k : ℕ). at + length (payload_bytes lay nodes k)) q, p ∙ ap (λ (k : ℕ). sets l at (payload_bytes lay nodes k)) q)

-- ---- the state
pub place_written : (l : List ℕ) (at : ℕ) (t : Trainer) {l1 l2 l3 : List ℕ} → l1 ≡ sets (set l at t.phase) (at + 1) (bytes_of 4 t.stage)
    → l2 ≡ sets l1 (at + 5) (bytes_of 4 t.round) → l3 ≡ sets l2 (at + 9) (bytes_of 2 t.leaf) → l3 ≡ sets l at (place_fields t)
place_written l at t p q r =
    four l at (t.phase ∷ []) (bytes_of 4 t.stage) (bytes_of 4 t.round) 1 5 {l1 = set l at t.phase} (bytes_of 2 t.leaf) 9 refl p q r
    refl (simp bytes_count) (simp (length-append, bytes_count))

pub trial_written : (l : List ℕ) (at : ℕ) (t : Trainer) (b s : ℕ) {l1 l2 l3 l4 : List ℕ} → b ≡ to_bits binary64 t.best → s ≡ to_bits binary64 t.kept_score
    → l1 ≡ sets l at (bytes_of 8 b) → l2 ≡ sets l1 (at + 8) (bytes_of 2 t.k) → l3 ≡ sets l2 (at + 10) (bytes_of 2 t.kept)
    → l4 ≡ sets l3 (at + 12) (bytes_of 8 s) → l4 ≡ sets l at (trial_fields t)
trial_written l at t b s eb es p q r u =
    four l at (bytes_of 8 b) (bytes_of 2 t.k) (bytes_of 2 t.kept) 8 10 (bytes_of 8 s) 12 p q r u
    (bytes_count 8 b) (simp (length-append, bytes_count)) (simp (length-append, bytes_count))
    ∙ rw (eb, es)

pub state_parts : (t : Trainer) → place_fields t ++ trial_fields t ≡ state_bytes t
state_parts t = simp append_assoc

pub state_written : (l : List ℕ) (at : ℕ) (t : Trainer) {l1 l2 : List ℕ} → l1 ≡ sets l at (place_fields t) → l2 ≡ sets l1 (at + 11) (trial_fields t)
    → l2 ≡ sets l at (state_bytes t)
state_written l at t {l1} p q =
    wrote l l1 at 11 (place_fields t) (trial_fields t) q p (simp (length-append, bytes_count)) ∙ ap (sets l at) (state_parts t)

pub state_count : (t : Trainer) → length (state_bytes t) ≡ 31
state_count t = simp (length-append, bytes_count)
