-- What the readers gather, node by node, is what the record's bytes stand for. Assumes nothing.
use mathlib.Core.Path.{◌≡◌, sym, ap, ◌∙◌}
use mathlib.Core.Bool.{Bool, true, false, cond}
use mathlib.Core.List.{List}
use mathlib.Core.Logic.{⊎_elim}
use Prim.Native.Nat.{ℕ, suc, ◌+◌, ◌*◌, ◌<◌, ◌≤◌}
use native.Mathlib.Nat.{eq-or-lt_of_le}
use native.Mathlib.Numerals.{add-one}
use native.Mathlib.Omega.{arith}
use borrow.Author.Tests.{eq-eqb, ne_eqb, lt-ltb, le-ltb}
use lib.ListN.{length, get_or, set, replicate, length-set, length-replicate, get_or-replicate}
use lib.Seq.{get_or-set_same, get_or-set_other, ext_get_or}
use lib.Ieee.{Float}
use Rattle.remy.specs.declared.action.Action.{Action}
use Rattle.remy.specs.declared.point.Point.{Point}
use Rattle.remy.specs.Cube.{usual_ends}
use Rattle.rule_tree.specs.declared.Node.{Node}
use Rattle.rule_tree.specs.declared.RuleTree.{RuleTree}
use Rattle.rule_tree.specs.Lists.{tabulate, count_below}
use Rattle.rule_tree.specs.Nodes.{no_node, node_at_of, node_count, blank_node, node_holding}
use Rattle.rule_tree.proofs.Lists.{length_tabulate, get_d_tabulate, count_below_le}
use Rattle.rule_tree.proofs.Owners.{same_or_not, below_or_not}
use Rattle.trainer.specs.declared.settings.Settings.{Settings}
use Rattle.trainer.specs.declared.Trainer.{Trainer}
use Rattle.record.specs.declared.inner.layout.Layout.{Layout}
use Rattle.wire.specs.Bytes.{number_at}
use Rattle.record.specs.Layout.{carries, given_action, list_place, nodes_place, state_place}
use Rattle.wire.specs.Fields.{float_at, action_at, flag_at, point_at}
use Rattle.record.specs.Read.{settings_at, ends_at, tree_at, state_at, trainer_at, split_at_place, link_of, carried_at, payload_place, node_with, node_at_place}
use Rattle.record.proofs.Layouts.{ends_few}

-- ---- the links after the first k splits
abbrev pub Linked : List ℕ → ℕ → List ℕ → ℕ → Type 0
Linked bytes list out k = (length out ≡ 513) × ((i : ℕ) → i < 513 → get_or out i 0 ≡ link_of bytes list k i)

pub link_none : (bytes : List ℕ) (list : ℕ) → Linked bytes list (replicate 513 0) 0
unfolding link_of
link_none bytes list = (length-replicate {A = ℕ} 513 0, λ i l. get_or-replicate 513 i 0 0 l)

pub link_suc_hit : (bytes : List ℕ) (list k i : ℕ) → split_at_place bytes list k ≡ i → link_of bytes list (suc k) i ≡ 8 * k + 1
unfolding link_of
link_suc_hit bytes list k i e = rw (eq-eqb (split_at_place bytes list k) i e)

pub link_suc_miss : (bytes : List ℕ) (list k i : ℕ) → (split_at_place bytes list k ≡ i → ⊥) → link_of bytes list (suc k) i ≡ link_of bytes list k i
unfolding link_of
link_suc_miss bytes list k i n = rw (ne_eqb (split_at_place bytes list k) i n)

pub link_hit : (bytes : List ℕ) (list : ℕ) (out : List ℕ) (k node : ℕ) {next : List ℕ} → node ≡ split_at_place bytes list k → node < 513 → Linked bytes list out k
    → next ≡ set out node (8 * k + 1) → Linked bytes list next (k + 1)
link_hit bytes list out k node {next} e l h q = (ap length q ∙ length-set out node (8 * k + 1) ∙ h.0, at)
  where
    long : length out ≡ 513
    long = h.0

    at : (i : ℕ) → i < 513 → get_or next i 0 ≡ link_of bytes list (k + 1) i
    at i b =
        ap (λ (r : List ℕ). get_or r i 0) q
        ∙ ⊎_elim
        (λ (p : node ≡ i). ap (λ (j : ℕ). get_or (set out node (8 * k + 1)) j 0) (sym p) ∙ get_or-set_same out node (8 * k + 1) 0 (omega arith) ∙ sym (link_suc_hit bytes list k i (sym e ∙ p)))
        (λ (n : node ≡ i → ⊥). get_or-set_other out node i (8 * k + 1) 0 (λ z. n (sym z)) ∙ h.1 i b ∙ sym (link_suc_miss bytes list k i (λ z. n (e ∙ z))))
        (same_or_not node i)
        ∙ ap (λ (j : ℕ). link_of bytes list j i) (sym (add-one k))

pub link_miss : (bytes : List ℕ) (list : ℕ) (out : List ℕ) (k node : ℕ) {next : List ℕ} → node ≡ split_at_place bytes list k → 513 ≤ node → Linked bytes list out k
    → next ≡ out → Linked bytes list next (k + 1)
link_miss bytes list out k node {next} e l h q = (
  ap length q ∙ h.0,
  λ i b. ap (λ (r : List ℕ). get_or r i 0) q ∙ h.1 i b ∙ sym (link_suc_miss bytes list k i (λ z. let w : node ≡ i = e ∙ z in omega arith)) ∙ ap (λ (j : ℕ). link_of bytes list j i) (sym (add-one k)),
)

pub link_all : (bytes : List ℕ) (list : ℕ) (out : List ℕ) (k s : ℕ) → k ≤ s → s ≤ k → Linked bytes list out k → out ≡ tabulate 513 (link_of bytes list s)
link_all bytes list out k s a b h =
    let q : k ≡ s = omega arith in
    ext_get_or 0 out (tabulate 513 (link_of bytes list s)) (h.0 ∙ sym (length_tabulate 513 (link_of bytes list s)))
    (λ i l. let long = h.0 in let m : i < 513 = omega arith in
    h.1 i m ∙ ap (λ (j : ℕ). link_of bytes list j i) q ∙ sym (get_d_tabulate 513 i (link_of bytes list s) 0 m))

-- ---- the nodes, one by one
pub record Gathered (lay : Layout) (a : Action) (bytes : List ℕ) (s : ℕ) (nodes : List Node) (at i : ℕ) : Type 0 where
  pub long : length nodes ≡ 513
  pub place : at ≡ payload_place lay bytes s i
  pub done : (j : ℕ) → j < i → node_at_of nodes j ≡ node_at_place lay a bytes s j
  pub left : (j : ℕ) → i ≤ j → j < 513 → node_at_of nodes j ≡ blank_node

module _ (lay : Layout) (a : Action) (bytes : List ℕ) (s : ℕ) where
  pub gathered_none : (x : Node) (at : ℕ) → x ≡ blank_node → at ≡ nodes_place lay s → Gathered lay a bytes s (replicate 513 x) at 0
  unfolding count_below
  gathered_none x at e ea =
      record {
        long = length-replicate 513 x;
        place = omega arith;
        done = λ j l. absurd (omega arith);
        left = λ j l m. get_or-replicate 513 j x no_node m ∙ e;
      }

  pub node_is : (i : ℕ) → i < node_count s → node_with lay a bytes (payload_place lay bytes s i) (link_of bytes (list_place lay) s i) ≡ node_at_place lay a bytes s i
  unfolding node_at_place
  node_is i l = rw (lt-ltb i (node_count s) l)

  count_more : (i : ℕ) → payload_place lay bytes s (i + 1) ≡ payload_place lay bytes s i + 21 * cond (carried_at lay bytes s i) 1 0
  unfolding count_below
  count_more i = rw (add-one i) (omega arith)

  pub unused_is : (i : ℕ) → node_count s ≤ i → node_at_place lay a bytes s i ≡ blank_node
  unfolding node_at_place
  unused_is i l = rw (le-ltb i (node_count s) l)

  module _ (nodes : List Node) (at i : ℕ) where
    pub gathered_more : (c : ℕ) (x : Node) {next : ℕ} → i < node_count s → s ≤ 64
        → Gathered lay a bytes s nodes at i → c ≡ link_of bytes (list_place lay) s i → x ≡ node_with lay a bytes at c → next ≡ at + 21 * cond (carries lay c) 1 0
        → Gathered lay a bytes s (set nodes i x) next (i + 1)
    gathered_more c x {next} l few g ec ex en =
        record {
          long = length-set nodes i x ∙ g.long;
          place = en ∙ ap (λ (k : ℕ). at + 21 * cond (carries lay k) 1 0) ec ∙ ap (λ (k : ℕ). k + 21 * cond (carried_at lay bytes s i) 1 0) g.place ∙ sym (count_more i);
          done = λ j b.
              ⊎_elim
              (λ (p : j ≡ i). ap (λ (k : ℕ). node_at_of (set nodes i x) k) p ∙ get_or-set_same nodes i x no_node (omega (arith, g.long)) ∙ is ∙ ap (node_at_place lay a bytes s) (sym p))
              (λ (q : j < i). get_or-set_other nodes i j x no_node (λ z. absurd (let w : j ≡ i = z in omega arith)) ∙ g.done j q)
              (eq-or-lt_of_le (let q : j ≤ i = omega arith in q));
          left = λ j d b. get_or-set_other nodes i j x no_node (λ z. absurd (let w : j ≡ i = z in omega arith)) ∙ g.left j (omega arith) b;
        }
      where
        is : x ≡ node_at_place lay a bytes s i
        is = ex ∙ ap (node_with lay a bytes at) ec ∙ ap (λ (k : ℕ). node_with lay a bytes k (link_of bytes (list_place lay) s i)) g.place ∙ node_is i l

    pub gathered_all : node_count s ≤ i → Gathered lay a bytes s nodes at i → nodes ≡ tabulate 513 (node_at_place lay a bytes s)
    gathered_all l g =
        ext_get_or no_node nodes (tabulate 513 (node_at_place lay a bytes s)) (g.long ∙ sym (length_tabulate 513 (node_at_place lay a bytes s)))
        (λ j b.
        let m : j < 513 = omega (arith, g.long) in
        ⊎_elim (λ (p : j < i). g.done j p) (λ (q : i ≤ j). g.left j q m ∙ sym (unused_is j (omega arith))) (below_or_not j i)
        ∙ sym (get_d_tabulate 513 j (node_at_place lay a bytes s) no_node m))

    -- the place of a node's payload is no further than 144 + 128 + 21 * 513
    pub gathered_near : s ≤ 64 → i ≤ 513 → Gathered lay a bytes s nodes at i → at ≤ 11045
    gathered_near few l g = omega (arith, g.place, ends_few lay, count_below_le i (carried_at lay bytes s))

pub child_is : (bytes cs : List ℕ) (list to s i : ℕ) → cs ≡ tabulate 513 (link_of bytes list s) → list ≡ to → s ≤ 64 → i < node_count s
    → get_or cs i 0 ≡ link_of bytes to s i
child_is bytes cs list to s i e el few l =
    ap (λ (r : List ℕ). get_or r i 0) e ∙ get_d_tabulate 513 i (link_of bytes list s) 0 (omega arith) ∙ ap (λ (k : ℕ). link_of bytes k s i) el

-- ---- a node that is written, and one that is not
module _ (lay : Layout) (a : Action) (bytes : List ℕ) (at c : ℕ) where
  abbrev node_by : Bool → Node
  node_by b =
      cond b (node_holding (action_at bytes at) c (flag_at bytes (at + 20)))
      (node_holding a c false)

  pub node_read : {x : Action} {m : Bool} → carries lay c ≡ true → x ≡ action_at bytes at → m ≡ flag_at bytes (at + 20)
      → ◌≡◌ {A = Node} (node_holding x c m) (node_with lay a bytes at c)
  node_read z p q = (λ j. node_holding (p j) c (q j)) ∙ ap node_by (sym z)

  pub node_given : carries lay c ≡ false → ◌≡◌ {A = Node} (node_holding a c false) (node_with lay a bytes at c)
  node_given z = ap node_by (sym z)

-- ---- the upper ends
module _ (lay : Layout) (bytes : List ℕ) (at : ℕ) where
  pub ends_read : {p : Point} → lay.ends ≡ true → p ≡ point_at bytes at → p ≡ ends_at lay bytes at
  ends_read z e = e ∙ ap (λ (b : Bool). cond b (point_at bytes at) usual_ends) (sym z)

  pub ends_given : {p : Point} → lay.ends ≡ false → p ≡ usual_ends → p ≡ ends_at lay bytes at
  ends_given z e = e ∙ ap (λ (b : Bool). cond b (point_at bytes at) usual_ends) (sym z)

-- ---- the settings, the trainer: from their fields
pub settings_read : (lay : Layout) (bytes : List ℕ) (at : ℕ) {a b c : ℕ} {d : Bool} {e f g h k : Action} {p : Point} → a ≡ number_at bytes at 4 → b ≡ number_at bytes (at + 4) 4
    → c ≡ number_at bytes (at + 8) 4 → d ≡ flag_at bytes (at + 12) → e ≡ action_at bytes (at + 13) → f ≡ action_at bytes (at + 33)
    → g ≡ action_at bytes (at + 53) → h ≡ action_at bytes (at + 73) → k ≡ action_at bytes (at + 93) → p ≡ ends_at lay bytes (at + 113)
    → ◌≡◌ {A = Settings}
    (record {
      rule_splits = a;
      optimization_rounds_per_split = b;
      action_change_multiplier = c;
      drill_down = d;
      min_action = e;
      max_action = f;
      initial_action_change = g;
      max_action_change = h;
      default_action = k;
      ends = p;
    })
    (settings_at lay bytes at)
settings_read lay bytes at a b c d e f g h k p =
    λ j.
    record {
      rule_splits = a j;
      optimization_rounds_per_split = b j;
      action_change_multiplier = c j;
      drill_down = d j;
      min_action = e j;
      max_action = f j;
      initial_action_change = g j;
      max_action_change = h j;
      default_action = k j;
      ends = p j;
    }

pub trainer_read : (lay : Layout) (bytes : List ℕ) (s at : ℕ) {a : Settings} {b : RuleTree} {c d e f h i : ℕ} {g k : Float} → at ≡ state_place lay s → a ≡ settings_at lay bytes 5 → b ≡ tree_at lay (given_action (settings_at lay bytes 5)) bytes s
    → c ≡ get_or bytes at 0 → d ≡ number_at bytes (at + 1) 4 → e ≡ number_at bytes (at + 5) 4
    → f ≡ number_at bytes (at + 9) 2 → g ≡ float_at bytes (at + 11) → h ≡ number_at bytes (at + 19) 2
    → i ≡ number_at bytes (at + 21) 2 → k ≡ float_at bytes (at + 23)
    → ◌≡◌ {A = Trainer}
    (record {
      settings = a;
      tree = b;
      phase = c;
      stage = d;
      round = e;
      leaf = f;
      best = g;
      k = h;
      kept = i;
      kept_score = k;
    })
    (trainer_at lay bytes s)
trainer_read lay bytes s at z a b c d e f g h i k =
    (λ j.
    record {
      settings = a j;
      tree = b j;
      phase = c j;
      stage = d j;
      round = e j;
      leaf = f j;
      best = g j;
      k = h j;
      kept = i j;
      kept_score = k j;
    })
    ∙ ap (state_at (settings_at lay bytes 5) (tree_at lay (given_action (settings_at lay bytes 5)) bytes s) bytes) z

-- the tree, with what the settings give a parent that is not written
pub tree_given : (lay : Layout) (bytes : List ℕ) (s : ℕ) (set : Settings) (a : Action) {b : RuleTree} → set ≡ settings_at lay bytes 5 → a ≡ given_action set
    → b ≡ tree_at lay a bytes s → b ≡ tree_at lay (given_action (settings_at lay bytes 5)) bytes s
tree_given lay bytes s set a e ea eb =
    eb ∙ ap (λ (x : Action). tree_at lay x bytes s) (ea ∙ ap given_action e)

pub tree_read : (lay : Layout) (a : Action) (bytes : List ℕ) (s : ℕ) {xs : List Node} {p : Point} → xs ≡ (tree_at lay a bytes s).nodes → p ≡ ends_at lay bytes 118
    → ◌≡◌ {A = RuleTree} (record { nodes = xs; splits = s; ends = p }) (tree_at lay a bytes s)
tree_read lay a bytes s x p = λ j. record { nodes = x j; splits = s; ends = p j }
