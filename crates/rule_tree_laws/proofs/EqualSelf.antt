-- What a grown tree's equality with itself needs: its cubes and actions are numbers, and no way down is longer than the depth. Assumes nothing.
use mathlib.Core.Path.{◌≡◌, refl}
use mathlib.Core.Bool.{Bool, true, false, not, beq}
use mathlib.Core.List.{List}
use Prim.Native.Nat.{ℕ, zero, suc, ◌+◌, ◌*◌, ◌/◌, ◌%◌, ◌<◌, ◌≤◌}
use native.Mathlib.Omega.{arith}
use borrow.Author.Tests.{eq-eqb, ne_eqb}
use lib.Dec.{T, eqb}
use lib.IntN.{pos}
use mir.Syntax.{w32}
use mir.Val.{of_z}
use lib.Ieee.{Float, nan, inf, fin, up, down, binary64, add, div, eq, le, is_nan}
use lib.Ieee.Positive.{above, above_of_le}
use lib.Ieee.Scale.{finite}
use Rattle.floats.specs.Interval.{middle}
use Rattle.floats.proofs.Nonneg.{plus, add_plus, half_plus}
use Rattle.remy.specs.declared.action.Action.{Action}
use Rattle.remy.specs.declared.point.Point.{Point}
use Rattle.remy.specs.declared.cube.Cube.{Cube}
use Rattle.remy.specs.Action.{valid_of}
use Rattle.remy.specs.Cube.{ack, send, ratio, point_equal, least_end, ends_admitted, half_of, half_cube, child_cube, root_of}
use Rattle.remy.proofs.Ends.{ends_from_one}
use Rattle.rule_tree.specs.declared.Node.{Node}
use Rattle.rule_tree.specs.Nodes.{node_at_of, node_count, action_in}
use Rattle.rule_tree.specs.Equal.{cube_equal, action_equal, node_equal, children_equal}
use Rattle.rule_tree.proofs.Lists.{all_below_all}
use Rattle.rule_tree.proofs.Plain.{and_l, and_r}
use Rattle.rule_tree_laws.proofs.Slots.{Slot, leaf, parent}

-- ---- a float that is a number equals itself
beq_self : (s : Bool) → beq s s ≡ true
beq_self true = refl
beq_self false = refl

eq_self : (x : Float) → T (not (is_nan x)) → eq x x ≡ true
unfolding eq is_nan
eq_self nan h = absurd h
eq_self (inf s) h = beq_self s
eq_self (fin s m e) h = rw (eq-eqb (m * up e * down e) (m * up e * down e) refl, beq_self s)

finite_self : (x : Float) → finite x ≡ true → eq x x ≡ true
unfolding is_nan
finite_self nan h = absurd (let z : ◌≡◌ {A = ℕ} 0 1 = cc in omega arith)
finite_self (inf s) h = eq_self (inf s) tt
finite_self (fin s m e) h = eq_self (fin s m e) tt

plus_self : (x : Float) → T (plus x) → eq x x ≡ true
unfolding is_nan
plus_self nan h = absurd h
plus_self (inf s) h = eq_self (inf s) tt
plus_self (fin s m e) h = eq_self (fin s m e) tt

-- ---- cubes whose ends are 0 or more stay so where they are halved
sum_plus : (x y : Float) → T (plus x) → T (plus y) → T (plus (add binary64 x y))
unfolding add
sum_plus nan y p q = absurd p
sum_plus (inf true) y p q = absurd p
sum_plus (inf false) nan p q = absurd q
sum_plus (inf false) (inf true) p q = absurd q
sum_plus (inf false) (inf false) p q = tt
sum_plus (inf false) (fin t n d) p q = tt
sum_plus (fin true m e) y p q = absurd p
sum_plus (fin false m e) nan p q = absurd q
sum_plus (fin false m e) (inf true) p q = absurd q
sum_plus (fin false m e) (inf false) p q = tt
sum_plus (fin false m e) (fin true n d) p q = absurd q
sum_plus (fin false m e) (fin false n d) p q = add_plus binary64 (fin false m e) (fin false n d) tt tt

halved_plus : (x : Float) → T (plus x) → T (plus (div binary64 x (fin false 1 (pos 1))))
unfolding div
halved_plus nan p = absurd p
halved_plus (inf true) p = absurd p
halved_plus (inf false) p = tt
halved_plus (fin true m e) p = absurd p
halved_plus (fin false m e) p = half_plus binary64 (fin false m e) tt

pub record Between (lo hi : Float) : Type 0 where
  pub from : T (plus lo)
  pub to : T (plus hi)

middle_plus : (lo hi : Float) → Between lo hi → T (plus (middle lo hi))
middle_plus lo hi h = halved_plus (add binary64 hi lo) (sum_plus hi lo h.to h.from)

half_between : (lo hi : Float) → Between lo hi → (b : Bool) → Between (half_of lo (middle lo hi) hi b).lo (half_of lo (middle lo hi) hi b).hi
unfolding half_of
half_between lo hi h true = record { from = middle_plus lo hi h; to = h.to }
half_between lo hi h false = record { from = h.from; to = middle_plus lo hi h }

pub record Rising (c : Cube) : Type 0 where
  pub acks : Between (ack c.min) (ack c.max)
  pub sends : Between (send c.min) (send c.max)
  pub ratios : Between (ratio c.min) (ratio c.max)

child_rising : (c : Cube) (k : ℕ) → Rising c → Rising (child_cube c k)
unfolding child_cube half_cube half_of
child_rising c k r = record {
  acks = half_between (ack c.min) (ack c.max) r.acks (eqb (k / 4 % 2) 1);
  sends = half_between (send c.min) (send c.max) r.sends (eqb (k / 2 % 2) 1);
  ratios = half_between (ratio c.min) (ratio c.max) r.ratios (eqb (k % 2) 1);
}

point_self : (p : Point) → T (plus (ack p)) → T (plus (send p)) → T (plus (ratio p)) → point_equal p p ≡ true
unfolding point_equal
point_self p a s r = rw (plus_self (ack p) a, plus_self (send p) s, plus_self (ratio p) r)

cube_self : (c : Cube) → Rising c → cube_equal c c ≡ true
unfolding cube_equal
cube_self c r = rw (
  point_self c.min r.acks.from r.sends.from r.ratios.from,
  point_self c.max r.acks.to r.sends.to r.ratios.to,
)

action_self : (a : Action) → valid_of a ≡ true → action_equal a a ≡ true
unfolding valid_of action_equal
action_self a h =
    let m = finite a.window_multiplier in
    let d = finite a.intersend_delay.0 in
    rw (
      finite_self a.window_multiplier (and_l m _ h),
      eq-eqb (of_z w32 a.window_increment) (of_z w32 a.window_increment) refl,
      finite_self a.intersend_delay.0 (and_l d _ (and_r m _ h)),
    )

-- an end of 1 or more is no negative number
one_plus : (x : Float) → T (le least_end x) → T (plus x)
one_plus x h = go x (above_of_le least_end x tt h)
  where
    go : (x : Float) → T (above x) → T (plus x)
    go nan h = absurd h
    go (inf s) h = h
    go (fin true m e) h = absurd h
    go (fin false m e) h = tt

pub root_rising : (e : Point) → ends_admitted e ≡ true → Rising (root_of e)
root_rising e h =
    let l = ends_from_one e h in
    record {
      acks = record { from = tt; to = one_plus (ack e) l.0 };
      sends = record { from = tt; to = one_plus (send e) l.1.0 };
      ratios = record { from = tt; to = one_plus (ratio e) l.1.1 };
    }

-- ---- the nodes
module _ (n : ℕ) (nodes : List Node) (i : ℕ) (c : Cube) (e : cube_equal c c ≡ true) where
  leaf_self : (node_at_of nodes i).children ≡ 0 → action_equal (action_in (node_at_of nodes i)) (action_in (node_at_of nodes i)) ≡ true → node_equal (suc n) nodes nodes i i c c ≡ true
  unfolding node_equal
  leaf_self f h = rw (e, eq-eqb _ 0 f, h)

  parent_self : ((node_at_of nodes i).children ≡ 0 → ⊥) → children_equal n nodes nodes (node_at_of nodes i).children (node_at_of nodes i).children c c ≡ true → node_equal (suc n) nodes nodes i i c c ≡ true
  unfolding node_equal
  parent_self f h = rw (e, ne_eqb _ 0 f, h)

module _ (nodes : List Node) (s : ℕ) (slots : (i : ℕ) → i < node_count s → Slot s i (node_at_of nodes i)) where
  -- node i needs no more depth than there are nodes from i on
  abbrev pub Deep : ℕ → Type 0
  Deep n = (i : ℕ) (c : Cube) → i < node_count s → node_count s ≤ n + i → Rising c → node_equal n nodes nodes i i c c ≡ true

  deeper : (n : ℕ) → Deep n → (i : ℕ) (c : Cube) → node_count s ≤ suc n + i → Rising c → Slot s i (node_at_of nodes i) → node_equal (suc n) nodes nodes i i c c ≡ true
  deeper n below i c h r (leaf f v) = leaf_self n nodes i c (cube_self c r) f (action_self (action_in (node_at_of nodes i)) v)
  deeper n below i c h r (parent a w) =
      parent_self n nodes i c (cube_self c r) (λ z. omega (arith, z))
      (all_below_all 8 _ (λ k l. below ((node_at_of nodes i).children + k) (child_cube c k) (omega arith) (omega arith) (child_rising c k r)))

  pub itself : (n : ℕ) → Deep n
  itself zero i c l h r = absurd (omega arith)
  itself (suc n) i c l h r = deeper n (itself n) i c h r (slots i l)
