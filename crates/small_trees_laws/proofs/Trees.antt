-- 02, request 14: "Each grows a tree": a list of at most 64 splits, each of a leaf then, grows one over any ends. Assumes nothing.
use mathlib.Core.Path.{◌≡◌, refl, sym, ap, subst, ◌∙◌}
use mathlib.Core.Bool.{true, false}
use mathlib.Core.List.{List, [], ◌∷◌}
use Prim.Native.Nat.{ℕ, zero, suc, ◌+◌, ◌*◌, ◌<◌, ◌≤◌}
use native.Mathlib.Omega.{arith}
use borrow.Author.Tests.{lt-ltb, eq-eqb}
use lib.ListN.{length, get_or, replicate}
use lib.Seq.{get_or-set_other}
use Rattle.std.specs.Prelude.{Result, Ok}
use Rattle.refusal.specs.declared.Refusal.{Refusal}
use Rattle.refusal.specs.Guards.{and_then}
use Rattle.remy.specs.declared.action.Action.{Action}
use Rattle.remy.specs.Action.{valid_of}
use Rattle.remy.specs.declared.point.Point.{Point}
use Rattle.rule_tree.specs.declared.RuleTree.{RuleTree}
use Rattle.rule_tree.specs.Nodes.{node_at_of, node_count, children_of, slots, most_splits}
use Rattle.rule_tree.specs.Grown.{ends_hold, grown_of}
use Rattle.rule_tree.specs.Change.{fresh_tree, split_at_of}
use Rattle.rule_tree.specs.Calls.{leaf_in, split_of}
use Rattle.rule_tree.proofs.Changing.{split_splits}
use Rattle.rule_tree.proofs.Links.{grown_linked}
use Rattle.rule_tree.proofs.LinkWays.{children_at}
use Rattle.rule_tree_laws.proofs.SplitLinks.{split_links}
use Rattle.rule_tree_laws.specs.Growth.{Growth, root, split}
use Rattle.rule_tree_laws.proofs.GrowthTest.{growth_full, growth_grown}
use Rattle.small_trees.specs.Lists.{names, grows_from, is_growth}
use Rattle.small_trees.proofs.Growing.{unnamed_head, unnamed_rest, Step, stepped, growth_short, growth_grows}
use Rattle.small_trees_laws.specs.Trees.{grown_by, split_each}

-- what is not named is no parent
record Free (t : RuleTree) (done : List ℕ) : Type 0 where
  links : (j : ℕ) → names done j ≡ false → get_or (children_of t.nodes) j 0 ≡ 0

zeros : (n j : ℕ) → ◌≡◌ {A = ℕ} (get_or (replicate n 0) j 0) 0
zeros zero j = refl
zeros (suc n) zero = refl
zeros (suc n) (suc j) = zeros n j

fresh_links : (e : Point) (a : Action) → children_of (fresh_tree e a).nodes ≡ replicate slots 0
fresh_links e a = refl

fresh_free : (e : Point) (a : Action) → Free (fresh_tree e a) []
fresh_free e a = record { links = λ j h. ap (λ (cs : List ℕ). get_or cs j 0) (fresh_links e a) ∙ zeros slots j }

module _ (t : RuleTree) (done : List ℕ) (i : ℕ) (g : Growth t) (f : Free t done) (l : i < node_count t.splits) (u : names done i ≡ false) where
  is_leaf : leaf_in t i ≡ true
  is_leaf = rw (lt-ltb i (node_count t.splits) l, eq-eqb (node_at_of t.nodes i).children 0 (sym (children_at t.nodes i) ∙ f.links i u))

  split_free : t.splits < 64 → Free (split_at_of t i) (i ∷ done)
  split_free r =
      record {
        links =
            λ j h.
            ap (λ (cs : List ℕ). get_or cs j 0) (split_links t i (growth_full t g) (grown_linked t (growth_grown t g)) is_leaf r)
            ∙ get_or-set_other (children_of t.nodes) i j (8 * t.splits + 1) 0 (λ e. unnamed_head i done j h (sym e))
            ∙ f.links j (unnamed_rest i done j h);
      }

-- each public call is taken
split_taken : (t : RuleTree) (i : ℕ) → grown_of t ≡ true → leaf_in t i ≡ true → t.splits < most_splits → split_of t i ≡ Ok (split_at_of t i)
unfolding split_of
split_taken t i g l b = rw (g, l, lt-ltb t.splits most_splits b)

split_more : (t : RuleTree) (i : ℕ) (rest : List ℕ) → split_of t i ≡ Ok (split_at_of t i) → split_each t (i ∷ rest) ≡ split_each (split_at_of t i) rest
unfolding split_each
split_more t i rest e = ap (λ (r : Result RuleTree Refusal). and_then r (λ u. split_each u rest)) e

record Grows (t : RuleTree) (rest : List ℕ) : Type 0 where
  growth : Growth (grown_by t rest)
  calls : split_each t rest ≡ Ok (grown_by t rest)

grow : (t : RuleTree) (done rest : List ℕ) → Growth t → Free t done → grows_from done t.splits rest ≡ true → t.splits + length rest ≤ most_splits → Grows t rest
unfolding grown_by split_each
grow t done [] g f h l = record { growth = g; calls = refl }
grow t done (i ∷ rest) g f h l =
    let s : Step done t.splits i rest = stepped done t.splits i rest h in
    let r : t.splits < most_splits = omega arith in
    let e : suc t.splits ≡ (split_at_of t i).splits = omega (arith, split_splits t i) in
    let k = is_leaf t done i g f s.node s.leaf in
    let m = grow (split_at_of t i) (i ∷ done) rest (split t i g k r) (split_free t done i g f s.node s.leaf r) (subst (λ (n : ℕ). grows_from (i ∷ done) n rest ≡ true) e s.more) (omega arith) in
    record { growth = m.growth; calls = split_more t i rest (split_taken t i (growth_grown t g) k r) ∙ m.calls }

-- from a root leaf with any ends that a tree may have and any valid action
module _ (e : Point) (b : ends_hold e ≡ true) (a : Action) (v : valid_of a ≡ true) (n : ℕ) (xs : List ℕ) (l : n ≤ most_splits) (h : is_growth n xs ≡ true) where
  grows : Grows (fresh_tree e a) xs
  grows = grow (fresh_tree e a) [] xs (root e a b v) (fresh_free e a) (growth_grows n xs h) (let m = growth_short n xs h in omega arith)

  pub listed_growth : Growth (grown_by (fresh_tree e a) xs)
  listed_growth = grows.growth

  -- by the public calls, none of which is refused
  pub listed_calls : split_each (fresh_tree e a) xs ≡ Ok (grown_by (fresh_tree e a) xs)
  listed_calls = grows.calls

  -- so that it passes the test for 10
  pub listed_grown : grown_of (grown_by (fresh_tree e a) xs) ≡ true
  listed_grown = growth_grown (grown_by (fresh_tree e a) xs) listed_growth
