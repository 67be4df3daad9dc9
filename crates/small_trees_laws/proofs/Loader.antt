-- 02, request 14: "Each grows a tree the loader takes." Saved with any settings that hold, a trainer with such a tree is loaded back as it was. Assumes nothing.
use mathlib.Core.Path.{◌≡◌, refl, ap, ◌∙◌}
use mathlib.Core.Bool.{true}
use mathlib.Core.List.{List, [], ◌∷◌}
use Prim.Native.Nat.{ℕ, ◌+◌, ◌≤◌}
use native.Mathlib.Omega.{arith}
use borrow.Author.Tests.{eq-eqb}
use lib.Ieee.{to_bits}
use Rattle.std.specs.Prelude.{Ok}
use Rattle.remy.specs.declared.action.Action.{Action}
use Rattle.remy.specs.declared.point.Point.{Point}
use Rattle.remy.specs.Action.{valid_of}
use Rattle.remy.specs.Cube.{point_equal}
use Rattle.remy.proofs.Ends.{ends_themselves}
use Rattle.rule_tree.specs.declared.RuleTree.{RuleTree}
use Rattle.rule_tree.specs.Nodes.{most_splits}
use Rattle.rule_tree.specs.Grown.{ends_hold}
use Rattle.rule_tree.specs.Change.{fresh_tree, split_at_of}
use Rattle.rule_tree.proofs.Plain.{ActionFits, ends_admitted_lem}
use Rattle.rule_tree_laws.proofs.Sound.{TreeFits}
use Rattle.trainer.specs.declared.settings.Settings.{Settings}
use Rattle.trainer.specs.Settings.{settings_hold}
use Rattle.trainer.specs.State.{untried_in, box_holds, phase_holds, accepted_of}
use Rattle.trainer.proofs.Holds.{parts}
use Rattle.trainer.proofs.AcceptedFacts.{few_splits}
use Rattle.record.specs.Write.{record_of}
use Rattle.record.specs.Calls.{load_of}
use Rattle.record.proofs.Stands.{SettingsFits}
use Rattle.record.proofs.RoundTrip.{TrainerFits}
use Rattle.record.proofs.Loading.{load_saved}
use Rattle.record.proofs.BytesFit.{zero-fits}
use Rattle.record.proofs.TreesFit.{split_fits, fresh_fits}
use Rattle.small_trees.specs.Lists.{is_growth}
use Rattle.small_trees_laws.specs.Trees.{grown_by, ended_with}
use Rattle.small_trees_laws.proofs.Trees.{listed_grown}

-- splits keep the upper ends
grown_ends : (t : RuleTree) (xs : List ℕ) → (grown_by t xs).ends ≡ t.ends
unfolding grown_by split_at_of
grown_ends t [] = refl
grown_ends t (i ∷ rest) = grown_ends (split_at_of t i) rest

grown_fits : (t : RuleTree) (xs : List ℕ) → TreeFits t → TreeFits (grown_by t xs)
unfolding grown_by
grown_fits t [] f = f
grown_fits t (i ∷ rest) f = grown_fits (split_at_of t i) rest (split_fits t f i)

ended_holds : (s : Settings) (t : RuleTree) → phase_holds (ended_with s t) ≡ true
unfolding phase_holds untried_in to_bits
ended_holds s t = rw (eq-eqb (s.rule_splits + 1) (s.rule_splits + 1) refl)

module _ (s : Settings) (f : SettingsFits s) (h : settings_hold s ≡ true) (a : Action) (g : ActionFits a) (v : valid_of a ≡ true) (n : ℕ) (xs : List ℕ)
    (l : n ≤ most_splits) (w : is_growth n xs ≡ true) where
  abbrev pub tree : RuleTree
  tree = grown_by (fresh_tree s.ends a) xs

  held : ends_hold s.ends ≡ true
  held = (parts s h).4

  boxed : box_holds (ended_with s tree) ≡ true
  unfolding box_holds
  boxed =
      ap (λ (p : Point). point_equal p s.ends) (grown_ends (fresh_tree s.ends a) xs)
      ∙ ends_themselves s.ends (ends_admitted_lem s.ends held)

  pub listed_accepted : accepted_of (ended_with s tree) ≡ true
  unfolding accepted_of
  listed_accepted = rw (h, listed_grown s.ends held a v n xs l w, boxed, ended_holds s tree)

  fit : TrainerFits (ended_with s tree)
  fit =
      record {
        settings = f;
        tree = grown_fits (fresh_tree s.ends a) xs (fresh_fits s.ends a f.ends g);
        stage = omega (arith, few_splits s h);
        round = omega arith;
        leaf = omega arith;
        best = zero-fits;
        k = omega arith;
        kept = omega arith;
        score = zero-fits;
      }

  -- the loader takes what a save writes of it
  pub listed_loaded : load_of (record_of (ended_with s tree)) ≡ Ok (ended_with s tree)
  listed_loaded = load_saved (ended_with s tree) fit listed_accepted
