-- The candidates of an action fit their types, and so do the actions of a tree whatever is done to it. Assumes nothing.
use mathlib.Core.Path.{◌≡◌, refl, sym, subst, ◌∙◌}
use mathlib.Core.Bool.{Bool, true, false, cond}
use mathlib.Core.List.{List, [], ◌∷◌, ◌++◌, map}
use mathlib.Core.Logic.{⊎_elim}
use Prim.Native.Nat.{ℕ, zero, suc, ◌+◌, ◌*◌, ◌<◌, ◌≤◌}
use native.Mathlib.Omega.{arith}
use lib.Dec.{T, eqb}
use lib.IntN.{ℤ}
use lib.ListN.{length, get_or, set, replicate}
use lib.Ieee.{Float, binary64, fits}
use lib.Ieee.Fits.{add-fits, nan-fits}
use mir.Syntax.{w32}
use mir.Val.{SFits}
use Rattle.remy.specs.declared.action.Action.{Action}
use Rattle.remy.specs.declared.point.Point.{Point}
use Rattle.remy.specs.Action.{valid_of}
use Rattle.rule_tree.specs.declared.Node.{Node}
use Rattle.rule_tree.specs.declared.RuleTree.{RuleTree}
use Rattle.rule_tree.specs.Lists.{fill}
use Rattle.rule_tree.specs.Nodes.{no_node, node_at_of, leaf_with, linked_to, blank_node, action_in, node_holding}
use Rattle.rule_tree.specs.Change.{fresh_tree, with_action, with_mark, unmarked_node, without_marks, split_at_of}
use Rattle.rule_tree.proofs.Plain.{ActionFits, PointFits}
use Rattle.rule_tree.proofs.Owners.{below_or_not}
use Rattle.rule_tree.proofs.Changing.{action_length, mark_length, clear_length, fresh_length, split_length}
use Rattle.rule_tree_laws.proofs.Sound.{TreeFits}
use Rattle.trainer.specs.declared.settings.Settings.{Settings}
use Rattle.trainer.specs.Settings.{multiplier_axis, increment_axis, delay_axis, settings_hold}
use Rattle.trainer.specs.Candidates.{flat_map, filter, float_changes, whole_changes, changed, all_changes, inside_of, candidates_of, no_candidate}
use Rattle.trainer.proofs.Holds.{increment_small}
use Rattle.trainer.proofs.CandidateLaws.{candidate_valid}
use Rattle.record.proofs.BytesFit.{plain_fits}

-- ---- actions
missing_fits : ActionFits no_candidate
missing_fits = record { multiplier = nan-fits binary64; increment = record { sfits = omega arith }; delay = nan-fits binary64 }

pub valid_increment : (a : Action) → valid_of a ≡ true → SFits w32 a.window_increment
valid_increment a v = record { sfits = omega (arith, increment_small a v) }

-- both floats of an action fit
abbrev FloatsFit : Action → Type 0
FloatsFit a = T (fits binary64 a.window_multiplier) × T (fits binary64 a.intersend_delay.0)

abbrev AllFloats : List Action → Type 0
AllFloats xs = (i : ℕ) → FloatsFit (get_or xs i no_candidate)

none_floats : AllFloats []
none_floats i = (nan-fits binary64, nan-fits binary64)

more_floats : (x : Action) (xs : List Action) → FloatsFit x → AllFloats xs → AllFloats (x ∷ xs)
more_floats x xs f h zero = f
more_floats x xs f h (suc i) = h i

append_floats : (xs ys : List Action) → AllFloats xs → AllFloats ys → AllFloats (xs ++ ys)
append_floats [] ys h k = k
append_floats (x ∷ xs) ys h k = more_floats x (xs ++ ys) (h zero) (append_floats xs ys (λ i. h (suc i)) k)

map_floats : (f : Float → Action) (xs : List Float) → ((x : Float) → FloatsFit (f x)) → AllFloats (map f xs)
map_floats f [] h = none_floats
map_floats f (x ∷ xs) h = more_floats (f x) (map f xs) (h x) (map_floats f xs h)

flat_floats : {A : Type 0} (f : A → List Action) (xs : List A) → ((x : A) → AllFloats (f x)) → AllFloats (flat_map f xs)
unfolding flat_map
flat_floats f [] h = none_floats
flat_floats f (x ∷ xs) h = append_floats (f x) (flat_map f xs) (h x) (flat_floats f xs h)

filter_floats : (keep : Action → Bool) (xs : List Action) → AllFloats xs → AllFloats (filter keep xs)
unfolding filter
filter_floats keep [] h = none_floats
filter_floats keep (x ∷ xs) h = go (keep x) (filter_floats keep xs (λ i. h (suc i)))
  where
    go : (b : Bool) → AllFloats (filter keep xs) → AllFloats (cond b (x ∷ filter keep xs) (filter keep xs))
    go true r = more_floats x (filter keep xs) (h zero) r
    go false r = r

candidate_floats : (s : Settings) (a : Action) → AllFloats (candidates_of s a)
unfolding candidates_of
candidate_floats s a =
    filter_floats (inside_of s) (all_changes s a)
    (flat_floats (λ (m : Float). flat_map (λ (i : ℤ). map (λ (d : Float). changed a m i d) (float_changes (delay_axis 8 s))) (whole_changes (increment_axis 8 s)))
    (float_changes (multiplier_axis 8 s))
    (λ m. flat_floats (λ (i : ℤ). map (λ (d : Float). changed a m i d) (float_changes (delay_axis 8 s))) (whole_changes (increment_axis 8 s))
    (λ i. map_floats (λ (d : Float). changed a m i d) (float_changes (delay_axis 8 s))
    (λ d. (add-fits binary64 a.window_multiplier m, add-fits binary64 a.intersend_delay.0 d)))))

past_end : {A : Type 0} (xs : List A) (i : ℕ) (d : A) → length xs ≤ i → get_or xs i d ≡ d
past_end [] i d l = refl
past_end (x ∷ xs) zero d l = absurd (omega arith)
past_end (x ∷ xs) (suc i) d l = past_end xs i d (omega arith)

pub candidate_fits : (s : Settings) (a : Action) (j : ℕ) → settings_hold s ≡ true → ActionFits (get_or (candidates_of s a) j no_candidate)
candidate_fits s a j h =
    ⊎_elim
    (λ (l : j < length (candidates_of s a)).
    record {
      multiplier = (candidate_floats s a j).0;
      increment = valid_increment (get_or (candidates_of s a) j no_candidate) (candidate_valid s a j no_candidate h l);
      delay = (candidate_floats s a j).1;
    })
    (λ (l : length (candidates_of s a) ≤ j). subst ActionFits (sym (past_end (candidates_of s a) j no_candidate l)) missing_fits)
    (below_or_not j (length (candidates_of s a)))

-- ---- trees
abbrev AllFit : List Node → Type 0
AllFit nodes = (i : ℕ) → ActionFits (action_in (node_at_of nodes i))

set_fits : (xs : List Node) (k : ℕ) (x : Node) → AllFit xs → ActionFits (action_in x) → AllFit (set xs k x)
set_fits [] k x h f i = h i
set_fits (y ∷ ys) zero x h f zero = f
set_fits (y ∷ ys) zero x h f (suc i) = h (suc i)
set_fits (y ∷ ys) (suc k) x h f zero = h zero
set_fits (y ∷ ys) (suc k) x h f (suc i) = set_fits ys k x (λ j. h (suc j)) f i

fill_fits : (xs : List Node) (at n : ℕ) (x : Node) → AllFit xs → ActionFits (action_in x) → AllFit (fill xs at n x)
unfolding fill
fill_fits xs at zero x h f = h
fill_fits xs at (suc n) x h f = set_fits (fill xs at n x) (at + n) x (fill_fits xs at n x h f) f

replicate_fits : (n : ℕ) (x : Node) → ActionFits (action_in x) → AllFit (replicate n x)
replicate_fits zero x f i = missing_fits
replicate_fits (suc n) x f zero = f
replicate_fits (suc n) x f (suc i) = replicate_fits n x f i

unmarked_fits : (x : Node) → ActionFits (action_in x) → ActionFits (action_in (unmarked_node x))
unfolding unmarked_node
unmarked_fits x f = go (eqb x.children 0)
  where
    go : (b : Bool) → ActionFits (action_in (cond b (node_holding (action_in x) x.children false) x))
    go true = f
    go false = f

cleared_fits : (xs : List Node) → AllFit xs → AllFit (map unmarked_node xs)
cleared_fits [] h i = h i
cleared_fits (x ∷ xs) h zero = unmarked_fits x (h zero)
cleared_fits (x ∷ xs) h (suc i) = cleared_fits xs (λ j. h (suc j)) i

module _ (t : RuleTree) (f : TreeFits t) where
  node_fits : AllFit t.nodes
  node_fits i =
      ⊎_elim (λ (l : i < 513). f.actions i l)
      (λ (l : 513 ≤ i). subst (λ (x : Node). ActionFits (action_in x)) (sym (past_end t.nodes i no_node (omega (arith, f.full)))) missing_fits)
      (below_or_not i 513)

  pub split_fits : (i : ℕ) → TreeFits (split_at_of t i)
  unfolding split_at_of
  split_fits i =
      let first = 8 * t.splits + 1 in
      record {
        full = split_length t i ∙ f.full;
        ends = f.ends;
        actions = λ j l.
            fill_fits (set t.nodes i (linked_to (node_at_of t.nodes i) first)) first 8 (leaf_with (action_in (node_at_of t.nodes i)))
            (set_fits t.nodes i (linked_to (node_at_of t.nodes i) first) node_fits (node_fits i)) (node_fits i) j;
      }

  pub act_fits : (i : ℕ) (a : Action) → ActionFits a → TreeFits (with_action t i a)
  act_fits i a g =
      record { full = action_length t i a ∙ f.full; ends = f.ends; actions = λ j l. set_fits t.nodes i _ node_fits g j }

  pub mark_fits : (i : ℕ) → TreeFits (with_mark t i)
  mark_fits i = record { full = mark_length t i ∙ f.full; ends = f.ends; actions = λ j l. set_fits t.nodes i _ node_fits (node_fits i) j }

  pub clear_fits : TreeFits (without_marks t)
  clear_fits = record { full = clear_length t ∙ f.full; ends = f.ends; actions = λ j l. cleared_fits t.nodes node_fits j }

pub fresh_fits : (e : Point) (a : Action) → PointFits e → ActionFits a → TreeFits (fresh_tree e a)
fresh_fits e a p g =
    record {
      full = fresh_length e a;
      ends = p;
      actions = λ j l. set_fits (replicate 513 blank_node) 0 _ (replicate_fits 513 blank_node plain_fits) g j;
    }
