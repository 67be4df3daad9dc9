-- The trainer that a small state stands for takes the same steps as the small state. Assumes nothing.
use mathlib.Core.Path.{◌≡◌, refl, sym, ap, ◌∙◌}
use mathlib.Core.Bool.{Bool, true, false, cond}
use Prim.Native.Nat.{ℕ, ◌+◌, ◌<◌}
use borrow.Author.Tests.{eq-eqb, ne_eqb}
use lib.Dec.{eqb, ltb}
use lib.ListN.{length, get_or, set}
use lib.Seq.{set-set, set-get_or}
use lib.Ieee.{Float}
use Rattle.remy.specs.declared.action.Action.{Action}
use Rattle.rule_tree.specs.declared.Node.{Node}
use Rattle.rule_tree.specs.declared.RuleTree.{RuleTree}
use Rattle.rule_tree.specs.Nodes.{no_node, node_at_of, action_in, node_holding}
use Rattle.rule_tree.specs.Change.{with_nodes, with_action, with_mark}
use Rattle.rule_tree.proofs.Changing.{action_at_lem}
use Rattle.trainer.specs.declared.Trainer.{Trainer}
use Rattle.trainer.specs.Candidates.{candidates_of, no_candidate}
use Rattle.trainer.specs.State.{none, stand, trying, leaf_action}
use Rattle.trainer.specs.Phases.{marked, try_from, keeps, after_last, tried, phase5}
use Rattle.trainer.specs.Calls.{score_step}
use Rattle.trainer.specs.Fields.{keeps_in, marked_in}
use Rattle.host_answers.specs.declared.inner.steps.Tuned.{Tuned}
use Rattle.host_answers.specs.Parts.{begin_of, next_of, finished_of, last_of, tried_of, step_of, tree_with, trainer_of}

-- ---- another action at the same leaf
module _ (t : RuleTree) (i : ℕ) where
  pub action_same : with_action t i (action_in (node_at_of t.nodes i)) ≡ t
  action_same = ap (with_nodes t) (set-get_or t.nodes i no_node)

  module _ (l : i < length t.nodes) (a : Action) where
    pub action_is : action_in (node_at_of (with_action t i a).nodes i) ≡ a
    action_is = ap action_in (action_at_lem t i a l)

    pub action_twice : (b : Action) → with_action (with_action t i a) i b ≡ with_action t i b
    action_twice b =
        ap (λ (x : Node). with_nodes t (set (with_action t i a).nodes i (node_holding b x.children x.optimized))) (action_at_lem t i a l)
        ∙ ap (with_nodes t) (set-set t.nodes i _ _)

module _ (t : Trainer) where
  pub finished_is : (u : Tuned) → u.count ≡ 0 → marked_in t.settings (tree_with t u.action) t.stage t.round t.leaf ≡ trainer_of t u
  unfolding trainer_of
  finished_is u e = rw (eq-eqb u.count 0 e)

  abbrev pub trying_of : Tuned → Trainer
  trying_of u = trying t.settings (tree_with t u.action) t.stage t.round t.leaf u.best u.k u.kept u.score

  pub trying_is : (u : Tuned) → (u.count ≡ 0 → ⊥) → trying_of u ≡ trainer_of t u
  unfolding trainer_of
  trying_is u n = rw (ne_eqb u.count 0 n)

  -- an action whose candidates are tried from the first on
  pub from_is : (v : Trainer) (a : Action) (best : Float) → v.settings ≡ t.settings → v.stage ≡ t.stage → v.round ≡ t.round → v.leaf ≡ t.leaf
      → t.leaf < length t.tree.nodes → try_from v (tree_with t a) best ≡ trainer_of t (begin_of t.settings a best)
  unfolding try_from trainer_of
  from_is v a best e f g h l = rw (e, f, g, h, action_is t.tree t.leaf l a)

  module _ (l : t.leaf < length t.tree.nodes) (u : Tuned) (some : u.count ≡ 0 → ⊥) (counted : u.count ≡ length (candidates_of t.settings u.action)) where
    own : leaf_action (trying_of u) ≡ u.action
    own = action_is t.tree t.leaf l u.action

    last_same : (kept : ℕ) (score : Float) → after_last (trying_of u) kept score ≡ trainer_of t (last_of t.settings u kept score)
    unfolding after_last last_of
    last_same kept score = go (eqb kept none)
      where
        go : (b : Bool)
            → cond b (marked (trying_of u) (tree_with t u.action))
            (try_from (trying_of u) (with_action (tree_with t u.action) t.leaf (get_or (candidates_of t.settings (leaf_action (trying_of u))) kept no_candidate)) score)
            ≡ trainer_of t (cond b (finished_of u kept score) (begin_of t.settings (get_or (candidates_of t.settings u.action) kept no_candidate) score))
        go true = finished_is (finished_of u kept score) refl
        go false =
            ap (λ (a : Action). try_from (trying_of u) (with_action (tree_with t u.action) t.leaf (get_or (candidates_of t.settings a) kept no_candidate)) score) own
            ∙ ap (λ (x : RuleTree). try_from (trying_of u) x score) (action_twice t.tree t.leaf l u.action (get_or (candidates_of t.settings u.action) kept no_candidate))
            ∙ from_is (trying_of u) (get_or (candidates_of t.settings u.action) kept no_candidate) score refl refl refl refl l

    tried_same : (kept : ℕ) (score : Float) → tried (trying_of u) kept score ≡ trainer_of t (tried_of t.settings u kept score)
    unfolding tried tried_of
    tried_same kept score =
        ap (λ (n : ℕ). cond (ltb (u.k + 1) n) (trying_of (next_of u (u.k + 1) kept score)) (after_last (trying_of u) kept score))
        (ap (λ (a : Action). length (candidates_of t.settings a)) own ∙ sym counted)
        ∙ go (ltb (u.k + 1) u.count)
      where
        go : (b : Bool)
            → cond b (trying_of (next_of u (u.k + 1) kept score)) (after_last (trying_of u) kept score)
            ≡ trainer_of t (cond b (next_of u (u.k + 1) kept score) (last_of t.settings u kept score))
        go true = trying_is (next_of u (u.k + 1) kept score) some
        go false = last_same kept score

    five_same : (x : Float) → phase5 (trying_of u) x ≡ trainer_of t (step_of t.settings u x)
    unfolding phase5 step_of keeps_in
    five_same x = go (keeps (trying_of u) x)
      where
        go : (b : Bool)
            → cond b (tried (trying_of u) u.k x) (tried (trying_of u) u.kept u.score)
            ≡ trainer_of t (cond b (tried_of t.settings u u.k x) (tried_of t.settings u u.kept u.score))
        go true = tried_same u.k x
        go false = tried_same u.kept u.score

    -- a score does to the trainer what it does to the small state
    pub step_same : (x : Float) → score_step (trying_of u) x ≡ trainer_of t (step_of t.settings u x)
    unfolding score_step
    step_same x = five_same x

-- ---- what the code makes of it
module _ (t : Trainer) (u : Tuned) {tree : RuleTree} (e : tree ≡ tree_with t u.action) where
  pub built_finished : {m : RuleTree} {r : Trainer} → u.count ≡ 0 → m ≡ with_mark tree t.leaf → r ≡ stand t.settings m 3 t.stage t.round → r ≡ trainer_of t u
  built_finished z f q =
      q ∙ ap (λ (x : RuleTree). stand t.settings x 3 t.stage t.round) (f ∙ ap (λ (x : RuleTree). with_mark x t.leaf) e) ∙ finished_is t u z

  pub built_trying : (u.count ≡ 0 → ⊥) → trying t.settings tree t.stage t.round t.leaf u.best u.k u.kept u.score ≡ trainer_of t u
  built_trying n = ap (λ (x : RuleTree). trying t.settings x t.stage t.round t.leaf u.best u.k u.kept u.score) e ∙ trying_is t u n
