-- 01, "the plain trainer": one step for each phase, over a trainer that is accepted.
use Rattle.std.specs.Prelude.{Bool, true, false, not, ◌&&◌, ◌||◌, cond, List, [], ◌∷◌, ℕ, ◌+◌, length, get_or, eqb, ltb, leb, Float, Option, Some, None, unwrap_or, Result, Ok}
use Rattle.std.specs.Float.Ieee.{le, lt}
use Rattle.refusal.specs.declared.Refusal.{Refusal}
use Rattle.refusal.specs.declared.Refusal.TheVariants.{FullTree}
use Rattle.refusal.specs.Guards.{Check, check, checked}
use Rattle.remy.specs.Cube as cube
use Rattle.rule_tree.specs.declared.RuleTree.{RuleTree}
use Rattle.rule_tree.specs.Lists.{total}
use Rattle.rule_tree.specs.Nodes.{node_at_of, action_in, most_splits}
use Rattle.rule_tree.specs.Counts.{used_in, most_used}
use Rattle.rule_tree.specs.Change.{with_action, with_mark, without_marks, split_at_of}
use Rattle.trainer.specs.declared.settings.Settings.{Settings}
use Rattle.trainer.specs.declared.Trainer.{Trainer}
use Rattle.trainer.specs.Candidates.{candidates_of, no_candidate}
use Rattle.trainer.specs.State.{none, stand, at_leaf_of, trying, leaf_action}

-- "Begin stage i, round 0: above rule_splits phase 6; i = 0 begin round; else phase 1", for an i above 0
unfoldable pub begin_stage : Settings → RuleTree → ℕ → Trainer
begin_stage s t i = cond (ltb s.rule_splits i) (stand s t 6 i 0) (stand s t 1 i 0)

-- "Begin round: phase 3 if round < rounds, else begin stage i+1"
unfoldable pub begin_round : Settings → RuleTree → ℕ → ℕ → Trainer
unfolding begin_stage
begin_round s t i round = cond (ltb round s.optimization_rounds_per_split) (stand s t 3 i round) (begin_stage s t (i + 1))

-- the most used leaf, of all or of the unmarked
abbrev pub most_used_in : RuleTree → List ℕ → Bool → Option ℕ
most_used_in t xs unmarked = most_used t.nodes xs unmarked (length xs)

abbrev pub chosen_leaf : Option ℕ → ℕ
chosen_leaf o = unwrap_or o 0

-- "split the most used"
abbrev pub split_most_used : RuleTree → List ℕ → RuleTree
split_most_used t xs = split_at_of t (chosen_leaf (most_used_in t xs false))

-- 20: the tree has no room for a split
abbrev pub room_order : Trainer → List Check
room_order t = check (ltb t.tree.splits most_splits) FullTree ∷ []

-- "1, counts: split the most used; if drill is on and at most one entry is above 0, phase 2, else begin round"; 20
unfoldable pub phase1 : Trainer → List ℕ → Result Trainer Refusal
unfolding begin_round
phase1 t xs =
    let tree = split_most_used t.tree xs in
    checked (room_order t)
    (Ok (cond (t.settings.drill_down && leb (used_in xs) 1) (stand t.settings tree 2 t.stage 0) (begin_round t.settings tree t.stage 0)))

-- "2, counts: more than one above 0, begin round; else split the most used, stay"; 20
unfoldable pub phase2 : Trainer → List ℕ → Result Trainer Refusal
unfolding begin_round
phase2 t xs =
    cond (ltb 1 (used_in xs)) (Ok (begin_round t.settings t.tree t.stage 0))
    (checked (room_order t) (Ok (stand t.settings (split_most_used t.tree xs) 2 t.stage 0)))

-- "clear marks, round+1, begin round"
abbrev pub next_round : Trainer → Trainer
next_round t = begin_round t.settings (without_marks t.tree) t.stage (t.round + 1)

-- "None, or its count is 0 and the total isn't: clear marks, round+1, begin round. Else phase 4"
unfoldable pub tune_next : Trainer → List ℕ → Option ℕ → Trainer
unfolding begin_round
tune_next t xs (Some i) =
    cond (eqb (get_or xs i 0) 0 && not (eqb (total xs) 0)) (next_round t) (at_leaf_of t.settings t.tree t.stage t.round i)
tune_next t xs None = next_round t

-- "3, counts: most used unmarked leaf"
abbrev pub phase3 : Trainer → List ℕ → Trainer
phase3 t xs = tune_next t xs (most_used_in t.tree xs true)

-- "6, counts: phase 7, done"
abbrev pub phase6 : Trainer → Trainer
phase6 t = stand t.settings t.tree 7 t.stage 0

-- "mark, phase 3"
abbrev pub marked : Trainer → RuleTree → Trainer
marked t tree = stand t.settings (with_mark tree t.leaf) 3 t.stage t.round

-- "Phase 5 from k = 0; no candidates: mark, phase 3"
unfoldable pub try_from : Trainer → RuleTree → Float → Trainer
try_from t tree best =
    cond (eqb (length (candidates_of t.settings (action_in (node_at_of tree.nodes t.leaf)))) 0) (marked t tree)
    (trying t.settings tree t.stage t.round t.leaf best 0 none cube.zero)

-- "4, score: of that leaf's own action; it is best"
abbrev pub phase4 : Trainer → Float → Trainer
phase4 t x = try_from t t.tree x

-- "kept if above best and no lower than the one kept"
abbrev pub keeps : Trainer → Float → Bool
keeps t x = lt t.best x && (eqb t.kept none || le t.kept_score x)

-- "one kept becomes the action, its score best, new candidates from 0 (none: mark, phase 3); none kept: mark, phase 3"
unfoldable pub after_last : Trainer → ℕ → Float → Trainer
unfolding try_from
after_last t kept score =
    cond (eqb kept none) (marked t t.tree)
    (try_from t (with_action t.tree t.leaf (get_or (candidates_of t.settings (leaf_action t)) kept no_candidate)) score)

-- "5, score of candidate k: kept if above best and no lower than the one kept. After the last: .."
unfoldable pub tried : Trainer → ℕ → Float → Trainer
unfolding after_last
tried t kept score =
    cond (ltb (t.k + 1) (length (candidates_of t.settings (leaf_action t))))
    (trying t.settings t.tree t.stage t.round t.leaf t.best (t.k + 1) kept score) (after_last t kept score)

unfoldable pub phase5 : Trainer → Float → Trainer
unfolding tried
phase5 t x = cond (keeps t x) (tried t t.k x) (tried t t.kept t.kept_score)
