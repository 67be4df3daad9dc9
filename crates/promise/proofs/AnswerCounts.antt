-- An answer with counts does to the trainer what it does to the plain trainer. Assumes nothing.
use mathlib.Core.Path.{◌≡◌, refl, sym, ap, subst⁻¹, ◌∙◌}
use mathlib.Core.Bool.{Bool, true, false, not, ◌&&◌, cond}
use mathlib.Core.List.{List}
use Prim.Native.Nat.{ℕ, ◌+◌, ◌<◌}
use borrow.Author.Tests.{ltb-true}
use lib.Dec.{eqb, ltb, leb}
use lib.ListN.{length, get_or}
use Rattle.std.specs.Prelude.{Option, Some, None, Result, Ok, Err}
use Rattle.refusal.specs.declared.Refusal.{Refusal}
use Rattle.refusal.specs.declared.Refusal.TheVariants.{BadCounts, FullTree, NotAsked}
use Rattle.refusal.specs.Numbers.{number_of}
use Rattle.refusal.proofs.Guards.{both}
use Rattle.rule_tree.specs.declared.RuleTree.{RuleTree}
use Rattle.rule_tree.specs.Counts.{used_in, counts_hold}
use Rattle.rule_tree.specs.Change.{split_at_of}
use Rattle.trainer.specs.declared.settings.Settings.{Settings}
use Rattle.trainer.specs.declared.Trainer.{Trainer}
use Rattle.trainer.specs.State.{stand, at_leaf_of, accepted_of}
use Rattle.trainer.specs.Phases as layer
use Rattle.trainer.specs.Calls.{counts_step_of, wants_counts, answer_counts_of}
use Rattle.promise.specs.PlainTree.{Tree, leaves, unmarked_leaves, most_used, used, sum, counts_taken, split, clear_marks}
use Rattle.promise.specs.PlainTrainer.{State, Phase, phase1, phase2, phase3, phase4, phase5, phase6, phase7, Outcome, at, begin_round, become, refuse, split_chosen, answer1, answer2, answer3, counted}
use Rattle.promise.specs.Demand3.{after_call}
use Rattle.promise.proofs.Embed.{embed_tree, ValidTree}
use Rattle.promise.proofs.TreeSteps.{split_embeds}
use Rattle.promise.proofs.TreeClears.{clear_embeds}
use Rattle.promise.proofs.Counted.{sum_total, used_is, counts_embed, counts_length}
use Rattle.promise.proofs.MostUsed.{most_used_embeds, most_used_unmarked_embeds, chosen_leaf_lem, chosen_some}
use Rattle.promise.proofs.Begins.{round_embeds}
use Rattle.promise.proofs.Accepted.{accepted_embeds}
use Rattle.promise.proofs.States.{embed_in, embed, Embeds, answer_step, plain_step, ValidPhase, ValidState}

-- ---- a call on an accepted trainer
answer-is :
    (t : Trainer) (xs : List ℕ) → accepted_of t ≡ true
    → answer_counts_of t xs ≡ cond (wants_counts t.phase) (cond (counts_hold t.tree xs) (counts_step_of t xs) (Err BadCounts)) (Err NotAsked)
unfolding answer_counts_of
answer-is t xs a = rw a

-- ---- the split of the most used leaf
module _ (t : Tree) (v : ValidTree t) (xs : List ℕ) (n : counts_taken t xs ≡ true) (b : ℕ) (e : most_used xs (leaves t) ≡ Some b) where
  pub split_chosen_lem : length t.splits < 64 → layer.split_most_used (embed_tree t) xs ≡ embed_tree (split t b)
  split_chosen_lem r =
      ap (λ (c : Option ℕ). split_at_of (embed_tree t) (layer.chosen_leaf c)) (most_used_embeds t v xs (counts_length t v xs n) ∙ e)
      ∙ sym (split_embeds t b v (chosen_leaf_lem t xs b e) r)

-- ---- 4
counts_or_4 :
    (st : State) → ValidTree st.tree → (xs : List ℕ) (a : Result Trainer Refusal) (o : Outcome)
    → (counts_taken st.tree xs ≡ true → answer_step st a ≡ plain_step o)
    → answer_step st (cond (counts_hold (embed_tree st.tree) xs) a (Err BadCounts)) ≡ plain_step (cond (counts_taken st.tree xs) o (refuse 4 st))
unfolding after_call number_of
counts_or_4 st v xs a o h =
    ap (λ (z : Bool). answer_step st (cond z a (Err BadCounts))) (sym (counts_embed st.tree v xs)) ∙ go (counts_taken st.tree xs) refl
  where
    go : (z : Bool) → counts_taken st.tree xs ≡ z → answer_step st (cond z a (Err BadCounts)) ≡ plain_step (cond z o (refuse 4 st))
    go true e = h e
    go false e = refl

-- ---- 20
split_or_20 :
    (st : State) → ValidTree st.tree → (xs : List ℕ) → counts_taken st.tree xs ≡ true → (f : RuleTree → Trainer) (then : Tree → State)
    → ((u : Tree) → f (embed_tree u) ≡ embed (then u))
    → answer_step st (cond (ltb (length st.tree.splits) 64) (Ok (f (layer.split_most_used (embed_tree st.tree) xs))) (Err FullTree))
    ≡ plain_step (split_chosen st (most_used xs (leaves st.tree)) then)
unfolding split_chosen after_call number_of
split_or_20 st v xs n f then h = go (most_used xs (leaves st.tree)) refl
  where
    room :
        (b : ℕ) → most_used xs (leaves st.tree) ≡ Some b → (z : Bool) → ltb (length st.tree.splits) 64 ≡ z
        → answer_step st (cond z (Ok (f (layer.split_most_used (embed_tree st.tree) xs))) (Err FullTree))
        ≡ plain_step (cond z (become (then (split st.tree b))) (refuse 20 st))
    room b e true p =
        ap (λ (t : Trainer). answer_step st (Ok t))
        (ap f (split_chosen_lem st.tree v xs n b e (ltb-true (length st.tree.splits) 64 p)) ∙ h (split st.tree b))
    room b e false p = refl

    go :
        (c : Option ℕ) → most_used xs (leaves st.tree) ≡ c
        → answer_step st (cond (ltb (length st.tree.splits) 64) (Ok (f (layer.split_most_used (embed_tree st.tree) xs))) (Err FullTree))
        ≡ plain_step (split_chosen st c then)
    go None e = absurd (chosen_some st.tree xs v e)
    go (Some b) e = room b e (ltb (length st.tree.splits) 64) refl

-- ---- phases 1, 2, 3 and 6, for counts that are taken
module _ (s : Settings) (t : Tree) (v : ValidTree t) (i : ℕ) (xs : List ℕ) (n : counts_taken t xs ≡ true) where
  phase1_embeds : answer_step (at s t i 0 phase1) (layer.phase1 (stand s (embed_tree t) 1 i 0) xs) ≡ plain_step (answer1 (at s t i 0 phase1) xs)
  unfolding layer.phase1
  phase1_embeds =
      split_or_20 (at s t i 0 phase1) v xs n
      (λ q. cond (s.drill_down && leb (used_in xs) 1) (stand s q 2 i 0) (layer.begin_round s q i 0))
      (λ u. cond (s.drill_down && leb (used xs) 1) (at s u i 0 phase2) (begin_round s u i 0))
      (λ u. ap (λ (m : ℕ). cond (s.drill_down && leb m 1) (stand s (embed_tree u) 2 i 0) (layer.begin_round s (embed_tree u) i 0)) (sym (used_is xs))
      ∙ both Embeds (s.drill_down && leb (used xs) 1) {m = at s u i 0 phase2} refl (round_embeds s u i 0))

  phase2_embeds : answer_step (at s t i 0 phase2) (layer.phase2 (stand s (embed_tree t) 2 i 0) xs) ≡ plain_step (answer2 (at s t i 0 phase2) xs)
  unfolding layer.phase2 after_call
  phase2_embeds =
      let st = at s t i 0 phase2 in
      let more = Ok (layer.begin_round s (embed_tree t) i 0) in
      let less = cond (ltb (length t.splits) 64) (Ok (stand s (layer.split_most_used (embed_tree t) xs) 2 i 0)) (Err FullTree) in
      ap (λ (m : ℕ). answer_step st (cond (ltb 1 m) more less)) (sym (used_is xs))
      ∙ both (λ (r : Result Trainer Refusal) (o : Outcome). answer_step st r ≡ plain_step o) (ltb 1 (used xs)) {m = become (begin_round s t i 0)}
      (ap (λ (u : Trainer). answer_step st (Ok u)) (round_embeds s t i 0))
      (split_or_20 st v xs n (λ q. stand s q 2 i 0) (λ u. at s u i 0 phase2) (λ u. refl))

module _ (s : Settings) (t : Tree) (i r : ℕ) (xs : List ℕ) where
  next_embeds : layer.next_round (stand s (embed_tree t) 3 i r) ≡ embed (begin_round s (clear_marks t) i (r + 1))
  next_embeds = ap (λ (q : RuleTree). layer.begin_round s q i (r + 1)) (sym (clear_embeds t)) ∙ round_embeds s (clear_marks t) i (r + 1)

  tune_embeds : (c : Option ℕ) → layer.tune_next (stand s (embed_tree t) 3 i r) xs c ≡ embed (answer3 (at s t i r phase3) xs c)
  unfolding layer.tune_next answer3
  tune_embeds None = next_embeds
  tune_embeds (Some b) =
      ap (λ (m : ℕ). cond (eqb (get_or xs b 0) 0 && not (eqb m 0)) (layer.next_round (stand s (embed_tree t) 3 i r)) (at_leaf_of s (embed_tree t) i r b)) (sym (sum_total xs))
      ∙ both Embeds (eqb (get_or xs b 0) 0 && not (eqb (sum xs) 0)) {k = at s t i r (phase4 b)} next_embeds refl

  phase3-embeds :
      ValidTree t → counts_taken t xs ≡ true
      → layer.phase3 (stand s (embed_tree t) 3 i r) xs ≡ embed (answer3 (at s t i r phase3) xs (most_used xs (unmarked_leaves t)))
  phase3-embeds v n =
      ap (layer.tune_next (stand s (embed_tree t) 3 i r) xs) (most_used_unmarked_embeds t v xs (counts_length t v xs n))
      ∙ tune_embeds (most_used xs (unmarked_leaves t))

-- ---- the call
module _ (s : Settings) (t : Tree) (v : ValidTree t) (i : ℕ) (xs : List ℕ) where
  abbrev AnswerEmbeds : ℕ → Phase → Type 0
  AnswerEmbeds r p =
      accepted_of (embed_in s (embed_tree t) i r p) ≡ true
      → answer_step (at s t i r p) (answer_counts_of (embed_in s (embed_tree t) i r p) xs) ≡ plain_step (counted (at s t i r p) xs p)

  counts-in : (r : ℕ) (p : Phase) → ValidPhase s t i r p → AnswerEmbeds r p
  unfolding counts_step_of counted after_call number_of
  counts-in r phase1 h a = subst⁻¹ (λ (m : ℕ). AnswerEmbeds m phase1) h.round at_0 a
    where
      st : State
      st = at s t i 0 phase1

      at_0 : AnswerEmbeds 0 phase1
      at_0 a =
          ap (answer_step st) (answer-is (embed st) xs a)
          ∙ counts_or_4 st v xs (counts_step_of (embed st) xs) (answer1 st xs)
          (λ n. phase1_embeds s t v i xs n)
  counts-in r phase2 h a = subst⁻¹ (λ (m : ℕ). AnswerEmbeds m phase2) h.round at_0 a
    where
      st : State
      st = at s t i 0 phase2

      at_0 : AnswerEmbeds 0 phase2
      at_0 a =
          ap (answer_step st) (answer-is (embed st) xs a)
          ∙ counts_or_4 st v xs (counts_step_of (embed st) xs) (answer2 st xs)
          (λ n. phase2_embeds s t v i xs n)
  counts-in r phase3 h a =
      let st = at s t i r phase3 in
      ap (answer_step st) (answer-is (embed st) xs a)
      ∙ counts_or_4 st v xs (counts_step_of (embed st) xs) (become (answer3 st xs (most_used xs (unmarked_leaves t))))
      (λ n. ap (λ (u : Trainer). answer_step st (Ok u)) (phase3-embeds s t i r xs v n))
  counts-in r (phase4 l) h a =
      let st = at s t i r (phase4 l) in ap (answer_step st) (answer-is (embed st) xs a)
  counts-in r (phase5 l best k kept) h a =
      let st = at s t i r (phase5 l best k kept) in
      ap (answer_step st) (answer-is (embed st) xs a)
  counts-in r phase6 h a =
      let st = at s t i r phase6 in
      ap (answer_step st) (answer-is (embed st) xs a)
      ∙ counts_or_4 st v xs (counts_step_of (embed st) xs) (become (at s t i r phase7))
      (λ n. ap (λ (m : ℕ). answer_step st (Ok (stand s (embed_tree t) 7 i m))) (sym h.round))
  counts-in r phase7 h a =
      let st = at s t i r phase7 in ap (answer_step st) (answer-is (embed st) xs a)

pub answer_counts_embeds : (st : State) → ValidState st → (xs : List ℕ) → answer_step st (answer_counts_of (embed st) xs) ≡ plain_step (counted st xs st.phase)
answer_counts_embeds st v xs = counts-in st.settings st.tree v.tree st.stage xs st.round st.phase v.phase (accepted_embeds st v)
