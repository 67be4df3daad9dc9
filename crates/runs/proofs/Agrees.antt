-- Demand 3 as words: for every script, what the calls answer is what the plain trainer and the plain sender answer. Assumes nothing.
use mathlib.Core.Path.{◌≡◌, refl, sym, ap, ◌∙◌}
use mathlib.Core.Bool.{Bool, true, false, ◌&&◌, cond}
use mathlib.Core.List.{List, [], ◌∷◌, ◌++◌}
use Prim.Native.Nat.{ℕ, ◌≤◌}
use native.Mathlib.Omega.{arith}
use borrow.Author.Tests.{le-leb}
use lib.ListN.{length, take, drop, replicate, length-replicate}
use lib.Seq.{take_at}
use lib.Ieee.{Float}
use Rattle.rule_tree_laws.proofs.Partition.{looked_up}
use Rattle.std.specs.Prelude.{Option, Some, None, Result, Ok, Err}
use Rattle.refusal.specs.declared.Refusal.{Refusal}
use Rattle.refusal.specs.declared.Refusal.TheVariants.{BadSettings, ShortBuffer}
use Rattle.refusal.specs.Numbers.{number_of}
use Rattle.refusal.specs.Guards.{and_then}
use Rattle.remy.specs.declared.action.Action.{Action}
use Rattle.remy.specs.declared.point.Point.{Point}
use Rattle.rule_tree.specs.declared.RuleTree.{RuleTree}
use Rattle.rule_tree.specs.Calls.{lookup_of}
use Rattle.trainer.specs.declared.settings.Settings.{Settings}
use Rattle.trainer.specs.declared.Trainer.{Trainer}
use Rattle.trainer.specs.Settings.{settings_hold}
use Rattle.trainer.specs.Calls.{start_of, question_of}
use Rattle.record.specs.Calls.{save_of, buffer_after}
use Rattle.sender.specs.declared.RepeatMode.{RepeatMode}
use Rattle.sender.specs.declared.Sender.{Sender}
use Rattle.sender.specs.Sender.{fresh_sender, new_of}
use Rattle.promise.specs.PlainSettings.{mode_taken, fresh_start}
use Rattle.promise.specs.PlainTree.{Tree}
use Rattle.promise.specs.PlainTrainer.{State, Call, Asked, wants_counts, wants_score, finished, record_bytes, step, start, question}
use Rattle.promise.specs.PlainSender.{PlainSender, state_of, leaf_at, react}
use Rattle.promise.specs.Values.{Every, FitSettings, FitCall}
use Rattle.promise.specs.Demand3.{Step, step_of, shown_as}
use Rattle.sender.specs.SenderCall as runs
use Rattle.promise.specs.SenderRuns.{SenderStep, sender_step, plain_start}
use Rattle.promise.proofs.PlainSettings.{settings_same, mode_same, fresh_same}
use Rattle.promise.proofs.Embed.{embed_tree, ValidTree}
use Rattle.promise.proofs.States.{embed, ValidState}
use Rattle.promise.proofs.Accepted.{tree_of}
use Rattle.promise.proofs.Begins.{start_valid}
use Rattle.promise.proofs.Questions.{question_embeds}
use Rattle.promise.proofs.StepsKeep.{step_valid}
use Rattle.promise.proofs.Fitting.{FitState, point-fits, step_fits, start_fits}
use Rattle.promise.proofs.Reload.{save_embeds, saved_embeds, record_length}
use Rattle.promise.proofs.Runs.{step_embeds, starts_alike}
use Rattle.promise.proofs.TreeGrown.{grown_embeds}
use Rattle.promise.proofs.SenderLeaf.{looked_at, found_embeds}
use Rattle.promise.proofs.SenderRender.{start_renders}
use Rattle.promise.proofs.SenderRun.{AckOver, call_step}
use Rattle.runs.specs.Script.{settings, fresh, mode, handed_in, Item, train, ack, send, tick, lookup, calls_of}
use Rattle.runs.specs.SenderWords.{sender_words}
use Rattle.runs.specs.Compared.{asked_words, outcome_words, reaction_words, found_words, compared_from, sender_taken, first_sender, compared_with, compared_of}
use Rattle.runs.specs.declared.State.{State as Begun}
use Rattle.runs.specs.Ran.{question_words, step_words, move_words, looked_words, end_words, ran_from, made_of, begun_of, ran_begun, ran_of}
use Rattle.runs.proofs.WordsFit.{settings_fit_lem, FitItem, calls_fit}

-- ---- the question
asked_same : (a : Asked) → question_words (Ok (shown_as a)) ≡ asked_words a
unfolding question_words shown_as asked_words
asked_same (wants_counts x) = refl
asked_same (wants_score i a x) = refl
asked_same (finished x) = refl

question_agrees : (st : State) → ValidState st → question_words (question_of (embed st)) ≡ asked_words (question st)
question_agrees st v = ap question_words (question_embeds st v) ∙ asked_same (question st)

-- ---- a lookup
found_same : (t : Tree) (c : Option ℕ) → looked_words (Ok (looked_at t c)) ≡ found_words t c
unfolding looked_words found_words
found_same t None = refl
found_same t (Some i) = refl

tree_embeds : (st : State) → (embed st).tree ≡ embed_tree st.tree
tree_embeds st = tree_of st.settings (embed_tree st.tree) st.stage st.round st.phase

lookup_agrees : (st : State) → ValidState st → (p : Point) → looked_words (lookup_of (embed st).tree p) ≡ found_words st.tree (leaf_at st.tree p)
lookup_agrees st v p =
    ap (λ (t : RuleTree). looked_words (lookup_of t p)) (tree_embeds st)
    ∙ ap looked_words (looked_up (embed_tree st.tree) p (grown_embeds st.tree v.tree) ∙ ap Ok (found_embeds st.tree v.tree p))
    ∙ found_same st.tree (leaf_at st.tree p)

-- ---- the record at the end: 172 + 170 s bytes for at most 64 splits, which the buffer holds
abbrev buffer : List ℕ
buffer = replicate 16388 0

end_size : (t : Trainer) (n : ℕ) → end_words t (Ok n) ≡ n ∷ take n (buffer_after t buffer (Ok n))
unfolding end_words
end_size t n = refl

module _ (st : State) (v : ValidState st) (f : FitState st) where
  record_small : length (record_bytes st) ≤ length buffer
  record_small = omega (arith, record_length st v f, v.tree.few, length-replicate {A = ℕ} 16388 0)

  saves_whole : save_of (embed st) buffer ≡ Ok (length (record_bytes st))
  saves_whole =
      save_embeds st v buffer
      ∙ ap (λ (b : Bool). cond b (Ok (length (record_bytes st))) (Err ShortBuffer)) (le-leb (length (record_bytes st)) (length buffer) record_small)

  end_agrees : end_words (embed st) (save_of (embed st) buffer) ≡ length (record_bytes st) ∷ record_bytes st
  end_agrees =
      let n = length (record_bytes st) in
      ap (end_words (embed st)) saves_whole
      ∙ end_size (embed st) n
      ∙ ap (λ (bs : List ℕ). n ∷ take n bs) (saved_embeds st v buffer)
      ∙ ap (λ (bs : List ℕ). n ∷ bs) (take_at (record_bytes st) (drop n buffer) n refl)

-- ---- one call, and then the rest
module _ (is : List Item) (st : State) (s : PlainSender) (v : ValidState st) (f : FitState st) where
  train-agrees :
      (c : Call) → FitCall c → ran_from (embed (step st c).state) (state_of s) is ≡ compared_from (step st c).state s is
      → step_words (step_of (embed st) c) ++ ran_from (step_of (embed st) c).trainer (state_of s) is
      ≡ outcome_words (step st c) ++ compared_from (step st c).state s is
  train-agrees c h e =
      let o = step st c in
      ap (λ (x : Step). step_words x ++ ran_from x.trainer (state_of s) is) (step_embeds st v f c)
      ∙ ap (λ (ws : List ℕ). (o.refused ∷ (length o.saved ∷ (o.saved ++ ws))) ++ ran_from (embed o.state) (state_of s) is)
      (question_agrees o.state (step_valid st v c h))
      ∙ ap (λ (ws : List ℕ). outcome_words o ++ ws) e

  sender_agrees :
      (c : runs.SenderCall Tree) → AckOver ValidTree c → ran_from (embed st) (state_of (react s c).sender) is ≡ compared_from st (react s c).sender is
      → move_words (sender_step (state_of s) (runs.over embed_tree c)) ++ ran_from (embed st) (sender_step (state_of s) (runs.over embed_tree c)).sender is
      ≡ reaction_words (react s c) ++ compared_from st (react s c).sender is
  sender_agrees c a e =
      ap (λ (x : SenderStep). move_words x ++ ran_from (embed st) x.sender is) (call_step s c a)
      ∙ ap (λ (ws : List ℕ). reaction_words (react s c) ++ ws) e

  ack-agrees :
      (sent received : Float) (draw : Option ℕ)
      → let c = runs.ack st.tree sent received draw in
      let o = sender_step (state_of s) (runs.ack (embed st).tree sent received draw) in
      ran_from (embed st) (state_of (react s c).sender) is ≡ compared_from st (react s c).sender is
      → move_words o ++ ran_from (embed st) o.sender is ≡ reaction_words (react s c) ++ compared_from st (react s c).sender is
  unfolding runs.over
  ack-agrees sent received draw e =
      ap
      (λ (t : RuleTree).
      let o = sender_step (state_of s) (runs.ack t sent received draw) in move_words o ++ ran_from (embed st) o.sender is)
      (tree_embeds st)
      ∙ sender_agrees (runs.ack st.tree sent received draw) v.tree e

  send-agrees :
      (at : Float)
      → let o = sender_step (state_of s) (runs.send at) in
      ran_from (embed st) (state_of (react s (runs.send at)).sender) is ≡ compared_from st (react s (runs.send at)).sender is
      → move_words o ++ ran_from (embed st) o.sender is
      ≡ reaction_words (react s (runs.send at)) ++ compared_from st (react s (runs.send at)).sender is
  unfolding runs.over
  send-agrees at e = sender_agrees (runs.send at) tt e

  tick-agrees :
      let o = sender_step (state_of s) runs.tick in
      ran_from (embed st) (state_of (react s runs.tick).sender) is ≡ compared_from st (react s runs.tick).sender is
      → move_words o ++ ran_from (embed st) o.sender is
      ≡ reaction_words (react s runs.tick) ++ compared_from st (react s runs.tick).sender is
  unfolding runs.over
  tick-agrees e = sender_agrees runs.tick tt e

  lookup-then :
      (p : Point) → ran_from (embed st) (state_of s) is ≡ compared_from st s is
      → looked_words (lookup_of (embed st).tree p) ++ ran_from (embed st) (state_of s) is
      ≡ found_words st.tree (leaf_at st.tree p) ++ compared_from st s is
  lookup-then p e = rw (lookup_agrees st v p, e)

-- ---- every list of calls
from_agrees :
    (is : List Item) (st : State) (s : PlainSender) → ValidState st → FitState st → Every FitItem is
    → ran_from (embed st) (state_of s) is ≡ compared_from st s is
unfolding ran_from compared_from
from_agrees [] st s v f h = ap (λ (ws : List ℕ). ws ++ sender_words (state_of s)) (end_agrees st v f)
from_agrees (train c ∷ is) st s v f h =
    train-agrees is st s v f c h.0 (from_agrees is (step st c).state s (step_valid st v c h.0) (step_fits st v f c h.0) h.1)
from_agrees (ack sent received draw ∷ is) st s v f h =
    ack-agrees is st s v f sent received draw (from_agrees is st (react s (runs.ack st.tree sent received draw)).sender v f h.1)
from_agrees (send at ∷ is) st s v f h = send-agrees is st s v f at (from_agrees is st (react s (runs.send at)).sender v f h.1)
from_agrees (tick ∷ is) st s v f h = tick-agrees is st s v f (from_agrees is st (react s runs.tick).sender v f h.1)
from_agrees (lookup p ∷ is) st s v f h = lookup-then is st s v f p (from_agrees is st s v f h.1)

-- ---- from the start on
start_agrees :
    (s : Settings) (x : Sender) (is : List Item) → settings_hold s ≡ true → FitSettings s → Every FitItem is
    → question_words (question_of (embed (start s))) ++ ran_from (embed (start s)) x is
    ≡ asked_words (question (start s)) ++ compared_from (start s) (plain_start x) is
start_agrees s x is k f h =
    ap (λ (ws : List ℕ). ws ++ ran_from (embed (start s)) x is) (question_agrees (start s) (start_valid s k (point-fits f.ends)))
    ∙ ap (λ (y : Sender). asked_words (question (start s)) ++ ran_from (embed (start s)) y is) (sym (start_renders x))
    ∙ ap (λ (ws : List ℕ). asked_words (question (start s)) ++ ws)
    (from_agrees is (start s) (plain_start x) (start_valid s k (point-fits f.ends)) (start_fits s k f) h)

-- what a start gives, by its two parts
abbrev both : Result Trainer Refusal → Result Sender Refusal → Result Begun Refusal
both trainer sender = and_then trainer (λ t. and_then sender (λ s. Ok (record { trainer = t; sender = s })))

not_started : (s : Settings) → settings_hold s ≡ false → start_of s ≡ Err BadSettings
unfolding start_of
not_started s h = rw h

-- the sender of the start, or its refusal
abbrev sender_or : Bool → Sender → Result Sender Refusal
sender_or taken x = cond taken (Ok x) (Err BadSettings)

with_agrees :
    (s : Settings) (taken : Bool) (x : Sender) (is : List Item) → FitSettings s → Every FitItem is
    → ran_begun (both (start_of s) (sender_or taken x)) is ≡ compared_with s taken x is
unfolding ran_begun compared_with number_of
with_agrees s taken x is f h =
    go (settings_hold s) refl taken ∙ ap (λ (a : Bool). cond (a && taken) (0 ∷ compared) (2 ∷ [])) (sym (settings_same s))
  where
    compared : List ℕ
    compared = asked_words (question (start s)) ++ compared_from (start s) (plain_start x) is

    go :
        (a : Bool) → settings_hold s ≡ a → (b : Bool)
        → ran_begun (both (start_of s) (sender_or b x)) is ≡ cond (a && b) (0 ∷ compared) (2 ∷ [])
    go true k true =
        ap (λ (t : Result Trainer Refusal). ran_begun (both t (Ok x)) is) (starts_alike s k)
        ∙ ap (λ (ws : List ℕ). 0 ∷ ws) (start_agrees s x is k f h)
    go true k false = ap (λ (t : Result Trainer Refusal). ran_begun (both t (Err BadSettings)) is) (starts_alike s k)
    go false k b = ap (λ (t : Result Trainer Refusal). ran_begun (both t (sender_or b x)) is) (not_started s k)

-- the sender of the start
new_is : (m : RepeatMode) → new_of m ≡ sender_or (mode_taken m) (fresh_start m)
unfolding new_of
new_is m =
    ap (λ (b : Bool). sender_or b (fresh_sender m)) (sym (mode_same m)) ∙ ap (λ (x : Sender). sender_or (mode_taken m) x) (sym (fresh_same m))

made_is : (script : List ℕ) → made_of script ≡ sender_or (sender_taken script) (first_sender script)
unfolding made_of
made_is script = go (fresh script)
  where
    go :
        (b : Bool)
        → cond b (new_of (mode script)) (Ok (handed_in script))
        ≡ sender_or (cond b (mode_taken (mode script)) true) (cond b (fresh_start (mode script)) (handed_in script))
    go true = new_is (mode script)
    go false = refl

pub agrees : (script : List ℕ) → ran_of script ≡ compared_of script
unfolding begun_of
agrees script =
    ap (λ (m : Result Sender Refusal). ran_begun (both (start_of (settings script)) m) (calls_of script)) (made_is script)
    ∙ with_agrees (settings script) (sender_taken script) (first_sender script) (calls_of script) (settings_fit_lem script) (calls_fit script)
