-- The trainer asks what the plain trainer asks. Assumes nothing.
use mathlib.Core.Path.{◌≡◌, refl, ap, ◌∙◌}
use mathlib.Core.Bool.{true}
use Prim.Native.Nat.{ℕ}
use lib.ListN.{get_or}
use Rattle.std.specs.Prelude.{Ok}
use Rattle.remy.specs.declared.action.Action.{Action}
use Rattle.rule_tree.specs.declared.Node.{Node}
use Rattle.rule_tree.specs.Nodes.{action_in}
use Rattle.trainer.specs.declared.settings.Settings.{Settings}
use Rattle.trainer.specs.declared.Trainer.{Trainer}
use Rattle.trainer.specs.declared.Question.TheVariants as declared
use Rattle.trainer.specs.Candidates.{candidates_of, no_candidate}
use Rattle.trainer.specs.State.{accepted_of}
use Rattle.trainer.specs.Calls.{asked_of, question_of}
use Rattle.promise.specs.PlainTree.{Tree, rule_at}
use Rattle.promise.specs.PlainTrainer.{State, Phase, phase1, phase2, phase3, phase4, phase5, phase6, phase7, at, progress, ask, question}
use Rattle.promise.specs.Demand3.{shown_as}
use Rattle.promise.proofs.Embed.{embed_tree, ValidTree}
use Rattle.promise.proofs.TreeKeeps.{leaf_node_lem}
use Rattle.promise.proofs.Candidates.{candidate_same}
use Rattle.promise.proofs.Accepted.{accepted_embeds}
use Rattle.promise.proofs.States.{embed_in, embed, ValidPhase, ValidState}

question_is : (t : Trainer) → accepted_of t ≡ true → question_of t ≡ Ok (asked_of t)
unfolding question_of
question_is t a = rw a

asked_in :
    (s : Settings) (t : Tree) (i r : ℕ) (p : Phase) → ValidTree t → ValidPhase s t i r p
    → asked_of (embed_in s (embed_tree t) i r p) ≡ shown_as (ask (at s t i r p) p)
unfolding asked_of shown_as ask
asked_in s t i r phase1 v h = refl
asked_in s t i r phase2 v h = refl
asked_in s t i r phase3 v h = refl
asked_in s t i r (phase4 leaf) v h =
    ap (λ (x : Node). declared.Score leaf (action_in x) (progress (at s t i r (phase4 leaf)))) (leaf_node_lem t v leaf h.1.leaf)
asked_in s t i r (phase5 leaf best k kept) v h =
    ap (λ (x : Node). declared.Score leaf (get_or (candidates_of s (action_in x)) k no_candidate) (progress (at s t i r (phase5 leaf best k kept))))
    (leaf_node_lem t v leaf h.1.0.leaf)
    ∙ ap (λ (a : Action). declared.Score leaf a (progress (at s t i r (phase5 leaf best k kept)))) (candidate_same s (rule_at t leaf).action k h.1.1.below)
asked_in s t i r phase6 v h = refl
asked_in s t i r phase7 v h = refl

pub question_embeds : (st : State) → ValidState st → question_of (embed st) ≡ Ok (shown_as (question st))
question_embeds st v =
    question_is (embed st) (accepted_embeds st v)
    ∙ ap Ok (asked_in st.settings st.tree st.stage st.round st.phase v.tree v.phase)
