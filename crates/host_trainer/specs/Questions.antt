-- The question of the trainer of a record, in 31 bytes.
use Rattle.std.specs.Prelude.{List, [], ◌∷◌, ◌++◌, ℕ, length, drop, leb, Float, Result, Ok}
use Rattle.refusal.specs.declared.Refusal.{Refusal}
use Rattle.refusal.specs.declared.Refusal.TheVariants.{ShortBuffer}
use Rattle.refusal.specs.Guards.{check, checked, and_then, lent_after}
use Rattle.remy.specs.declared.action.Action.{Action}
use Rattle.rule_tree.specs.Nodes.{no_action}
use Rattle.trainer.specs.declared.Trainer.{Trainer}
use Rattle.trainer.specs.declared.Question.{Question}
use Rattle.trainer.specs.declared.Question.TheVariants as question
use Rattle.trainer.specs.Calls.{question_of}
use Rattle.wire.specs.Bytes.{bytes_of}
use Rattle.wire.specs.Fields.{float_bytes, action_bytes}
use Rattle.record.specs.Calls.{load_of}

-- kind (1 counts, 2 score, 3 done), u16 leaf, action 20, progress 8; leaf and action are 0 where a score isn't asked for
abbrev pub question_fields : ℕ → ℕ → Action → Float → List ℕ
question_fields kind leaf a progress = kind ∷ (bytes_of 2 leaf ++ (action_bytes a ++ float_bytes progress))

unfoldable pub question_bytes : Question → List ℕ
question_bytes (question.Counts x) = question_fields 1 0 no_action x
question_bytes (question.Score i a x) = question_fields 2 i a x
question_bytes (question.Done x) = question_fields 3 0 no_action x

unfoldable pub fitted : List ℕ → Result ℕ Refusal
fitted out = checked (check (leb 31 (length out)) ShortBuffer ∷ []) (Ok 31)

-- fields in a buffer that takes them
unfoldable pub fields_put : List ℕ → List ℕ → List ℕ
unfolding fitted
fields_put fields out = lent_after (fitted out) out (λ n. fields ++ drop n out)

unfoldable pub question_put : Question → List ℕ → List ℕ
unfolding question_bytes fields_put
question_put q out = fields_put (question_bytes q) out

-- what a trainer asks for: 10, 9
abbrev pub question_in : Trainer → List ℕ → Result ℕ Refusal
question_in t out = and_then (question_of t) (λ q. fitted out)

abbrev pub question_after : Trainer → List ℕ → List ℕ
question_after t out = lent_after (question_of t) out (λ q. question_put q out)

-- of a record's trainer: 6, 7, 8, 9
abbrev pub asked_in_of : List ℕ → List ℕ → Result ℕ Refusal
asked_in_of held out = and_then (load_of held) (λ t. question_in t out)

abbrev pub asked_after : List ℕ → List ℕ → List ℕ
asked_after held out = lent_after (load_of held) out (λ t. question_after t out)
