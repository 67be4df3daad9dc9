-- Many answers to the trainer of a record in one call.
use Rattle.std.specs.Prelude.{cond, List, [], ◌∷◌, ℕ, zero, suc, ◌+◌, ◌*◌, length, get_or, take, drop, eqb, leb, Result, Ok, Err}
use Rattle.refusal.specs.declared.Refusal.{Refusal}
use Rattle.refusal.specs.declared.Refusal.TheVariants.{BadLength}
use Rattle.refusal.specs.Guards.{check, checked, and_then}
use Rattle.trainer.specs.declared.Trainer.{Trainer}
use Rattle.trainer.specs.Calls.{answer_counts_of, answer_score_of}
use Rattle.wire.specs.Bytes.{number_at}
use Rattle.wire.specs.Fields.{float_at}
use Rattle.record.specs.Calls.{load_of}
use Rattle.host_trainer.specs.Records.{counts_in}

-- the first n scores, 8 bytes each, answered one by one; after a refusal none is
unfoldable pub scores_on : Trainer → List ℕ → ℕ → Result Trainer Refusal
scores_on t scores zero = Ok t
scores_on t scores (suc n) = and_then (scores_on t scores n) (λ u. answer_score_of u (float_at scores (8 * n)))

-- a group: 1 and counts or 2 and scores, how many in 2 bytes, then 8 bytes each
abbrev pub group_count : List ℕ → ℕ
group_count bytes = number_at bytes 1 2

abbrev pub group_size : List ℕ → ℕ
group_size bytes = 3 + 8 * group_count bytes

abbrev pub group_body : List ℕ → List ℕ
group_body bytes = take (8 * group_count bytes) (drop 3 bytes)

-- a group that is cut, or of another kind: 6; else what the answers of its kind are refused for
unfoldable pub group_on : List ℕ → Trainer → Result Trainer Refusal
group_on bytes t =
    checked (check (leb (group_size bytes) (length bytes)) BadLength ∷ [])
    (cond (eqb (get_or bytes 0 0) 1) (answer_counts_of t (counts_in (group_body bytes)))
    (cond (eqb (get_or bytes 0 0) 2) (scores_on t (group_body bytes) (group_count bytes)) (Err BadLength)))

-- group by group; each has at least 3 bytes, so there are fewer than fuel
unfoldable pub groups_on : ℕ → List ℕ → Result Trainer Refusal → Result Trainer Refusal
groups_on zero bytes a = a
groups_on (suc fuel) bytes a =
    cond (eqb (length bytes) 0) a (groups_on fuel (drop (group_size bytes) bytes) (and_then a (group_on bytes)))

-- 6, 7, 8 of the record, then the refusal of the first answer that is refused
unfoldable pub answers_in : List ℕ → List ℕ → Result Trainer Refusal
answers_in held list = groups_on (length list) list (load_of held)
