-- Demand 3 as words: what is compared of a list of calls, as the plain trainer and the plain sender have it.
use Rattle.std.specs.Prelude.{Bool, true, ◌&&◌, cond, List, [], ◌∷◌, ◌++◌, ℕ, length, take, drop, Option, Some, None}
use Rattle.wire.specs.Bytes.{flag_byte}
use Rattle.trainer.specs.declared.settings.Settings.{Settings}
use Rattle.sender.specs.declared.Sender.{Sender}
use Rattle.sender.specs.SenderCall as runs
use Rattle.promise.specs.PlainSettings.{settings_taken, mode_taken, fresh_start}
use Rattle.promise.specs.PlainTree.{Tree, rule_at}
use Rattle.promise.specs.PlainTrainer as plain
use Rattle.promise.specs.PlainSender.{PlainSender, Reaction, leaf_at, react, wait_held, state_of}
use Rattle.promise.specs.SenderRuns.{plain_start}
use Rattle.runs.specs.SenderWords.{bits, action_words, sender_words}
use Rattle.runs.specs.Script.{Item, train, ack, send, tick, lookup, settings, fresh, mode, handed_in, calls_of}

-- the question: 1 for counts, 2 for a score with leaf and action, 3 when done, and the progress
unfoldable pub asked_words : plain.Asked → List ℕ
asked_words (plain.wants_counts x) = 1 ∷ (bits x ∷ [])
asked_words (plain.wants_score i a x) = 2 ∷ (i ∷ (action_words a ++ (bits x ∷ [])))
asked_words (plain.finished x) = 3 ∷ (bits x ∷ [])

-- a call to the trainer: its refusal's number or 0, the size and the bytes of what it saved, the question after it
abbrev pub outcome_words : plain.Outcome → List ℕ
outcome_words o = o.refused ∷ (length o.saved ∷ (o.saved ++ asked_words (plain.question o.state)))

-- a call to the sender: its refusal's number or 0, the window that it hands back, 1 where that of an ack was clipped and else 0, and
-- the wait that the sender then holds
abbrev pub reaction_words : Reaction → List ℕ
reaction_words o = o.refused ∷ (o.window ∷ (flag_byte o.clipped ∷ (bits (wait_held o.sender).0 ∷ [])))

-- a lookup: 1 and the action of the leaf that holds the point, or 0
unfoldable pub found_words : Tree → Option ℕ → List ℕ
found_words t None = 0 ∷ []
found_words t (Some i) = 1 ∷ action_words (rule_at t i).action

-- every call in turn, the acks and lookups over the trainer's tree as it then is; at the end the record's size and bytes,
-- and the whole sender that is left
unfoldable pub compared_from : plain.State → PlainSender → List Item → List ℕ
unfolding asked_words found_words
compared_from st s [] = (length (plain.record_bytes st) ∷ plain.record_bytes st) ++ sender_words (state_of s)
compared_from st s (train c ∷ is) = let o = plain.step st c in outcome_words o ++ compared_from o.state s is
compared_from st s (ack sent received draw ∷ is) =
    let o = react s (runs.ack st.tree sent received draw) in reaction_words o ++ compared_from st o.sender is
compared_from st s (send at ∷ is) = let o = react s (runs.send at) in reaction_words o ++ compared_from st o.sender is
compared_from st s (tick ∷ is) = let o = react s runs.tick in reaction_words o ++ compared_from st o.sender is
compared_from st s (lookup p ∷ is) = found_words st.tree (leaf_at st.tree p) ++ compared_from st s is

-- the sender of the start: a fresh one, whose mode may be refused, or one handed in: "These calls check nothing that the sender holds"
abbrev pub sender_taken : List ℕ → Bool
sender_taken script = cond (fresh script) (mode_taken (mode script)) true

abbrev pub first_sender : List ℕ → Sender
first_sender script = cond (fresh script) (fresh_start (mode script)) (handed_in script)

-- a fresh trainer and that sender, or 2
unfoldable pub compared_with : Settings → Bool → Sender → List Item → List ℕ
unfolding compared_from
compared_with s taken x is =
    cond (settings_taken s && taken)
    (0 ∷ (asked_words (plain.question (plain.start s)) ++ compared_from (plain.start s) (plain_start x) is)) (2 ∷ [])

abbrev pub compared_of : List ℕ → List ℕ
compared_of script = compared_with (settings script) (sender_taken script) (first_sender script) (calls_of script)

-- the lent slice after it: as many of the words as it has room for, then what it held
abbrev pub laid : List ℕ → List ℕ → List ℕ
laid words out = take (length out) words ++ drop (length words) out
