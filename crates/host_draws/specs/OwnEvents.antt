-- 02, wish 7, for hosts: acks, sends and ticks on a sender in 108 bytes, each ack with a draw of the box's own, over the tree of a record's trainer.
use Rattle.std.specs.Prelude.{Bool, ◌&&◌, List, [], ◌∷◌, ◌++◌, ℕ, zero, suc, ◌*◌, ◌%◌, length, eqb, leb, Result, Ok}
use Rattle.std.proofs.lemmas.List.Edits.{sets}
use Rattle.refusal.specs.declared.Refusal.{Refusal}
use Rattle.refusal.specs.declared.Refusal.TheVariants.{BadLength, ShortBuffer}
use Rattle.refusal.specs.Guards.{Check, check, checked, and_then, lent_after}
use Rattle.rule_tree.specs.declared.RuleTree.{RuleTree}
use Rattle.record.specs.Calls.{load_of}
use Rattle.sender.specs.declared.Event.{Event}
use Rattle.sender.specs.declared.Event.TheVariants.{Ack, Send, Tick}
use Rattle.sender.specs.declared.Held.{Held}
use Rattle.own_draws.specs.OwnRuns.{OwnCall, ack, send, tick, own_replies, own_end, generator_end}
use Rattle.host_sender.specs.Layout.{sender_at, sender_bytes}
use Rattle.host_sender.specs.Events.{event_at, reply_bytes, event_count}
use Rattle.host_draws.specs.Steps.{state_at, state_bytes, state_order}

-- an event as a call; the draw that its bytes hold is not looked at
unfoldable pub call_of : RuleTree → Event → OwnCall
call_of t (Ack x) = ack t x.sent x.received
call_of t (Send at) = send at
call_of t Tick = tick

-- the first n events, 22 bytes each
unfoldable pub calls_in : RuleTree → List ℕ → ℕ → List OwnCall
unfolding call_of event_at
calls_in t events zero = []
calls_in t events (suc n) = calls_in t events n ++ (call_of t (event_at events (22 * n)) ∷ [])

-- 6 bytes a reply
unfoldable pub replies_of : List (Result Held Refusal) → List ℕ
unfolding reply_bytes
replies_of [] = []
replies_of (r ∷ rs) = reply_bytes r ++ replies_of rs

-- ---- over a tree: 6 for a sender that has not 108 bytes, a generator that has not 32, or events that are cut; then 26, then 9 where
-- there is no room for the replies
unfoldable pub whole_of : ℕ → ℕ → ℕ → Bool
whole_of sender generator events = eqb sender 108 && (eqb generator 32 && eqb (events % 22) 0)

abbrev pub played_order : List ℕ → List ℕ → List ℕ → List ℕ → List Check
played_order sender generator events out =
    check (whole_of (length sender) (length generator) (length events)) BadLength
    ∷ (state_order (state_at generator) ++ (check (leb (6 * event_count events) (length out)) ShortBuffer ∷ []))

unfoldable pub played_in : List ℕ → List ℕ → List ℕ → List ℕ → Result ℕ Refusal
unfolding whole_of
played_in sender generator events out = checked (played_order sender generator events out) (Ok (6 * event_count events))

-- all events as calls
abbrev pub all_calls : RuleTree → List ℕ → List OwnCall
all_calls t events = calls_in t events (event_count events)

-- the sender's bytes, the generator's and the buffer after all events; a refused call changes no byte of them
unfoldable pub played_sender : RuleTree → List ℕ → List ℕ → List ℕ → List ℕ → List ℕ
unfolding calls_in played_in
played_sender t sender generator events out =
    lent_after (played_in sender generator events out) sender
    (λ n. sender_bytes (own_end (sender_at sender) (state_at generator) (all_calls t events)))

unfoldable pub played_generator : RuleTree → List ℕ → List ℕ → List ℕ → List ℕ → List ℕ
unfolding calls_in played_in
played_generator t sender generator events out =
    lent_after (played_in sender generator events out) generator
    (λ n. state_bytes (generator_end (sender_at sender) (state_at generator) (all_calls t events)))

unfoldable pub played_replies : RuleTree → List ℕ → List ℕ → List ℕ → List ℕ → List ℕ
unfolding calls_in replies_of played_in
played_replies t sender generator events out =
    lent_after (played_in sender generator events out) out
    (λ n. sets out 0 (replies_of (own_replies (sender_at sender) (state_at generator) (all_calls t events))))

-- ---- over a record: its own 6, 7, 8 first
abbrev pub own_in : List ℕ → List ℕ → List ℕ → List ℕ → List ℕ → Result ℕ Refusal
own_in held sender generator events out = and_then (load_of held) (λ t. played_in sender generator events out)

abbrev pub own_sender : List ℕ → List ℕ → List ℕ → List ℕ → List ℕ → List ℕ
own_sender held sender generator events out = lent_after (load_of held) sender (λ t. played_sender t.tree sender generator events out)

abbrev pub own_generator : List ℕ → List ℕ → List ℕ → List ℕ → List ℕ → List ℕ
own_generator held sender generator events out = lent_after (load_of held) generator (λ t. played_generator t.tree sender generator events out)

abbrev pub own_out_of : List ℕ → List ℕ → List ℕ → List ℕ → List ℕ → List ℕ
own_out_of held sender generator events out = lent_after (load_of held) out (λ t. played_replies t.tree sender generator events out)
