-- 02, 1, for hosts: a burst of acks on a sender kept in 108 bytes, over the tree of a record's trainer.
use Rattle.std.specs.Prelude.{Bool, ◌&&◌, List, [], ◌∷◌, ◌++◌, ℕ, ◌+◌, ◌*◌, ◌/◌, ◌%◌, length, eqb, leb, Option, Some, None, Result, Ok}
use Rattle.std.proofs.lemmas.List.Edits.{sets}
use Rattle.refusal.specs.declared.Refusal.{Refusal}
use Rattle.refusal.specs.declared.Refusal.TheVariants.{BadLength, ShortBuffer}
use Rattle.refusal.specs.Numbers.{number_of}
use Rattle.refusal.specs.Guards.{Check, check, checked, and_then, lent_after}
use Rattle.rule_tree.specs.declared.RuleTree.{RuleTree}
use Rattle.rule_tree.specs.Lists.{tabulate}
use Rattle.wire.specs.Bytes.{bytes_of}
use Rattle.record.specs.Calls.{load_of}
use Rattle.sender.specs.declared.Ack.{Ack}
use Rattle.sender.specs.Burst.{Course, course_of}
use Rattle.host_sender.specs.Layout.{sender_bytes, sender_at}
use Rattle.host_sender.specs.Events.{ack_at}

-- acks in 21 bytes each: sent 8, received 8, draw flag, u32 draw
abbrev pub ack_count : List ℕ → ℕ
ack_count list = length list / 21

abbrev pub acks_of : List ℕ → List Ack
acks_of list = tabulate (ack_count list) (λ i. ack_at list (21 * i))

-- a window in four bytes
unfoldable pub windows_bytes : List ℕ → List ℕ
windows_bytes [] = []
windows_bytes (w ∷ ws) = bytes_of 4 w ++ windows_bytes ws

-- "how many were taken and that refusal's number (0 for none)", in one number: the refusal's times 2^32, plus how many were taken
unfoldable pub stop_number : Option Refusal → ℕ
stop_number None = 0
stop_number (Some r) = number_of r

abbrev pub answer_of : Course → ℕ
answer_of c = stop_number c.stopped * 4294967296 + length c.windows

-- "More than 256 acks, or fewer windows than acks, gives 9 before any ack"; the flags' length "is checked as the windows' is"
abbrev pub fits : ℕ → ℕ → ℕ → Bool
fits n windows flags = leb n 256 && (leb (4 * n) windows && leb n flags)

-- over a tree: a sender of another length 6, acks that are cut 6; then 9
abbrev pub burst_order : List ℕ → List ℕ → List ℕ → List ℕ → List Check
burst_order sender list windows flags =
    check (eqb (length sender) 108) BadLength ∷ check (eqb (length list % 21) 0) BadLength
    ∷ check (fits (ack_count list) (length windows) (length flags)) ShortBuffer ∷ []

-- the burst's course over a tree, from the sender in its bytes
abbrev pub course_on : RuleTree → List ℕ → List ℕ → Course
course_on t sender list = course_of t (sender_at sender) (acks_of list)

unfoldable pub given_in : RuleTree → List ℕ → List ℕ → List ℕ → List ℕ → Result ℕ Refusal
unfolding course_of stop_number
given_in t sender list windows flags = checked (burst_order sender list windows flags) (Ok (answer_of (course_on t sender list)))

-- the three lent buffers after it; a refused call changes no byte of any
unfoldable pub sender_on : RuleTree → List ℕ → List ℕ → List ℕ → List ℕ → List ℕ
unfolding course_of given_in
sender_on t sender list windows flags =
    lent_after (given_in t sender list windows flags) sender (λ n. sender_bytes (course_on t sender list).sender)

unfoldable pub windows_on : RuleTree → List ℕ → List ℕ → List ℕ → List ℕ → List ℕ
unfolding course_of windows_bytes given_in
windows_on t sender list windows flags =
    lent_after (given_in t sender list windows flags) windows (λ n. sets windows 0 (windows_bytes (course_on t sender list).windows))

unfoldable pub flags_on : RuleTree → List ℕ → List ℕ → List ℕ → List ℕ → List ℕ
unfolding course_of given_in
flags_on t sender list windows flags =
    lent_after (given_in t sender list windows flags) flags (λ n. sets flags 0 (course_on t sender list).flags)

-- over the tree of a record's trainer: 6, 7, 8 of the record before those
abbrev pub burst_in : List ℕ → List ℕ → List ℕ → List ℕ → List ℕ → Result ℕ Refusal
burst_in held sender list windows flags = and_then (load_of held) (λ t. given_in t.tree sender list windows flags)

abbrev pub sender_left : List ℕ → List ℕ → List ℕ → List ℕ → List ℕ → List ℕ
sender_left held sender list windows flags = lent_after (load_of held) sender (λ t. sender_on t.tree sender list windows flags)

abbrev pub windows_left : List ℕ → List ℕ → List ℕ → List ℕ → List ℕ → List ℕ
windows_left held sender list windows flags = lent_after (load_of held) windows (λ t. windows_on t.tree sender list windows flags)

abbrev pub flags_left : List ℕ → List ℕ → List ℕ → List ℕ → List ℕ → List ℕ
flags_left held sender list windows flags = lent_after (load_of held) flags (λ t. flags_on t.tree sender list windows flags)
