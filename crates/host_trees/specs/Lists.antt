-- 02, request 14, for hosts: a split list in bytes is its length and then each node in two bytes, read and written alike.
use Rattle.std.specs.Prelude.{Bool, cond, List, [], ◌∷◌, ◌++◌, ℕ, zero, suc, ◌+◌, ◌*◌, length, get_or, eqb, leb, Option, Some, None, Result, Ok, Err}
use Rattle.std.proofs.lemmas.List.Edits.{sets}
use Rattle.refusal.specs.declared.Refusal.{Refusal}
use Rattle.refusal.specs.declared.Refusal.TheVariants.{BadLength, ShortBuffer}
use Rattle.refusal.specs.Guards.{Check, check, checked, and_then}
use Rattle.wire.specs.Bytes.{bytes_of, shorts_bytes, number_at}
use Rattle.small_trees.specs.Calls.{next_of}

-- n nodes from place at on
unfoldable pub nodes_from : ℕ → ℕ → List ℕ → List ℕ
nodes_from zero at bytes = []
nodes_from (suc n) at bytes = number_at bytes at 2 ∷ nodes_from n (at + 2) bytes

abbrev pub list_at_of : List ℕ → List ℕ
list_at_of bytes = nodes_from (get_or bytes 0 0) 1 bytes

-- a length byte and the nodes that it counts, neither more nor less
unfoldable pub list_whole : List ℕ → Bool
list_whole bytes = eqb (length bytes) (1 + 2 * get_or bytes 0 0)

abbrev pub list_bytes : List ℕ → List ℕ
list_bytes xs = bytes_of 1 (length xs) ++ shorts_bytes xs

abbrev pub list_size : List ℕ → ℕ
list_size xs = 1 + 2 * length xs

abbrev pub fits : List ℕ → List ℕ → List Check
fits xs out = check (leb (list_size xs) (length out)) ShortBuffer ∷ []

-- "gives the next": its bytes, 9 where they do not fit; "or says that it was the last": no byte
unfoldable pub answered_in : Option (List ℕ) → List ℕ → Result ℕ Refusal
answered_in (Some xs) out = checked (fits xs out) (Ok (list_size xs))
answered_in None out = Ok 0

-- the buffer after it; a refused call changes no byte
unfoldable pub answered_after : Option (List ℕ) → List ℕ → List ℕ
answered_after (Some xs) out = cond (leb (list_size xs) (length out)) (sets out 0 (list_bytes xs)) out
answered_after None out = out

-- what a next list leaves in the buffer; where there is none to be had, its bytes stay
abbrev pub written_after : Result (Option (List ℕ)) Refusal → List ℕ → List ℕ
written_after (Ok next) out = answered_after next out
written_after (Err r) out = out

-- bytes that are no whole list: 6; then 30, then 9
unfoldable pub next_list_in : ℕ → List ℕ → List ℕ → Result ℕ Refusal
unfolding answered_in
next_list_in n list out =
    checked (check (list_whole list) BadLength ∷ []) (and_then (next_of n (list_at_of list)) (λ next. answered_in next out))

unfoldable pub next_list_after : ℕ → List ℕ → List ℕ → List ℕ
unfolding answered_after
next_list_after n list out = cond (list_whole list) (written_after (next_of n (list_at_of list)) out) out
