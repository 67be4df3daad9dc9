-- What a call on the caller's sender hands back, and what it leaves, from the reply of the call by value.
use Rattle.std.specs.Prelude.{Result, Ok, Err}
use Rattle.refusal.specs.declared.Refusal.{Refusal}
use Rattle.sender.specs.declared.Held.{Held}
use Rattle.sender_face.specs.declared.Answer.{Answer}
-- "change the caller's sender": the sender left is `left_by` of the reply, so that a refused call changes nothing
unfoldable pub use Rattle.sender.specs.Sender.{left_by}

abbrev pub answer_of : Held → Answer
answer_of h = record { window = h.window; clipped = h.clipped }

-- "hand back the window", 02, 6: "The flag goes up through ack", or the refusal
unfoldable pub window_from : Result Held Refusal → Result Answer Refusal
window_from (Ok h) = Ok (answer_of h)
window_from (Err r) = Err r
