-- The words of a sender, part by part. Assumes nothing.
use mathlib.Core.Path.{◌≡◌}
use mathlib.Core.List.{List, [], ◌∷◌}
use Prim.Native.Nat.{ℕ}
use Rattle.sender.specs.declared.Sender.{Sender}
use Rattle.runs.specs.declared.words.Writer.{Writer}
use Rattle.runs.specs.SenderWords.{bits, mode_words, moment_words, average_words, trip_words, pending_words, sender_words}
use Rattle.runs.specs.Writing.{Appends}
use Rattle.runs.proofs.Putting.{join, as_words}

pub all_parts : (s : Sender) {a b c d e f g k l : List ℕ} {u o p q t v w x y z : Writer} → a ≡ mode_words s.repeat_actions → b ≡ moment_words s.last_ack
    → c ≡ moment_words s.last_ack_send → d ≡ average_words s.ack_ewma → e ≡ average_words s.send_ewma → f ≡ trip_words s.rtt
    → g ≡ pending_words s.next_change → k ≡ moment_words s.last_send → l ≡ s.window ∷ (bits s.intersend_delay.0 ∷ [])
    → Appends u a o → Appends o b p → Appends p c q → Appends q d t → Appends t e v → Appends v f w → Appends w g x → Appends x k y → Appends y l z
    → Appends u (sender_words s) z
unfolding sender_words
all_parts s ea eb ec ed ee ef eg ek el p1 p2 p3 p4 p5 p6 p7 p8 p9 =
    join (as_words p1 ea) (join (as_words p2 eb) (join (as_words p3 ec) (join (as_words p4 ed) (join (as_words p5 ee)
    (join (as_words p6 ef) (join (as_words p7 eg) (join (as_words p8 ek) (as_words p9 el))))))))
