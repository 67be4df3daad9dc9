-- 02, 1: a burst of acks.
use Rattle.std.specs.Prelude.{Bool, ◌&&◌, cond, List, [], ◌∷◌, ◌++◌, ℕ, length, drop, leb, Option, Some, None, Result, Ok, Err}
use Rattle.refusal.specs.declared.Refusal.{Refusal}
use Rattle.refusal.specs.declared.Refusal.TheVariants.{NotGrown, ShortBuffer}
use Rattle.refusal.specs.Numbers.{number_of}
use Rattle.refusal.specs.Guards.{Check, check, checked}
use Rattle.rule_tree.specs.declared.RuleTree.{RuleTree}
use Rattle.rule_tree.specs.Grown.{grown_of}
use Rattle.sender.specs.declared.Sender.{Sender}
use Rattle.sender.specs.declared.Held.{Held}
use Rattle.sender.specs.declared.Ack.{Ack}
use Rattle.sender.specs.declared.Ran.{Ran}
use Rattle.sender.specs.Sender.{ack_of, left_by}

-- what acks that are given one by one do up to the first that is refused: the sender after those that are taken, their windows and
-- flags, and that refusal, if any
pub record Course : Type 0 where
  pub sender : Sender
  pub windows : List ℕ
  pub flags : List ℕ
  pub stopped : Option Refusal

abbrev pub ends_with : Sender → Option Refusal → Course
ends_with s r = record { sender = s; windows = []; flags = []; stopped = r }

-- 02, 6: "0 or 1 per ack taken in a second lent list"
unfoldable pub flag_of : Bool → ℕ
flag_of b = cond b 1 0

-- an ack's reply and the course of those after it; "the refused ack itself changes nothing"
unfoldable pub onwards : Sender → Result Held Refusal → Course → Course
unfolding flag_of
onwards s (Ok h) c = record c { windows = h.window ∷ c.windows; flags = flag_of h.clipped ∷ c.flags }
onwards s (Err r) c = ends_with s (Some r)

-- "It equals the acks given one by one, up to the first that is refused"
unfoldable pub course_of : RuleTree → Sender → List Ack → Course
unfolding onwards ack_of left_by
course_of t s [] = ends_with s None
course_of t s (x ∷ xs) =
    let r = ack_of t s x.sent x.received x.draw in
    onwards s r (course_of t (left_by s r) xs)

-- a burst of two lists, one behind the other: windows and flags in front of a course's, and the second list's course where the first
-- list was taken whole
abbrev pub ahead : List ℕ → List ℕ → Course → Course
ahead ws fs c = record c { windows = ws ++ c.windows; flags = fs ++ c.flags }

abbrev pub followed_by : Option Refusal → Course → Course → Course
followed_by None c d = ahead c.windows c.flags d
followed_by (Some r) c d = c

unfoldable pub followed : Course → Course → Course
followed c d = followed_by c.stopped c d

-- "how many were taken and that refusal's number (0 for none)"
abbrev pub ran_by : Course → Ran
ran_by c = record { sender = c.sender; taken = length c.windows; stopped = c.stopped }

-- "More than 256 acks, or fewer windows than acks, gives 9 before any ack"; the flags' length "is checked as the windows' is"
unfoldable pub room_for : ℕ → ℕ → ℕ → Bool
room_for n windows flags = leb n 256 && (leb n windows && leb n flags)

abbrev pub burst_order : RuleTree → List Ack → List ℕ → List ℕ → List Check
burst_order t acks windows flags =
    check (grown_of t) NotGrown ∷ check (room_for (length acks) (length windows) (length flags)) ShortBuffer ∷ []

unfoldable pub burst_of : RuleTree → Sender → List Ack → List ℕ → List ℕ → Result Ran Refusal
unfolding room_for course_of
burst_of t s acks windows flags = checked (burst_order t acks windows flags) (Ok (ran_by (course_of t s acks)))

-- the number that a burst is refused with, 0 for none
unfoldable pub burst_number : Result Ran Refusal → ℕ
burst_number (Ok r) = 0
burst_number (Err r) = number_of r

-- "writes one window per ack", "windows from the refused ack on are not written"
unfoldable pub windows_after : RuleTree → Sender → List Ack → List ℕ → Result Ran Refusal → List ℕ
unfolding course_of
windows_after t s acks windows (Ok r) = (course_of t s acks).windows ++ drop r.taken windows
windows_after t s acks windows (Err r) = windows

unfoldable pub flags_after : RuleTree → Sender → List Ack → List ℕ → Result Ran Refusal → List ℕ
unfolding course_of
flags_after t s acks flags (Ok r) = (course_of t s acks).flags ++ drop r.taken flags
flags_after t s acks flags (Err r) = flags
