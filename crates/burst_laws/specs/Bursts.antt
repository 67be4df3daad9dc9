-- 02, request 1: a burst beside the plain sender's reactions to the same acks, one by one over the whole list.
use Rattle.std.specs.Prelude.{◌≡◌, cond, List, [], ◌∷◌, map, ℕ, eqb, length, take, Option}
use Rattle.std.specs.Option.{option_map, unwrap_or}
use Rattle.refusal.specs.declared.Refusal.{Refusal}
use Rattle.refusal.specs.Numbers.{number_of}
use Rattle.rule_tree.specs.declared.RuleTree.{RuleTree}
use Rattle.sender.specs.declared.Ack.{Ack}
use Rattle.sender.specs.declared.Sender.{Sender}
use Rattle.sender.specs.SenderCall.{SenderCall, ack}
use Rattle.sender.specs.Burst.{course_of, flag_of}
use Rattle.promise.specs.PlainTree.{Tree}
use Rattle.promise.specs.PlainSender.{state_of}
use Rattle.promise.specs.SenderRuns.{SenderEvent, plain_start, plain_sender_events, plain_sender_end}

-- the acks as calls, each over the one tree
abbrev pub ack_call : {T : Type 0} → T → Ack → SenderCall T
ack_call t x = ack t x.sent x.received x.draw

abbrev pub ack_calls : {T : Type 0} → T → List Ack → List (SenderCall T)
ack_calls t xs = map (ack_call t) xs

-- "up to the first that is refused"
unfoldable pub until_refused : List SenderEvent → List SenderEvent
until_refused [] = []
until_refused (e ∷ es) = cond (eqb e.refused 0) (e ∷ until_refused es) []

-- "that refusal's number (0 for none)"
unfoldable pub first_refusal : List SenderEvent → ℕ
first_refusal [] = 0
first_refusal (e ∷ es) = cond (eqb e.refused 0) (first_refusal es) e.refused

-- the same of the refusal that ended a course, if any
abbrev pub number_or_0 : Option Refusal → ℕ
number_or_0 r = unwrap_or (option_map number_of r) 0

abbrev pub windows_of : List SenderEvent → List ℕ
windows_of es = map (λ (e : SenderEvent). e.window) es

abbrev pub flags_of : List SenderEvent → List ℕ
flags_of es = map (λ (e : SenderEvent). flag_of e.clipped) es

-- what the plain sender does at each of the acks
abbrev pub plain_reactions : Tree → Sender → List Ack → List SenderEvent
plain_reactions u s xs = plain_sender_events (plain_start s) (ack_calls u xs)

-- the burst over the tree t is the plain sender's over the plain tree u
pub record BurstHolds (t : RuleTree) (u : Tree) (s : Sender) (xs : List Ack) : Type 0 where
  pub windows : (course_of t s xs).windows ≡ windows_of (until_refused (plain_reactions u s xs))
  pub flags : (course_of t s xs).flags ≡ flags_of (until_refused (plain_reactions u s xs))
  pub stopped : number_or_0 (course_of t s xs).stopped ≡ first_refusal (plain_reactions u s xs)
  pub sender : (course_of t s xs).sender ≡ state_of (plain_sender_end (plain_start s) (take (length (course_of t s xs).windows) (ack_calls u xs)))
