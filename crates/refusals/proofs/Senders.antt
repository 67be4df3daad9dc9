-- A moment, a new sender, a send and a next wake are refused by the first check that fails, and else give what 01 says; a refused call leaves
-- the sender, by value and the caller's, whose answer tells the same. Assumes nothing.
use mathlib.Core.Path.{◌≡◌, refl, ap, ◌∙◌}
use mathlib.Core.Bool.{cond}
use lib.Ieee.{Float}
use Rattle.std.specs.Prelude.{Option, None, Some, Result, Ok, Err}
use Rattle.refusal.specs.declared.Refusal.{Refusal}
use Rattle.refusal.specs.declared.Refusal.TheVariants.{NotAdmitted}
use Rattle.refusal.specs.Guards.{first_refused, pass}
use Rattle.quantities.specs.declared.Time.{Time}
use Rattle.quantities.specs.Time.{moment, read_moment, admitted, admit_of}
use Rattle.sender.specs.declared.RepeatMode.{RepeatMode}
use Rattle.sender.specs.declared.Sender.{Sender}
use Rattle.sender.specs.declared.Held.{Held}
use Rattle.sender.specs.Acks.{window_in}
use Rattle.sender.specs.Sender.{fresh_sender, new_of, with_send, held_as, send_admitted, send_of, wake_in, wake_admitted, wake_of, left_by}
use Rattle.sender_face.specs.declared.Answer.{Answer}
use Rattle.sender_face.specs.Face.{window_from}
use Rattle.refusals.specs.Told.{Told, maybe_told, result_told, reply_told, told_by}
use Rattle.refusals.specs.Order.{admit_order, made_order, send_order, wake_order}
use Rattle.refusals.specs.Gives.{admit_gives, made_gives, send_gives, wake_after, wake_gives}
use Rattle.refusals.proofs.Ways.{tells, maybe_tells, result_number, result_gives, chained}

-- ---- a moment, and a new sender
pub admit_number : (x : Float) → (result_told (admit_of x)).number ≡ first_refused (admit_order x)
unfolding admit_of
admit_number x = result_number (admit_order x) _

pub admit_gives_lem : (x : Float) → (result_told (admit_of x)).gives ≡ cond (pass (admit_order x)) (admit_gives x) None
unfolding admit_of
admit_gives_lem x = result_gives (admit_order x) _

pub made_number : (mode : RepeatMode) → (result_told (new_of mode)).number ≡ first_refused (made_order mode)
unfolding new_of
made_number mode = result_number (made_order mode) (fresh_sender mode)

pub made_gives_lem : (mode : RepeatMode) → (result_told (new_of mode)).gives ≡ cond (pass (made_order mode)) (made_gives mode) None
unfolding new_of
made_gives_lem mode = result_gives (made_order mode) (fresh_sender mode)

-- ---- a reply, and what it leaves
pub left_keeps_lem : (s : Sender) (r : Result Held Refusal) → ((reply_told r).number ≡ 0 → ⊥) → left_by s r ≡ s
unfolding reply_told left_by
left_keeps_lem s (Ok h) n = absurd (n refl)
left_keeps_lem s (Err r) n = refl

pub face_told : (r : Result Held Refusal) → result_told (window_from r) ≡ reply_told r
unfolding result_told window_from reply_told
face_told (Ok h) = refl
face_told (Err r) = refl

pub face_keeps : (s : Sender) (r : Result Held Refusal) → ((result_told (window_from r)).number ≡ 0 → ⊥) → left_by s r ≡ s
unfolding result_told window_from left_by
face_keeps s (Ok h) n = absurd (n refl)
face_keeps s (Err r) n = refl

-- ---- a send
send_told : (s : Sender) (at : Float) → reply_told (send_of s at) ≡ told_by (send_order at) send_gives
unfolding send_admitted admit_of reply_told window_in
send_told s at =
    let sent = with_send s (moment (read_moment at)) in
    ap reply_told (chained (λ (t : Time). Ok (held_as (with_send s t))) (moment (read_moment at)) NotAdmitted (admitted at))
    ∙ tells reply_told (Ok (held_as sent)) (send_order at) (λ r. refl) (λ h. refl)

pub send_number : (s : Sender) (at : Float) → (reply_told (send_of s at)).number ≡ first_refused (send_order at)
send_number s at = ap (λ (r : Told Answer). r.number) (send_told s at)

pub send_gives_lem : (s : Sender) (at : Float) → (reply_told (send_of s at)).gives ≡ cond (pass (send_order at)) send_gives None
send_gives_lem s at = ap (λ (r : Told Answer). r.gives) (send_told s at)

pub send_keeps : (s : Sender) (at : Float) → ((reply_told (send_of s at)).number ≡ 0 → ⊥) → left_by s (send_of s at) ≡ s
send_keeps s at = left_keeps_lem s (send_of s at)

pub face_send_number : (s : Sender) (at : Float) → (result_told (window_from (send_of s at))).number ≡ first_refused (send_order at)
face_send_number s at = ap (λ (r : Told Answer). r.number) (face_told (send_of s at)) ∙ send_number s at

pub face_send_gives : (s : Sender) (at : Float) → (result_told (window_from (send_of s at))).gives ≡ cond (pass (send_order at)) send_gives None
face_send_gives s at = ap (λ (r : Told Answer). r.gives) (face_told (send_of s at)) ∙ send_gives_lem s at

pub face_send_keeps : (s : Sender) (at : Float) → ((result_told (window_from (send_of s at))).number ≡ 0 → ⊥) → left_by s (send_of s at) ≡ s
face_send_keeps s at = face_keeps s (send_of s at)

-- ---- the next wake
wake_in_gives : (s : Sender) (m : Option Time) (now : Time) → wake_in s m now ≡ wake_after m s.intersend_delay now
unfolding wake_in wake_after
wake_in_gives s None now = refl
wake_in_gives s (Some sent) now = refl

wake_told : (s : Sender) (now : Float) → maybe_told (wake_of s now) ≡ told_by (wake_order now) (wake_gives s now)
unfolding wake_admitted admit_of
wake_told s now =
    ap maybe_told (chained (λ (t : Time). Ok (wake_in s s.last_send t)) (moment (read_moment now)) NotAdmitted (admitted now))
    ∙ maybe_tells (wake_order now) (wake_in s s.last_send (moment (read_moment now)))
    ∙ ap (told_by (wake_order now)) (wake_in_gives s s.last_send (moment (read_moment now)))

pub wake_number : (s : Sender) (now : Float) → (maybe_told (wake_of s now)).number ≡ first_refused (wake_order now)
wake_number s now = ap (λ (r : Told Time). r.number) (wake_told s now)

pub wake_gives_lem : (s : Sender) (now : Float) → (maybe_told (wake_of s now)).gives ≡ cond (pass (wake_order now)) (wake_gives s now) None
wake_gives_lem s now = ap (λ (r : Told Time). r.gives) (wake_told s now)
