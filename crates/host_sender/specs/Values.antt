-- What a sender of the type Sender holds: floats of binary64, numbers of 32 bits.
use Rattle.std.specs.Prelude.{true, ◌^◌, ◌<◌, T, Option, Some, None}
use Rattle.std.specs.Float.{binary64}
use Rattle.std.specs.Float.Ieee.{fits}
use Rattle.std.specs.Int.{w32}
use Rattle.std.proofs.Common.{SFits}
use Rattle.remy.specs.declared.action.Action.{Action}
use Rattle.quantities.specs.declared.Time.{Time}
use Rattle.quantities.specs.declared.TimeSpan.{TimeSpan}
use Rattle.sender.specs.declared.Rtt.{Rtt}
use Rattle.sender.specs.declared.Repeat.{Repeat}
use Rattle.sender.specs.declared.RepeatMode.{RepeatMode}
use Rattle.sender.specs.declared.RepeatMode.TheVariants.{Off, Always, Between}
use Rattle.sender.specs.declared.Sender.{Sender}

pub record FitAction (a : Action) : Type 0 where
  pub multiplier : T (fits binary64 a.window_multiplier)
  pub increment : SFits w32 a.window_increment
  pub delay : T (fits binary64 a.intersend_delay.0)

-- what is not there fits
abbrev pub IfThere : {A : Type 0} → (A → Type 0) → Option A → Type 0
IfThere P None = T true
IfThere P (Some x) = P x

abbrev pub FitMoment : Option Time → Type 0
FitMoment m = IfThere (λ t. T (fits binary64 t.0)) m

abbrev pub FitAverage : Option TimeSpan → Type 0
FitAverage a = IfThere (λ x. T (fits binary64 x.0)) a

abbrev pub FitTrips : Option Rtt → Type 0
FitTrips r = IfThere (λ trips. T (fits binary64 trips.shortest.0) × T (fits binary64 trips.current.0)) r

abbrev pub FitPending : Option Repeat → Type 0
FitPending p = IfThere (λ r. (r.left < 2 ^ 32) × FitAction r.action) p

abbrev pub FitMode : RepeatMode → Type 0
FitMode Off = T true
FitMode (Always n) = n < 2 ^ 32
FitMode (Between lo hi) = (lo < 2 ^ 32) × (hi < 2 ^ 32)

pub record FitSender (s : Sender) : Type 0 where
  pub acked : FitMoment s.last_ack
  pub acked_sent : FitMoment s.last_ack_send
  pub acks : FitAverage s.ack_ewma
  pub sends : FitAverage s.send_ewma
  pub trips : FitTrips s.rtt
  pub pending : FitPending s.next_change
  pub mode : FitMode s.repeat_actions
  pub standing : FitMoment s.last_send
  pub window : s.window < 2 ^ 32
  pub wait : T (fits binary64 s.intersend_delay.0)
