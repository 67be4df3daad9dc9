-- What a value of the type f64 is, for the floats that settings and calls hold.
use Rattle.std.specs.Prelude.{true, List, [], ◌∷◌, T}
use Rattle.std.specs.Float.{binary64}
use Rattle.std.specs.Float.Ieee.{fits}
use Rattle.remy.specs.declared.action.Action.{Action}
use Rattle.remy.specs.declared.point.Point.{Point}
use Rattle.remy.specs.Cube.{ack, send, ratio}
use Rattle.trainer.specs.declared.settings.Settings.{Settings}
use Rattle.promise.specs.PlainTrainer.{Call, counts, score, reload, change}

abbrev pub Every : {A : Type 0} → (A → Type 0) → List A → Type 0
Every P [] = T true
Every P (x ∷ xs) = P x × Every P xs

pub record FitAction (a : Action) : Type 0 where
  pub multiplier : T (fits binary64 a.window_multiplier)
  pub delay : T (fits binary64 a.intersend_delay.0)

pub record FitPoint (p : Point) : Type 0 where
  pub acks : T (fits binary64 (ack p))
  pub sends : T (fits binary64 (send p))
  pub ratios : T (fits binary64 (ratio p))

pub record FitSettings (s : Settings) : Type 0 where
  pub least : FitAction s.min_action
  pub most : FitAction s.max_action
  pub initial : FitAction s.initial_action_change
  pub largest : FitAction s.max_action_change
  pub default : FitAction s.default_action
  pub ends : FitPoint s.ends

abbrev pub FitCall : Call → Type 0
FitCall (counts xs) = T true
FitCall (score x) = T (fits binary64 x)
FitCall (reload buffer) = T true
FitCall (change s) = FitSettings s
