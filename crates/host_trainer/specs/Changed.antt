-- 02, wish 10: new settings for the trainer of a record.
use Rattle.std.specs.Prelude.{List, ℕ, Result}
use Rattle.refusal.specs.declared.Refusal.{Refusal}
use Rattle.refusal.specs.Guards.{and_then}
use Rattle.trainer.specs.declared.Trainer.{Trainer}
use Rattle.trainer.specs.Change.{change_of}
use Rattle.record.specs.Calls.{load_of}
use Rattle.host_trainer.specs.Records.{settings_of}

-- "bad settings come first; then 27": bytes that are no settings are bad ones
unfoldable pub changed_by : List ℕ → Trainer → Result Trainer Refusal
changed_by settings t = and_then (settings_of settings) (change_of t)

-- of a record's trainer: 6, 7, 8 first
unfoldable pub changed_in : List ℕ → List ℕ → Result Trainer Refusal
unfolding changed_by
changed_in held settings = and_then (load_of held) (changed_by settings)
