-- Field by field.
use mathlib.Core.Path.{ap, ◌∙◌}
use mathlib.Core.List.{List}
use Prim.Native.Nat.{ℕ}
use Rattle.std.proofs.Common.{rules}
use Rattle.quantities.specs.Time.{span, moment}
use Rattle.runs.specs.Script.{trips_at, pending_at}
use Rattle.runs.proofs.Reading as law
use Rattle.runs.proofs.script.handed_in.Goals as goal

pub returns : goal.returns
returns c =
    let ws = c.args.script.now in
    law.sender_read ws (law.part ws 23 moment c.from.ensures c.seconds.ensures (search rules))
    (law.part ws 25 moment c.from-2.ensures c.seconds-2.ensures (search rules))
    (law.part ws 27 span c.from-3.ensures c.seconds-3.ensures (search rules))
    (law.part ws 29 span c.from-4.ensures c.seconds-4.ensures (search rules))
    (c.trips.ensures ∙ ap (λ (l : List ℕ). trips_at l 0) c.from-5.ensures ∙ law.trips_from ws 31)
    (c.pending.ensures ∙ ap (λ (l : List ℕ). pending_at l 0) c.from-6.ensures ∙ law.pending_from ws 34) c.mode.ensures
    (law.part ws 39 moment c.from-7.ensures c.seconds-5.ensures (search rules)) c.number.ensures c.float.ensures
