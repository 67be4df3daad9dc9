-- Field by field.
use mathlib.Core.Path.{refl, ap, ◌∙◌}
use mathlib.Core.List.{List}
use Prim.Native.Nat.{ℕ}
use lib.Dec.{eqb}
use Rattle.runs.specs.Script.{action}
use Rattle.runs.proofs.Reading as law
use Rattle.runs.proofs.script.settings_with.Goals as goal

pub returns : goal.returns
returns c =
    let ws = c.args.ws.now in
    law.settings_read ws c.args.ends c.number.ensures c.number-2.ensures c.number-3.ensures (ap (λ (n : ℕ). eqb n 1) c.word.ensures)
    (c.action.ensures ∙ ap (λ (l : List ℕ). action l 0) c.from.ensures ∙ law.action_from ws 4)
    (c.action-2.ensures ∙ ap (λ (l : List ℕ). action l 0) c.from-2.ensures ∙ law.action_from ws 7)
    (c.action-3.ensures ∙ ap (λ (l : List ℕ). action l 0) c.from-3.ensures ∙ law.action_from ws 10)
    (c.action-4.ensures ∙ ap (λ (l : List ℕ). action l 0) c.from-4.ensures ∙ law.action_from ws 13)
    (c.action-5.ensures ∙ ap (λ (l : List ℕ). action l 0) c.from-5.ensures ∙ law.action_from ws 16) refl
