-- A word for each byte.
use mathlib.Core.Path.{sym, ap, ◌∙◌}
use mathlib.Core.List.{[], ◌∷◌, ◌++◌}
use Prim.Native.Nat.{ℕ}
use lib.ListN.{take}
use native.Mathlib.Omega.{arith}
use Rattle.std.proofs.lemmas.List.{take_more}
use Rattle.runs.proofs.Putting.{join, as_words}
use Rattle.runs.proofs.words.Writer.put_bytes.Goals as goal

pub loop-b-preserved : goal.loop-b-preserved
loop-b-preserved c =
    let bytes = c.args.bytes.now in
    let i = c.loop-b.b-index in
    as_words (join c.loop-b.invariant c.put.ensures)
    (ap (λ (x : ℕ). take i bytes ++ (x ∷ [])) c.from.ensures ∙ sym (take_more bytes i 0 (omega arith)))
