-- The parts in turn.
use mathlib.Core.Path.{ap, ◌∙◌}
use Rattle.std.proofs.Common.{rules}
use Rattle.runs.specs.SenderWords.{number_words}
use Rattle.runs.proofs.SenderPuts as law
use Rattle.runs.proofs.words.Writer.put_sender.Goals as goal

pub returns : goal.returns
returns c =
    law.all_parts c.args.s c.of_mode.ensures (c.of_number.ensures ∙ ap number_words (search rules))
    (c.of_number-2.ensures ∙ ap number_words (search rules))
    (c.of_number-3.ensures ∙ ap number_words (search rules))
    (c.of_number-4.ensures ∙ ap number_words (search rules))
    c.of_trips.ensures c.of_pending.ensures (c.of_number-5.ensures ∙ ap number_words (search rules)) (cc)
    c.put_all.ensures c.put_all-2.ensures c.put_all-3.ensures c.put_all-4.ensures c.put_all-5.ensures c.put_all-6.ensures c.put_all-7.ensures
    c.put_all-8.ensures c.put_all-9.ensures
