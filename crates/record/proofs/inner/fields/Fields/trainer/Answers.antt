-- `trainer` meets its contract, field by field. Assumes nothing.
use Rattle.record.proofs.Reading.{trainer_read, tree_given}
use Rattle.record.proofs.inner.fields.Fields.trainer.Goals as goal

pub returns : goal.returns
returns c =
    let f = c.args.self in
    let set = c.settings_at-settings in
    trainer_read f.layout f.bytes.now f.splits c.state_place-at.result c.state_place-at.ensures.0 set.ensures
    (tree_given f.layout f.bytes.now f.splits set.result _ set.ensures c.given.ensures c.tree-tree.ensures)
    c.byte_at.ensures c.word_at.ensures c.word_at-2.ensures c.short_at.ensures c.float_at.ensures c.short_at-2.ensures c.short_at-3.ensures
    c.float_at-2.ensures
