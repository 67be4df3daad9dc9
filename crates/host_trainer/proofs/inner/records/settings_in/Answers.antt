-- `host_trainer::inner::records::settings_in` reads by the layout of the version that is written. Assumes nothing.
use Rattle.std.proofs.Common.{ap, ◌∙◌}
use Rattle.record.specs.declared.inner.layout.Layout.{Layout}
use Rattle.record.specs.Read.{settings_at}
use Rattle.host_trainer.proofs.inner.records.settings_in.Goals as goal

pub returns : goal.returns
returns c = c.settings_at.ensures ∙ ap (λ (l : Layout). settings_at l c.args.bytes.now 0) c.of_version.ensures
