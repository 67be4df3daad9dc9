-- `host_memory::lookup_tested` over the tree of the trainer that is loaded. Assumes nothing.
use Rattle.std.proofs.Common.{ap, ◌∙◌}
use Rattle.rule_tree.specs.declared.RuleTree.{RuleTree}
use Rattle.rule_tree.specs.Calls.{opened_in}
use Rattle.host_trainer.specs.Lookups.{rows_after}
use Rattle.host_memory.specs.Tested.{row_of}
use Rattle.host_memory.proofs.Tested as law
use Rattle.host_memory.proofs.lookup_tested.Goals as goal

pub returns : goal.returns
returns c =
    law.tested_taken c.args.held.now c.args.points.now c.args.out.now c.load.ensures c.in_ok-t.was (
      c.put_all.ensures.0,
      c.put_all.ensures.1 ∙ ap (λ (t : RuleTree). rows_after 23 (λ p. row_of (opened_in t p)) c.args.points.now c.args.out.now) c.of-rules.ensures,
    )
