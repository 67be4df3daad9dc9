-- `host_trainer::lookup` over the tree of the trainer that is loaded. Assumes nothing.
use Rattle.host_trainer.proofs.LookupWays as law
use Rattle.host_trainer.proofs.lookup.Goals as goal

pub returns : goal.returns
returns c = law.lookup_taken c.args.held.now c.args.points.now c.args.out.now c.load.ensures c.in_ok-t.was c.found_by_each.ensures
