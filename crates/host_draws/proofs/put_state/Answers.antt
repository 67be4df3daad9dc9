-- `put_state` stores the four words. Assumes nothing.
use Rattle.host_draws.proofs.Steps as law
use Rattle.host_draws.proofs.put_state.Goals as goal

pub returns : goal.returns
returns c = law.words_put c.args.bytes.now c.args.s c.requires c.put.ensures c.put-2.ensures c.put-3.ensures c.put-4.ensures
