-- Eight nodes filled at once.
use Rattle.std.proofs.Common.{◌≡◌, rules, arith, length}
use Rattle.rule_tree.proofs.ChangeWays.{eight_put}
use Rattle.rule_tree.proofs.inner.change.eight_filled.Goals as goal

pub returns : goal.returns
returns c = eight_put c.args.t c.args.from c.fill.new.self c.args.x (let n : length c.args.t.nodes ≡ 513 = search rules in omega arith) (c.fill.ensures.after (λ y e. e))
