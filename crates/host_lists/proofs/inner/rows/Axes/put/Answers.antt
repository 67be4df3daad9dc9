-- `host_lists::inner::rows::Axes::put`: one action more. Assumes nothing.
use Rattle.host_lists.proofs.Listing as law
use Rattle.host_lists.proofs.Products as product
use mathlib.Core.Path.{refl, ◌∙◌}
use native.Mathlib.Omega.{arith}
use lib.ListN.{drop}
use Rattle.host_lists.specs.Parts.{product_of}
use Rattle.host_lists.proofs.inner.rows.Axes.put.Goals as goal

pub loop-j-init : goal.loop-j-init
loop-j-init c =
    record {
      long = refl;
      stored = law.list_none c.args.out.now c.args.at (drop c.args.from (product_of c.args.self.multipliers.now c.args.self.increments.now c.args.self.delays.now));
    }

pub loop-j-preserved : goal.loop-j-preserved
loop-j-preserved c =
    let n = product.rest-is c.args.self.multipliers.now c.args.self.increments.now c.args.self.delays.now c.args.from in
    record {
      long = c.put_action.auto.buf ∙ c.loop-j.invariant.long;
      stored =
          law.list_turn c.args.out.now c.args.at (drop c.args.from (product_of c.args.self.multipliers.now c.args.self.increments.now c.args.self.delays.now))
          c.loop-j.j c.at-a.result (omega (arith, n, c.loop-j-test.true))
          (product.rest_at c.args.self.multipliers.now c.args.self.increments.now c.args.self.delays.now c.args.from c.loop-j.j c.at-a.ensures)
          c.loop-j.invariant.stored c.put_action.ensures;
    }

pub returns : goal.returns
returns c =
    let n = product.rest-is c.args.self.multipliers.now c.args.self.increments.now c.args.self.delays.now c.args.from in
    law.list_done c.args.out.now _ c.args.at (drop c.args.from (product_of c.args.self.multipliers.now c.args.self.increments.now c.args.self.delays.now)) c.loop-j.j
    (omega (arith, n, c.loop-j-test.false)) c.loop-j.invariant.stored
