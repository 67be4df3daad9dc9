-- `host_lists::inner::rows::Axes::put_row`: the action that is given and the product after it. Assumes nothing.
use Rattle.host_lists.proofs.Listing as law
use Rattle.host_lists.proofs.Products as product
use Rattle.std.proofs.Common.{ap, ◌∙◌, ℕ, ◌-◌}
use native.Mathlib.Omega.{arith}
use lib.ListN.{drop}
use Rattle.host_lists.specs.Parts.{product_of, own_part}
use Rattle.host_lists.proofs.inner.rows.Axes.put_row.Goals as goal

pub overflow_add-size : goal.overflow_add-size
overflow_add-size c = record { fits = omega (arith, c.len.ensures.few, c.own_size-at.ensures, law.own_few c.args.own) }

pub returns-then-size-out : goal.returns-then-size-out
returns-then-size-out c =
    law.list_short (own_part c.args.own) (drop c.args.from (product_of c.args.self.multipliers.now c.args.self.increments.now c.args.self.delays.now)) c.args.out.now _ _
    c.own_size-at.ensures
    (ap (λ (n : ℕ). n - c.args.from) c.len.ensures.value ∙ product.rest-is c.args.self.multipliers.now c.args.self.increments.now c.args.self.delays.now c.args.from) c.if-size-out.true

pub returns : goal.returns
returns c =
    law.list_fits_lem (own_part c.args.own) (drop c.args.from (product_of c.args.self.multipliers.now c.args.self.increments.now c.args.self.delays.now)) c.args.out.now _ _
    c.own_size-at.ensures
    (ap (λ (n : ℕ). n - c.args.from) c.len.ensures.value ∙ product.rest-is c.args.self.multipliers.now c.args.self.increments.now c.args.self.delays.now c.args.from) c.if-size-out.false
    c.put_own.ensures c.put.ensures
