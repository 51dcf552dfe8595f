use Rattle.std.proofs.Common.{ap, sym, subst, ◌∙◌}
use Rattle.body_meaning.specs.Methods.{place_of}
use Rattle.value_steps.specs.Orderly.{IsOrderly}
use Rattle.value_steps.proofs.Called.{integer_orderly}
use Rattle.walk_rules.proofs.Running.{walks_err}
use Rattle.walk_methods.proofs.Charging.{walks_place_unpaid}
use Rattle.walk_methods.proofs.Costing.{walks_placed}
use Rattle.walk_methods.proofs.methods.placed.Goals as goal

pub returns-in_err-pay_cost-clause-means : goal.returns-in_err-pay_cost-clause-means
returns-in_err-pay_cost-clause-means g c = λ frame. walks_err _ c.from_residual.ensures.1 (walks_place_unpaid c.args.sequence.now c.args.arguments.now (c.in_err-pay_cost.ensures frame))

pub returns-clause-means : goal.returns-clause-means
returns-clause-means g c = λ frame. walks_placed c.args.sequence.now c.args.arguments.now (c.in_ok-pay_cost.ensures frame) (c.place_of.ensures ∙ ap (λ x. place_of x c.args.sequence.now) c.first_of-wanted.ensures)

pub returns-clause-order : goal.returns-clause-order
returns-clause-order g c = subst IsOrderly (sym c.place_of.ensures) (integer_orderly _)
