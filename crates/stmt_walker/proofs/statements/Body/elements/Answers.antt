use Rattle.walk_laws.proofs.Telling.{tells_err}
use Rattle.walk_laws.proofs.Stating.{tells_elements, tells_elements_err, tells_elements_unpaid}
use Rattle.stmt_walker.proofs.Orders.{items_orderly}
use Rattle.stmt_walker.proofs.statements.Body.elements.Goals as goal

pub returns-in_err-value-clause-means : goal.returns-in_err-value-clause-means
returns-in_err-value-clause-means g c = tells_err _ c.from_residual.ensures.1 (tells_elements_err c.in_err-value.ensures.means)

pub returns-in_err-pay_cost-clause-means : goal.returns-in_err-pay_cost-clause-means
returns-in_err-pay_cost-clause-means g c = tells_err _ c.from_residual-in_err-pay_cost.ensures.1 (tells_elements_unpaid c.in_ok-value.ensures.means (c.in_err-pay_cost.ensures _))

pub returns-clause-means : goal.returns-clause-means
returns-clause-means g c = rw c.items_of.ensures (tells_elements c.in_ok-value.ensures.means (c.in_ok-pay_cost.ensures _))

pub returns-clause-order : goal.returns-clause-order
returns-clause-order g c = items_orderly c.in_ok-value.value c.items_of.ensures c.in_ok-value.ensures.order
