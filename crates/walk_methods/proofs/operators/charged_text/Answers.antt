use Rattle.std.proofs.Common.{sym}
use Rattle.walk_rules.proofs.Running.{walks_err}
use Rattle.walk_methods.proofs.Costing.{walks_text, walks_long, walks_unpaid, bounded_orderly}
use Rattle.walk_methods.proofs.operators.charged_text.Goals as goal

pub returns-in_err-pay-clause-means : goal.returns-in_err-pay-clause-means
returns-in_err-pay-clause-means g c = λ frame. walks_err _ c.from_residual.ensures.1 (walks_unpaid c.args.text (c.in_err-pay.ensures.cut _ c.text_cost.ensures frame))

pub returns-in_err-bounded-clause-means : goal.returns-in_err-bounded-clause-means
returns-in_err-bounded-clause-means g c = λ frame. walks_err _ c.from_residual-in_err-bounded.ensures.1 (walks_long c.args.text _ (c.in_ok-pay.ensures.cut _ c.text_cost.ensures frame) c.in_err-bounded.ensures)

pub returns-clause-means : goal.returns-clause-means
returns-clause-means g c = λ frame. walks_text c.args.text (c.in_ok-pay.ensures.cut _ c.text_cost.ensures frame) c.in_ok-bounded.ensures

pub returns-clause-order : goal.returns-clause-order
returns-clause-order g c = bounded_orderly c.args.text _ (sym c.in_ok-bounded.ensures)
