use Rattle.walk_rules.proofs.Running.{walks_err}
use Rattle.walk_methods.proofs.Costing.{walks_charged, walks_charged_err}
use Rattle.walk_methods.proofs.methods.cloned.Goals as goal

pub returns-in_err-pay_cost-clause-means : goal.returns-in_err-pay_cost-clause-means
returns-in_err-pay_cost-clause-means g c = λ frame. walks_err _ c.from_residual.ensures.1 (walks_charged_err c.args.value.now (c.in_err-pay_cost.ensures frame))

pub returns-clause-means : goal.returns-clause-means
returns-clause-means g c = λ frame. rw c.in_ok-copy.ensures (walks_charged c.args.value.now (c.in_ok-pay_cost.ensures frame))
